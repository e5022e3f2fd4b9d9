-- Proves that CSV rows without faults encode the points of a point list.
use Rattle.std.proofs.Common.{◌≡◌, ◌≢◌, ◌+◌, ◌≤◌, ◌<◌, ◌∙◌, ℕ, zero, suc, Bool, true, false, List, [], ◌∷◌, ◌++◌, Some, None, Option, length, map, take, get_or, refl, sym, ap, arith, inl, inr, subst}
use Rattle.std.specs.Prelude.{nat_le, ◌==◌, ◌&&◌, ◌⊎◌, IsSomeAnd, IfOk, IfErr, Ok, Err}
use Rattle.std.specs.declared.result.Result.{Result}
use Rattle.std.specs.List.{All, list_any}
use Rattle.std.specs.Str.{bytes_eq}
use Rattle.std.proofs.lemmas.Bool.{cases_Bool}
use Rattle.std.proofs.lemmas.List.{get_or-map, get_or-take, get_or_default, length-map, length-take-le}
use Rattle.std.proofs.lemmas.List.Elements.{All-cons}
use Rattle.std.proofs.lemmas.List.Folds.{list_any-from_Any}
use Rattle.std.proofs.lemmas.Option.{same_Some}
use Rattle.std.proofs.lemmas.Slice.Eq.{bytes_eq-Decides}
use Rattle.point_list.specs.declared.fault.FaultyRow.{FaultyRow}
use Rattle.point_list.specs.declared.fault.ListFault.{ListFault}
use Rattle.point_list.specs.declared.fault.RowFault.{RowFault}
use Rattle.point_list.specs.declared.point.ListedPoint.{ListedPoint}
use Rattle.mb_wire.specs.declared.span.ReadFunction.{ReadFunction}
use Rattle.mb_wire.specs.declared.span.ReadFunction.TheVariants.{HoldingRegisters, InputRegisters}
use Rattle.point_list.specs.declared.point.PointScale.{PointScale}
use Rattle.point_list.specs.declared.point.PointScale.TheVariants.{Unscaled, Fixed, Named}
use Rattle.point_list.specs.Faults.{RowText, has_name, six_fields}
use Rattle.point_list.specs.Lists.{ExplainsList, SpellEach, faults_below, faulty_rows, or_else, is_one_group, group_fault, point_of_row, points_of, row_fault, row_faults, scale_fault, scale_faults}
use Rattle.mb_wire.specs.Spans.{code_of}
use Rattle.point_list.specs.Points.{HasLawfulScale, IsGroup, IsPointList, scale_point}
use Rattle.point_list.proofs.ListLemmas.{faulty-push}
use Rattle.point_list.proofs.SoundRows.{Sound, sound}
use Rattle.point_list.proofs.SpelledRows.{Spelled, Suits, spelled}

nil-both : {X : Type 0} (xs ys : List X) → xs ++ ys ≡ [] → (xs ≡ []) × (ys ≡ [])
nil-both [] ys h = (refl, h)
nil-both (x ∷ xs) ys h = absurd (cc h)

one-none : (row : ℕ) (fault : Option RowFault) → faulty_rows row (fault ∷ []) ≡ [] → fault ≡ None
one-none row None h = refl
one-none row (Some fault) h = absurd (cc h)

last-or-below : (k n : ℕ) → k < suc n → (k ≡ n) ⊎ (k < n)
last-or-below k n h = elim (cases_Bool (k == n)) [ inl same ↦ inl (grind (arith, same)) | inr other ↦ inr (grind (arith, other, h)) ]

-- If the list of faulty rows among the first `n` rows of a point list (CSV) is empty, none of these
-- rows has a fault.
pub none-reported : (rows : List (List (List ℕ))) (n : ℕ) → faulty_rows 2 (row_faults rows n) ≡ [] → (k : ℕ) → k < n → row_fault rows k ≡ None
none-reported rows zero h k below = absurd (omega (arith, below))
none-reported rows (suc n) h k below =
    let both = nil-both (faulty_rows 2 (row_faults rows n)) (faulty_rows (2 + length (row_faults rows n)) (row_fault rows n ∷ [])) (sym (faulty-push 2 (row_faults rows n) (row_fault rows n)) ∙ h) in
    elim (last-or-below k n below) [
      | inl same ↦ rw same (one-none (2 + length (row_faults rows n)) (row_fault rows n) both.1)
      | inr less ↦ none-reported rows n both.0 k less
    ]

pub none-lacking : (row : ℕ) (f : ListedPoint → Option RowFault) (points : List ListedPoint) → faulty_rows row (map f points) ≡ [] → All (λ point. f point ≡ None) points
none-lacking row f [] h = λ k d below. absurd (omega (arith, below))
none-lacking row f (p ∷ ps) h = by (f p) refl (λ rest. none-lacking (row + 1) f ps rest)
  where
    by : (o : Option RowFault) → f p ≡ o → (faulty_rows (row + 1) (map f ps) ≡ [] → All (λ point. f point ≡ None) ps) → All (λ point. f point ≡ None) (p ∷ ps)
    by None e more = All-cons (λ point. f point ≡ None) p ps e (more (rw e at h))
    by (Some fault) e more = absurd (cc (rw e at h))

-- True if the row of a point list (CSV) at this index has six fields without a fault.
pub record Faultless (rows : List (List (List ℕ))) (place : ℕ) : Type 0 where
  pub row : RowText
  pub six : six_fields (get_or rows place []) ≡ Some row
  pub lacking : Sound (list_any (has_name row.name) (take place rows)) place row

pub faultless : (rows : List (List (List ℕ))) (place : ℕ) → row_fault rows place ≡ None → Faultless rows place
faultless rows place h = by (six_fields (get_or rows place [])) refl
  where
    by : (o : Option RowText) → six_fields (get_or rows place []) ≡ o → Faultless rows place
    by None e = absurd (cc (rw e at h))
    by (Some row) e = record { row = row; six = e; lacking = sound (list_any (has_name row.name) (take place rows)) place row (rw e at h) }

-- If each CSV row encodes a point, the list of points has these points in the order of the rows.
pub each-spelled : (rows : List (List (List ℕ))) → ((k : ℕ) → k < length rows → (p : ListedPoint) × (point_of_row (get_or rows k []) ≡ Some p)) → SpellEach rows (points_of rows)
each-spelled [] known = refl
each-spelled (row ∷ rows) known =
    let first = known 0 (omega arith) in
    let rest = each-spelled rows (λ k below. known (suc k) (omega (arith, below))) in
    rw (first.1) (ap (λ (more : List (Option ListedPoint)). Some first.0 ∷ more) rest)

-- The properties of the point that the row of a point list (CSV) at an index encodes.
pub record Known (rows : List (List (List ℕ))) (place : ℕ) (point : ListedPoint) : Type 0 where
  pub row : RowText
  pub six : six_fields (get_or rows place []) ≡ Some row
  pub lacking : Sound (list_any (has_name row.name) (take place rows)) place row
  pub spelled : Spelled row point

pub as-many : (rows : List (List (List ℕ))) (points : List ListedPoint) → SpellEach rows points → length points ≡ length rows
as-many rows points each =
    sym (length-map points (λ (p : ListedPoint). Some p)) ∙ sym (ap length each) ∙ length-map rows point_of_row

pub known : (rows : List (List (List ℕ))) (points : List ListedPoint) → ((k : ℕ) → k < length rows → row_fault rows k ≡ None) → SpellEach rows points
    → (place : ℕ) (d : ListedPoint) → place < length points → Known rows place (get_or points place d)
known rows points none each place d below =
    let within : place < length rows = omega (arith, below, as-many rows points each) in
    let f = faultless rows place (none place within) in
    let p = spelled (list_any (has_name f.row.name) (take place rows)) place f.row f.lacking in
    let here : point_of_row (get_or rows place []) ≡ Some p.0 = rw f.six p.1.spells in
    let there : point_of_row (get_or rows place []) ≡ Some (get_or points place d) =
    sym (get_or-map point_of_row rows place [] (Some d) within) ∙ ap (λ (found : List (Option ListedPoint)). get_or found place (Some d)) each
    ∙ get_or-map (λ (p : ListedPoint). Some p) points place d (Some d) below in
    let same : p.0 ≡ get_or points place d = same_Some _ _ (sym here ∙ there) in
    record { row = f.row; six = f.six; lacking = f.lacking; spelled = subst (λ (q : ListedPoint). Spelled f.row q) same p.1 }

and-parts : (a b : Bool) → (a && b) ≡ true → (a ≡ true) × (b ≡ true)
and-parts true b h = (refl, h)
and-parts false b h = absurd (cc h)

few-rows : (rows : List (List (List ℕ))) (n : ℕ) → n ≡ length rows → ((k : ℕ) → k < length rows → row_fault rows k ≡ None) → n ≤ 512
few-rows rows n size none = elim (cases_Bool (nat_le n 512)) [
  | inl few ↦ grind (arith, few)
  | inr more ↦
      let many : 512 < length rows = grind (arith, more, size) in
      absurd (cc (faultless rows 512 (none 512 many)).lacking.few)
]

same-function : (a b : ReadFunction) → (code_of a == code_of b) ≡ true → a ≡ b
same-function HoldingRegisters HoldingRegisters h = refl
same-function HoldingRegisters InputRegisters h = absurd (cc h)
same-function InputRegisters HoldingRegisters h = absurd (cc h)
same-function InputRegisters InputRegisters h = refl

group : (point scale : ListedPoint) → is_one_group point scale ≡ true → IsGroup point scale
group point scale h =
    let parts = and-parts _ _ h in
    let both = and-parts _ _ parts.0 in
    record { function = same-function point.function scale.function both.0; area = grind (arith, both.1); narrow = grind (arith, parts.1) }

found : (point : ListedPoint) (o : Option ListedPoint) → group_fault point o ≡ None → IsSomeAnd o (IsGroup point)
found point None h = absurd (cc h)
found point (Some scale) h = by (is_one_group point scale) refl
  where
    by : (b : Bool) → is_one_group point scale ≡ b → IsGroup point scale
    by true e = group point scale e
    by false e = absurd (cc (rw e at h))

lawful-scale : (points : List ListedPoint) (point : ListedPoint) (scale : PointScale) → Suits point.kind scale → scale_fault points point scale ≡ None
    → HasLawfulScale points point scale
lawful-scale points point Unscaled suits h = tt
lawful-scale points point (Fixed exponent) suits h = suits
lawful-scale points point (Named name) suits h = (suits, found point (scale_point points name) h)

bytes-same : (name : List ℕ) → bytes_eq name name ≡ true
bytes-same name = (bytes_eq-Decides name name).1 refl

-- Two rows of a point list (CSV) that encode points have different names.
apart : (rows : List (List (List ℕ))) (i j : ℕ) (a b : ListedPoint) → i < j → j < length rows → Known rows i a → Known rows j b → a.name ≢ b.name
apart rows i j a b before within ka kb same =
    let name : ka.row.name ≡ kb.row.name = sym ka.spelled.name ∙ same ∙ kb.spelled.name in
    let has : has_name kb.row.name (get_or (take j rows) i []) ≡ true = rw (get_or-take j rows i [] before, ka.six, name) (bytes-same kb.row.name) in
    let size = length-take-le j rows (omega (arith, within)) in
    let any : list_any (has_name kb.row.name) (take j rows) ≡ true =
    list_any-from_Any (has_name kb.row.name) (take j rows) (i, get_or (take j rows) i [], omega (arith, size, before), get_or_default (take j rows) i (get_or (take j rows) i []) [] (omega (arith, size, before)), has) in
    absurd (cc (sym any ∙ kb.lacking.untaken))

-- The points of CSV rows without faults form a valid point list: their names are distinct, and each
-- size, address and scale is valid.
pub lawful : (rows : List (List (List ℕ))) (points : List ListedPoint) → ((k : ℕ) → k < length rows → row_fault rows k ≡ None) → SpellEach rows points
    → All (λ point. scale_fault points point point.scale ≡ None) points → IsPointList points
lawful rows points none each scaled =
    let size = as-many rows points each in
    record {
      few = few-rows rows (length points) size none;
      named = λ k d below. (known rows points none each k d below).spelled.named;
      distinct = λ i j d before below.
          apart rows i j (get_or points i d) (get_or points j d) before (omega (arith, below, size))
          (known rows points none each i d (omega (arith, before, below))) (known rows points none each j d below);
      sized = λ k d below. (known rows points none each k d below).spelled.sized;
      inside = λ k d below. (known rows points none each k d below).spelled.inside;
      scaled = λ k d below.
          lawful-scale points (get_or points k d) (get_or points k d).scale (known rows points none each k d below).spelled.suits (scaled k d below);
    }

-- If no row below the header of a point list (CSV) is reported as faulty, no row has a fault.
pub none-below : (rows : List (List (List ℕ))) (n : ℕ) (reported : List FaultyRow) → length rows ≡ n → reported ≡ faulty_rows 2 (row_faults rows n) → reported ≡ []
    → (k : ℕ) → k < length rows → row_fault rows k ≡ None
none-below rows n reported size is none k below = none-reported rows n (sym is ∙ none) k (omega (arith, below, size))

-- Each row of a point list (CSV) without a fault encodes a point.
pub faultless-each : (rows : List (List (List ℕ))) → ((k : ℕ) → k < length rows → row_fault rows k ≡ None) → SpellEach rows (points_of rows)
faultless-each rows none = each-spelled rows (λ k below.
    let f = faultless rows k (none k below) in
    let p = spelled (list_any (has_name f.row.name) (take k rows)) k f.row f.lacking in
    (p.0, rw f.six p.1.spells))

pub faultless-few : (rows : List (List (List ℕ))) → ((k : ℕ) → k < length rows → row_fault rows k ≡ None) → length (points_of rows) ≤ 512
faultless-few rows none = few-rows rows (length (points_of rows)) (as-many rows (points_of rows) (faultless-each rows none)) none

pub faultless-lawful : (rows : List (List (List ℕ))) → ((k : ℕ) → k < length rows → row_fault rows k ≡ None)
    → faulty_rows 2 (scale_faults (points_of rows) (points_of rows)) ≡ [] → IsPointList (points_of rows)
faultless-lawful rows none scaled =
    lawful rows (points_of rows) none (faultless-each rows none)
    (none-lacking 2 (λ point. scale_fault (points_of rows) point point.scale) (points_of rows) scaled)

-- Suppose that no row of a point list (CSV) has a fault, apart from faults of scale points. Then
-- the faulty rows are those with a fault of their scale point.
pub below-faults : (rows : List (List (List ℕ))) (n : ℕ) (reported : List FaultyRow) → length rows ≡ n → reported ≡ faulty_rows 2 (row_faults rows n) → reported ≡ []
    → faults_below rows ≡ faulty_rows 2 (scale_faults (points_of rows) (points_of rows))
below-faults rows n reported size is none =
    let nothing : faulty_rows 2 (row_faults rows (length rows)) ≡ [] = ap (λ (k : ℕ). faulty_rows 2 (row_faults rows k)) size ∙ sym is ∙ none in
    ap (λ (faults : List FaultyRow). or_else faults (faulty_rows 2 (scale_faults (points_of rows) (points_of rows)))) nothing

-- Suppose that no row of a point list (CSV) has a fault, apart from faults of scale points. If a
-- list is created from the rows' points, the rows encode this list. If creating the list fails, the
-- error explains why the rows encode no list.
pub below-list : (rows : List (List (List ℕ))) (n : ℕ) (reported : List FaultyRow) (points : List ListedPoint) (result : Result (List ListedPoint) ListFault) → length rows ≡ n
    → reported ≡ faulty_rows 2 (row_faults rows n) → reported ≡ [] → points ≡ points_of rows
    → IfOk result (λ list. (list ≡ points) × (faulty_rows 2 (scale_faults points points) ≡ [])) → IfErr result (ExplainsList (faulty_rows 2 (scale_faults points points)))
    → (IfOk result (λ list. (faults_below rows ≡ []) × SpellEach rows list)) × IfErr result (ExplainsList (faults_below rows))
below-list rows n reported points (Ok list) size is none same ok err =
    let each = faultless-each rows (none-below rows n reported size is none) in
    let scaled : faulty_rows 2 (scale_faults (points_of rows) (points_of rows)) ≡ [] = subst (λ (ps : List ListedPoint). faulty_rows 2 (scale_faults ps ps) ≡ []) same ok.1 in
    ((below-faults rows n reported size is none ∙ scaled, subst (λ (ps : List ListedPoint). SpellEach rows ps) (sym same ∙ sym ok.0) each), tt)
below-list rows n reported points (Err fault) size is none same ok err =
    let scaled : faulty_rows 2 (scale_faults points points) ≡ faults_below rows =
    ap (λ (ps : List ListedPoint). faulty_rows 2 (scale_faults ps ps)) same ∙ sym (below-faults rows n reported size is none) in
    (tt, subst (λ (faults : List FaultyRow). ExplainsList faults fault) scaled err)

-- A `Vec` of length 0 has no items.
pub no-items : (len : ℕ) (items : List FaultyRow) (empty : Bool) → len ≡ length items → empty ≡ (len == 0) → empty ≡ true → items ≡ []
no-items len [] empty size is h = refl
no-items len (x ∷ xs) empty size is h = let zero-len : len ≡ 0 = grind (arith, is, h) in absurd (omega (arith, size, zero-len))
