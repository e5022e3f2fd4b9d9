-- Proves that the CSV text that is written for a point list has no faults and encodes this list.
use Rattle.std.proofs.Common.{◌≡◌, ◌≢◌, ◌+◌, ◌≤◌, ◌<◌, ◌∙◌, ℕ, zero, suc, Bool, true, false, IsTrue, List, [], ◌∷◌, Some, None, Option, length, map, max, min, take, drop, get_or, refl, ap, arith, inl, inr, subst}
use Rattle.std.specs.Prelude.{nat_le, nat_lt, ◌==◌, is_some, IsSomeAnd}
use Rattle.std.specs.Prelude.{IfOk, OnOk, Ok, Err}
use Rattle.std.specs.declared.result.Result.{Result}
use Rattle.std.specs.Fmt.{decimal}
use Rattle.std.specs.List.{All, AllPairs, list_any}
use Rattle.std.specs.Str.{bytes_eq}
use Rattle.std.proofs.lemmas.Bool.{cases_Bool}
use Rattle.std.proofs.lemmas.List.{get_or-map, get_or_default, length-map, take-map, take_all}
use Rattle.std.proofs.lemmas.List.Folds.{list_any_none}
use Rattle.std.proofs.lemmas.Slice.Eq.{bytes_eq-Decides}
use Rattle.csv.specs.Writing.{read_back}
use Rattle.sun_points.specs.PointType.{registers_of}
use Rattle.point_list.specs.declared.fault.FaultyRow.{FaultyRow}
use Rattle.point_list.specs.declared.fault.RowFault.{RowFault}
use Rattle.point_list.specs.declared.point.ListedPoint.{ListedPoint}
use Rattle.point_list.specs.declared.point.PointScale.{PointScale}
use Rattle.point_list.specs.declared.point.PointScale.TheVariants.{Unscaled, Fixed, Named}
use Rattle.point_list.specs.Faults.{RowText, has_name, is_bad_scale, least_fault}
use Rattle.point_list.specs.Fields.{function_of, number_within, type_of}
use Rattle.point_list.specs.Lists.{SpellsList, faults_below, faulty_rows, group_fault, is_one_group, list_faults, or_else, point_of_row, points_of, row_fault, row_faults, rows_read, scale_fault, scale_faults, scale_spelled}
use Rattle.point_list.specs.Names.{is_name}
use Rattle.mb_wire.specs.Spans.{code_of}
use Rattle.point_list.specs.Points.{HasLawfulScale, IsGroup, IsPointList, end_of, is_sunssf, scale_point}
use Rattle.point_list.specs.Rows.{csv_rows}
use Rattle.point_list.specs.RowTexts.{header_row, list_text, row_of, rows_text, scale_text, type_text}
use Rattle.point_list.proofs.AnyLemmas.{list_any-map}
use Rattle.point_list.proofs.DistinctLemmas.{distinct-earlier}
use Rattle.point_list.proofs.ListLemmas.{faulty-push}
use Rattle.point_list.proofs.SoundRows.{Sound, sound-none}
use Rattle.point_list.proofs.SpelledRows.{Suits, spells-with}
use Rattle.point_list.proofs.WrittenFields.{function-read, scale-read, type-read, within-read}
use Rattle.point_list.proofs.WrittenRows.{written-rows}

abbrev pub text_of : ListedPoint → RowText
text_of point = record {
  name = point.name;
  function = decimal (code_of point.function);
  area = decimal point.area;
  address = decimal point.address;
  kind = type_text point.kind;
  scale = scale_text point.scale;
}

-- True if the point's name, size, address, area number and scale are valid on their own, regardless
-- of the other points of the list. No Modbus read has points of two areas.
pub record Alone (point : ListedPoint) : Type 0 where
  pub named : is_name point.name ≡ true
  pub some : 1 ≤ registers_of point.kind
  pub few : registers_of point.kind ≤ 125
  pub inside : end_of point ≤ 65536
  pub area : point.area ≤ 255
  pub suits : Suits point.kind point.scale
  pub scale_named : (name : List ℕ) → point.scale ≡ Named name → is_name name ≡ true

-- True if the written CSV fields of a point have no fault and encode the same point.
pub record Spelt (point : ListedPoint) : Type 0 where
  pub function : function_of (decimal (code_of point.function)) ≡ Some point.function
  pub area : number_within 0 255 (decimal point.area) ≡ Some point.area
  pub address : number_within 0 65535 (decimal point.address) ≡ Some point.address
  pub kind : type_of (type_text point.kind) ≡ Some point.kind
  pub scale : scale_spelled (scale_text point.scale) ≡ Some point.scale
  pub good : is_bad_scale (scale_text point.scale) (Some point.kind) ≡ false

pub spelt : (point : ListedPoint) → Alone point → Spelt point
spelt point a =
    let scale = scale-read point.kind point.scale a.suits a.scale_named in
    let low : point.address ≤ 65535 = omega (arith, a.inside, a.some) in
    record {
      function = function-read point.function;
      area = within-read 0 255 point.area (omega (arith, a.area)) (omega arith) a.area;
      address = within-read 0 65535 point.address (omega (arith, low)) (omega arith) low;
      kind = type-read point.kind a.some a.few;
      scale = scale.0;
      good = scale.1;
    }

pub written-point : (point : ListedPoint) → Alone point → point_of_row (row_of point) ≡ Some point
written-point point a = let s = spelt point a in spells-with (text_of point) point a.named refl s.function s.area s.address s.kind s.scale

no-past : (address size : ℕ) → address + size ≤ 65536 → nat_lt 65536 (address + size) ≡ false
no-past address size h = grind (arith, h)

pub written-sound : (place : ℕ) (taken : Bool) (point : ListedPoint) → Alone point → taken ≡ false → place < 512 → Sound taken place (text_of point)
written-sound place taken point a untaken below =
    let s = spelt point a in
    record {
      name = rw (a.named) refl;
      untaken = untaken;
      function = rw (s.function) refl;
      area = rw (s.area) refl;
      address = rw (s.address, s.kind) (no-past point.address (registers_of point.kind) a.inside);
      kind = rw (s.kind) refl;
      scale = rw (s.kind) s.good;
      few = grind (arith, below);
    }

bytes-other : (a b : List ℕ) → a ≢ b → bytes_eq a b ≡ false
bytes-other a b other = elim (cases_Bool (bytes_eq a b)) [ inl same ↦ absurd (other ((bytes_eq-Decides a b).0 same)) | inr no-same ↦ no-same ]

-- In a point list with distinct names, no row before the row of a point has this point's name.
pub untaken : (points : List ListedPoint) (place : ℕ) (d : ListedPoint) → place < length points → AllPairs (λ a b. a.name ≢ b.name) points
    → list_any (has_name (get_or points place d).name) (take place (map row_of points)) ≡ false
untaken points place d below distinct =
    let x = get_or points place d in
    let is : x ≡ get_or points place x = get_or_default points place d x below in
    let other = distinct-earlier points place x below is distinct in
    ap (λ (rows : List (List (List ℕ))). list_any (has_name x.name) rows) (take-map row_of place points)
    ∙ list_any-map row_of (has_name x.name) (take place points)
    ∙ list_any_none (λ (point : ListedPoint). has_name x.name (row_of point)) (take place points) (λ k e within. bytes-other (get_or (take place points) k e).name x.name (other k e within))

-- No row of the CSV text that is written for a point list has a fault.
pub written-none : (points : List ListedPoint) → length points ≤ 512 → AllPairs (λ a b. a.name ≢ b.name) points → All Alone points → (d : ListedPoint)
    → (k : ℕ) → k < length points → row_fault (map row_of points) k ≡ None
written-none points few distinct each d k below =
    let x = get_or points k d in
    let here : get_or (map row_of points) k [] ≡ row_of x = get_or-map row_of points k d [] below in
    let none = sound-none (list_any (has_name x.name) (take k (map row_of points))) k (text_of x)
    (written-sound k (list_any (has_name x.name) (take k (map row_of points))) x (each k d below) (untaken points k d below distinct) (omega (arith, below, few))) in
    ap (λ (fields : List (List ℕ)). least_fault k (take k (map row_of points)) fields) here ∙ none

pub quiet-rows : (rows : List (List (List ℕ))) (n : ℕ) → ((k : ℕ) → k < n → row_fault rows k ≡ None) → faulty_rows 2 (row_faults rows n) ≡ []
quiet-rows rows zero none = refl
quiet-rows rows (suc n) none =
    let before = quiet-rows rows n (λ k below. none k (omega (arith, below))) in
    let last = none n (omega arith) in
    faulty-push 2 (row_faults rows n) (row_fault rows n) ∙ rw (before, last) refl

pub quiet-points : (row : ℕ) (f : ListedPoint → Option RowFault) (points : List ListedPoint) → All (λ point. f point ≡ None) points → faulty_rows row (map f points) ≡ []
quiet-points row f [] none = refl
quiet-points row f (p ∷ ps) none =
    let first : f p ≡ None = none 0 p (omega arith) in
    let rest = quiet-points (row + 1) f ps (λ k d below. none (suc k) d (omega (arith, below))) in
    rw first rest

same-number : (n : ℕ) → (n == n) ≡ true
same-number n = grind arith

one-group : (point scale : ListedPoint) → IsGroup point scale → is_one_group point scale ≡ true
one-group point scale g =
    let narrow : nat_le (max (end_of point) (end_of scale)) (min point.address scale.address + 125) ≡ true = grind (arith, g.narrow) in
    rw (g.function, g.area, narrow, same-number (code_of scale.function), same-number scale.area) refl

no-group-fault : (point : ListedPoint) (o : Option ListedPoint) → IsSomeAnd o (IsGroup point) → group_fault point o ≡ None
no-group-fault point None h = absurd h
no-group-fault point (Some scale) h = rw (one-group point scale h) refl

no-scale-fault : (points : List ListedPoint) (point : ListedPoint) (scale : PointScale) → HasLawfulScale points point scale → scale_fault points point scale ≡ None
no-scale-fault points point Unscaled h = refl
no-scale-fault points point (Fixed exponent) h = refl
no-scale-fault points point (Named name) h = no-group-fault point (scale_point points name) h.1

pub written-each : (points : List ListedPoint) → All Alone points → (map point_of_row (map row_of points) ≡ map (λ p. Some p) points) × (points_of (map row_of points) ≡ points)
written-each [] each = (refl, refl)
written-each (p ∷ ps) each =
    let first = written-point p (each 0 p (omega arith)) in
    let rest = written-each ps (λ k d below. each (suc k) d (omega (arith, below))) in
    (rw first (ap (λ (more : List (Option ListedPoint)). Some p ∷ more) rest.0), rw first (ap (λ (more : List ListedPoint). p ∷ more) rest.1))

read-same : (points : List ListedPoint) → map read_back (map row_of points) ≡ map row_of points
read-same [] = refl
read-same (p ∷ ps) = ap (λ (more : List (List (List ℕ))). row_of p ∷ more) (read-same ps)

suits-of : (points : List ListedPoint) (point : ListedPoint) (scale : PointScale) → HasLawfulScale points point scale → Suits point.kind scale
suits-of points point Unscaled h = tt
suits-of points point (Fixed exponent) h = h
suits-of points point (Named name) h = h.0

-- If each point of a list has a valid name, and the list has a scale point (SunSpec scale factor)
-- with a given name, then this name is valid.
found-named : (name : List ℕ) (points : List ListedPoint) → All (λ p. IsTrue (is_name p.name)) points → IsTrue (is_some (scale_point points name)) → is_name name ≡ true
found-named name [] named h = absurd (cc h)
found-named name (p ∷ ps) named h = by (is_sunssf p.kind) (bytes_eq p.name name) refl refl (λ rest. found-named name ps (λ k d below. named (suc k) d (omega (arith, below))) rest)
  where
    here : bytes_eq p.name name ≡ true → is_name name ≡ true
    here same = subst (λ (bytes : List ℕ). is_name bytes ≡ true) ((bytes_eq-Decides p.name name).0 same) (named 0 p (omega arith))

    by : (a b : Bool) → is_sunssf p.kind ≡ a → bytes_eq p.name name ≡ b → (IsTrue (is_some (scale_point ps name)) → is_name name ≡ true) → is_name name ≡ true
    by true true e f next = here f
    by true false e f next = next (rw (e, f) at h)
    by false b e f next = next (rw (e) at h)

some-there : {X : Type 0} (o : Option X) (P : X → Type 0) → IsSomeAnd o P → IsTrue (is_some o)
some-there None P h = absurd h
some-there (Some x) P h = refl

-- Each point of a valid point list is valid on its own, regardless of the other points.
pub alone : (points : List ListedPoint) → IsPointList points → All (λ p. p.area ≤ 255) points → All Alone points
alone points l areas k d below =
    let p = get_or points k d in
    let scaled = l.scaled k d below in
    record {
      named = l.named k d below;
      some = (l.sized k d below).0;
      few = (l.sized k d below).1;
      inside = l.inside k d below;
      area = areas k d below;
      suits = suits-of points p p.scale scaled;
      scale_named = λ name is.
          found-named name points l.named
          (some-there (scale_point points name) (IsGroup p) (subst (λ (scale : PointScale). HasLawfulScale points p scale) is scaled).1);
    }

some-point : (points : List ListedPoint) (k : ℕ) → k < length points → ListedPoint
some-point [] k below = absurd (omega (arith, below))
some-point (p ∷ ps) k below = p

-- In the CSV text that is written for a valid point list, no row below the header is faulty.
written-faultless : (points : List ListedPoint) → IsPointList points → All Alone points → faults_below (map row_of points) ≡ []
written-faultless points l each =
    let rows = map row_of points in
    let size : length rows ≡ length points = length-map points row_of in
    let none : (k : ℕ) → k < length rows → row_fault rows k ≡ None = λ k below. written-none points l.few l.distinct each (some-point points k (omega (arith, size, below))) k (omega (arith, size, below)) in
    let first : faulty_rows 2 (row_faults rows (length rows)) ≡ [] = quiet-rows rows (length rows) none in
    let lawful : All (λ p. scale_fault points p p.scale ≡ None) points = λ k d below. no-scale-fault points (get_or points k d) (get_or points k d).scale (l.scaled k d below) in
    let second : faulty_rows 2 (scale_faults points points) ≡ [] = quiet-points 2 (λ p. scale_fault points p p.scale) points lawful in
    let same : faulty_rows 2 (scale_faults (points_of rows) (points_of rows)) ≡ faulty_rows 2 (scale_faults points points) =
    ap (λ (ps : List ListedPoint). faulty_rows 2 (scale_faults ps ps)) (written-each points each).1 in
    ap (λ (faults : List FaultyRow). or_else faults (faulty_rows 2 (scale_faults (points_of rows) (points_of rows)))) first ∙ same ∙ second

-- The CSV text of a valid point list encodes the same list.
pub written-list : (points : List ListedPoint) → IsPointList points → All (λ p. p.area ≤ 255) points → SpellsList (rows_text (header_row ∷ map row_of points)) points
written-list points l areas =
    let each = alone points l areas in
    let all : csv_rows (rows_text (header_row ∷ map row_of points)) ≡ header_row ∷ map row_of points =
    written-rows (map row_of points) ∙ ap (λ (rows : List (List (List ℕ))). header_row ∷ rows) (read-same points) in
    let size : length (map row_of points) ≡ length points = length-map points row_of in
    let few : length (header_row ∷ map row_of points) ≤ 514 = omega (arith, size, l.few) in
    let read : rows_read (rows_text (header_row ∷ map row_of points)) ≡ header_row ∷ map row_of points =
    ap (λ (rows : List (List (List ℕ))). take 514 rows) all ∙ take_all 514 (header_row ∷ map row_of points) few in
    record {
      faultless = ap list_faults read ∙ written-faultless points l each;
      each = ap (λ (rows : List (List (List ℕ))). map point_of_row (drop 1 rows)) all ∙ (written-each points each).0;
    }

-- Writing all CSV rows of a point list gives exactly the text of the list.
pub exact-text : {V E : Type 0} (points : List ListedPoint) (rows : List (List (List ℕ))) (items : V → List ℕ) (result : Result V E)
    → rows ≡ header_row ∷ map row_of points → IfOk result (λ text. items text ≡ rows_text rows) → IfOk result (λ text. items text ≡ list_text points)
exact-text points rows items (Ok text) are h = h ∙ ap rows_text are
exact-text points rows items (Err fault) are h = tt

pub on-ok : {V E : Type 0} (P : Type 0) (result : Result V E) → P → OnOk result P
on-ok P (Ok value) holds = holds
on-ok P (Err fault) holds = tt
