-- Proves that the points of a chain of SunSpec models form a valid point list: their names are
-- distinct, and each size, address and scale is valid.
use Rattle.std.proofs.Common.{◌≡◌, ◌≢◌, ◌+◌, ◌≤◌, ◌<◌, ◌^◌, ◌∙◌, ℕ, zero, suc, Bool, true, false, IsTrue, List, [], ◌∷◌, ◌++◌, Some, None, Option, length, map, max, min, drop, get_or, take, refl, sym, ap, arith, inl, inr, subst, length-append, append_assoc, append-nil}
use Rattle.std.specs.Prelude.{◌&&◌, ◌||◌, nat_le, not, if◌then◌else◌, IsSomeAnd, IfSome}
use Rattle.std.specs.Char.{is_ascii_digit}
use Rattle.std.specs.Fmt.{decimal}
use Rattle.std.specs.List.{All, AllPairs, Any, list_all, list_any}
use Rattle.std.specs.Option.{option_map_or}
use Rattle.std.specs.Str.{bytes_eq}
use Rattle.std.proofs.lemmas.Bool.{cases_Bool}
use Rattle.std.proofs.lemmas.Fmt.{decimal_injective, digits_decimal, length-decimal-le}
use Rattle.std.proofs.lemmas.List.{append_cancel_left, get_or-append-add, get_or-map, get_or_default, get_or_append_left, length-map}
use Rattle.std.proofs.lemmas.List.Elements.{All-append, All-cons}
use Rattle.std.proofs.lemmas.List.Folds.{Any-from_list_any, list_all-append}
use Rattle.std.proofs.lemmas.Slice.Eq.{bytes_eq-Decides}
use Rattle.sun_points.specs.PointType.{registers_of}
use Rattle.sun_chain.specs.Chain.{next_after}
use Rattle.sun_chain.specs.Image.{Words}
use Rattle.sun_chain.specs.Points.{points_in, seen}
use Rattle.sun_chain.specs.declared.named_point.NamedPoint.{NamedPoint}
use Rattle.sun_chain.specs.Points.{Named as ModelPoint}
use Rattle.sun_chain.specs.Tables.{Row, scale_name_in, table_of}
use Rattle.sun_chain.specs.TableRules.{end_of_row}
use Rattle.sun_chain.specs.declared.model.Model.{Model}
use Rattle.point_list.specs.ChainPoints.{chain_name, chain_scale, listed, model_points, points_from}
use Rattle.point_list.specs.declared.point.ListedPoint.{ListedPoint}
use Rattle.point_list.specs.declared.point.PointScale.TheVariants.{Unscaled, Named}
use Rattle.point_list.specs.Names.{is_name, is_name_byte}
use Rattle.point_list.specs.Points.{HasLawfulScale, IsGroup, IsPointList, end_of, is_sunssf, scale_point, takes_scale}
use Rattle.point_list.proofs.ChainPoints.{FromRow, from-rows, other-names, pairs-cons}
use Rattle.point_list.proofs.ChainTables.{good-tables, have_other_names, is_good_row, is_scaled_by, is_short}
use Rattle.point_list.proofs.WrittenFields.{numerals}

and-two : (a b : Bool) → (a && b) ≡ true → (a ≡ true) × (b ≡ true)
and-two true b h = (refl, h)
and-two false b h = absurd (cc h)

-- Lemmas about the names that the points of a chain of SunSpec models have in a point list, such as
-- `m2.W`.

digit-of-name : (byte : ℕ) → is_ascii_digit byte ≡ true → is_name_byte byte ≡ true
digit-of-name byte h = rw h refl

digits-of-name : (digits : List ℕ) → list_all is_ascii_digit digits ≡ true → list_all is_name_byte digits ≡ true
digits-of-name [] h = refl
digits-of-name (d ∷ ds) h =
    let k = and-two (is_ascii_digit d) (list_all is_ascii_digit ds) h in
    rw (digit-of-name d k.0) (digits-of-name ds k.1)

-- In a point list, the name of a point from a chain of SunSpec models is a valid name.
pub named : (place : ℕ) (name : List ℕ) → place ≤ 64 → is_short name ≡ true → is_name (chain_name place name) ≡ true
named place name few short =
    let k = and-two (nat_le (length name) 20) (list_all is_name_byte name) short in
    let fits : place < 2 ^ 64 = omega (arith, few) in
    let digits = digits-of-name (decimal place) (digits_decimal numerals place fits) in
    let size : length (decimal place) ≤ 2 = length-decimal-le 2 place (omega arith) (omega (arith, few)) fits in
    let whole = length-append (decimal place) (46 ∷ name) in
    let following : length (46 ∷ name) ≡ suc (length name) = refl in
    let small : length name ≤ 20 = grind (arith, k.0) in
    let all : nat_le (length (decimal place ++ (46 ∷ name))) 31 ≡ true = grind (arith, whole, following, small, size) in
    let bytes : list_all is_name_byte (decimal place ++ (46 ∷ name)) ≡ true = list_all-append is_name_byte (decimal place) (46 ∷ name) ∙ rw (digits) k.1 in
    rw (all) bytes

split-digits : (a b x y : List ℕ) → list_all is_ascii_digit a ≡ true → list_all is_ascii_digit b ≡ true → a ++ (46 ∷ x) ≡ b ++ (46 ∷ y) → a ≡ b
split-digits [] [] x y da db h = refl
split-digits [] (d ∷ ds) x y da db h =
    let head : 46 ≡ d = ap (λ (l : List ℕ). get_or l 0 0) h in
    let k = and-two (is_ascii_digit d) (list_all is_ascii_digit ds) db in
    absurd (cc (rw (← head) at k.0))
split-digits (c ∷ cs) [] x y da db h =
    let head : c ≡ 46 = ap (λ (l : List ℕ). get_or l 0 0) h in
    let k = and-two (is_ascii_digit c) (list_all is_ascii_digit cs) da in
    absurd (cc (rw head at k.0))
split-digits (c ∷ cs) (d ∷ ds) x y da db h =
    let head : c ≡ d = ap (λ (l : List ℕ). get_or l 0 0) h in
    let tail : cs ++ (46 ∷ x) ≡ ds ++ (46 ∷ y) = ap (λ (l : List ℕ). drop 1 l) h in
    let rest = split-digits cs ds x y (and-two (is_ascii_digit c) (list_all is_ascii_digit cs) da).1 (and-two (is_ascii_digit d) (list_all is_ascii_digit ds) db).1 tail in
    ap (λ (n : ℕ). n ∷ cs) head ∙ ap (λ (l : List ℕ). d ∷ l) rest

-- Points of different SunSpec models have different names in a point list.
other-places : (p q : ℕ) (x y : List ℕ) → p < 2 ^ 64 → q < 2 ^ 64 → p ≢ q → chain_name p x ≢ chain_name q y
other-places p q x y fp fq other same =
    let tail : decimal p ++ (46 ∷ x) ≡ decimal q ++ (46 ∷ y) = ap (λ (l : List ℕ). drop 1 l) same in
    other (decimal_injective p q fp fq (split-digits (decimal p) (decimal q) x y (digits_decimal numerals p fp) (digits_decimal numerals q fq) tail))

same-place : (place : ℕ) (x y : List ℕ) → chain_name place x ≡ chain_name place y → x ≡ y
same-place place x y same =
    let tail : decimal place ++ (46 ∷ x) ≡ decimal place ++ (46 ∷ y) = ap (λ (l : List ℕ). drop 1 l) same in
    let names : 46 ∷ x ≡ 46 ∷ y = append_cancel_left (decimal place) (46 ∷ x) (46 ∷ y) tail in
    ap (λ (l : List ℕ). drop 1 l) names

-- Lemmas: in one point list, each point of several SunSpec models has a valid name, size, address
-- and scale. This includes the scale points (scale factors).

bytes-apart : (a b : List ℕ) → a ≢ b → bytes_eq a b ≡ false
bytes-apart a b other = elim (cases_Bool (bytes_eq a b)) [ inl same ↦ absurd (other ((bytes_eq-Decides a b).0 same)) | inr apart ↦ apart ]

and-no : (b : Bool) → (b && false) ≡ false
and-no true = refl
and-no false = refl

both-all : {X : Type 0} (p q : X → Bool) (xs : List X) → list_all p xs ≡ true → list_all q xs ≡ true → list_all (λ x. p x && q x) xs ≡ true
both-all p q [] hp hq = refl
both-all p q (x ∷ xs) hp hq =
    let kp = and-two (p x) (list_all p xs) hp in
    let kq = and-two (q x) (list_all q xs) hq in
    rw (kp.0, kq.0) (both-all p q xs kp.1 kq.1)

-- The properties of a valid row of a SunSpec model table, which describes one point: a short name,
-- at least one register, an end within 125 registers, and a valid scale point.
record GoodRow (rows : List Row) (row : Row) : Type 0 where
  short : is_short row.name ≡ true
  some : 1 ≤ registers_of row.ty
  ends : row.offset + registers_of row.ty ≤ 125
  scaled : option_map_or (is_scaled_by rows row) (scale_name_in rows row.name) true ≡ true

good-row : (rows : List Row) (row : Row) → is_good_row rows row ≡ true → GoodRow rows row
good-row rows row h =
    let a = and-two (is_short row.name && nat_le 1 (registers_of row.ty) && nat_le (end_of_row row) 125) _ h in
    let b = and-two (is_short row.name && nat_le 1 (registers_of row.ty)) (nat_le (end_of_row row) 125) a.0 in
    let c = and-two (is_short row.name) (nat_le 1 (registers_of row.ty)) b.0 in
    record { short = c.0; some = grind (arith, c.1); ends = grind (arith, b.1); scaled = a.1 }

-- True if a row of a SunSpec model table can have a scale point with the given name. The name has
-- at most 20 bytes, each row with this name is a sunssf point, and the row's type may have a scale.
abbrev IsScaleName : Row → List Row → List ℕ → Type 0
IsScaleName row rows name = (is_short name ≡ true) × (takes_scale row.ty ≡ true) × (list_all (λ other. not (bytes_eq other.name name) || is_sunssf other.ty) rows ≡ true)

scale-name : (rows : List Row) (row : Row) (o : Option (List ℕ)) → option_map_or (is_scaled_by rows row) o true ≡ true → IfSome o (IsScaleName row rows)
scale-name rows row None h = tt
scale-name rows row (Some name) h =
    let a = and-two (is_short name && takes_scale row.ty) (list_all (λ other. not (bytes_eq other.name name) || is_sunssf other.ty) rows) h in
    let b = and-two (is_short name) (takes_scale row.ty) a.0 in
    (b.0, b.1, a.1)

pub record Among (s : ListedPoint) (points : List ListedPoint) : Type 0 where
  pub place : ℕ
  pub within : place < length points
  pub is : get_or points place s ≡ s

among-left : (s : ListedPoint) (xs ys : List ListedPoint) → Among s xs → Among s (xs ++ ys)
among-left s xs ys a =
    let size = length-append xs ys in
    record { place = a.place; within = omega (arith, a.within, size); is = get_or_append_left xs ys s a.place a.within ∙ a.is }

among-right : (s : ListedPoint) (xs ys : List ListedPoint) → Among s ys → Among s (xs ++ ys)
among-right s xs ys a =
    let size = length-append xs ys in
    record { place = length xs + a.place; within = omega (arith, a.within, size); is = get_or-append-add xs ys a.place s ∙ a.is }

-- In a list of points with distinct names, searching for the name of a scale point (SunSpec scale
-- factor) finds this point.
find-scale : (s : ListedPoint) (points : List ListedPoint) (k : ℕ) → k < length points → get_or points k s ≡ s → AllPairs (λ a b. a.name ≢ b.name) points → is_sunssf s.kind ≡ true
    → scale_point points s.name ≡ Some s
find-scale s [] k within is distinct sunssf = absurd (omega (arith, within))
find-scale s (x ∷ xs) zero within is distinct sunssf =
    let same : bytes_eq s.name s.name ≡ true = (bytes_eq-Decides s.name s.name).1 refl in
    rw is (rw (sunssf, same) refl)
find-scale s (x ∷ xs) (suc k) within is distinct sunssf =
    let other : bytes_eq x.name s.name ≡ false = bytes-apart x.name s.name (λ same. distinct 0 (suc k) s (omega arith) within (same ∙ ap (λ (p : ListedPoint). p.name) (sym is))) in
    let rest = find-scale s xs k (omega (arith, within)) is (λ i j d before below. distinct (suc i) (suc j) d (omega (arith, before)) (omega (arith, below))) sunssf in
    rw (other, and-no (is_sunssf x.kind)) rest

-- True if the point has a valid name, size, address and scale as an element of the point list
-- `all`.
pub record Keeps (all : List ListedPoint) (point : ListedPoint) : Type 0 where
  pub named : is_name point.name ≡ true
  pub some : 1 ≤ registers_of point.kind
  pub few : registers_of point.kind ≤ 125
  pub inside : end_of point ≤ 65536
  pub scaled : HasLawfulScale all point point.scale

map-all : (f : ModelPoint → ListedPoint) (P : ListedPoint → Type 0) (points : List ModelPoint) → All (λ p. P (f p)) points → All P (map f points)
map-all f P [] each = λ k d below. absurd (omega (arith, below))
map-all f P (p ∷ ps) each = All-cons P (f p) (map f ps) (each 0 p (omega arith)) (map-all f P ps (λ k d below. each (suc k) d (omega (arith, below))))

among-map : (f : ModelPoint → ListedPoint) (points : List ModelPoint) (k : ℕ) (q : ModelPoint) → k < length points → get_or points k q ≡ q → Among (f q) (map f points)
among-map f points k q within is = record {
  place = k;
  within = let size = length-map points f in omega (arith, within, size);
  is = get_or-map f points k q (f q) within ∙ ap f is;
}

narrow-group : (base a b s e x y : ℕ) → a ≡ base + x → b ≡ base + y → x + s ≤ 125 → y + e ≤ 125 → max (a + s) (b + e) ≤ min a b + 125
narrow-group base a b s e x y ha hb hs he = omega (arith, ha, hb, hs, he)

group-of : (place : ℕ) (model : Model) (others : List ModelPoint) (p q : ModelPoint) → FromRow (is_good_row (table_of model.id)) model p → FromRow (is_good_row (table_of model.id)) model q
    → IsGroup (listed place model.id others p) (listed place model.id others q)
group-of place model others p q f g =
    let gf = good-row (table_of model.id) f.row f.passes in
    let gg = good-row (table_of model.id) g.row g.passes in
    let kp : registers_of p.ty ≡ registers_of f.row.ty = ap registers_of f.kind in
    let kq : registers_of q.ty ≡ registers_of g.row.ty = ap registers_of g.kind in
    record {
      function = refl;
      area = refl;
      narrow =
          narrow-group model.address p.address q.address (registers_of p.ty) (registers_of q.ty) f.row.offset g.row.offset f.address g.address
          (omega (arith, kp, gf.ends)) (omega (arith, kq, gg.ends));
    }

sunssf-of : (name : List ℕ) (model : Model) (q : ModelPoint) → FromRow (λ other. not (bytes_eq other.name name) || is_sunssf other.ty) model q → q.name ≡ name → is_sunssf q.ty ≡ true
sunssf-of name model q f same =
    let here : bytes_eq f.row.name name ≡ true = (bytes_eq-Decides f.row.name name).1 (sym f.name ∙ same) in
    ap is_sunssf f.kind ∙ (rw here at f.passes)

-- If the scale point (SunSpec scale factor) of a model's point was read, the point list has the
-- scale point. One Modbus read can cover the point and its scale point.
scale-there : (all : List ListedPoint) → AllPairs (λ a b. a.name ≢ b.name) all → (word : Words) (place : ℕ) (model : Model)
    → ((s : ListedPoint) → Among s (model_points word place model) → Among s all)
    → (p : ModelPoint) → FromRow (is_good_row (table_of model.id)) model p → (name : List ℕ)
    → list_all (λ other. not (bytes_eq other.name name) || is_sunssf other.ty) (table_of model.id) ≡ true
    → list_all (is_good_row (table_of model.id)) (table_of model.id) ≡ true
    → Any (λ (other : ModelPoint). bytes_eq other.name name ≡ true) (points_in word model)
    → IsSomeAnd (scale_point all (chain_name place name)) (IsGroup (listed place model.id (points_in word model) p))
scale-there all distinct word place model sub p f name known good any =
    let pts = points_in word model in
    let q = any.1 in
    let s = listed place model.id pts q in
    let same : q.name ≡ name = (bytes_eq-Decides q.name name).0 any.4 in
    let g : FromRow (is_good_row (table_of model.id)) model q =
    subst (FromRow (is_good_row (table_of model.id)) model) any.3 (from-rows (is_good_row (table_of model.id)) word model (table_of model.id) good any.0 q any.2) in
    let n : FromRow (λ other. not (bytes_eq other.name name) || is_sunssf other.ty) model q =
    subst (FromRow (λ other. not (bytes_eq other.name name) || is_sunssf other.ty) model) any.3
    (from-rows (λ other. not (bytes_eq other.name name) || is_sunssf other.ty) word model (table_of model.id) known any.0 q any.2) in
    let a = sub s (among-map (listed place model.id pts) pts any.0 q any.2 any.3) in
    let found : scale_point all (chain_name place name) ≡ Some s =
    ap (λ (x : List ℕ). scale_point all (chain_name place x)) (sym same) ∙ find-scale s all a.place a.within a.is distinct (sunssf-of name model q n same) in
    rw found (group-of place model pts p q f g)

-- The scale of a SunSpec model's point is valid in the point list: it is empty, or its scale point
-- is in the list, close enough for one Modbus read.
model-scale : (all : List ListedPoint) → AllPairs (λ a b. a.name ≢ b.name) all → (word : Words) (place : ℕ) (model : Model)
    → ((s : ListedPoint) → Among s (model_points word place model) → Among s all)
    → (p : ModelPoint) (f : FromRow (is_good_row (table_of model.id)) model p) (name : Option (List ℕ)) → IfSome name (IsScaleName f.row (table_of model.id))
    → list_all (is_good_row (table_of model.id)) (table_of model.id) ≡ true
    → HasLawfulScale all (listed place model.id (points_in word model) p) (chain_scale place (points_in word model) name)
model-scale all distinct word place model sub p f None known good = tt
model-scale all distinct word place model sub p f (Some name) known good =
    by (list_any (λ other. bytes_eq other.name name) (points_in word model)) refl
  where
    by : (b : Bool) → list_any (λ other. bytes_eq other.name name) (points_in word model) ≡ b
        → HasLawfulScale all (listed place model.id (points_in word model) p) (if b then Named (chain_name place name) else Unscaled)
    by true e = (
      ap takes_scale f.kind ∙ known.1,
      scale-there all distinct word place model sub p f name known.2 good (Any-from_list_any (λ other. bytes_eq other.name name) (points_in word model) e),
    )
    by false e = tt

keeps-of : (all : List ListedPoint) → AllPairs (λ a b. a.name ≢ b.name) all → (word : Words) (place : ℕ) (model : Model) → place ≤ 64 → next_after model ≤ 65536
    → ((s : ListedPoint) → Among s (model_points word place model) → Among s all) → list_all (is_good_row (table_of model.id)) (table_of model.id) ≡ true
    → (p : ModelPoint) → FromRow (is_good_row (table_of model.id)) model p → Keeps all (listed place model.id (points_in word model) p)
keeps-of all distinct word place model few inside sub good p f =
    let g = good-row (table_of model.id) f.row f.passes in
    let size : registers_of p.ty ≡ registers_of f.row.ty = ap registers_of f.kind in
    let scale : IfSome (scale_name_in (table_of model.id) p.name) (IsScaleName f.row (table_of model.id)) =
    subst (λ (name : List ℕ). IfSome (scale_name_in (table_of model.id) name) (IsScaleName f.row (table_of model.id))) (sym f.name)
    (scale-name (table_of model.id) f.row (scale_name_in (table_of model.id) f.row.name) g.scaled) in
    record {
      named = named place p.name few (ap is_short f.name ∙ g.short);
      some = omega (arith, size, g.some);
      few = omega (arith, size, g.ends);
      inside = omega (arith, size, f.address, f.inside, inside);
      scaled = model-scale all distinct word place model sub p f (scale_name_in (table_of model.id) p.name) scale good;
    }

-- Each point of a SunSpec model has a valid name, size, address and scale in the point list.
model-keeps : (all : List ListedPoint) → AllPairs (λ a b. a.name ≢ b.name) all → (word : Words) (place : ℕ) (model : Model) → place ≤ 64 → next_after model ≤ 65536
    → ((s : ListedPoint) → Among s (model_points word place model) → Among s all) → All (Keeps all) (model_points word place model)
model-keeps all distinct word place model few inside sub =
    let good = (and-two (list_all (is_good_row (table_of model.id)) (table_of model.id)) (have_other_names (table_of model.id)) (good-tables model.id)).0 in
    let from = from-rows (is_good_row (table_of model.id)) word model (table_of model.id) good in
    map-all (listed place model.id (points_in word model)) (Keeps all) (points_in word model)
    (λ k d below. keeps-of all distinct word place model few inside sub good (get_or (points_in word model) k d) (from k d below))

points-keep : (all : List ListedPoint) → AllPairs (λ a b. a.name ≢ b.name) all → (word : Words) (place : ℕ) (models : List Model) → place + length models ≤ 65
    → All (λ model. next_after model ≤ 65536) models → ((s : ListedPoint) → Among s (points_from word place models) → Among s all) → All (Keeps all) (points_from word place models)
points-keep all distinct word place [] few inside sub = λ k d below. absurd (omega (arith, below))
points-keep all distinct word place (model ∷ models) few inside sub =
    let size : length (model ∷ models) ≡ suc (length models) = refl in
    All-append (Keeps all) (model_points word place model) (points_from word (place + 1) models)
    (model-keeps all distinct word place model (omega (arith, few, size)) (inside 0 model (omega arith)) (λ s a. sub s (among-left s (model_points word place model) (points_from word (place + 1) models) a)))
    (points-keep all distinct word (place + 1) models (omega (arith, few, size)) (λ k d below. inside (suc k) d (omega (arith, below)))
    (λ s a. sub s (among-right s (model_points word place model) (points_from word (place + 1) models) a)))

-- Lemmas about distinct names: the points of a chain of SunSpec models have distinct names in the
-- point list.

pairs-map : (f : ModelPoint → ListedPoint) (points : List ModelPoint) → AllPairs (λ a b. (f a).name ≢ (f b).name) points → AllPairs (λ a b. a.name ≢ b.name) (map f points)
pairs-map f [] pairs = λ i j d before below. absurd (omega (arith, below))
pairs-map f (p ∷ ps) pairs =
    pairs-cons (λ a b. a.name ≢ b.name) (f p) (map f ps) (map-all f (λ q. (f p).name ≢ q.name) ps (λ k d below. pairs 0 (suc k) d (omega arith) (omega (arith, below))))
    (pairs-map f ps (λ i j d before below. pairs (suc i) (suc j) d (omega (arith, before)) (omega (arith, below))))

pairs-append : (xs ys : List ListedPoint) → AllPairs (λ a b. a.name ≢ b.name) xs → AllPairs (λ a b. a.name ≢ b.name) ys → All (λ x. All (λ y. x.name ≢ y.name) ys) xs
    → AllPairs (λ a b. a.name ≢ b.name) (xs ++ ys)
pairs-append [] ys px py cross = py
pairs-append (x ∷ xs) ys px py cross =
    pairs-cons (λ a b. a.name ≢ b.name) x (xs ++ ys)
    (All-append (λ y. x.name ≢ y.name) xs ys (λ k d below. px 0 (suc k) d (omega arith) (omega (arith, below))) (cross 0 x (omega arith)))
    (pairs-append xs ys (λ i j d before below. px (suc i) (suc j) d (omega (arith, before)) (omega (arith, below))) py (λ k d below. cross (suc k) d (omega (arith, below))))

record NamedFrom (place : ℕ) (point : ListedPoint) : Type 0 where
  at : ℕ
  rest : List ℕ
  low : place ≤ at
  high : at ≤ 64
  is : point.name ≡ chain_name at rest

named-model : (word : Words) (place : ℕ) (model : Model) → place ≤ 64 → All (λ p. (rest : List ℕ) × (p.name ≡ chain_name place rest)) (model_points word place model)
named-model word place model few =
    map-all (listed place model.id (points_in word model)) (λ p. (rest : List ℕ) × (p.name ≡ chain_name place rest)) (points_in word model) (λ k d below. ((get_or (points_in word model) k d).name, refl))

named-from : (word : Words) (place : ℕ) (models : List Model) → place + length models ≤ 65 → All (NamedFrom place) (points_from word place models)
named-from word place [] few = λ k d below. absurd (omega (arith, below))
named-from word place (model ∷ models) few =
    let size : length (model ∷ models) ≡ suc (length models) = refl in
    let here = named-model word place model (omega (arith, few, size)) in
    let later = named-from word (place + 1) models (omega (arith, few, size)) in
    All-append (NamedFrom place) (model_points word place model) (points_from word (place + 1) models)
    (λ k d below. record { at = place; rest = (here k d below).0; low = omega arith; high = omega (arith, few, size); is = (here k d below).1 })
    (λ k d below. let n = later k d below in record { at = n.at; rest = n.rest; low = omega (arith, n.low); high = n.high; is = n.is })

distinct-from : (word : Words) (place : ℕ) (models : List Model) → place + length models ≤ 65 → AllPairs (λ a b. a.name ≢ b.name) (points_from word place models)
distinct-from word place [] few = λ i j d before below. absurd (omega (arith, below))
distinct-from word place (model ∷ models) few =
    let size : length (model ∷ models) ≡ suc (length models) = refl in
    let small : place ≤ 64 = omega (arith, few, size) in
    let good = (and-two (list_all (is_good_row (table_of model.id)) (table_of model.id)) (have_other_names (table_of model.id)) (good-tables model.id)).1 in
    let apart = other-names word model (table_of model.id) good in
    let here = named-model word place model small in
    let later = named-from word (place + 1) models (omega (arith, few, size)) in
    pairs-append (model_points word place model) (points_from word (place + 1) models)
    (pairs-map (listed place model.id (points_in word model)) (points_in word model)
    (λ i j d before below. λ same. apart i j d before below (same-place place (get_or (points_in word model) i d).name (get_or (points_in word model) j d).name same)))
    (distinct-from word (place + 1) models (omega (arith, few, size)))
    (λ k d below. λ j e within. λ same.
    let a = here k d below in
    let b = later j e within in
    other-places place b.at a.0 b.rest (omega (arith, small)) (omega (arith, b.high)) (omega (arith, b.low)) (sym a.1 ∙ same ∙ b.is))

-- The points of at most 64 SunSpec models form a valid point list (distinct names, valid scales),
-- if there are at most 512 points.
pub chain-list : (word : Words) (models : List Model) → length models ≤ 64 → All (λ model. next_after model ≤ 65536) models → length (points_from word 1 models) ≤ 512
    → IsPointList (points_from word 1 models)
chain-list word models few inside size =
    let distinct = distinct-from word 1 models (omega (arith, few)) in
    let all = points_from word 1 models in
    let keep = points-keep all distinct word 1 models (omega (arith, few)) inside (λ s a. a) in
    record {
      few = size;
      named = λ k d below. (keep k d below).named;
      distinct = distinct;
      sized = λ k d below. ((keep k d below).some, (keep k d below).few);
      inside = λ k d below. (keep k d below).inside;
      scaled = λ k d below. (keep k d below).scaled;
    }

-- The points of a SunSpec model and their scale points (scale factors) have valid names in the
-- point list.
pub listed-named : (word : Words) (place : ℕ) (model : Model) → place ≤ 64 → (points : List NamedPoint) → map seen points ≡ points_in word model
    → (i : ℕ) (x : NamedPoint) → i < length points → x ≡ get_or points i x
    → (is_name (chain_name place (seen x).name) ≡ true) × IfSome (scale_name_in (table_of model.id) (seen x).name) (λ name. is_name (chain_name place name) ≡ true)
listed-named word place model few points are i x within is =
    let rows = table_of model.id in
    let good = (and-two (list_all (is_good_row rows) rows) (have_other_names rows) (good-tables model.id)).0 in
    let size : length points ≡ length (points_in word model) = sym (length-map points seen) ∙ ap length are in
    let here : get_or (points_in word model) i (seen x) ≡ seen x =
    ap (λ (ps : List ModelPoint). get_or ps i (seen x)) (sym are) ∙ get_or-map seen points i x (seen x) within ∙ ap seen (sym is) in
    let f = subst (FromRow (is_good_row rows) model) here (from-rows (is_good_row rows) word model rows good i (seen x) (omega (arith, within, size))) in
    let g = good-row rows f.row f.passes in (
      named place (seen x).name few (ap is_short f.name ∙ g.short),
      subst (λ (name : List ℕ). IfSome (scale_name_in rows name) (λ n. is_name (chain_name place n) ≡ true)) (sym f.name)
          (scale-named place few f.row rows (scale_name_in rows f.row.name) (scale-name rows f.row (scale_name_in rows f.row.name) g.scaled)),
    )
  where
    scale-named : (at : ℕ) → at ≤ 64 → (row : Row) (rows : List Row) (o : Option (List ℕ)) → IfSome o (IsScaleName row rows) → IfSome o (λ n. is_name (chain_name at n) ≡ true)
    scale-named at small row rows None h = tt
    scale-named at small row rows (Some name) h = named at name small h.0

next-from : (word : Words) (place : ℕ) (models : List Model) (i : ℕ) (model : Model) → i < length models → model ≡ get_or models i model
    → points_from word place (take i models) ++ model_points word (place + i) model ≡ points_from word place (take (suc i) models)
next-from word place [] i model within is = absurd (omega (arith, within))
next-from word place (first ∷ models) zero model within is =
    let same : place + 0 ≡ place = omega arith in
    ap (λ (k : ℕ). model_points word k model) same ∙ ap (λ (m : Model). model_points word place m) is ∙ sym (append-nil (model_points word place first))
next-from word place (first ∷ models) (suc i) model within is =
    let same : place + suc i ≡ (place + 1) + i = omega arith in
    append_assoc (model_points word place first) (points_from word (place + 1) (take i models)) (model_points word (place + suc i) model)
    ∙ ap (λ (more : List ListedPoint). model_points word place first ++ more)
    (ap (λ (k : ℕ). points_from word (place + 1) (take i models) ++ model_points word k model) same ∙ next-from word (place + 1) models i model (omega (arith, within)) is)

-- The point list of the first `i + 1` SunSpec models is that of the first `i` models followed by
-- the next model's points.
pub points-next : (word : Words) (models : List Model) (i : ℕ) (model : Model) → i < length models → model ≡ get_or models i model
    → points_from word 1 (take i models) ++ model_points word (i + 1) model ≡ points_from word 1 (take (i + 1) models)
points-next word models i model within is =
    let place : i + 1 ≡ 1 + i = omega arith in
    let next : 1 + i ≡ i + 1 = omega arith in
    ap (λ (k : ℕ). points_from word 1 (take i models) ++ model_points word k model) place ∙ next-from word 1 models i model within is
    ∙ ap (λ (k : ℕ). points_from word 1 (take k models)) (add-one-suc i)
  where
    add-one-suc : (n : ℕ) → suc n ≡ n + 1
    add-one-suc n = omega arith

map-twice : {X Y Z : Type 0} (f : Y → Z) (g : X → Y) (xs : List X) → map f (map g xs) ≡ map (λ x. f (g x)) xs
map-twice f g [] = refl
map-twice {Z = Z} f g (x ∷ xs) = ap (λ (more : List Z). f (g x) ∷ more) (map-twice f g xs)

-- The point list has an entry for each point of a SunSpec model, in the same order.
pub model-seen : (word : Words) (place : ℕ) (model : Model) (points : List NamedPoint) → map seen points ≡ points_in word model
    → map (λ point. listed place model.id (map seen points) (seen point)) points ≡ model_points word place model
model-seen word place model points are =
    sym (map-twice (listed place model.id (map seen points)) seen points) ∙ ap (λ (ps : List ModelPoint). map (listed place model.id ps) ps) are

pub listed-each : (word : Words) (place : ℕ) (model : Model) → place ≤ 64 → (points : List NamedPoint) → map seen points ≡ points_in word model
    → All (λ point. IsTrue (is_name (chain_name place (seen point).name))) points
    × All (λ point. IfSome (scale_name_in (table_of model.id) (seen point).name) (λ name. IsTrue (is_name (chain_name place name)))) points
listed-each word place model few points are = (
  (λ k d below. (listed-named word place model few points are k (get_or points k d) below (get_or_default points k d (get_or points k d) below)).0),
  (λ k d below. (listed-named word place model few points are k (get_or points k d) below (get_or_default points k d (get_or points k d) below)).1),
)
