-- Proofs about the query for a device's SunSpec points. It returns the rows of the device's point
-- list in order, and reading a row returns the point that it encodes.
use Rattle.std.proofs.Common.{◌≡◌, ◌≢◌, ℕ, ◌+◌, ◌≤◌, ◌<◌, ◌==◌, Bool, true, false, ◌&&◌, cond, inl, inr, List, [], ◌∷◌, map, length, get_or, bytes_eq, Option, Some, None, Ok, Err, Result, IsTrue, IsSomeAnd, string_bytes, is_some, refl, sym, ap, ap₂, subst, ◌∙◌, IsPermutation, arith}
use Rattle.std.specs.List.{AllByRecursion, All, find}
use Rattle.std.specs.Option.{option_and_then}
use Rattle.std.proofs.lemmas.Slice.Eq.{bytes_eq-Decides}
use Rattle.std.proofs.lemmas.List.Sorted.{IsPermutation-sym, IsPermutation-trans}
use Rattle.std.proofs.lemmas.List.Elements.{recursion_from_All}
use Rattle.sqlite.specs.Order.{Row}
use Rattle.sqlite_keyed.proofs.ListLemmas.{all_both}
use Rattle.sun_points.specs.declared.point_type.PointType.{PointType}
use Rattle.point_list.specs.declared.point.ListedPoint.{ListedPoint}
use Rattle.point_list.specs.declared.point.PointScale.{PointScale}
use Rattle.point_list.specs.declared.point.PointScale.TheVariants.{Unscaled, Fixed, Named}
use Rattle.point_list.specs.Fields.{type_of}
use Rattle.point_list.specs.Lists.{name_spelled, scale_spelled}
use Rattle.point_list.specs.Names.{is_name}
use Rattle.point_list.specs.Points.{IsPointList, IsGroup, HasLawfulScale, scale_point, is_sunssf}
use Rattle.point_list.proofs.SpelledRows.{Suits}
use Rattle.point_list.proofs.WrittenFields.{type-read, scale-read}
use Rattle.read_plan.specs.PlannedLists.{Planned, IsPlanned}
use Rattle.read_plan.specs.PlannedLists.{ListsArePlannedOnce}
use Rattle.office_events.specs.declared.facts.DeviceList.{DeviceList}
use Rattle.office_events.specs.declared.facts.Fact.{Fact}
use Rattle.office_events.specs.declared.facts.Fact.TheVariants as fact
use Rattle.office_books.specs.Facts.{same, lists_in, list_of, if_some}
use Rattle.office_books.specs.Lawful.{AreLawful}
use Rattle.store_tables.specs.declared.faults.RowFault.{RowFault}
use Rattle.store_tables.specs.declared.faults.RowFault.TheVariants.{Damaged}
use Rattle.store_tables.specs.Columns.{or_damaged, and_then}
use Rattle.store_tables.specs.Answer.{FirstFirst}
use Rattle.store_tables.specs.Asking.{Shows}
use Rattle.store_tables.specs.Content.{Content, HasRows}
use Rattle.store_tables.proofs.ReadLemmas.{IsFair, fair_then, fair_some}
use Rattle.store_tables.specs.declared.devices.rows.Point as list_point
use Rattle.store_tables.specs.declared.devices.rows.PointRow.{PointRow}
use Rattle.store_tables.specs.Devices.Rows.{Listed, IsPoint, is_point_of, point_place, point_shown}
use Rattle.office_store.specs.Rows.{placed_on, listed, points_of, points_put}
use Rattle.office_store.specs.Tables.{ArePoints}
use Rattle.office_store.specs.Finding.Each.{AreEach}
use Rattle.office_store.specs.Finding.Points.{point_with, IsSpelled, IsPointOf, IsReadablePoint}
use Rattle.office_store.proofs.FindingLemmas.Each.{each_same, each_equal}
use Rattle.office_store.proofs.FindingLemmas.Ordered.{Rises, one_order}
use Rattle.office_store.proofs.FindingLemmas.ReadRows.{fair_if, fair_ok}

-- Lemmas that, if all points of a list have a property, each row of `points` encodes a point with
-- this property.

module _ {X Y : Type 0} (row : ℕ → X → Y) where
  each_on : (P : X → Type 0) (before : ℕ) (xs : List X) → AllByRecursion P xs → AreEach (λ y x. (place : ℕ) × (y ≡ row place x) × P x) (placed_on row before xs) xs
  each_on P before [] all = tt
  each_on P before (x ∷ xs) all = ((before + 1, refl, all.0), each_on P (before + 1) xs all.1)

  module _ (key : Y → ℕ) (keyed : (place : ℕ) (x : X) → key (row place x) ≡ place) where
    on_above : (n before : ℕ) (xs : List X) → n ≤ before → AllByRecursion (λ y. n < key y) (placed_on row before xs)
    on_above n before [] le = tt
    on_above n before (x ∷ xs) le = (let is = keyed (before + 1) x in omega (arith, is), on_above n (before + 1) xs (omega arith))

    on_rises : (before : ℕ) (xs : List X) → Rises key (placed_on row before xs)
    on_rises before [] = tt
    on_rises before (x ∷ xs) = (on_above (key (row (before + 1) x)) (before + 1) xs (let is = keyed (before + 1) x in omega (arith, is)), on_rises (before + 1) xs)

-- Lemmas that, if a point list obeys the rules of point lists, the texts in its rows of `points`
-- can be parsed.

suits_of : (points : List ListedPoint) (point : ListedPoint) (scale : PointScale) → HasLawfulScale points point scale → Suits point.kind scale
suits_of points point Unscaled h = tt
suits_of points point (Fixed exponent) h = h
suits_of points point (Named name) h = h.0

some_there : {X : Type 0} (o : Option X) (P : X → Type 0) → IsSomeAnd o P → is_some o ≡ true
some_there None P h = absurd h
some_there (Some x) P h = refl

-- If the scale of a point names another point of the list, this name is a valid point name.
name_step : (a b : Bool) (p : ListedPoint) (name : List ℕ) (rest : Option ListedPoint) → IsTrue (is_name p.name) → bytes_eq p.name name ≡ b → (is_some rest ≡ true → is_name name ≡ true)
    → is_some (cond (a && b) (Some p) rest) ≡ true → is_name name ≡ true
name_step true true p name rest named is later h = subst (λ (bytes : List ℕ). is_name bytes ≡ true) ((bytes_eq-Decides p.name name).0 is) named
name_step true false p name rest named is later h = later h
name_step false b p name rest named is later h = later h

found_named : (name : List ℕ) (points : List ListedPoint) → AllByRecursion (λ (p : ListedPoint). IsTrue (is_name p.name)) points → is_some (scale_point points name) ≡ true → is_name name ≡ true
found_named name [] named h = absurd (cc)
found_named name (p ∷ ps) named h = name_step (is_sunssf p.kind) (bytes_eq p.name name) p name (scale_point ps name) named.0 refl (found_named name ps named.1) h

all_spelled : (points : List ListedPoint) → IsPointList points → AllByRecursion IsSpelled points
all_spelled points l = recursion_from_All IsSpelled points (λ k d below.
    let p = get_or points k d in
    let scaled = l.scaled k d below in
    let sized = l.sized k d below in
    record {
      kind = type-read p.kind sized.0 sized.1;
      scale = (scale-read p.kind p.scale (suits_of points p p.scale scaled) (λ name is.
          found_named name points (recursion_from_All (λ (q : ListedPoint). IsTrue (is_name q.name)) points l.named)
          (some_there (scale_point points name) (IsGroup p) (subst (λ (scale : PointScale). HasLawfulScale points p scale) is scaled).1))).0;
    })

-- Lemmas that reading one row of `points` returns the point that the row encodes.

never : {A : Type 0} (S : Type 0) (Is : A → Type 0) → (S → ⊥) → IsFair S Is (Err Damaged)
never S Is none = record { read = tt; fault = none }

one_of : {X : Type 0} (o : Option X) (x y : X) → o ≡ Some x → o ≡ Some y → x ≡ y
one_of o x y e f = let g : Some x ≡ Some y = sym e ∙ f in cc

point_as : Listed → PointType → PointScale → ListedPoint
point_as x kind scale = record { name = x.name; function = x.row.function; area = x.row.area; address = x.row.address; kind = kind; scale = scale }

point_is : (x : Listed) (k : PointType) (s : PointScale) → type_of x.kind ≡ Some k → scale_spelled x.scale ≡ Some s → IsPointOf x (point_as x k s)
unfolding point_as
point_is x k s ek es device place p spelled is =
    let kind : k ≡ p.kind = one_of (type_of x.kind) k p.kind ek (ap (λ (y : Listed). type_of y.kind) is ∙ spelled.kind) in
    let scale : s ≡ p.scale = one_of (scale_spelled x.scale) s p.scale es (ap (λ (y : Listed). scale_spelled y.scale) is ∙ spelled.scale) in
    λ i. point_as (is i) (kind i) (scale i)

with_parts : Listed → Option PointType → Option PointScale → Result ListedPoint RowFault
with_parts x k s =
    and_then (or_damaged (name_spelled x.name)) (λ name. and_then (or_damaged k) (λ kind. and_then (or_damaged s) (λ scale.
    Ok (record { name = name; function = x.row.function; area = x.row.area; address = x.row.address; kind = kind; scale = scale }))))

fair_parts : (x : Listed) (k : Option PointType) (s : Option PointScale) → type_of x.kind ≡ k → scale_spelled x.scale ≡ s → IsFair (IsReadablePoint x) (IsPointOf x) (with_parts x k s)
unfolding point_as with_parts
fair_parts x None s ek es =
    fair_then (IsReadablePoint x) (IsPointOf x) (IsReadablePoint x) x.name _ _ (λ r. r) (fair_if (IsReadablePoint x) (is_name x.name) x.name (λ r. r.name))
    (never (IsReadablePoint x) (IsPointOf x) (λ r. let f : None ≡ Some r.kind.0 = sym ek ∙ r.kind.1 in cc))
fair_parts x (Some k) None ek es =
    fair_then (IsReadablePoint x) (IsPointOf x) (IsReadablePoint x) x.name _ _ (λ r. r) (fair_if (IsReadablePoint x) (is_name x.name) x.name (λ r. r.name))
    (never (IsReadablePoint x) (IsPointOf x) (λ r. let f : None ≡ Some r.scale.0 = sym es ∙ r.scale.1 in cc))
fair_parts x (Some k) (Some s) ek es =
    fair_then (IsReadablePoint x) (IsPointOf x) (IsReadablePoint x) x.name _ _ (λ r. r) (fair_if (IsReadablePoint x) (is_name x.name) x.name (λ r. r.name))
    (fair_ok (IsReadablePoint x) (IsPointOf x) (point_as x k s) (point_is x k s ek es))

pub point_found : (a : list_point.Point) (r : Result ListedPoint RowFault) → r ≡ point_with (string_bytes a.name) (string_bytes a.kind) (string_bytes a.scale) a.row
    → (x : Listed) → IsPoint x a → IsFair (IsReadablePoint x) (IsPointOf x) r
unfolding with_parts
point_found a r is x seen =
    subst (IsFair (IsReadablePoint x) (IsPointOf x)) (sym (is ∙ (λ i. point_with (seen.name i) (seen.kind i) (seen.scale i) (seen.row i))))
    (fair_parts x (type_of x.kind) (scale_spelled x.scale) refl refl)

-- The query for a device's points returns the rows of its complete point list, in order.

pub points_shown : (facts : List Fact) (device : List ℕ) (content : Content) (rows : List Row) (a : ArePoints facts content) → Shows (is_point_of device) (FirstFirst point_place) point_shown a.rows rows
    → rows ≡ map point_shown (placed_on (listed device) 0 (points_of facts device))
points_shown facts device content rows a h =
    h.2 ∙ ap (map point_shown) (one_order point_place (placed_on (listed device) 0 (points_of facts device)) h.0 (on_rises (listed device) point_place (λ place p. refl) 0 (points_of facts device))
    (IsPermutation-trans _ _ _ (IsPermutation-sym _ _ (a.each device)) h.1.all) h.1.order)

pub all_planned : (facts : List Fact) → AreLawful facts → AllByRecursion (λ (put : DeviceList). IsPlanned put.list) (lists_in facts)
all_planned [] h = tt
all_planned (fact.Device d ∷ facts) h = all_planned facts h.1
all_planned (fact.List l ∷ facts) h = (h.0.0.planned, all_planned facts h.1)
all_planned (fact.Register r ∷ facts) h = all_planned facts h.1
all_planned (fact.Opening o ∷ facts) h = all_planned facts h.1
all_planned (fact.Entry b ∷ facts) h = all_planned facts h.1
all_planned (fact.Hold b ∷ facts) h = all_planned facts h.1
all_planned (fact.Void v ∷ facts) h = all_planned facts h.1
all_planned (fact.Poll p ∷ facts) h = all_planned facts h.1
all_planned (fact.Outcome e ∷ facts) h = all_planned facts h.1
all_planned (fact.Reply r ∷ facts) h = all_planned facts h.1

found_step : {X : Type 0} (P : X → Type 0) (b : Bool) (x y : X) (rest : Option X) → P x → (rest ≡ Some y → P y) → cond b (Some x) rest ≡ Some y → P y
found_step P true x y rest h later is = let same_one : x ≡ y = cc in subst P same_one h
found_step P false x y rest h later is = later is

pub all_found : {X : Type 0} (P : X → Type 0) (p : X → Bool) (xs : List X) (x : X) → AllByRecursion P xs → find p xs ≡ Some x → P x
all_found P p [] x all is = absurd (cc)
all_found P p (y ∷ ys) x all is = found_step P (p y) y x (find p ys) all.0 (all_found P p ys x all.1) is

write_of : List Fact → (device : List ℕ) → Option DeviceList
write_of facts device = find (λ (put : DeviceList). same put.device device) (lists_in facts)

-- True if the store's records have a point list of a device, and the points of this list are
-- `points`.
pub record HasList (facts : List Fact) (device : List ℕ) (points : List ListedPoint) : Type 0 where
  pub list : Planned
  pub is : list_of facts device ≡ Some list
  pub planned : IsPlanned list
  pub points_are : list.points ≡ points

some_list : (facts : List Fact) (device : List ℕ) (points ps : List ListedPoint) (put : DeviceList) → IsPlanned put.list → write_of facts device ≡ Some put → put.list.points ≡ ps → points ≡ ps → points ≢ [] → HasList facts device points
unfolding write_of
some_list facts device points [] put planned found own are some = absurd (some are)
some_list facts device points (p ∷ ps) put planned found own are some = record {
  list = put.list;
  is = ap (option_and_then (λ (q : DeviceList). if_some q.list.points q.list)) found ∙ ap (λ (qs : List ListedPoint). if_some qs put.list) own;
  planned = planned;
  points_are = own ∙ sym are;
}

list_by : (facts : List Fact) (device : List ℕ) (points : List ListedPoint) (o : Option DeviceList) → AreLawful facts → write_of facts device ≡ o → points ≡ points_put o → points ≢ [] → HasList facts device points
unfolding write_of
list_by facts device points None lawful found are some = absurd (some are)
list_by facts device points (Some put) lawful found are some =
    some_list facts device points put.list.points put (all_found (λ (q : DeviceList). IsPlanned q.list) (λ (q : DeviceList). same q.device device) (lists_in facts) put (all_planned facts lawful) found) found refl are some

pub has_list : (facts : List Fact) (device : List ℕ) (points : List ListedPoint) → AreLawful facts → points ≡ points_of facts device → points ≢ [] → HasList facts device points
unfolding write_of
has_list facts device points lawful are some = list_by facts device points (write_of facts device) lawful refl are some

none_by : (o : Option DeviceList) → points_put o ≡ [] → option_and_then (λ (q : DeviceList). if_some q.list.points q.list) o ≡ None
none_by None h = refl
none_by (Some put) h = ap (λ (qs : List ListedPoint). if_some qs put.list) h

pub no_list : (facts : List Fact) (device : List ℕ) (points : List ListedPoint) → points ≡ points_of facts device → points ≡ [] → None ≡ list_of facts device
no_list facts device points are none = sym (none_by (find (λ (put : DeviceList). same put.device device) (lists_in facts)) (sym are ∙ none))

pub this_list : ListsArePlannedOnce → (facts : List Fact) (device : List ℕ) (points : List ListedPoint) (p : Planned) → AreLawful facts → points ≡ points_of facts device → points ≢ [] → p.points ≡ points → IsPlanned p
    → Some p ≡ list_of facts device
this_list law facts device points p lawful are some own planned =
    let has = has_list facts device points lawful are some in
    ap Some (law p has.list planned has.planned (own ∙ sym has.points_are)) ∙ sym has.is

spelled_by : (o : Option DeviceList) → ((put : DeviceList) → o ≡ Some put → IsPlanned put.list) → AllByRecursion IsSpelled (points_put o)
spelled_by None h = tt
spelled_by (Some put) h = all_spelled put.list.points (h put refl).points

pub points_read : (facts : List Fact) (device : List ℕ) (vs : List ListedPoint) → AreLawful facts → AreEach IsPointOf (placed_on (listed device) 0 (points_of facts device)) vs → vs ≡ points_of facts device
points_read facts device vs lawful h =
    let found = find (λ (put : DeviceList). same put.device device) (lists_in facts) in
    let spelled = spelled_by found (λ put is. all_found (λ (q : DeviceList). IsPlanned q.list) (λ (q : DeviceList). same q.device device) (lists_in facts) put (all_planned facts lawful) is) in
    each_equal _ vs
    (each_same (λ (y : Listed) (p : ListedPoint). (place : ℕ) × (y ≡ listed device place p) × IsSpelled p) IsPointOf (λ a b. b ≡ a) (λ y p v is seen. seen device is.0 p is.2 is.1)
    (placed_on (listed device) 0 (points_of facts device)) (points_of facts device) vs (each_on (listed device) IsSpelled 0 (points_of facts device) spelled) h)

-- If a point list is recorded, its points satisfy the rules of point lists.
pub list_fault : (facts : List Fact) (device : List ℕ) (points : List ListedPoint) → AreLawful facts → points ≡ points_of facts device → points ≢ [] → IsPointList points
list_fault facts device points lawful are some = let has = has_list facts device points lawful are some in subst IsPointList has.points_are has.planned.points

pub no_items : {X : Type 0} (len : ℕ) (items : List X) (empty : Bool) → len ≡ length items → empty ≡ (len == 0) → empty ≡ true → items ≡ []
no_items len [] empty size is h = refl
no_items len (x ∷ xs) empty size is h = let zero_len : len ≡ 0 = grind (arith, is, h) in absurd (omega (arith, size, zero_len))

pub some_items : {X : Type 0} (len : ℕ) (items : List X) (empty : Bool) → len ≡ length items → empty ≡ (len == 0) → empty ≡ false → items ≢ []
some_items len items empty size is h none = let some_len : len ≢ 0 = grind (arith, is, h) in let zero_length = ap length none in absurd (some_len (size ∙ zero_length))
