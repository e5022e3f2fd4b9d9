-- Proofs that a device's rows of the table `points` determine the device's point list.
use Rattle.std.proofs.Common.{◌≡◌, ℕ, Bool, true, false, ◌&&◌, List, IsTrue, refl, sym, ap, ◌∙◌, Option, Some, None, IsPermutation}
use Rattle.std.specs.List.{AllByRecursion}
use Rattle.std.specs.Option.{option_and_then}
use Rattle.std.specs.Prelude.{IsSomeAnd, bytes_eq}
use Rattle.std.proofs.lemmas.List.Elements.{recursion_from_All}
use Rattle.std.proofs.lemmas.Slice.Eq.{bytes_eq-Decides}
use Rattle.point_list.specs.declared.point.ListedPoint.{ListedPoint}
use Rattle.point_list.specs.declared.point.PointScale.{PointScale}
use Rattle.point_list.specs.declared.point.PointScale.TheVariants.{Unscaled, Fixed, Named}
use Rattle.point_list.specs.Fields.{type_of}
use Rattle.point_list.specs.Lists.{scale_spelled}
use Rattle.point_list.specs.Names.{is_name}
use Rattle.point_list.specs.Points.{is_sunssf, scale_point, IsGroup, HasLawfulScale, IsPointList}
use Rattle.point_list.specs.RowTexts.{type_text, scale_text}
use Rattle.point_list.proofs.WrittenFields.{type-read, scale-read}
use Rattle.read_plan.specs.PlannedLists.{ListsArePlannedOnce}
use Rattle.read_plan.specs.PlannedLists.{Planned, IsPlanned}
use Rattle.office_events.specs.declared.facts.DeviceList.{DeviceList}
use Rattle.office_books.specs.Facts.{if_some}
use Rattle.office_books.proofs.Lookups.{find_passes}
use Rattle.store_tables.specs.Devices.Rows.{point_place}
use Rattle.office_store.specs.Rows.{placed_on, listed, points_put}
use Rattle.office_store.proofs.LawsLemmas.Lists.{same_by_parts, found_has}
use Rattle.office_store.proofs.LawsLemmas.Placed.{placed_on_alike}

-- True if the stored texts of a point's type and scale can be parsed, and yield the type and the
-- scale of the point.
record IsRead (point : ListedPoint) : Type 0 where
  kind : type_of (type_text point.kind) ≡ Some point.kind
  scale : scale_spelled (scale_text point.scale) ≡ Some point.scale

second : (a b : Bool) → (a && b) ≡ true → b ≡ true
second true b h = h
second false b h = absurd (let e = h in cc)

-- If the scale of a point names another point of the list, this name is a valid point name.
scale_named : (points : List ListedPoint) (name : List ℕ) (P : ListedPoint → Type 0) (found : Option ListedPoint) → scale_point points name ≡ found
    → IsSomeAnd found P → AllByRecursion (λ p. IsTrue (is_name p.name)) points → is_name name ≡ true
scale_named points name P None is h named = absurd h
scale_named points name P (Some p) is h named =
    let passes = find_passes (λ (x : ListedPoint). is_sunssf x.kind && bytes_eq x.name name) points p is in
    let same : p.name ≡ name = (bytes_eq-Decides p.name name).0 (second (is_sunssf p.kind) (bytes_eq p.name name) passes) in
    let good : is_name p.name ≡ true = found_has (λ (x : ListedPoint). IsTrue (is_name x.name)) _ points p named is in
    ap is_name (sym same) ∙ good

scale_read : (points : List ListedPoint) (point : ListedPoint) (scale : PointScale) → IsPointList points → HasLawfulScale points point scale
    → scale_spelled (scale_text scale) ≡ Some scale
scale_read points point Unscaled l h = refl
scale_read points point (Fixed exponent) l h =
    (scale-read point.kind (Fixed exponent) h (λ name is. absurd (let e : Fixed exponent ≡ Named name = is in cc))).0
scale_read points point (Named name) l h =
    let named = scale_named points name (IsGroup point) (scale_point points name) refl h.1 (recursion_from_All (λ (p : ListedPoint). IsTrue (is_name p.name)) points l.named) in
    (scale-read point.kind (Named name) h.0 (λ other is. let e : name ≡ other = cc in ap is_name (sym e) ∙ named)).0

all_read : (points : List ListedPoint) → IsPointList points → AllByRecursion IsRead points
all_read points l = recursion_from_All IsRead points (λ k d below.
    let size = l.sized k d below in
    record { kind = type-read _ size.0 size.1; scale = scale_read points _ _ l (l.scaled k d below) })

-- True if two points have equal columns in the table `points`.
record IsAlike (a b : ListedPoint) : Type 0 where
  name : a.name ≡ b.name
  function : a.function ≡ b.function
  area : a.area ≡ b.area
  address : a.address ≡ b.address
  kind : type_text a.kind ≡ type_text b.kind
  scale : scale_text a.scale ≡ scale_text b.scale

read_alike : {X : Type 0} (text : X → List ℕ) (reads : List ℕ → Option X) (x y : X) → reads (text x) ≡ Some x → reads (text y) ≡ Some y → text x ≡ text y → x ≡ y
read_alike text reads x y h k e = let same : Some x ≡ Some y = sym h ∙ ap reads e ∙ k in cc

one_alike : (a b : ListedPoint) → IsAlike a b → IsRead a → IsRead b → a ≡ b
one_alike a b h p q =
    let kind : a.kind ≡ b.kind = read_alike type_text type_of _ _ p.kind q.kind h.kind in
    let scale : a.scale ≡ b.scale = read_alike scale_text scale_spelled _ _ p.scale q.scale h.scale in
    λ i. record { name = h.name i; function = h.function i; area = h.area i; address = h.address i; kind = kind i; scale = scale i }

-- Lemmas that a device's latest point list is determined by its rows in the table `points`.

abbrev pub IsPut : Option DeviceList → Type 0
IsPut None = Unit {0}
IsPut (Some put) = IsPlanned put.list

abbrev pub list_put : Option DeviceList → Option Planned
list_put found = option_and_then (λ put. if_some put.list.points put.list) found

write_read : (found : Option DeviceList) → IsPut found → AllByRecursion IsRead (points_put found)
write_read None h = tt
write_read (Some put) h = all_read put.list.points h.points

same_points : (device : List ℕ) (a b : Option DeviceList) → IsPut a → IsPut b
    → IsPermutation (placed_on (listed device) 0 (points_put a)) (placed_on (listed device) 0 (points_put b)) → points_put a ≡ points_put b
same_points device a b p q h =
    same_by_parts IsAlike IsRead IsRead one_alike (points_put a) (points_put b)
    (placed_on_alike (listed device) (listed device) IsAlike
    (λ m n x y e. record {
      name = λ i. (e i).name;
      function = λ i. (e i).row.function;
      area = λ i. (e i).row.area;
      address = λ i. (e i).row.address;
      kind = λ i. (e i).kind;
      scale = λ i. (e i).scale;
    })
    point_place (λ place x. refl) (λ place x. refl) (points_put a) (points_put b) h)
    (write_read a p) (write_read b q)

-- If two point lists of a device have the same points, the lists are equal. A list without points
-- counts as no list.
same_planned : ListsArePlannedOnce → (a b : Option DeviceList) → IsPut a → IsPut b → points_put a ≡ points_put b → list_put a ≡ list_put b
same_planned once None None p q e = refl
same_planned once None (Some b) p q e = ap (λ points. if_some points b.list) e
same_planned once (Some a) None p q e = ap (λ points. if_some points a.list) e
same_planned once (Some a) (Some b) p q e = let same = once a.list b.list p q e in ap (λ (l : Planned). if_some l.points l) same

pub same_list : ListsArePlannedOnce → (device : List ℕ) (a b : Option DeviceList) → IsPut a → IsPut b
    → IsPermutation (placed_on (listed device) 0 (points_put a)) (placed_on (listed device) 0 (points_put b)) → list_put a ≡ list_put b
same_list once device a b p q h = same_planned once a b p q (same_points device a b p q h)
