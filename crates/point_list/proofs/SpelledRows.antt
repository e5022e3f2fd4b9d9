-- The properties of the point that a row of a point list (CSV) without faults encodes.
use Rattle.std.proofs.Common.{◌≡◌, ◌+◌, ◌≤◌, ℕ, ℤ, pos, negsuc, Bool, true, false, IsTrue, List, [], ◌∷◌, Some, None, Option, refl, arith}
use Rattle.std.specs.Prelude.{nat_lt, not, ◌&&◌, ◌||◌, is_some, int_le}
use Rattle.sun_points.specs.declared.point_type.PointType.{PointType}
use Rattle.sun_points.specs.PointType.{registers_of}
use Rattle.point_list.specs.declared.point.ListedPoint.{ListedPoint}
use Rattle.point_list.specs.declared.point.PointScale.{PointScale}
use Rattle.point_list.specs.declared.point.PointScale.TheVariants.{Unscaled, Fixed, Named}
use Rattle.point_list.specs.Faults.{RowText, is_bad_scale, is_no_number, reaches_past}
use Rattle.point_list.specs.Fields.{fixed_scale_of, function_of, number_within, type_of}
use Rattle.point_list.specs.Lists.{point_spelled, scale_spelled}
use Rattle.point_list.specs.Names.{is_name}
use Rattle.point_list.specs.Points.{end_of, takes_scale}
use Rattle.point_list.proofs.SoundRows.{Sound, fixed-bounds, not-false, or-first, there, type-sized}

-- True if points of this type may have this scale. A scale point with the scale's name need not
-- exist.
abbrev pub Suits : PointType → PointScale → Type 0
Suits kind Unscaled = Unit {0}
Suits kind (Fixed exponent) = IsTrue (takes_scale kind) × IsTrue (int_le (negsuc 9) exponent && int_le exponent (pos 10))
Suits kind (Named name) = IsTrue (takes_scale kind)

-- The point that the six fields of a point list's row encode, with its properties: a valid name, 1
-- to 125 registers, addresses below 65,536, and a scale that suits the point type.
pub record Spelled (row : RowText) (point : ListedPoint) : Type 0 where
  pub spells : point_spelled row ≡ Some point
  pub name : point.name ≡ row.name
  pub named : IsTrue (is_name point.name)
  pub sized : (1 ≤ registers_of point.kind) × (registers_of point.kind ≤ 125)
  pub inside : end_of point ≤ 65536
  pub suits : Suits point.kind point.scale

scale-there : (field : List ℕ) (kind : PointType) → is_bad_scale field (Some kind) ≡ false → (s : PointScale) × (scale_spelled field ≡ Some s) × Suits kind s
scale-there [] kind h = (Unscaled, refl, tt)
scale-there (first ∷ rest) kind h = by (fixed_scale_of (first ∷ rest)) refl
  where
    parts : (not (is_some (fixed_scale_of (first ∷ rest)) || is_name (first ∷ rest)) ≡ false) × (not (takes_scale kind) ≡ false)
    parts = or-first _ _ h

    by : (o : Option ℤ) → fixed_scale_of (first ∷ rest) ≡ o → (s : PointScale) × (scale_spelled (first ∷ rest) ≡ Some s) × Suits kind s
    by (Some exponent) e = (Fixed exponent, rw e refl, (not-false _ parts.1, fixed-bounds (first ∷ rest) exponent e))
    by None e =
        let named : is_name (first ∷ rest) ≡ true = not-false _ (rw e at parts.0) in
        (Named (first ∷ rest), rw (e, named) refl, not-false _ parts.1)

past-end : (address size : ℕ) → nat_lt 65536 (address + size) ≡ false → address + size ≤ 65536
past-end address size h = grind (arith, h)

within-registers : (a : Option ℕ) (k : Option PointType) (address : ℕ) (kind : PointType) → a ≡ Some address → k ≡ Some kind → reaches_past a k ≡ false
    → address + registers_of kind ≤ 65536
within-registers a k address kind here is h = past-end address (registers_of kind) (rw (here, is) at h)

pub spells-with : (row : RowText) (point : ListedPoint) → is_name row.name ≡ true → row.name ≡ point.name → function_of row.function ≡ Some point.function
    → number_within 0 255 row.area ≡ Some point.area → number_within 0 65535 row.address ≡ Some point.address → type_of row.kind ≡ Some point.kind
    → scale_spelled row.scale ≡ Some point.scale → point_spelled row ≡ Some point
spells-with row point named name function area address kind scale = rw (named, function, area, address, kind, scale, name) refl

pub spelled : (taken : Bool) (place : ℕ) (row : RowText) → Sound taken place row → (point : ListedPoint) × Spelled row point
spelled taken place row s =
    let named = not-false _ s.name in
    let function = there (function_of row.function) s.function in
    let area = there (number_within 0 255 row.area) s.area in
    let addressed = or-first (is_no_number 0 65535 row.address) (reaches_past (number_within 0 65535 row.address) (type_of row.kind)) s.address in
    let address = there (number_within 0 65535 row.address) addressed.0 in
    let kind = there (type_of row.kind) s.kind in
    let scale = scale-there row.scale kind.0 (rw kind.1 at s.scale) in (
      record { name = row.name; function = function.0; area = area.0; address = address.0; kind = kind.0; scale = scale.0 },
      record {
        spells = spells-with row _ named refl function.1 area.1 address.1 kind.1 scale.1;
        name = refl;
        named = named;
        sized = type-sized row.kind kind.0 kind.1;
        inside = within-registers (number_within 0 65535 row.address) (type_of row.kind) address.0 kind.0 address.1 kind.1 addressed.1;
        suits = scale.2;
      },
    )
