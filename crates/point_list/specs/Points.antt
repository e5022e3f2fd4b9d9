-- Defines the rules of a valid point list.
use Rattle.std.specs.Prelude.{ℕ, ◌≡◌, ◌≢◌, ◌+◌, ◌≤◌, Bool, true, false, ◌&&◌, List, length, max, min, IsTrue, IsSomeAnd, int_le, pos, negsuc}
use Rattle.std.specs.declared.option.Option.{Option}
use Rattle.std.specs.List.{All, AllPairs, find}
use Rattle.std.specs.Str.{bytes_eq}
use Rattle.sun_points.specs.declared.point_type.PointType.{PointType}
use Rattle.sun_points.specs.declared.point_type.PointType.TheVariants as kind
use Rattle.sun_points.specs.PointType.{registers_of}
use Rattle.mb_wire.specs.declared.limits.TheConstants.{ADDRESSES, MAX_READ_REGISTERS}
use Rattle.point_list.specs.Names.{is_name}
use Rattle.point_list.specs.declared.lawful.TheConstants.{POINT_LIMIT}
use Rattle.point_list.specs.declared.point.ListedPoint.{ListedPoint}
use Rattle.point_list.specs.declared.point.PointScale.{PointScale}
use Rattle.point_list.specs.declared.point.PointScale.TheVariants.{Unscaled, Fixed, Named}

-- True if the point type is `sunssf`, SunSpec's type of scale factors.
abbrev pub is_sunssf : PointType → Bool
is_sunssf kind.Sunssf = true
is_sunssf _ = false

-- True if points of this SunSpec type may have a scale (a power of ten).
abbrev pub takes_scale : PointType → Bool
takes_scale kind.Int16 = true
takes_scale kind.Uint16 = true
takes_scale kind.Int32 = true
takes_scale kind.Uint32 = true
takes_scale kind.Acc32 = true
takes_scale _ = false

-- The Modbus address after a point's last register.
abbrev pub end_of : ListedPoint → ℕ
end_of point = point.address + registers_of point.kind

-- The point of a point list with the given name and the type `sunssf` (SunSpec scale factor), or
-- `None` if the list has no such point.
abbrev pub scale_point : List ListedPoint → List ℕ → Option ListedPoint
scale_point points name = find (λ point. is_sunssf point.kind && bytes_eq point.name name) points

-- True if one Modbus read can cover a point and its scale point: they have the same function and
-- area number, and span at most 125 registers.
pub record IsGroup (point scale : ListedPoint) : Type 0 where
  pub function : point.function ≡ scale.function
  pub area : point.area ≡ scale.area
  pub narrow : max (end_of point) (end_of scale)
      ≤ min point.address scale.address + MAX_READ_REGISTERS

-- True if the scale of a point is valid: its type may have a scale, and a scale given by name is a
-- sunssf point (SunSpec scale factor) of the list, close enough for one read.
abbrev pub HasLawfulScale : List ListedPoint → ListedPoint → PointScale → Type 0
HasLawfulScale points point Unscaled = Unit {0}
HasLawfulScale points point (Fixed exponent) =
    IsTrue (takes_scale point.kind)
    × IsTrue (int_le (negsuc 9) exponent && int_le exponent (pos 10))
HasLawfulScale points point (Named name) =
    IsTrue (takes_scale point.kind) × IsSomeAnd (scale_point points name) (IsGroup point)

-- True if the points form a valid point list: at most 512 points with distinct names, each with a
-- valid name, size, address and scale.
pub record IsPointList (points : List ListedPoint) : Type 0 where
  pub few : length points ≤ POINT_LIMIT
  pub named : All (λ point. IsTrue (is_name point.name)) points
  pub distinct : AllPairs (λ a b. a.name ≢ b.name) points
  pub sized : All (λ point. (1 ≤ registers_of point.kind)
      × (registers_of point.kind ≤ MAX_READ_REGISTERS)) points
  pub inside : All (λ point. end_of point ≤ ADDRESSES) points
  pub scaled : All (λ point. HasLawfulScale points point point.scale) points
