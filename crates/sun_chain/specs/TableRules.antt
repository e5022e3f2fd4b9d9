-- Defines the invariants of the model tables, which list the points of each SunSpec model, and the
-- order of a model's points.
use Rattle.std.specs.Prelude.{ℕ, ◌+◌, ◌≤◌, ◌==◌, ◌&&◌, nat_le, Bool, true, false, IsTrue, if◌then◌else◌, List, [], ◌∷◌, option_map, unwrap_or}
use Rattle.std.specs.List.{list_all, list_any}
use Rattle.sun_points.specs.PointType.{registers_of}
use Rattle.sun_points.specs.declared.point_type.PointType.{PointType}
use Rattle.sun_points.specs.declared.point_type.PointType.TheVariants.{Int16, Uint16, Enum16, Int32, Uint32, Bitfield32, Acc32, Sunssf, Text}
use Rattle.sun_chain.specs.Tables.{Row, table_of}
use Rattle.sun_chain.specs.Points.{Named}

-- The offset after the last register of a point in a model table.
abbrev pub end_of_row : Row → ℕ
end_of_row row = row.offset + registers_of row.ty

-- True if the points of a model table are in order of offset, do not overlap, and begin at or after
-- the given offset.
abbrev pub ascends_from : ℕ → List Row → Bool
ascends_from from [] = true
ascends_from from (row ∷ rows) = nat_le from row.offset && ascends_from (end_of_row row) rows

-- True if a point lies inside a model with the given length.
abbrev pub lies_inside : ℕ → Row → Bool
lies_inside length row = nat_le (end_of_row row) (2 + length)

-- True if the point type is `sunssf`, the type of scale points.
abbrev pub is_sunssf : PointType → Bool
is_sunssf Int16 = false
is_sunssf Uint16 = false
is_sunssf Enum16 = false
is_sunssf Int32 = false
is_sunssf Uint32 = false
is_sunssf Bitfield32 = false
is_sunssf Acc32 = false
is_sunssf Sunssf = true
is_sunssf (Text registers) = false

-- True if a row of a model's table is a scale point at the given offset.
abbrev pub is_scale_point : ℕ → Row → Bool
is_scale_point offset row = is_sunssf row.ty && row.offset == offset

-- True if a model's table has the scale point of a row, or the row needs no scale point.
abbrev pub has_its_scale : List Row → Row → Bool
has_its_scale rows row =
    unwrap_or (option_map (λ offset. list_any (is_scale_point offset) rows) row.scale) true

-- True if a model's table is valid for models of the given length. Points begin after the ID and
-- length registers, are in order of offset and lie inside the model, and their scale points are in
-- the table.
abbrev pub is_lawful_table : ℕ → List Row → Bool
is_lawful_table length rows =
    ascends_from 2 rows && list_all (lies_inside length) rows && list_all (has_its_scale rows) rows

-- The length of the model with the given ID, or 0 for an unknown model. Model 1 may have one more
-- register, for padding.
abbrev pub length_of_known : ℕ → ℕ
length_of_known id =
    if id == 1 then 65
    else if nat_le 101 id && nat_le id 103 then 50
    else if nat_le 201 id && nat_le id 204 then 105
    else 0

-- The statement that, for each SunSpec model ID, the table of the model's points is valid.
-- `is_lawful_table` defines this: points in order of offset and inside the model, with their scale
-- points in the table.
abbrev pub TablesAreLawful : Type 0
TablesAreLawful = (id : ℕ) → IsTrue (is_lawful_table (length_of_known id) (table_of id))

-- True if the points are in order of address, do not overlap, and begin at or after the given
-- address.
abbrev pub StandInOrder : ℕ → List Named → Type 0
StandInOrder from [] = Unit {0}
StandInOrder from (point ∷ points) =
    (from ≤ point.address) × StandInOrder (point.address + registers_of point.ty) points
