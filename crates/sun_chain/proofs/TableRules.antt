-- Proves that each model table is valid (`is_lawful_table`: its points are in order of offset, do
-- not overlap and lie inside the model). The points of a model are therefore in order of address.
use Rattle.std.proofs.Common.{◌≡◌, ℕ, ◌+◌, ◌≤◌, Bool, true, false, ◌&&◌, ◌==◌, nat_le, if◌then◌else◌, Option, Some, None, List, [], ◌∷◌, filter_map, option_map, arith, refl, leb-true}
use Rattle.std.specs.List.{cons_option}
use Rattle.sun_points.specs.PointType.{registers_of}
use Rattle.sun_points.specs.Point.{Value}
use Rattle.sun_chain.specs.Image.{Words}
use Rattle.sun_chain.specs.Points.{Named, point_in, points_in, point_scale, scale_word_in, value_in}
use Rattle.sun_chain.specs.Tables.{Row, common_table, inverter_table, meter_table, table_of}
use Rattle.sun_chain.specs.TableRules.{TablesAreLawful, StandInOrder, ascends_from, end_of_row, has_its_scale, is_lawful_table, length_of_known, lies_inside}
use Rattle.std.specs.List.{list_all}
use Rattle.sun_chain.specs.declared.model.Model.{Model}
use Rattle.sun_chain.specs.declared.named_point.PointScale.{PointScale}
use Rattle.sun_chain.proofs.Readings.{and-left, and-right}

pub tables_are_lawful : TablesAreLawful
tables_are_lawful id = tests (id == 1) (nat_le 101 id && nat_le id 103) (nat_le 201 id && nat_le id 204)
  where
    tests : (common inverter meter : Bool) →
        is_lawful_table (if common then 65 else if inverter then 50 else if meter then 105 else 0)
        (if common then common_table else if inverter then inverter_table else if meter then meter_table else []) ≡ true
    tests true inverter meter = refl
    tests false true meter = refl
    tests false false true = refl
    tests false false false = refl

-- If points of a model are in order of address and begin at or after an address, they also begin at
-- or after each lower address.
in_order_from_less : (from later : ℕ) (points : List Named) → from ≤ later → StandInOrder later points → StandInOrder from points
in_order_from_less from later [] below stand = tt
in_order_from_less from later (point ∷ points) below stand =
    let first : later ≤ point.address = stand.0 in
    (omega (arith, first), stand.1)

-- Suppose that a list of a model's points is in order of address. If the point of the preceding row
-- of the model's table was read, putting it before the list keeps the order.
one_before : (model : Model) (from : ℕ) (row : Row) (scale : PointScale) (found : Option Value) (following : List Named) → from ≤ row.offset →
    StandInOrder (model.address + end_of_row row) following →
    StandInOrder (model.address + from)
    (cons_option (option_map (λ value. record { name = row.name; address = model.address + row.offset; ty = row.ty; value = value; scale = scale }) found) following)
one_before model from row scale None following begins stand =
    in_order_from_less (model.address + from) (model.address + end_of_row row) following (omega arith) stand
one_before model from row scale (Some value) following begins stand =
    (omega arith, in_order_from_less (model.address + row.offset + registers_of row.ty) (model.address + end_of_row row) following (omega arith) stand)

rows_in_order : (word : Words) (model : Model) (from : ℕ) (rows : List Row) → ascends_from from rows ≡ true →
    StandInOrder (model.address + from) (filter_map (point_in word model) rows)
rows_in_order word model from [] ascends = tt
rows_in_order word model from (row ∷ rows) ascends =
    let begins : from ≤ row.offset = leb-true from row.offset (and-left (nat_le from row.offset) (ascends_from (end_of_row row) rows) ascends) in
    let others : ascends_from (end_of_row row) rows ≡ true = and-right (nat_le from row.offset) (ascends_from (end_of_row row) rows) ascends in
    one_before model from row (point_scale (scale_word_in word model row.scale)) (value_in word model row) (filter_map (point_in word model) rows) begins
    (rows_in_order word model (end_of_row row) rows others)

lawful_ascends : (size : ℕ) (rows : List Row) → is_lawful_table size rows ≡ true → ascends_from 2 rows ≡ true
lawful_ascends size rows lawful =
    let inside : ascends_from 2 rows && list_all (lies_inside size) rows ≡ true =
    and-left (ascends_from 2 rows && list_all (lies_inside size) rows) (list_all (has_its_scale rows) rows) lawful in
    and-left (ascends_from 2 rows) (list_all (lies_inside size) rows) inside

pub points_in_order : (word : Words) (model : Model) → StandInOrder (model.address + 2) (points_in word model)
points_in_order word model =
    rows_in_order word model 2 (table_of model.id) (lawful_ascends (length_of_known model.id) (table_of model.id) (tables_are_lawful model.id))
