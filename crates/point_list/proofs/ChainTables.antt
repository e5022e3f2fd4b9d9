-- Properties of the SunSpec model tables. Each row of such a table describes one point. Because of
-- these properties, the points of a chain of models form a valid point list.
use Rattle.std.proofs.Common.{◌≡◌, ℕ, Bool, true, false, List, [], ◌∷◌, length, refl}
use Rattle.std.specs.Prelude.{◌==◌, ◌&&◌, ◌||◌, nat_le, not, if◌then◌else◌}
use Rattle.std.specs.List.{list_all}
use Rattle.std.specs.Option.{option_map_or}
use Rattle.std.specs.Str.{bytes_eq}
use Rattle.sun_points.specs.PointType.{registers_of}
use Rattle.sun_chain.specs.Tables.{Row, common_table, inverter_table, meter_table, scale_name_in, table_of}
use Rattle.sun_chain.specs.TableRules.{end_of_row}
use Rattle.point_list.specs.Names.{is_name_byte}
use Rattle.point_list.specs.Points.{is_sunssf, takes_scale}

-- True if the name of a SunSpec point has at most 20 bytes, all of them allowed in point names.
abbrev pub is_short : List ℕ → Bool
is_short name = nat_le (length name) 20 && list_all is_name_byte name

-- True if a row of a SunSpec model table can have a scale point with the given name. The name has
-- at most 20 bytes, each row with this name is a sunssf point, and the row's type may have a scale.
abbrev pub is_scaled_by : List Row → Row → List ℕ → Bool
is_scaled_by rows row name = is_short name && takes_scale row.ty && list_all (λ other. not (bytes_eq other.name name) || is_sunssf other.ty) rows

abbrev pub is_good_row : List Row → Row → Bool
is_good_row rows row =
    is_short row.name && nat_le 1 (registers_of row.ty) && nat_le (end_of_row row) 125 && option_map_or (is_scaled_by rows row) (scale_name_in rows row.name) true

abbrev pub have_other_names : List Row → Bool
have_other_names [] = true
have_other_names (row ∷ rows) = list_all (λ other. not (bytes_eq row.name other.name)) rows && have_other_names rows

abbrev pub is_good_table : List Row → Bool
is_good_table rows = list_all (is_good_row rows) rows && have_other_names rows

pub good-tables : (id : ℕ) → is_good_table (table_of id) ≡ true
good-tables id = tests (id == 1) (nat_le 101 id && nat_le id 103) (nat_le 201 id && nat_le id 204)
  where
    tests : (common inverter meter : Bool) → is_good_table (if common then common_table else if inverter then inverter_table else if meter then meter_table else []) ≡ true
    tests true inverter meter = refl
    tests false true meter = refl
    tests false false true = refl
    tests false false false = refl
