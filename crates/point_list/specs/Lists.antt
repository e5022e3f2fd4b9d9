-- Defines the point list that the rows of a CSV text encode, and the faulty rows of such a text.
use Rattle.std.specs.Prelude.{ℕ, zero, suc, ◌≡◌, ◌≢◌, ◌+◌, Bool, false, ◌==◌, nat_le, ◌&&◌, if◌then◌else◌, List, [], ◌∷◌, ◌++◌, length, map, take, drop, max, min, slice_index_or, codes, Some, None}
use Rattle.std.specs.declared.option.Option.{Option}
use Rattle.std.specs.List.{flat_map}
use Rattle.std.specs.Option.{option_and_then, option_map, option_map_or, option_or, option_to_list}
use Rattle.std.specs.Str.{bytes_eq}
use Rattle.point_list.specs.declared.fault.FaultyRow.{FaultyRow}
use Rattle.point_list.specs.declared.fault.ListFault.{ListFault}
use Rattle.point_list.specs.declared.fault.ListFault.TheVariants.{Faults, Memory}
use Rattle.point_list.specs.declared.fault.RowFault.{RowFault}
use Rattle.point_list.specs.declared.fault.RowFault.TheVariants.{Header, NoSuchScale, GroupTooWide}
use Rattle.point_list.specs.declared.point.ListedPoint.{ListedPoint}
use Rattle.point_list.specs.declared.point.PointScale.{PointScale}
use Rattle.point_list.specs.declared.point.PointScale.TheVariants.{Unscaled, Fixed, Named}
use Rattle.point_list.specs.Faults.{RowText, least_fault, six_fields}
use Rattle.point_list.specs.Fields.{fixed_scale_of, function_of, number_within, type_of}
use Rattle.point_list.specs.Names.{is_name}
use Rattle.mb_wire.specs.Spans.{code_of}
use Rattle.point_list.specs.Points.{end_of, scale_point}
use Rattle.point_list.specs.Rows.{csv_rows}
use Rattle.point_list.specs.declared.rows.TheConstants.{ROW_LIMIT}
use Rattle.mb_wire.specs.declared.limits.TheConstants.{MAX_READ_REGISTERS}

-- The scale that refers to a scale point (SunSpec scale factor) by the name in a field. `None` if
-- the field is not a valid name.
abbrev pub named_scale : List ℕ → Option PointScale
named_scale field = if is_name field then Some (Named field) else None

-- The scale that a field encodes: no scale, a number from -10 to 10, or the name of a scale point
-- (SunSpec scale factor). `None` for any other field.
abbrev pub scale_spelled : List ℕ → Option PointScale
scale_spelled [] = Some Unscaled
scale_spelled (first ∷ rest) =
    option_or (option_map Fixed (fixed_scale_of (first ∷ rest))) (named_scale (first ∷ rest))

-- The point name that a field encodes, or `None` if the field is not a valid name.
abbrev pub name_spelled : List ℕ → Option (List ℕ)
name_spelled field = if is_name field then Some field else None

-- The point with the given name, the given scale, and the other four fields of a row. `None` if a
-- field is invalid.
abbrev pub spelled_with : Option (List ℕ) → Option PointScale → RowText → Option ListedPoint
spelled_with spelled scaled row =
    option_and_then (λ name.
    option_and_then (λ function.
    option_and_then (λ area.
    option_and_then (λ address.
    option_and_then (λ kind.
    option_map (λ scale.
    record {
      name = name;
      function = function;
      area = area;
      address = address;
      kind = kind;
      scale = scale;
    })
    scaled) (type_of row.kind)) (number_within 0 65535 row.address)) (number_within 0 255 row.area))
    (function_of row.function)) spelled

-- The point that the six fields of a point list's row encode, or `None` if a field is invalid.
abbrev pub point_spelled : RowText → Option ListedPoint
point_spelled row = spelled_with (name_spelled row.name) (scale_spelled row.scale) row

-- The point that a CSV row encodes, or `None` if a field is invalid or the row does not have six
-- fields.
abbrev pub point_of_row : List (List ℕ) → Option ListedPoint
point_of_row fields = option_and_then point_spelled (six_fields fields)

-- The points that a list of CSV rows encodes, in order. Rows with an invalid field are skipped.
abbrev pub points_of : List (List (List ℕ)) → List ListedPoint
points_of rows = flat_map (λ fields. option_to_list (point_of_row fields)) rows

-- The first fault, or `None`, of the row at an index below the header of a point list. The first
-- row below the header has index 0.
abbrev pub row_fault : List (List (List ℕ)) → ℕ → Option RowFault
row_fault rows place = least_fault place (take place rows) (slice_index_or rows place [])

-- The first fault (or `None`) of each of the first rows below the header of a point list. The
-- second argument is how many rows are checked.
abbrev pub row_faults : List (List (List ℕ)) → ℕ → List (Option RowFault)
row_faults rows zero = []
row_faults rows (suc n) = row_faults rows n ++ (row_fault rows n ∷ [])

-- True if one Modbus read can cover a point and its scale point: they have the same function and
-- area number, and span at most 125 registers.
abbrev pub is_one_group : ListedPoint → ListedPoint → Bool
is_one_group point scale =
    (code_of point.function == code_of scale.function) && (point.area == scale.area)
    && nat_le (max (end_of point) (end_of scale))
    (min point.address scale.address + MAX_READ_REGISTERS)

-- The fault of a point with the given scale point (SunSpec scale factor), or `None`. The scale
-- point is `None` if the list has no point with the scale point's name.
abbrev pub group_fault : ListedPoint → Option ListedPoint → Option RowFault
group_fault point None = Some NoSuchScale
group_fault point (Some scale) = if is_one_group point scale then None else Some GroupTooWide

-- The fault of a point's scale, or `None`. Only a scale given by name can have a fault.
abbrev pub scale_fault : List ListedPoint → ListedPoint → PointScale → Option RowFault
scale_fault points point (Named name) = group_fault point (scale_point points name)
scale_fault points point _ = None

-- For each point in the list `some`, the fault of its scale, or `None`. `points` has all points of
-- the point list, among which each scale point is searched by its name.
abbrev pub scale_faults : List ListedPoint → List ListedPoint → List (Option RowFault)
scale_faults points some = map (λ point. scale_fault points point point.scale) some

-- The rows of a point list that have a fault, in order. The first argument is the number of the
-- first row.
abbrev pub faulty_rows : ℕ → List (Option RowFault) → List FaultyRow
faulty_rows row [] = []
faulty_rows row (None ∷ faults) = faulty_rows (row + 1) faults
faulty_rows row (Some fault ∷ faults) =
    record { row = row; fault = fault } ∷ faulty_rows (row + 1) faults

-- The first list of faulty rows, or the second list if the first list is empty.
abbrev pub or_else : List FaultyRow → List FaultyRow → List FaultyRow
or_else [] others = others
or_else (row ∷ rows) others = row ∷ rows

-- The faulty rows among the first `count` rows below the header of a point list, without faults of
-- scale points (SunSpec scale factors). The header is row 1.
abbrev pub faulty_first : List (List (List ℕ)) → (count : ℕ) → List FaultyRow
faulty_first rows count = faulty_rows 2 (row_faults rows count)

-- The rows of points whose scale has a fault. The first point is on row 2.
abbrev pub faulty_points : List ListedPoint → List FaultyRow
faulty_points points = faulty_rows 2 (scale_faults points points)

-- The faulty rows below the header of a point list. Faults of scale points (SunSpec scale factors)
-- are reported only if no row has another fault.
abbrev pub faults_below : List (List (List ℕ)) → List FaultyRow
faults_below rows = or_else (faulty_first rows (length rows)) (faulty_points (points_of rows))

-- True if the six fields of a row are the header of a point list:
-- `name,function,area,address,type,scale`.
abbrev pub is_header_text : RowText → Bool
is_header_text row =
    bytes_eq row.name (codes "name") && bytes_eq row.function (codes "function")
    && bytes_eq row.area (codes "area")
    && bytes_eq row.address (codes "address") && bytes_eq row.kind (codes "type")
    && bytes_eq row.scale (codes "scale")

-- True if the row is the header of a point list.
abbrev pub is_header : List (List ℕ) → Bool
is_header fields = option_map_or is_header_text (six_fields fields) false

-- The faulty rows of a point list's text that has no valid header: only row 1, with the fault
-- `Header`.
abbrev pub no_header : List FaultyRow
no_header = record { row = 1; fault = Header } ∷ []

-- The faulty rows of a point list's text. If the header is wrong, only the header's row is
-- reported.
abbrev pub list_faults : List (List (List ℕ)) → List FaultyRow
list_faults [] = no_header
list_faults (header ∷ rows) = if is_header header then faults_below rows else no_header

-- The rows of a CSV text that `read_list` reads: the header, and at most 513 rows below the header.
abbrev pub rows_read : List ℕ → List (List (List ℕ))
rows_read text = take ROW_LIMIT (csv_rows text)

-- True if there are as many CSV rows as points, and each row encodes the point with the same index.
abbrev pub SpellEach : List (List (List ℕ)) → List ListedPoint → Type 0
SpellEach rows points = map point_of_row rows ≡ map (λ point. Some point) points

-- True if no CSV row below the header of a point list is faulty, and each row encodes the element
-- of `points` with the same index.
abbrev pub SpellsBelow : List (List (List ℕ)) → List ListedPoint → Type 0
SpellsBelow rows points = (faults_below rows ≡ []) × SpellEach rows points

-- True if the CSV text encodes this point list: no row is faulty, and each row below the header
-- encodes the point with the same index.
pub record SpellsList (text : List ℕ) (points : List ListedPoint) : Type 0 where
  pub faultless : list_faults (rows_read text) ≡ []
  pub each : SpellEach (drop 1 (csv_rows text)) points

-- True if the reported faulty rows are exactly the faulty rows of the text, and there is at least
-- one faulty row.
abbrev pub AreFaults : List FaultyRow → List FaultyRow → Type 0
AreFaults faulty reported = (reported ≡ faulty) × (reported ≢ [])

-- True if the fault explains why a CSV text with the given faulty rows is no point list. The fault
-- that memory ran out may occur with any text.
abbrev pub ExplainsList : List FaultyRow → ListFault → Type 0
ExplainsList faulty Memory = Unit {0}
ExplainsList faulty (Faults reported) = AreFaults faulty reported

-- The numeric code that the program prints for a fault of a point list. `Faults` has no code,
-- because each faulty row is printed with its own code.
abbrev pub list_fault_number : ListFault → Option ℕ
list_fault_number Memory = Some 13
list_fault_number (Faults reported) = None
