-- Defines the CSV text of a point list, as the crate `csv` writes it.
use Rattle.std.specs.Prelude.{ℕ, List, [], ◌∷◌, ◌++◌, map, codes}
use Rattle.std.specs.Fmt.{decimal, signed_decimal}
use Rattle.csv.specs.Writing.{default_writer, row_text}
use Rattle.sun_points.specs.declared.point_type.PointType.{PointType}
use Rattle.sun_points.specs.declared.point_type.PointType.TheVariants as kind
use Rattle.point_list.specs.declared.point.ListedPoint.{ListedPoint}
use Rattle.point_list.specs.declared.point.PointScale.{PointScale}
use Rattle.point_list.specs.declared.point.PointScale.TheVariants.{Unscaled, Fixed, Named}
use Rattle.mb_wire.specs.Spans.{code_of}

-- The text that a point list (CSV) has for a point type.
abbrev pub type_text : PointType → List ℕ
type_text kind.Int16 = codes "int16"
type_text kind.Uint16 = codes "uint16"
type_text kind.Enum16 = codes "enum16"
type_text kind.Int32 = codes "int32"
type_text kind.Uint32 = codes "uint32"
type_text kind.Bitfield32 = codes "bitfield32"
type_text kind.Acc32 = codes "acc32"
type_text kind.Sunssf = codes "sunssf"
type_text (kind.Text registers) = codes "string" ++ decimal registers

-- The text that a point list (CSV) has for a point's scale, or an empty text for a point without a
-- scale.
abbrev pub scale_text : PointScale → List ℕ
scale_text Unscaled = []
scale_text (Fixed exponent) = signed_decimal exponent
scale_text (Named name) = name

-- The six fields of the row that a point list (CSV) has for a point.
abbrev pub row_of : ListedPoint → List (List ℕ)
row_of point =
    point.name ∷ decimal (code_of point.function) ∷ decimal point.area ∷ decimal point.address
    ∷ type_text point.kind ∷ scale_text point.scale ∷ []

-- The six fields of the header of a point list.
abbrev pub header_row : List (List ℕ)
header_row = codes "name" ∷ codes "function" ∷ codes "area" ∷ codes "address" ∷ codes "type"
    ∷ codes "scale" ∷ []

-- The CSV text of a list of rows, where each row is a list of fields.
unfoldable pub rows_text : List (List (List ℕ)) → List ℕ
rows_text [] = []
rows_text (row ∷ rows) = row_text default_writer row ++ rows_text rows

-- The CSV text of a point list, with its header.
abbrev pub list_text : List ListedPoint → List ℕ
list_text points = rows_text (header_row ∷ map row_of points)
