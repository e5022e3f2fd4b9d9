-- Defines the faults of a row of a point list, the CSV text with one row for each point to poll.
use Rattle.std.specs.Prelude.{ℕ, ◌+◌, Bool, false, nat_le, nat_lt, not, ◌||◌, if◌then◌else◌, List, [], ◌∷◌, Some, None, is_none, is_some}
use Rattle.std.specs.declared.option.Option.{Option}
use Rattle.std.specs.List.{list_any}
use Rattle.std.specs.Option.{option_map_or}
use Rattle.std.specs.Str.{bytes_eq}
use Rattle.sun_points.specs.declared.point_type.PointType.{PointType}
use Rattle.sun_points.specs.PointType.{registers_of}
use Rattle.point_list.specs.declared.fault.RowFault.{RowFault}
use Rattle.point_list.specs.declared.fault.RowFault.TheVariants.{Csv, Header, Name, DoubleName, Function, Area, Address, «Type», Scale, NoSuchScale, GroupTooWide, TooMany}
use Rattle.point_list.specs.declared.lawful.TheConstants.{POINT_LIMIT}
use Rattle.mb_wire.specs.declared.limits.TheConstants.{ADDRESSES}
use Rattle.point_list.specs.declared.row.RowFields.{RowFields}
use Rattle.point_list.specs.Fields.{fixed_scale_of, function_of, number_within, type_of}
use Rattle.point_list.specs.Names.{is_name}
use Rattle.point_list.specs.Points.{takes_scale}

-- The numeric code that the program prints for each fault of a point list's row.
abbrev pub fault_number : RowFault → ℕ
fault_number Csv = 1
fault_number Header = 2
fault_number Name = 3
fault_number DoubleName = 4
fault_number Function = 5
fault_number Area = 6
fault_number Address = 7
fault_number «Type» = 8
fault_number Scale = 9
fault_number NoSuchScale = 10
fault_number GroupTooWide = 11
fault_number TooMany = 12

-- The six fields of a row of a point list, as texts.
pub record RowText : Type 0 where
  pub name : List ℕ
  pub function : List ℕ
  pub area : List ℕ
  pub address : List ℕ
  pub kind : List ℕ
  pub scale : List ℕ

-- The fields of a point list's row by name, or `None` unless the row has exactly six fields.
abbrev pub six_fields : List (List ℕ) → Option RowText
six_fields (a ∷ b ∷ c ∷ d ∷ e ∷ f ∷ []) =
    Some (record { name = a; function = b; area = c; address = d; kind = e; scale = f })
six_fields _ = None

-- True if a row of a point list has six fields and the first field equals the given name.
abbrev pub has_name : List ℕ → List (List ℕ) → Bool
has_name name fields = option_map_or (λ row. bytes_eq row.name name) (six_fields fields) false

-- True if the field of a row is not a whole number from the first limit to the second limit.
abbrev pub is_no_number : ℕ → ℕ → List ℕ → Bool
is_no_number low high field = is_none (number_within low high field)

-- True if a point of this type at this address extends past address 65535. False if the address or
-- the type is unknown.
abbrev pub reaches_past : Option ℕ → Option PointType → Bool
reaches_past (Some address) (Some kind) = nat_lt ADDRESSES (address + registers_of kind)
reaches_past _ _ = false

-- True if a field of a point list's row encodes a fixed scale, a number from -10 to 10.
abbrev pub is_fixed_scale : List ℕ → Bool
is_fixed_scale field = is_some (fixed_scale_of field)

-- True if a nonempty scale field is invalid: it is no number from -10 to 10 and no name, or the
-- type allows no scale. An empty field is valid.
abbrev pub is_bad_scale : List ℕ → Option PointType → Bool
is_bad_scale [] kind = false
is_bad_scale (first ∷ rest) kind =
    not (is_fixed_scale (first ∷ rest) || is_name (first ∷ rest))
    || option_map_or (λ k. not (takes_scale k)) kind false

-- The first fault whose condition is true, in a list of faults with their conditions. `None` if no
-- condition is true.
abbrev pub first_of : List (RowFault × Bool) → Option RowFault
first_of [] = None
first_of (fault ∷ faults) = if fault.1 then Some fault.0 else first_of faults

-- Each fault of a point list's row with its condition, for a row of six fields at an index below
-- the header. The flag is true if an earlier row has the same name.
abbrev pub conditions_where : Bool → ℕ → RowText → List (RowFault × Bool)
conditions_where taken place row =
    (Name, not (is_name row.name))
    ∷ (DoubleName, taken)
    ∷ (Function, is_none (function_of row.function))
    ∷ (Area, is_no_number 0 255 row.area)
    ∷ (
      Address,
      is_no_number 0 65535 row.address
          || reaches_past (number_within 0 65535 row.address) (type_of row.kind),
    )
    ∷ («Type», is_none (type_of row.kind))
    ∷ (Scale, is_bad_scale row.scale (type_of row.kind))
    ∷ (TooMany, nat_le POINT_LIMIT place)
    ∷ []

-- Each fault of a point list's row with its condition, for a row of six fields. `earlier` has the
-- rows before it.
abbrev pub conditions : ℕ → List (List (List ℕ)) → RowText → List (RowFault × Bool)
conditions place earlier row = conditions_where (list_any (has_name row.name) earlier) place row

-- The first fault of a point list's row, or `None`. `earlier` has the rows before it. Faults of the
-- row's scale point (SunSpec scale factor) are not considered.
abbrev pub least_fault : ℕ → List (List (List ℕ)) → List (List ℕ) → Option RowFault
least_fault place earlier fields =
    option_map_or (λ row. first_of (conditions place earlier row)) (six_fields fields) (Some Csv)

-- The six fields of a point list's row as texts, converted from the program's `RowFields`.
abbrev pub seen_row : RowFields → RowText
seen_row row =
    record {
      name = row.name.now;
      function = row.function.now;
      area = row.area.now;
      address = row.address.now;
      kind = row.kind.now;
      scale = row.scale.now;
    }
