-- Conversions from rows of the table `points` to the SunSpec points that a device is polled for.
use Rattle.std.specs.Prelude.{◌≡◌, ℕ, true, List, Option, Some, None, Result, Ok, Err}
use Rattle.std.specs.List.{AllByRecursion}
use Rattle.point_list.specs.declared.point.ListedPoint.{ListedPoint}
use Rattle.sun_points.specs.declared.point_type.PointType.{PointType}
use Rattle.point_list.specs.declared.point.PointScale.{PointScale}
use Rattle.point_list.specs.Fields.{type_of}
use Rattle.point_list.specs.Lists.{name_spelled, scale_spelled}
use Rattle.point_list.specs.Names.{is_name}
use Rattle.point_list.specs.RowTexts.{type_text, scale_text}
use Rattle.office_events.specs.declared.facts.Fact.{Fact}
use Rattle.store_tables.specs.declared.faults.RowFault.{RowFault}
use Rattle.store_tables.specs.Columns.{or_damaged, and_then}
use Rattle.store_tables.specs.declared.devices.rows.PointRow.{PointRow}
use Rattle.store_tables.specs.Devices.Rows.{Listed, IsSoundListed}
use Rattle.office_store.specs.Rows.{placed_on, listed, points_of}

-- The SunSpec point with the given texts and numbers, or `Damaged` if a text can't be parsed.
abbrev pub point_with : (name kind scale : List ℕ) → PointRow → Result ListedPoint RowFault
point_with named typed scaled row =
    and_then (or_damaged (name_spelled named)) (λ name.
    and_then (or_damaged (type_of typed)) (λ kind.
    and_then (or_damaged (scale_spelled scaled)) (λ scale.
    Ok (record {
      name = name;
      function = row.function;
      area = row.area;
      address = row.address;
      kind = kind;
      scale = scale;
    }))))

-- True if the texts that the table `points` stores for a SunSpec point's type and scale can be
-- parsed as this type and scale.
pub record IsSpelled (p : ListedPoint) : Type 0 where
  pub kind : type_of (type_text p.kind) ≡ Some p.kind
  pub scale : scale_spelled (scale_text p.scale) ≡ Some p.scale

-- States that, if a row of `points` encodes a SunSpec point, and the row's texts for type and scale
-- can be parsed, the encoded point is the given one.
abbrev pub IsPointOf : Listed → ListedPoint → Type 0
IsPointOf row point = (device : List ℕ) (place : ℕ) (p : ListedPoint) → IsSpelled p
    → row ≡ listed device place p → point ≡ p

-- True if the numbers of a point's row are in their ranges, and its texts parse as a name, a type
-- and a scale.
pub record IsReadablePoint (p : Listed) : Type 0 where
  pub row : IsSoundListed p
  pub name : is_name p.name ≡ true
  pub kind : (k : PointType) × (type_of p.kind ≡ Some k)
  pub scale : (s : PointScale) × (scale_spelled p.scale ≡ Some s)

-- True if every row of `points` for a device can be read.
abbrev pub HasReadablePoints : List Fact → (device : List ℕ) → Type 0
HasReadablePoints facts device =
    AllByRecursion IsReadablePoint (placed_on (listed device) 0 (points_of facts device))
