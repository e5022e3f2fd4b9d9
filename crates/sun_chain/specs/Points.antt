-- Defines the points of a SunSpec model in the words that were read from a device.
use Rattle.std.specs.Prelude.{ℕ, ℤ, pos, ◌+◌, nat_le, if◌then◌else◌, List, Some, None, option_map, unwrap_or, filter_map, codes}
use Rattle.std.specs.declared.option.Option.{Option}
use Rattle.sun_points.specs.PointType.{registers_of}
use Rattle.sun_points.specs.Point.{Value, Absent, Signed, Unsigned, Bits, Text, value_of}
use Rattle.sun_points.specs.Point.{seen as point_seen}
use Rattle.sun_points.specs.PointText.{point_text}
use Rattle.sun_points.specs.Scale.{scale_of}
use Rattle.sun_points.specs.declared.point_type.PointType.{PointType}
use Rattle.sun_chain.specs.Image.{Words, words_in}
use Rattle.sun_chain.specs.Tables.{Row, table_of, type_of}
use Rattle.sun_chain.specs.declared.model.Model.{Model}
use Rattle.sun_chain.specs.declared.named_point.PointScale.{PointScale}
use Rattle.sun_chain.specs.declared.named_point.PointScale.TheVariants.{Unscaled, Scaled, Faulty}
use Rattle.sun_chain.specs.declared.named_point.NamedPoint.{NamedPoint}

-- A point of a SunSpec model as a value that borrows no memory.
pub record Named : Type 0 where
  pub name : List ℕ
  pub address : ℕ
  pub ty : PointType
  pub value : Value
  pub scale : PointScale

-- The scale of a point with the given exponent (power of ten), or `Faulty` if the exponent is
-- `None`.
abbrev pub scaled_or_faulty : Option ℤ → PointScale
scaled_or_faulty None = Faulty
scaled_or_faulty (Some exponent) = Scaled exponent

-- The scale of a point, decoded from the register value of its scale point.
abbrev pub scale_said : ℕ → PointScale
scale_said word = scaled_or_faulty (scale_of word)

-- The scale of a point, decoded from the register value of its scale point, or `Unscaled` if the
-- point has no scale point.
abbrev pub point_scale : Option ℕ → PointScale
point_scale None = Unscaled
point_scale (Some word) = scale_said word

-- A `NamedPoint` (a point of a SunSpec model) as a value that borrows no memory.
abbrev pub seen : NamedPoint → Named
seen point = record {
  name = point.name.now;
  address = point.address;
  ty = type_of point.ty;
  value = point_seen point.value;
  scale = point_scale point.scale_word;
}

-- The given number of registers from an offset of a model on, or `None` unless they lie inside the
-- model and were read.
abbrev pub registers_in : Words → Model → ℕ → ℕ → Option (List ℕ)
registers_in word model offset count =
    if nat_le (offset + count) (2 + model.length) then words_in word (model.address + offset) count
    else None

-- The register at an offset of a model, or `None` unless the register lies inside the model and was
-- read.
abbrev pub register_in : Words → Model → ℕ → Option ℕ
register_in word model offset =
    if nat_le (offset + 1) (2 + model.length) then word (model.address + offset) else None

-- The register value of the scale point at the given offset of a model, or `None` without a scale
-- point. A scale point that is outside the model or was not read counts as 0.
abbrev pub scale_word_in : Words → Model → Option ℕ → Option ℕ
scale_word_in word model scale =
    option_map (λ offset. unwrap_or (register_in word model offset) 0) scale

-- The value of a table's row (a point) in a model, or `None` unless all of its registers lie inside
-- the model and were read.
abbrev pub value_in : Words → Model → Row → Option Value
value_in word model row =
    option_map (value_of row.ty) (registers_in word model row.offset (registers_of row.ty))

-- A table's row (a point) in a model, with its value and its scale. `None` unless all registers of
-- the point lie inside the model and were read.
abbrev pub point_in : Words → Model → Row → Option Named
point_in word model row =
    option_map
    (λ value. record {
      name = row.name;
      address = model.address + row.offset;
      ty = row.ty;
      value = value;
      scale = point_scale (scale_word_in word model row.scale);
    })
    (value_in word model row)

-- The points of a model that were read, in the order of the model's table.
abbrev pub points_in : Words → Model → List Named
points_in word model = filter_map (point_in word model) (table_of model.id)

-- The text of a value with a faulty scale: `absent` for an absent value, otherwise `faulty`.
abbrev pub faulty_text : Value → List ℕ
faulty_text Absent = codes "absent"
faulty_text (Signed value) = codes "faulty"
faulty_text (Unsigned value) = codes "faulty"
faulty_text (Bits bits) = codes "faulty"
faulty_text (Text words) = codes "faulty"

-- The text of a value at the scale of the value's point.
abbrev pub value_text : Value → PointScale → List ℕ
value_text value Unscaled = point_text value (pos 0)
value_text value (Scaled exponent) = point_text value exponent
value_text value Faulty = faulty_text value
