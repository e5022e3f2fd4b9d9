-- Defines the point list (the registers to poll) that is computed from a device's chain of SunSpec
-- models.
use Rattle.std.specs.Prelude.{ℕ, ◌+◌, nat_le, if◌then◌else◌, List, [], ◌∷◌, ◌++◌, length, map, codes, Some, None, IfSome, IsTrue}
use Rattle.std.specs.declared.option.Option.{Option}
use Rattle.std.specs.Fmt.{decimal}
use Rattle.std.specs.List.{list_any}
use Rattle.std.specs.Str.{bytes_eq}
use Rattle.sun_chain.specs.Chain.{models_of, words_of}
use Rattle.sun_chain.specs.Image.{Words}
use Rattle.sun_chain.specs.Points.{points_in}
use Rattle.sun_chain.specs.Points.{Named as ModelPoint}
use Rattle.sun_chain.specs.Tables.{scale_name_in, table_of}
use Rattle.sun_chain.specs.declared.chain.Chain.{Chain}
use Rattle.sun_chain.specs.declared.model.Model.{Model}
use Rattle.point_list.specs.Names.{is_name}
use Rattle.point_list.specs.declared.fault.FaultyRow.{FaultyRow}
use Rattle.point_list.specs.declared.fault.RowFault.TheVariants.{TooMany}
use Rattle.point_list.specs.declared.lawful.TheConstants.{POINT_LIMIT}
use Rattle.point_list.specs.declared.rows.TheConstants.{ROW_LIMIT}
use Rattle.point_list.specs.declared.point.ListedPoint.{ListedPoint}
use Rattle.point_list.specs.declared.point.PointScale.{PointScale}
use Rattle.point_list.specs.declared.point.PointScale.TheVariants.{Unscaled, Named}
use Rattle.mb_wire.specs.declared.span.ReadFunction.TheVariants.{HoldingRegisters}

-- The name of a SunSpec model's point in a point list: `m`, the model's number in the chain, `.`
-- and the point's name in the model.
abbrev pub chain_name : ℕ → List ℕ → List ℕ
chain_name place name = codes "m" ++ (decimal place ++ (codes "." ++ name))

-- The scale of a point of the SunSpec model with the given number. It is the scale factor point
-- with the given name, or `Unscaled` if the point has no such name or the scale factor point was
-- not read.
abbrev pub chain_scale : ℕ → List ModelPoint → Option (List ℕ) → PointScale
chain_scale place others None = Unscaled
chain_scale place others (Some name) =
    if list_any (λ other. bytes_eq other.name name) others then Named (chain_name place name)
    else Unscaled

-- The point list's entry for a point of a SunSpec model, read from holding registers. The list has
-- all points of the model, among them the scale point (scale factor), if it was read.
abbrev pub listed : ℕ → ℕ → List ModelPoint → ModelPoint → ListedPoint
listed place id others point = record {
  name = chain_name place point.name;
  function = HoldingRegisters;
  area = 0;
  address = point.address;
  kind = point.ty;
  scale = chain_scale place others (scale_name_in (table_of id) point.name);
}

-- True if the name of the point's scale point (SunSpec scale factor) is valid in a point list, or
-- the point has no scale point.
abbrev pub HasScaleName : (place id : ℕ) → ModelPoint → Type 0
HasScaleName place id point =
    IfSome (scale_name_in (table_of id) point.name)
    (λ name. IsTrue (is_name (chain_name place name)))

-- The point list's entries for all points that were read of the SunSpec model with the given
-- number.
abbrev pub model_points : Words → ℕ → Model → List ListedPoint
model_points word place model =
    map (listed place model.id (points_in word model)) (points_in word model)

-- The point list's entries for consecutive SunSpec models, which are numbered from the given number
-- on.
abbrev pub points_from : Words → ℕ → List Model → List ListedPoint
points_from word place [] = []
points_from word place (model ∷ models) =
    model_points word place model ++ points_from word (place + 1) models

-- The point list's entries for a device's chain of SunSpec models. The first model of the chain has
-- number 1.
abbrev pub points_of_chain : Chain → List ListedPoint
points_of_chain chain = points_from (words_of chain) 1 (models_of chain)

-- The faulty rows of the point list of a chain of SunSpec models: `TooMany` on row 514 if there are
-- more than 512 points, otherwise none.
abbrev pub chain_faults : List ListedPoint → List FaultyRow
chain_faults points =
    if nat_le (length points) POINT_LIMIT then []
    else record { row = ROW_LIMIT; fault = TooMany } ∷ []
