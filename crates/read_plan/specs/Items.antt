-- Defines the register ranges of points, and the items of a point list. An item is a range of
-- registers that one read must contain completely.
use Rattle.std.specs.Prelude.{◌≡◌, ℕ, List, map, max, min, Some, None}
use Rattle.std.specs.declared.option.Option.{Option}
use Rattle.std.specs.Borrow.{Bor}
use Rattle.std.specs.BTreeMap.{BTreeMap, get_by}
use Rattle.std.specs.Cmp.Lexicographic.{slice_cmp}
use Rattle.std.specs.Option.{option_map}
use Rattle.std.specs.Ordering.{nat_cmp}
use Rattle.point_list.specs.Points.{end_of, scale_point}
use Rattle.point_list.specs.declared.point.ListedPoint.{ListedPoint}
use Rattle.point_list.specs.declared.point.PointScale.{PointScale}
use Rattle.point_list.specs.declared.point.PointScale.TheVariants.{Unscaled, Fixed, Named}
use Rattle.read_plan.specs.declared.run.Run.{Run}

-- The range of a point's registers.
abbrev pub point_run : ListedPoint → Run
point_run point =
    record {
      function = point.function;
      area = point.area;
      first = point.address;
      end = end_of point;
    }

-- The smallest range that contains two register ranges of the same area (function and area number;
-- no read has registers of two areas).
abbrev pub joined : Run → Run → Run
joined a b = record {
  function = a.function;
  area = a.area;
  first = min a.first b.first;
  end = max a.end b.end;
}

-- The smallest range that contains a register range and a scale factor's registers. Without a scale
-- factor, the range itself.
abbrev pub with_scale : Run → Option ListedPoint → Run
with_scale run None = run
with_scale run (Some scale) = joined run (point_run scale)

-- The smallest range that contains a point's registers and those of the scale factor that the
-- point's scale names, if any.
abbrev pub with_scale_of : List ListedPoint → Run → PointScale → Run
with_scale_of points run Unscaled = run
with_scale_of points run (Fixed exponent) = run
with_scale_of points run (Named name) = with_scale run (scale_point points name)

-- The register range that the map of scale points has for this name, or `None`.
abbrev pub run_named : BTreeMap (Bor (List ℕ)) Run → List ℕ → Option Run
run_named runs name = get_by (λ key. slice_cmp nat_cmp name key.now) runs

-- True if the map has, under the name of each scale point of the list, the register range of the
-- first scale point with this name. The map has no entry for any other name.
abbrev pub AreScaleRuns : List ListedPoint → BTreeMap (Bor (List ℕ)) Run → Type 0
AreScaleRuns points runs = (name : List ℕ)
    → run_named runs name ≡ option_map point_run (scale_point points name)

-- The item of a point: the smallest range that contains the registers of the point and of its scale
-- point.
abbrev pub item_of : List ListedPoint → ListedPoint → Run
item_of points point = with_scale_of points (point_run point) point.scale

-- The items of all points of a point list, in the order of the list. An item contains the registers
-- of a point and of its scale point.
abbrev pub items_of : List ListedPoint → List Run
items_of points = map (item_of points) points

-- The register ranges of all points of a list. They determine where each area (function and area
-- number; no read has registers of two areas) begins and ends.
abbrev pub runs_of : List ListedPoint → List Run
runs_of points = map point_run points
