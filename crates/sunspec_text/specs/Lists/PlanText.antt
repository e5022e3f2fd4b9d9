-- Defines the output for the read plan of a point list. The output lists the reads of the plan, and
-- for each point its read and its offset in that read.
use Rattle.std.specs.Prelude.{◌≡◌, ℕ, ◌+◌, List, [], ◌∷◌, ◌++◌, flat_map, map, Option, codes, slice_index_or}
use Rattle.std.specs.Io.KnownBytes.{Appends}
use Rattle.std.specs.Fmt.{decimal}
use Rattle.std.specs.List.{All}
use Rattle.command_io.specs.declared.status.ExitStatus.{ExitStatus}
use Rattle.command_io.specs.declared.status.ExitStatus.TheVariants.{Fine}
use Rattle.mb_wire.specs.Spans.{code_of}
use Rattle.point_list.specs.declared.point.ListedPoint.{ListedPoint}
use Rattle.read_plan.specs.Items.{item_of, items_of, runs_of}
use Rattle.read_plan.specs.PlannedReads.{IsFirstHolding, read_runs}
use Rattle.read_plan.specs.Plans.{FollowsRule, IsLawful}
use Rattle.read_plan.specs.declared.planned_reads.PlannedRead.{PlannedRead}

-- The beginning of the line for a read, with the word `read`, the read's number and its Modbus
-- function code.
abbrev pub read_head : (number function : ℕ) → List ℕ
read_head number function =
    codes "read " ++ decimal number ++ codes " " ++ decimal function ++ codes " "

-- The part of the line for a read after its function code: the area (no read has points of two
-- areas), the first Modbus address and the number of Modbus registers.
abbrev pub registers_text : PlannedRead → List ℕ
registers_text read =
    decimal read.area ++ codes " " ++ decimal read.span.address ++ codes " "
    ++ decimal read.span.count
    ++ codes "\n"

-- The line `read K FUNCTION AREA ADDRESS COUNT` of a planned Modbus read, with the given number K
-- and function code. AREA is the area number of the read's points (no read has points of two
-- areas).
abbrev pub span_line : (number function : ℕ) → PlannedRead → List ℕ
span_line number function read = read_head number function ++ registers_text read

-- The line `read K FUNCTION AREA ADDRESS COUNT` of a planned Modbus read with number K. AREA is the
-- area number of the read's points (no read has points of two areas).
abbrev pub read_line : (number : ℕ) → PlannedRead → List ℕ
read_line number read = span_line number (code_of read.span.function) read

-- The printed lines of the reads of a plan, numbered consecutively from the given number.
abbrev pub read_lines : ℕ → List PlannedRead → List ℕ
read_lines number [] = []
read_lines number (read ∷ reads) = read_line number read ++ read_lines (number + 1) reads

-- A point of a point list with its read. `PlacedPoint` has the index of the read in the plan, and
-- the offset of the point's first Modbus register in the read.
pub record PlacedPoint : Type 0 where
  pub point : ListedPoint
  pub read : ℕ
  pub offset : ℕ

-- States that the point's read is the first read that covers the point and is in the point's area
-- (no read has points of two areas). The offset counts Modbus registers from the first Modbus
-- register of the read.
pub record IsPlaced (list : List ListedPoint) (reads : List PlannedRead) (placed : PlacedPoint) :
    Type 0 where
  pub first : IsFirstHolding (read_runs reads) (item_of list placed.point) placed.read
  pub offset : (d : PlannedRead)
      → (slice_index_or reads placed.read d).span.address + placed.offset ≡ placed.point.address

-- The line `point NAME K OFFSET` of a point, where K is the number of its read.
abbrev pub point_line : PlacedPoint → List ℕ
point_line placed =
    codes "point " ++ placed.point.name ++ codes " " ++ decimal (placed.read + 1) ++ codes " "
    ++ decimal placed.offset ++ codes "\n"

-- States that the writer received a text, and that the property `Prints` holds for this text.
abbrev pub Writes : (Prints : List ℕ → Type 0) → (output output' : Option (List ℕ)) → Type 0
Writes Prints output output' =
    (printed : List ℕ) × Appends output output' printed × Prints printed

-- States that the output is one line for each given point, with the point's read and offset.
pub record PointsPrint (list points : List ListedPoint) (reads : List PlannedRead)
    (printed : List ℕ)
    : Type 0 where
  pub placed : List PlacedPoint
  pub points_of : map (λ (p : PlacedPoint). p.point) placed ≡ points
  pub each : All (IsPlaced list reads) placed
  pub lines : printed ≡ flat_map point_line placed

-- States that the output is the lines of the Modbus reads that cover a point list, followed by the
-- lines of the list's points.
pub record LinesPrint (list : List ListedPoint) (reads : List PlannedRead) (printed : List ℕ) : Type
    0 where
  pub points : List ℕ
  pub placed : PointsPrint list list reads points
  pub lines : printed ≡ read_lines 1 reads ++ points

-- States that the output is the lines of the point list's read plan. Each read has 1 to 125
-- registers inside one area of the list, and each point lies in one read.
pub record PlanPrints (list : List ListedPoint) (printed : List ℕ) : Type 0 where
  pub reads : List PlannedRead
  pub rule : FollowsRule (items_of list) (read_runs reads)
  pub lawful : IsLawful (runs_of list) (items_of list) (read_runs reads)
  pub lines : LinesPrint list reads printed

-- States that a point list without faulty rows prints its plan of Modbus reads, with status `Fine`.
pub record PrintsPlan (list : List ListedPoint) (printed : List ℕ) (status : ExitStatus) :
    Type 0 where
  pub fine : status ≡ Fine
  pub plan : PlanPrints list printed
