-- Defines the content of a plan: the reads, and the location of each point in them.
use Rattle.std.specs.Prelude.{ℕ, ◌≡◌, ◌+◌, ◌<◌, ◌≤◌, List, length, map, slice_index, slice_index_or, take}
use Rattle.std.specs.List.{All}
use Rattle.mb_wire.specs.declared.limits.TheConstants.{ADDRESSES}
use Rattle.read_plan.specs.declared.planned_reads.PlannedRead.{PlannedRead}
use Rattle.read_plan.specs.declared.run.Run.{Run}
use Rattle.read_plan.specs.Plans.{FollowsRule, Holds, IsContained, IsReadable}

-- The range of registers that a read requests.
abbrev pub read_run : PlannedRead → Run
read_run read =
    record {
      function = read.span.function;
      area = read.area;
      first = read.span.address;
      end = read.span.address + read.span.count;
    }

-- The register ranges that the reads of a list request, in the order of the list.
abbrev pub read_runs : List PlannedRead → List Run
read_runs reads = map read_run reads

-- The content of a plan: its reads, the first register of each point, and the item of each point.
-- An item is the range of registers that contains the point and its scale point.
pub record Planned : Type 0 where
  pub starts : List ℕ
  pub items : List Run
  pub reads : List PlannedRead

-- True if a point's first register, which has the given address, lies inside this range of
-- registers.
abbrev pub BeginsInside : Run → ℕ → Type 0
BeginsInside item start = (item.first ≤ start) × (start < item.end)

-- The invariant of a plan. Each point begins inside its item (a range that one read must contain),
-- and each item fits in one read. The reads follow the planning rule: each begins at the first
-- uncovered register and covers as much as possible.
pub record IsPlan (plan : Planned) : Type 0 where
  pub each : length plan.starts ≡ length plan.items
  pub begun : (k : ℕ) (d : Run) → k < length plan.items
      → BeginsInside (slice_index_or plan.items k d) (slice_index plan.starts k)
  pub readable : All IsReadable plan.items
  pub inside : All (λ item. item.end ≤ ADDRESSES) plan.items
  pub rule : FollowsRule plan.items (read_runs plan.reads)

-- True if point number `point` begins `offset` registers after the first register of read number
-- `read`. Both numbers count from 0.
abbrev pub StandsAt : Planned → (point read offset : ℕ) → Type 0
StandsAt plan point read offset = (d : PlannedRead)
    → (slice_index_or plan.reads read d).span.address + offset ≡ slice_index plan.starts point

-- True if `place` is the index of the first read in the list `reads` that contains the register
-- range `item`.
pub record IsFirstHolding (reads : List Run) (item : Run) (place : ℕ) : Type 0 where
  pub within : place < length reads
  pub holds : (d : Run) → Holds (slice_index_or reads place d) item
  pub first : ¬ IsContained (take place reads) item
