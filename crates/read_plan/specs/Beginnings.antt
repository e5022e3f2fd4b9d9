-- Defines the items at which the reads of a plan begin, and the register at which each read ends.
-- An item is a range of registers that one read must contain: those of a point and its scale point.
use Rattle.std.specs.Prelude.{◌≡◌, ℕ, ◌+◌, ◌<◌, ◌≤◌, Bool, ◌==◌, nat_lt, nat_le, ◌&&◌, ◌||◌, List}
use Rattle.std.specs.List.{All, AllPairs, Any, Contains}
use Rattle.read_plan.specs.declared.run.Run.{Run}
use Rattle.read_plan.specs.declared.run.TheConstants.{READ_LIMIT}
use Rattle.mb_wire.specs.Spans.{code_of}
use Rattle.read_plan.specs.Plans.{ComesBefore, LiesWithinReach, SameArea}

-- True if a read that begins at the first range cannot contain the second, later range. The second
-- range has another function or area number, or ends beyond 125 registers from the first register
-- of the first range.
abbrev pub BeginsApart : Run → Run → Type 0
BeginsApart a b = ComesBefore a b × (SameArea a b → a.first + READ_LIMIT < b.end)

-- True if `found` are the ranges of `items` at which reads begin. No two ranges of `found` fit in
-- one read. Each range of `items` lies within 125 registers from the start of a range of `found`.
pub record AreBeginnings (items found : List Run) : Type 0 where
  pub among : All (Contains items) found
  pub apart : AllPairs BeginsApart found
  pub reach : All (λ item. Any (λ begin. LiesWithinReach begin item) found) items

-- True if the range is at or before the range `limit`, ordered by function, then by area number,
-- then by last register. Points with different area numbers are never in one read.
abbrev pub ends_by : Run → Run → Bool
ends_by run limit =
    nat_lt (code_of run.function) (code_of limit.function)
    || (code_of run.function == code_of limit.function)
    && (nat_lt run.area limit.area || (run.area == limit.area) && nat_le run.end limit.end)

-- True if `end` is the greatest end of those ranges of `items` that end within 125 registers from
-- the start of `begin`. Only ranges with the function and area number of `begin` count (no read has
-- registers of two areas).
pub record IsGreatestEnd (items : List Run) (begin : Run) (end : ℕ) : Type 0 where
  pub at_item : Any
      (λ item. SameArea begin item × (item.end ≤ begin.first + READ_LIMIT) × (item.end ≡ end)) items
  pub last : All
      (λ item. SameArea begin item → item.end ≤ begin.first + READ_LIMIT → item.end ≤ end) items

-- True if the read starts at the first register of the range `begin`. The read must end at the
-- greatest end of those ranges of `items` that end within 125 registers from this start.
pub record ReadsFrom (items : List Run) (begin read : Run) : Type 0 where
  pub same_area : SameArea begin read
  pub first : begin.first ≡ read.first
  pub end : IsGreatestEnd items begin read.end
