-- Defines valid plans of reads, and the planning rule, which gives the plan with the fewest reads.
-- An item is a range of registers (a point and its scale point) that one read must contain.
use Rattle.std.specs.Prelude.{◌≡◌, ℕ, ◌+◌, ◌<◌, ◌≤◌, ◌⊎◌, List, length, take, slice_index_or}
use Rattle.std.specs.List.{All, AllPairs, Any}
use Rattle.mb_wire.specs.Spans.{code_of}
use Rattle.read_plan.specs.declared.run.Run.{Run}
use Rattle.read_plan.specs.declared.run.TheConstants.{READ_LIMIT}

-- True if both ranges have the same function and area number (no read has registers of two areas).
pub record SameArea (a b : Run) : Type 0 where
  pub function : a.function ≡ b.function
  pub area : a.area ≡ b.area

-- True if the read contains the register range `item`: both are in the same area (function and area
-- number), and the range lies inside the read.
pub record Holds (read item : Run) : Type 0 where
  pub same_area : SameArea read item
  pub from_first : read.first ≤ item.first
  pub to_end : item.end ≤ read.end

-- True if at least one of the reads contains the given register range.
abbrev pub IsContained : List Run → Run → Type 0
IsContained reads item = Any (λ read. Holds read item) reads

-- True if one Modbus read can request the range: it has 1 to 125 registers.
abbrev pub IsReadable : Run → Type 0
IsReadable run = (run.first < run.end) × (run.end ≤ run.first + READ_LIMIT)

-- True if the range is inside its area. An area extends from the first to the last register of all
-- points with its function and area number (no read has registers of two areas).
pub record IsInArea (points : List Run) (run : Run) : Type 0 where
  pub after_first : Any (λ point. SameArea point run × point.first ≤ run.first) points
  pub before_last : Any (λ point. SameArea point run × run.end ≤ point.end) points

-- True if the reads form a valid plan for the points and their items (the registers of a point and
-- of its scale point). Each read has 1 to 125 registers inside its area, and each item lies in one
-- read.
pub record IsLawful (points items reads : List Run) : Type 0 where
  pub readable : All IsReadable reads
  pub in_areas : All (IsInArea points) reads
  pub contained : All (IsContained reads) items

-- True if every valid plan for these points and items has at least `count` reads.
abbrev pub AreFewest : (points items : List Run) → (count : ℕ) → Type 0
AreFewest points items count =
    (reads : List Run) → IsLawful points items reads → count ≤ length reads

-- True if the first range comes before the second, ordered by function, then by area number (points
-- with different area numbers are never in one read), then by first register.
abbrev pub ComesBefore : Run → Run → Type 0
ComesBefore a b =
    (code_of a.function < code_of b.function)
    ⊎ ((a.function ≡ b.function) × (a.area < b.area))
    ⊎ (SameArea a b × a.first < b.first)

-- True if the first register range comes before the second. The order is by function, then by area
-- number (no Modbus read has registers of two areas), then by last register.
abbrev pub EndsBefore : Run → Run → Type 0
EndsBefore a b =
    (code_of a.function < code_of b.function)
    ⊎ ((a.function ≡ b.function) × (a.area < b.area))
    ⊎ (SameArea a b × a.end < b.end)

-- True if the register range `item` lies within the 125 registers from the first register of the
-- read.
pub record LiesWithinReach (read item : Run) : Type 0 where
  pub same_area : SameArea read item
  pub from_first : read.first ≤ item.first
  pub in_reach : item.end ≤ read.first + READ_LIMIT

-- True if the read begins at the first register of an item that no earlier read contains, namely
-- the first such item with the read's function and area number. No read has registers of two areas.
-- An item is a range of registers that one read must contain.
pub record BeginsAtFirstUnheld (items earlier : List Run) (read : Run) : Type 0 where
  pub at_item : Any (λ item. SameArea read item × (item.first ≡ read.first)
      × ¬ IsContained earlier item)
      items
  pub first : All (λ item. SameArea read item → item.first < read.first
      → IsContained earlier item) items

-- True if the read ends at the greatest end of the items within 125 registers from the read's first
-- register. An item is a range that one read must contain.
pub record EndsAtLastInReach (items : List Run) (read : Run) : Type 0 where
  pub at_item : Any (λ item. LiesWithinReach read item × (item.end ≡ read.end)) items
  pub last : All (λ item. LiesWithinReach read item → item.end ≤ read.end) items

-- True if the reads are sorted by function, area number (no read has registers of two areas) and
-- first register, contain all items, and follow the planning rule. By this rule, each read begins
-- at the first item that no earlier read contains. It ends at the greatest end of those items that
-- lie within 125 registers.
pub record FollowsRule (items reads : List Run) : Type 0 where
  pub ordered : AllPairs ComesBefore reads
  pub begins : (k : ℕ) (d : Run) → k < length reads
      → BeginsAtFirstUnheld items (take k reads) (slice_index_or reads k d)
  pub ends : All (EndsAtLastInReach items) reads
  pub contained : All (IsContained reads) items
