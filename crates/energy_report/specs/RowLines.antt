-- Definitions for `RowLines`, a writer that receives rows (of any type) one by one and writes a
-- line of text for each row.
use Rattle.std.specs.Prelude.{◌≡◌, ℕ, ◌+◌, min, Bool, true, false, List, Option, if◌then◌else◌}
use Rattle.std.specs.Io.KnownBytes.{Appends}
use Rattle.energy_report.specs.declared.row_lines.RowLines.{RowLines}
use Rattle.sun_points.specs.Writing.{GotPart}

-- The count `n`, or 2^64 - 1 (the greatest `u64`) if `n` is greater.
abbrev pub counted : ℕ → ℕ
counted n = min n 18446744073709551615

-- The count `count`, plus one if `counts` is true. The result saturates at 2^64 - 1.
abbrev pub one_more_if : (counts : Bool) → (count : ℕ) → ℕ
one_more_if counts count = counted (count + (if counts then 1 else 0))

-- True if a writer of a report's lines wrote the text `text` of `count` rows, and counted these
-- rows. If a write failed, true if a beginning of the text was written.
pub record HasWritten {W : Type 0} (contents : W → Option (List ℕ)) (text : List ℕ) (count : ℕ)
    (old new : RowLines W) : Type 0 where
  pub output : new.output.ghost_name ≡ old.output.ghost_name
  pub whole : new.failed ≡ false
      → Appends (contents old.output.now) (contents new.output.now) text
      × (new.count ≡ counted (old.count + count))
  pub part : new.failed ≡ true → GotPart text (contents old.output.now) (contents new.output.now)

-- The effect on a line writer of receiving a row: the row's line of text is written, and the row is
-- counted. After a failed write, further rows are dropped.
pub record WritesLine {W : Type 0} (contents : W → Option (List ℕ)) (line : List ℕ)
    (old new : RowLines W)
    : Type 0 where
  pub written : old.failed ≡ false → HasWritten contents line 1 old new
  pub dropped : old.failed ≡ true → new ≡ old
