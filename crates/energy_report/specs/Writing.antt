-- Definitions for the text that a report has written so far, while its days arrive one by one.
use Rattle.std.specs.Prelude.{◌≡◌, ℕ, ◌+◌, ◌-◌, ◌<◌, ◌^◌, ◌==◌, ◌++◌, ◌∷◌, min, Bool, true, false, List, [], map, length, Option, Some, None}
use Rattle.std.specs.List.{join_by}
use Rattle.std.specs.Io.KnownBytes.{Appends}
use Rattle.interval_core.specs.declared.totals.DayTotal.{DayTotal}
use Rattle.sun_points.specs.Writing.{GotPart}
use Rattle.energy_report.specs.declared.form.ReportForm.{ReportForm}
use Rattle.energy_report.specs.declared.row.Row.{Row}
use Rattle.energy_report.specs.declared.report_rows.ReportRows.{ReportRows}
use Rattle.energy_report.specs.Rows.{rows_in, shown}
use Rattle.energy_report.specs.Texts.{lead, opening, report_text, row_text, separator}

-- True if a text was written completely. After a failed write (`failed`), true if a beginning of
-- the text was written.
abbrev pub GotUnless : (failed : Bool) → (text : List ℕ) → (old new : Option (List ℕ)) → Type 0
GotUnless false text old new = Appends old new text
GotUnless true text old new = GotPart text old new

-- The effect of writing a text as a part of a report. The text is appended to the report's output,
-- unless this write or an earlier write fails.
pub record WritesText {W : Type 0} (contents : W → Option (List ℕ)) (text : List ℕ)
    (old new : ReportRows W) : Type 0 where
  pub form : new.form ≡ old.form
  pub output : new.output.ghost_name ≡ old.output.ghost_name
  pub pending : new.pending ≡ old.pending
  pub count : new.count ≡ old.count
  pub written : old.failed ≡ false
      → GotUnless new.failed text (contents old.output.now) (contents new.output.now)
  pub dropped : old.failed ≡ true → (new.failed ≡ true) × (new.output.now ≡ old.output.now)

-- The effect of writing a row of a report. The report writes the row with the text before it, and
-- counts the row. After a failed write, the report writes nothing.
pub record WritesRow {W : Type 0} (contents : W → Option (List ℕ)) (row : Row)
    (old new : ReportRows W) : Type 0 where
  pub form : new.form ≡ old.form
  pub output : new.output.ghost_name ≡ old.output.ghost_name
  pub pending : new.pending ≡ old.pending
  pub count : new.count ≡ min (old.count + 1) (2 ^ 64 - 1)
  pub written : old.failed ≡ false
      → GotUnless new.failed (lead (old.count == 0) old.form ++ row_text old.form row)
      (contents old.output.now) (contents new.output.now)
  pub dropped : old.failed ≡ true → (new.failed ≡ true) × (new.output.now ≡ old.output.now)

-- The text of the report rows written so far, without the end of the report. The text is empty
-- before the first row.
abbrev pub begun_text : ReportForm → List Row → List ℕ
begun_text form [] = []
begun_text form (row ∷ rows) =
    opening form ++ join_by (row_text form) (separator form) (map shown (row ∷ rows))

-- True if all rows of a report but the last are written. The last row is pending, because the next
-- day may be in its period.
abbrev pub AreWritten : (rows done : List Row) → (pending : Option Row) → Type 0
AreWritten rows done None = (rows ≡ []) × (done ≡ [])
AreWritten rows done (Some pending) =
    (last : Row) × (rows ≡ done ++ last ∷ []) × (pending ≡ shown last)

-- True if all rows of a report on a list of days, except the last row, are written and counted. The
-- last row is pending (not written yet).
pub record IsWritten {W : Type 0} (contents : W → Option (List ℕ)) (days : List DayTotal)
    (old : W) (new : ReportRows W) : Type 0 where
  pub done : List Row
  pub rows : AreWritten (rows_in new.form days) done new.pending
  pub count : new.count ≡ length done
  pub text : Appends (contents old) (contents new.output.now) (begun_text new.form done)

-- True if the written text is a beginning of every report whose first days are the given days. This
-- is the state after a failed write.
abbrev pub IsBroken : {W : Type 0} → (W → Option (List ℕ)) → List DayTotal
    → (old : W) (new : ReportRows W) → Type 0
IsBroken contents days old new = (more : List DayTotal)
    → GotPart (report_text new.form (days ++ more)) (contents old) (contents new.output.now)

-- True if a report has received the days in a list since its state `from`. The list has fewer than
-- 2^64 days. The rows of these days are written, except the row still pending, or a write failed.
pub record HasTaken {W : Type 0} (contents : W → Option (List ℕ)) (days : List DayTotal)
    (from to : ReportRows W) : Type 0 where
  pub form : to.form ≡ from.form
  pub written : to.failed ≡ false → length days < 2 ^ 64
      → IsWritten contents days from.output.now to
  pub broken : to.failed ≡ true → length days < 2 ^ 64 → IsBroken contents days from.output.now to

-- The effect of one more day on a report. If the report had received some days, then it has now
-- received these days, followed by this day.
pub record TakesDay {W : Type 0} (contents : W → Option (List ℕ)) (old : ReportRows W)
    (total : DayTotal) (new : ReportRows W) : Type 0 where
  pub output : new.output.ghost_name ≡ old.output.ghost_name
  pub taken : (from : ReportRows W) (days : List DayTotal)
      → HasTaken contents days from old → HasTaken contents (days ++ total ∷ []) from new

-- True if a report is new: it has the requested settings and has received no day yet.
pub record IsFresh {W : Type 0} (contents : W → Option (List ℕ)) (asked : ReportForm)
    (writer : W) (new : ReportRows W) : Type 0 where
  pub form : new.form ≡ asked
  pub output : new.output.now ≡ writer
  pub works : new.failed ≡ false
  pub taken : HasTaken contents [] new new

-- True if the complete report on a list of days was written. If a write failed, true if a beginning
-- of the report was written.
abbrev pub IsFinished : {W : Type 0} → (W → Option (List ℕ)) → List DayTotal
    → (from to : ReportRows W) → Type 0
IsFinished contents days from to = GotUnless to.failed (report_text from.form days)
    (contents from.output.now) (contents to.output.now)

-- The effect of the function `finish`, which ends a report, on a report that received fewer than
-- 2^64 days. The complete report on all these days was written, or a beginning of it if a write
-- failed.
pub record Finishes {W : Type 0} (contents : W → Option (List ℕ)) (old new : ReportRows W)
    : Type 0 where
  pub output : new.output.ghost_name ≡ old.output.ghost_name
  pub finished : (from : ReportRows W) (days : List DayTotal)
      → HasTaken contents days from old → length days < 2 ^ 64 → IsFinished contents days from new
