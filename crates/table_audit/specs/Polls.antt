-- Defines when the rows of polls in the tables have no discrepancy: values out of range, missing
-- numbers, or outcomes earlier than their poll. Also defines which of these discrepancies an audit
-- reports.
use Rattle.std.specs.Prelude.{⊤, ◌≡◌, ◌≤◌, ◌↔◌, ◌⊎◌, ◌+◌, ◌*◌, ◌==◌, ℕ, suc, Bool, true, false, nat_lt, nat_le, ◌&&◌, List, [], ◌∷◌, length, Option, Ok, Result, MatchResult, unwrap_or}
use Rattle.std.specs.List.{list_all, list_any}
use Rattle.sqlite.specs.Order.{Row}
use Rattle.store_tables.specs.Columns.{first_in}
use Rattle.store_tables.specs.Content.{Content}
use Rattle.store_tables.specs.Limits.{greatest_place}
use Rattle.store_tables.specs.declared.faults.RowFault.{RowFault}
use Rattle.table_audit.specs.Meters.{ReportsMeters}
use Rattle.table_audit.specs.Named.{IsReported}
use Rattle.table_audit.specs.Names.{ReportsNames}
use Rattle.table_audit.specs.PollDifferences.{first_number, last_number, latest_start, differences_of_run, differences_of_runs}
use Rattle.table_audit.specs.PollReading.{poll_in, outcome_in}
use Rattle.table_audit.specs.PollShowing.{AreRowsOfRun, ShowsLast}
use Rattle.table_audit.specs.Reading.{all_in}
use Rattle.table_audit.specs.declared.differences.TheConstants.{MOST}
use Rattle.table_audit.specs.declared.findings.Counts.{Counts}
use Rattle.table_audit.specs.declared.findings.Findings.{Findings}
use Rattle.table_audit.specs.declared.poll_rows.OutcomeRow.{OutcomeRow}
use Rattle.table_audit.specs.declared.poll_rows.PollRow.{PollRow}
use Rattle.table_audit.specs.declared.poll_rows.RunRows.{RunRows}
use Rattle.table_audit.specs.declared.poll_rows.TheConstants.{RUN}

-- True if a list of polls has exactly the numbers from `next` to `last`, in ascending order.
abbrev pub are_numbered : (next last : ℕ) → List PollRow → Bool
are_numbered next last [] = nat_lt last next
are_numbered next last (poll ∷ polls) =
    (poll.number == next) && nat_le next last && are_numbered (next + 1) last polls

-- True if an outcome belongs to a poll, and the poll started no later than the outcome's timestamp.
abbrev pub is_begun : OutcomeRow → PollRow → Bool
is_begun outcome poll = (poll.number == outcome.poll) && nat_le poll.started outcome.moment

-- True if an outcome belongs to one of the polls in a list, and this poll started no later than the
-- outcome's timestamp.
abbrev pub has_begun : List PollRow → OutcomeRow → Bool
has_begun polls outcome = list_any (is_begun outcome) polls

-- True if no poll in a list started before an earlier poll. `since` is the latest start of the
-- polls before the list.
abbrev pub starts_rise : (since : ℕ) → List PollRow → Bool
starts_rise since [] = true
starts_rise since (poll ∷ polls) = nat_le since poll.started && starts_rise poll.started polls

-- States that the rows of a run of polls (`RUN` consecutive numbers) have no discrepancy. All
-- values are in range, no poll number is missing, no poll started before an earlier poll, and no
-- outcome is earlier than the start of its poll. `since` is the latest start of the polls of
-- earlier runs.
pub record IsFineRun (run last since : ℕ) (rows : RunRows) : Type 0 where
  pub polls : List PollRow
  pub outcomes : List OutcomeRow
  pub polls_read : all_in poll_in rows.polls.items ≡ Ok polls
  pub outcomes_read : all_in outcome_in rows.outcomes.items ≡ Ok outcomes
  pub numbered : are_numbered (first_number run) (last_number run last) polls ≡ true
  pub rising : starts_rise since polls ≡ true
  pub begun : list_all (has_begun polls) outcomes ≡ true

-- True if a list has the rows that the tables have for consecutive runs of polls (`RUN` consecutive
-- numbers each), beginning with the run at index `run`.
abbrev pub AreRuns : Content → (run : ℕ) → List RunRows → Type 0
AreRuns content run [] = ⊤
AreRuns content run (rows ∷ others) =
    AreRowsOfRun run content rows × AreRuns content (suc run) others

-- True if no run of polls in the list has a discrepancy (`IsFineRun`), such as a value out of range
-- or a missing poll number. The runs have `RUN` consecutive numbers each, and the first of them has
-- the index `run`. `since` is the latest start of the polls of earlier runs.
abbrev pub AreFineRuns : (run last since : ℕ) → List RunRows → Type 0
AreFineRuns run last since [] = ⊤
AreFineRuns run last since (rows ∷ others) =
    IsFineRun run last since rows
    × AreFineRuns (suc run) last (latest_start since rows.polls.items) others

-- True if the audit is allowed to stop after a run of polls (`RUN` consecutive numbers) with these
-- rows. The run must have no poll, and `MOST` discrepancies must already be stored. This bounds the
-- audit's time for a damaged file with a very large poll number.
abbrev pub Stops : RunRows → Findings → Type 0
Stops rows found = (rows.polls.items ≡ []) × (MOST ≤ length found.first.items)

-- States that the audit of one run of polls (`RUN` consecutive numbers) reports the run's
-- discrepancies. `since` is the latest start of the polls of earlier runs, and `latest` includes
-- this run. If `goes_on` is false, the audit ends, because this run has no poll and `MOST`
-- discrepancies are already stored.
pub record ReportsRun (run last since latest : ℕ) (old new : Findings) (content : Content)
    (goes_on : Bool) : Type 0 where
  pub rows : RunRows
  pub theirs : AreRowsOfRun run content rows
  pub reported : IsReported (differences_of_run run last since rows) old new
  pub latest_is : latest ≡ latest_start since rows.polls.items
  pub stops : goes_on ≡ false → Stops rows new

-- True if the audit is allowed to stop after the last run of polls (`RUN` consecutive numbers) in
-- the list. The run must have no poll, and `MOST` discrepancies must already be stored.
abbrev pub StopsAfter : List RunRows → Findings → Type 0
StopsAfter [] found = ⊥
StopsAfter (rows ∷ []) found = Stops rows found
StopsAfter (rows ∷ next ∷ others) found = StopsAfter (next ∷ others) found

-- The contract of the audit of all polls, in runs of `RUN` consecutive numbers. The audit finds no
-- discrepancy if and only if no run has one. Once `MOST` discrepancies are stored, the audit is
-- allowed to stop after a run without polls.
pub record ReportsRuns (last : ℕ) (old new : Findings) (content : Content) : Type 0 where
  pub runs : List RunRows
  pub theirs : AreRuns content 0 runs
  pub each : IsReported (differences_of_runs 0 last 0 runs) old new
  pub whole : (last ≤ length runs * RUN) ⊎ StopsAfter runs new
  pub reported : (new.first.items ≡ [])
      ↔ ((old.first.items ≡ []) × AreFineRuns 0 last 0 runs × (last ≤ length runs * RUN))

-- The counts of an audit, with the number of polls set to `polls`.
abbrev pub with_polls : ℕ → Counts → Counts
with_polls polls counts = record counts { polls = polls }

-- The findings of an audit, with the number of polls in its counts set to `polls`.
abbrev pub counting_polls : ℕ → Findings → Findings
counting_polls polls found = record found { counts = with_polls polls found.counts }

-- The contract of the audit of all polls up to the greatest poll number, which a query found (0 if
-- there are no polls). If the greatest number is out of range, the audit reports a discrepancy.
abbrev pub ReportsUpTo : Result (Option ℕ) RowFault → (old new : Findings) → Content → Type 0
ReportsUpTo found old new content =
    MatchResult found
    (λ last. ReportsRuns (unwrap_or last 0) (counting_polls (unwrap_or last 0) old) new content)
    (λ _. new.first.items ≡ [] → ⊥)

-- The contract of the audit of all polls in the tables, up to the greatest poll number. The SQL
-- schema excludes an outcome without a poll.
pub record ReportsPolls (old new : Findings) (content : Content) : Type 0 where
  pub rows : List Row
  pub shown : ShowsLast content rows
  pub reports : ReportsUpTo (first_in 1 greatest_place rows) old new content

-- The contract of the audit of all tables of a file: first the meters, then the names of devices,
-- points and registers, then the polls.
pub record ReportsTables (content : Content) (found : Findings) : Type 0 where
  pub meters : Findings
  pub reported : ReportsMeters content meters
  pub named : Findings
  pub names : ReportsNames meters named content
  pub polls : ReportsPolls named found content
