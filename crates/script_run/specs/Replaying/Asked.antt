-- Defines the output of each query in a script (a text of commands, events and queries). No query
-- changes the state of the script's run.
use Rattle.std.specs.Prelude.{◌≡◌, ◌⊎◌, ◌+◌, ℕ, List, [], ◌++◌, length, map, take, flat_map, Option, Result, Ok, Err, OnOk, OnErr}
use Rattle.std.specs.Option.{option_and_then}
use Rattle.interval_core.specs.Days.{account_of}
use Rattle.interval_core.specs.declared.shares.Share.{Share}
use Rattle.interval_core.specs.declared.totals.DayTotal.{DayTotal}
use Rattle.office_events.specs.declared.facts.Fact.{Fact}
use Rattle.office_events.specs.declared.refusals.Refusal.{Refusal}
use Rattle.office_books.specs.Facts.{register_of}
use Rattle.office_books.specs.History.{facts_of}
use Rattle.office_books.specs.Meters.{meter_of}
use Rattle.office_books.specs.Readings.{poll_row_of}
use Rattle.office_core.specs.Asking.{AreDaysNamed, intervals_of, is_there, or_not_found, rows_in}
use Rattle.script_text.specs.RowLines.Rows.{day_line, end_line, share_line}
use Rattle.script_run.specs.Replaying.Stages.{Stage, Fails, ReportsStop}
use Rattle.script_text.specs.AnswerText.{meter_line, poll_line, refused_line}
use Rattle.energy_report.specs.RowLines.{counted}

-- States the possible replies to a query: the row that was found, the refusal "not found", or a
-- failure such as out of memory.
pub record IsAnswered {T : Type 0} (now : Stage) (found : Option T) (reply : Result T Refusal)
    : Type 0 where
  pub answer : (reply ≡ or_not_found found) ⊎ Fails reply
  pub stops : ReportsStop now reply

-- The output line for the reply to a query. It shows the row that the query found, or the refusal.
abbrev pub row_text : {T : Type 0} → (T → List ℕ) → Result T Refusal → List ℕ
row_text row_line (Ok row) = row_line row
row_text row_line (Err why) = refused_line why

-- States that a query for one row prints the line for the row that was found, or the line for the
-- refusal.
pub record RowPrints {T : Type 0} (now : Stage) (found : Option T) (row_line : T → List ℕ)
    (printed : List ℕ) (next : Stage) : Type 0 where
  pub reply : Result T Refusal
  pub is : IsAnswered now found reply
  pub text : printed ≡ row_text row_line reply
  pub same : next ≡ now

-- States the output of the query `meter NAME`: the line of the meter, or a refusal.
abbrev pub MeterPrints : (name : Option (List ℕ)) → Stage → (printed : List ℕ) → (next : Stage)
    → Type 0
MeterPrints name now printed next =
    RowPrints now (option_and_then (meter_of (facts_of now.past)) name) meter_line printed next

-- States the output of the query `poll N`: the number of the poll and its outcome.
abbrev pub PollPrints : (number : ℕ) → Stage → (printed : List ℕ) → (next : Stage) → Type 0
PollPrints number now printed next =
    RowPrints now (poll_row_of (facts_of now.past) number) poll_line printed next

-- The last line of a query for rows: `end N` with the number of rows, or the refusal that ended the
-- query.
abbrev pub last_line : (count : ℕ) → Result (Unit {0}) Refusal → List ℕ
last_line count (Ok done) = end_line count
last_line count (Err why) = refused_line why

-- States that a query for rows prints one line for each returned row, and then the number of rows
-- or a refusal.
pub record RowsPrint {T : Type 0} (now : Stage) (there : Option (Unit {0}))
    (AreReported : List T → Result (Unit {0}) Refusal → Type 0) (row_line : T → List ℕ)
    (printed : List ℕ) (next : Stage) : Type 0 where
  pub rows : List T
  pub reply : Result (Unit {0}) Refusal
  pub is : IsAnswered now there reply
  pub reported : AreReported rows reply
  pub text : printed ≡ flat_map row_line rows ++ last_line (counted (length rows)) reply
  pub same : next ≡ now

-- States that the rows are the first quarter hours of a meter, in order, with their energy. If the
-- query succeeded, they are all quarter hours of the meter.
pub record AreIntervals (facts : List Fact) (meter : Option (List ℕ)) (rows : List Share)
    (reply : Result (Unit {0}) Refusal) : Type 0 where
  pub begun : (n : ℕ) × (rows ≡ take n (rows_in (intervals_of facts meter)))
  pub whole : OnOk reply (rows ≡ rows_in (intervals_of facts meter))

-- States the output of the query `intervals METER`, the energy of a meter in each quarter hour.
abbrev pub IntervalsPrint : Stage → (meter : Option (List ℕ)) → (printed : List ℕ) → (next : Stage)
    → Type 0
IntervalsPrint now meter printed next =
    RowsPrint now (is_there (intervals_of (facts_of now.past) meter))
    (AreIntervals (facts_of now.past) meter) share_line printed next

-- States that, if the query succeeded, the rows are the energy of an accounting register (a named
-- counter) on each of its days, in the script's time zone. If the query failed, there are no rows.
pub record AreDaysReported (now : Stage) (register : Option (List ℕ)) (rows : List DayTotal)
    (reply : Result (Unit {0}) Refusal) : Type 0 where
  pub whole : OnOk reply (AreDaysNamed now.zone (facts_of now.past) register (map account_of rows))
  pub none : OnErr reply (rows ≡ [])

-- States the output of the query `days REGISTER`, the energy of an accounting register (a named
-- counter) on each day.
abbrev pub DaysPrint : Stage → (register : Option (List ℕ)) → (printed : List ℕ) → (next : Stage)
    → Type 0
DaysPrint now register printed next =
    RowsPrint now (is_there (option_and_then (register_of (facts_of now.past)) register))
    (AreDaysReported now register) day_line printed next
