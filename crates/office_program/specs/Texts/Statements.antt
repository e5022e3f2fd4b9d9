-- The statements of the meters of an accounting register (a named energy counter) on a range of
-- days. A statement has the numbers against which a bill is checked.
use Rattle.std.specs.Prelude.{◌≡◌, ℕ, List, ◌++◌, map, filter, All, is_some, true, Option, Some, Result, Ok, Err}
use Rattle.std.specs.Option.{option_map, option_and_then}
use Rattle.std.specs.declared.alloc.Global.{Global}
use Rattle.std.specs.declared.vec.Vec.{Vec}
use Rattle.std.specs.declared.io.Write as writers
use Rattle.command_io.specs.declared.status.ExitStatus.{ExitStatus}
use Rattle.command_io.specs.declared.status.ExitStatus.TheVariants.{Fine, Refused}
use Rattle.energy_report.specs.declared.form.StatementForm.{StatementForm}
use Rattle.energy_report.specs.declared.meter_statement.MeterStatement.{MeterStatement}
use Rattle.energy_report.specs.declared.held_counts.RejectedCounts.{RejectedCounts}
use Rattle.interval_core.specs.declared.day_range.DayRange.{DayRange}
use Rattle.energy_report.specs.declared.tallies.EntryTally.{EntryTally}
use Rattle.energy_report.specs.Held.{held_within}
use Rattle.energy_report.specs.Statements.{energy_within, tally_of, was_installed}
use Rattle.energy_report.specs.StatementTexts.{statement_text}
use Rattle.interval_core.specs.declared.zone.Zone.{Zone}
use Rattle.office_events.specs.declared.facts.Fact.{Fact}
use Rattle.office_events.specs.declared.facts.Opening.{Opening}
use Rattle.office_events.specs.declared.questions.Installation.{Installation}
use Rattle.office_events.specs.declared.refusals.Refusal.{Refusal}
use Rattle.office_books.specs.Facts.{opening_of}
use Rattle.office_books.specs.History.{History, facts_of}
use Rattle.office_books.specs.Intervals.{rows_of_installed}
use Rattle.office_books.specs.declared.failures.Failures.{Failures}
use Rattle.office_books.specs.Entries.{entries_at}
use Rattle.office_books.specs.Holds.{holds_of}
use Rattle.office_books.specs.Ledgers.{Ledger}
use Rattle.office_books.specs.declared.books.Books as stores
use Rattle.office_core.specs.Asking.{IsFound, intervals_of}
use Rattle.office_core.specs.Failing.{IsOutside}
use Rattle.office_core.specs.Parts.{meters_named}
use Rattle.office_core.specs.Standing.{After}
use Rattle.office_core.specs.Taking.{failures_of}
use Rattle.office_core.specs.declared.office.Office.{Office}
use Rattle.script_text.specs.AnswerText.{refused_line}
use Rattle.office_program.specs.Texts.EndTexts.{ReportsEnd}

-- The next definitions give a meter's statement: the numbers against which the meter's bill is
-- checked.

-- The statement of a meter with this name and opening (the record that installs the meter). It has
-- the meter's entries, its energy in mWh, and the counts of its rejected readings.
--
-- A meter without an opening (its first entry) has neither entries nor energy.
abbrev pub reported_of : Zone → DayRange → List Fact → (meter : List ℕ) → Option Opening
    → MeterStatement
reported_of zone range facts meter opening = record {
  meter = meter;
  entries = tally_of zone range (entries_at facts opening);
  mwh = energy_within zone range (rows_of_installed facts opening);
  held = held_within zone range (holds_of facts meter);
}

-- The statement (a report to check a bill) of the meter with this name.
abbrev pub statement_of : Zone → DayRange → List Fact → (meter : List ℕ) → MeterStatement
statement_of zone range facts meter = reported_of zone range facts meter (opening_of facts meter)

-- The statements (reports to check a bill) of those listed meters that were in place on a day of
-- the range. The statements have the order of the list.
abbrev pub statements_of : Zone → DayRange → List Fact → List Installation → List MeterStatement
statements_of zone range facts rows =
    map (λ row. statement_of zone range facts row.opening.meter)
    (filter (was_installed zone range) rows)

-- The next definitions give the event engine's answers to queries for one meter.

-- The tally (the first and last entry, and the corrections) of the meter's entries in the range of
-- days. `None` if no meter has the name.
abbrev pub tally_in : Zone → DayRange → List Fact → (meter : Option (List ℕ)) → Option EntryTally
tally_in zone range facts meter =
    option_map (λ opening. tally_of zone range (entries_at facts (Some opening)))
    (option_and_then (opening_of facts) meter)

-- The energy of the meter in the range of days, in mWh, or `None` if no meter has the name.
abbrev pub energy_in : Zone → DayRange → List Fact → (meter : Option (List ℕ)) → Option ℕ
energy_in zone range facts meter = option_map (energy_within zone range) (intervals_of facts meter)

-- The counts of the meter's rejected readings in the range of days, or `None` if no meter has the
-- name.
abbrev pub held_in : Zone → DayRange → List Fact → (meter : Option (List ℕ)) → Option RejectedCounts
held_in zone range facts meter =
    option_and_then (λ name. option_map (λ opening. held_within zone range (holds_of facts name))
    (opening_of facts name)) meter

-- The statement (a report to check a bill) of the meter, or `None` if no meter has the name.
abbrev pub statement_in : Zone → DayRange → List Fact → (meter : List ℕ) → Option MeterStatement
statement_in zone range facts meter =
    option_map (λ opening. reported_of zone range facts meter (Some opening)) (opening_of facts meter)

-- True if the office (the event engine) answered a query from the records of all accepted events,
-- or refused the query because of a failure. Lack of memory outside the store is one such failure.
abbrev pub AnswersOf : {B T : Type 0} → (B → Ledger) → (old new : Office B) → Result T Refusal
    → (List Fact → Option T) → Type 0
AnswersOf ledger old new result found = After ledger old new (λ past.
    IsFound (Unit {0}) (found (facts_of past)) (failures_of ledger old) (failures_of ledger new)
    result)

-- The next definitions give the statements of all meters of an accounting register (a named energy
-- counter) that were in place in a range of days.

-- True if the store's records have the opening (the first entry) of each meter in the list `rows`.
abbrev pub AreRecorded : List Fact → List Installation → Type 0
AreRecorded facts rows = All (λ row. is_some (opening_of facts row.opening.meter) ≡ true) rows

-- True if the statements (reports to check a bill) of the meters in the list `rows` were appended
-- to a list. Also true if the event engine refused a query because of a failure.
abbrev pub IsStated : Zone → DayRange → List Fact → List Installation
    → (before after : List MeterStatement) → (had has : Failures) → Result (Unit {0}) Refusal
    → Type 0
IsStated zone range facts rows before after had has (Ok done) =
    (after ≡ before ++ statements_of zone range facts rows) × (has ≡ had)
IsStated zone range facts rows before after had has (Err why) = IsOutside (Unit {0}) had has why

-- The contract of appending the statements (reports to check a bill) of the meters in the list
-- `rows`. `IsStated` states the result, whatever events the event engine accepted before.
abbrev pub States : {B : Type 0} → (B → Ledger) → Zone → DayRange → List Installation
    → (old new : Office B) → (before after : List MeterStatement) → Result (Unit {0}) Refusal
    → Type 0
States ledger zone range rows old new before after result = After ledger old new (λ past.
    AreRecorded (facts_of past) rows → IsStated zone range (facts_of past) rows before after
    (failures_of ledger old) (failures_of ledger new) result)

-- The statements (reports to check a bill) of the accounting register's
-- meters that were in place in the range of days. `None` if no accounting register has the name.
abbrev pub statements_in : Zone → DayRange → List Fact → (register : Option (List ℕ))
    → Option (List MeterStatement)
statements_in zone range facts register =
    option_map (statements_of zone range facts) (meters_named facts register)

-- The items of a vector as a list if the result is `Ok`, otherwise the error.
abbrev pub items_of : {T E : Type 0} → Result (Vec T Global) E → Result (List T) E
items_of (Ok rows) = Ok rows.items
items_of (Err why) = Err why

-- The next definitions give the printed text of the meters' statements (reports to check a bill).

-- The text of the meters' statements (reports to check a bill), or only the refusal if the
-- statements are refused.
abbrev pub statement_or_not : StatementForm → Result (List MeterStatement) Refusal → List ℕ
statement_or_not form (Ok rows) = statement_text form rows
statement_or_not form (Err why) = refused_line why

-- The exit status of the command that prints the statements (billing reports) of meters. If the
-- event engine refuses the query for the statements, the status is `Refused`, otherwise `Fine`.
abbrev pub meant_by : Result (List MeterStatement) Refusal → ExitStatus
meant_by (Ok rows) = Fine
meant_by (Err why) = Refused

-- The text and the exit status of the statements (reports to check a bill) of an accounting
-- register's meters. The statements are refused if no accounting register has the name `register`,
-- or because of a failure.
pub record StatementPrints (zone : Zone) (past : History) (register : Option (List ℕ))
    (form : StatementForm) (before after : Failures) (text : List ℕ) (meant : ExitStatus)
    : Type 0 where
  pub reply : Result (List MeterStatement) Refusal
  pub answer : IsFound (Unit {0}) (statements_in zone form.range (facts_of past) register)
      before after reply
  pub is : text ≡ statement_or_not form reply
  pub means : meant ≡ meant_by reply

-- True if the event engine printed the meters' statements (reports to check a bill) from all
-- accepted events, or a part of the statements if a write failed.
abbrev pub PrintsStatement : {B W : Type 0} → stores.Ghosts B → writers.Ghosts W → Zone
    → (register : Option (List ℕ)) → StatementForm → (old new : Office B) → (had holds : W)
    → ExitStatus → Type 0
PrintsStatement b w zone register form old new had holds status = After b.ledger old new
    (λ past. ReportsEnd (StatementPrints zone past register form (failures_of b.ledger old)
    (failures_of b.ledger new)) status (w.contents had) (w.contents holds))
