-- The program's answers to queries, and the effect of a query on the program's state.
use Rattle.std.specs.Prelude.{◌≡◌, ◌⊎◌, ◌↔◌, ℕ, ◌<◌, ◌^◌, length, true, List, [], map, Option, Some, None, Result, Ok, Err, MatchResult, IfErr, OnOk, OnErr}
use Rattle.std.specs.Option.{option_map, option_and_then}
use Rattle.std.specs.declared.alloc.Global.{Global}
use Rattle.std.specs.declared.vec.Vec.{Vec}
use Rattle.interval_core.specs.Days.{DayAccount, AreAccounts, account_of}
use Rattle.interval_core.specs.declared.shares.Share.{Share}
use Rattle.interval_core.specs.declared.totals.DayTotal.{DayTotal}
use Rattle.interval_core.specs.declared.zone.Zone.{Zone}
use Rattle.office_events.specs.declared.facts.Fact.{Fact}
use Rattle.office_events.specs.declared.refusals.Refusal.{Refusal}
use Rattle.office_events.specs.declared.refusals.Refusal.TheVariants as refusal
use Rattle.office_events.specs.declared.refusals.StoreCause.{StoreCause}
use Rattle.office_events.specs.declared.refusals.StoreCause.TheVariants as store
use Rattle.office_books.specs.Facts.{opening_of, register_of}
use Rattle.office_books.specs.History.{History, facts_of}
use Rattle.office_books.specs.Intervals.{rows_of_opening, rows_of_register, AreDaysOf}
use Rattle.office_books.specs.Lawful.{AreLawful}
use Rattle.office_books.specs.declared.faults.BooksFault.{BooksFault}
use Rattle.office_books.specs.declared.failures.Failures.{Failures}
use Rattle.office_books.specs.declared.spans.Span.{Span}
use Rattle.office_books.specs.Faults.{as_refusal}
use Rattle.office_books.specs.Ledgers.{Ledger, KeepsFacts}
use Rattle.office_books.specs.Rows.{TakesAll, TakesFirst}
use Rattle.office_books.specs.Spans.{rows_within}
use Rattle.office_core.specs.declared.office.Office.{Office}
use Rattle.office_core.specs.Failing.{FailsOutside, IsNotStopped, IsOutside, MemoryLacked, StoreFailed}
use Rattle.office_core.specs.Standing.{Stands, After, books_in, is_stopped, notes_in, outgoing_in}
use Rattle.office_core.specs.Taking.{failures_of}

-- The answer to a query for one row, which is the row, or the refusal `NotFound` if the row does
-- not exist.
abbrev pub or_not_found : {T : Type 0} → Option T → Result T Refusal
or_not_found None = Err refusal.NotFound
or_not_found (Some found) = Ok found

-- The program's answer for the result of a lookup in the store. The answer is the row, the refusal
-- `NotFound`, or the refusal that reports the store's failure.
abbrev pub answered : {T : Type 0} → Result (Option T) BooksFault → Result T Refusal
answered (Ok found) = or_not_found found
answered (Err why) = Err (as_refusal why)

-- True if the result of a query for one row is the row, `NotFound` because the row does not exist,
-- or a correct report. A report says that the store failed, memory ran out or the program has
-- stopped (it refuses everything).
abbrev pub IsFound : {T : Type 0} → (takes_memory : Type 0) → Option T → (before after : Failures)
    → Result T Refusal → Type 0
IsFound takes_memory found before after result =
    ((result ≡ or_not_found found) × (after ≡ before))
    ⊎ FailsOutside takes_memory before after result

-- `Some` without content if the requested row exists, otherwise `None`.
abbrev pub is_there : {T : Type 0} → Option T → Option (Unit {0})
is_there found = option_map (λ x. tt) found

-- The rows of an optional list, or the empty list if the optional list is `None`.
abbrev pub rows_in : {T : Type 0} → Option (List T) → List T
rows_in None = []
rows_in (Some rows) = rows

-- The interval rows (energy by quarter hour) of the named meter, or `None` if no meter has the name
-- or the name is invalid.
abbrev pub intervals_of : List Fact → (meter : Option (List ℕ)) → Option (List Share)
intervals_of facts meter =
    option_map (rows_of_opening facts) (option_and_then (opening_of facts) meter)

-- True if the result of a query for one row is the row, `NotFound` or a correct report of a
-- failure, and memory outside the store did not run out.
abbrev pub IsRowFound : {T : Type 0} → Option T → (before after : Failures) → Result T Refusal
    → Type 0
IsRowFound found before after result = IsFound ⊥ found before after result

-- The guarantees of a query that passes rows to a sink (a visitor of rows). On `Ok` the sink got
-- all rows, and on an error a prefix of the rows. The result is `NotFound` if `rows` is `None` (the
-- records have no such rows).
pub record HandsRows {S T : Type 0} (takes : S → T → S → Type 0) (rows : Option (List T))
    (before after : Failures) (from to : S) (result : Result (Unit {0}) Refusal) : Type 0 where
  pub answer : IsRowFound (is_there rows) before after result
  pub begun : TakesFirst takes from (rows_in rows) to
  pub whole : OnOk result (TakesAll takes from (rows_in rows) to)

-- True if a list of days has the energy by civil day of the accounting register (a named energy
-- counter) with the given name. False if the name is invalid (`None`).
abbrev pub AreDaysNamed : Zone → List Fact → (register : Option (List ℕ)) → List DayAccount → Type 0
AreDaysNamed zone facts None days = ⊥
AreDaysNamed zone facts (Some register) days = AreDaysOf zone facts register days

-- True if the sink (a visitor of days) got the days of an accounting register (a named energy
-- counter) in order. The days are those on which a quarter hour with energy begins, and are fewer
-- than 2^64.
pub record TakesDays {S : Type 0} (takes : S → DayTotal → S → Type 0) (zone : Zone)
    (facts : List Fact) (register : Option (List ℕ)) (from to : S) : Type 0 where
  pub days : List DayTotal
  pub are : AreDaysNamed zone facts register (map account_of days)
  pub few : length days < 2 ^ 64
  pub took : TakesAll takes from days to

-- The guarantees of a query that passes days to a sink, a visitor of days. The sink got all days on
-- `Ok` and none on an error. Memory outside the store is needed only if the register exists.
pub record HandsDays {S : Type 0} (takes : S → DayTotal → S → Type 0) (zone : Zone)
    (facts : List Fact) (register : Option (List ℕ)) (before after : Failures) (from to : S)
    (result : Result (Unit {0}) Refusal) : Type 0 where
  pub answer : let there = is_there (option_and_then (register_of facts) register) in
      IsFound (there ≡ Some tt) there before after result
  pub whole : OnOk result (TakesDays takes zone facts register from to)
  pub none : OnErr result (to ≡ from)

-- States that, if every wrong result of the store was detected, the result of a query for one row
-- follows from the store's records.
abbrev pub FoundIn : {T : Type 0} → (old new : Ledger) → Result T Refusal → (List Fact → Option T)
    → Type 0
FoundIn old new result row =
    (known : List Fact) → old.holds known → new.is_clean
    → IsRowFound (row known) old.failures new.failures result

-- States that, if every wrong result of the store was detected, the rows of a query are those that
-- follow from the store's records.
abbrev pub RowsIn : {S T : Type 0} → (S → T → S → Type 0) → (old new : Ledger) → (from to : S)
    → Result (Unit {0}) Refusal → (List Fact → Option (List T)) → Type 0
RowsIn takes old new from to result rows =
    (known : List Fact) → old.holds known → new.is_clean
    → HandsRows takes (rows known) old.failures new.failures from to result

-- States that the days of a query are those that follow from the store's records if two conditions
-- hold. The records are lawful (the rules for adding records accept each one), and every wrong
-- result of the store was detected.
abbrev pub DaysIn : {S : Type 0} → (S → DayTotal → S → Type 0) → (old new : Ledger) → (from to : S)
    → Result (Unit {0}) Refusal → (register : Option (List ℕ)) → Type 0
DaysIn takes old new from to result register =
    (known : List Fact) → AreLawful known → old.holds known → new.is_clean
    → HandsDays takes old.zone known register old.failures new.failures from to result

-- States that the result is the list of an accounting register's days in a
-- time span, or a failure, if two conditions hold. The records are lawful (the rules for adding
-- records accept each one), and every wrong result of the store was detected.
abbrev pub ListsDays : (old new : Ledger) → (register : List ℕ) → Span
    → Result (Vec DayTotal Global) Refusal → Type 0
ListsDays old new register span result =
    (known : List Fact) → AreLawful known → old.holds known → new.is_clean
    → MatchResult result
    (λ days. AreAccounts old.zone (rows_within span (rows_of_register known register))
    (map account_of days.items)
    × (new.failures ≡ old.failures))
    (IsOutside (Unit {0}) old.failures new.failures)

-- True if the answer to a query for one row follows from the records of all accepted events.
abbrev pub ReportsRow : {B T : Type 0} → (B → Ledger) → (old new : Office B) → Result T Refusal
    → (List Fact → Option T) → Type 0
ReportsRow ledger old new result row = After ledger old new (λ past.
    IsRowFound (row (facts_of past)) (failures_of ledger old) (failures_of ledger new) result)

-- True if the rows that a query returns are those that follow from the records of all accepted
-- events.
abbrev pub ReportsRows : {B S T : Type 0} → (S → T → S → Type 0) → (B → Ledger)
    → (old new : Office B) → (from to : S) → Result (Unit {0}) Refusal
    → (List Fact → Option (List T)) → Type 0
ReportsRows takes ledger old new from to result rows = After ledger old new (λ past.
    HandsRows takes (rows (facts_of past))
    (failures_of ledger old) (failures_of ledger new) from to result)

-- True if the days that a query returns are those that follow from the records of all accepted
-- events.
abbrev pub ReportsDays : {B S : Type 0} → (S → DayTotal → S → Type 0) → (B → Ledger)
    → (old new : Office B) → (from to : S) → Result (Unit {0}) Refusal
    → (register : Option (List ℕ)) → Type 0
ReportsDays takes ledger old new from to result register = After ledger old new (λ past.
    HandsDays takes (ledger (books_in old)).zone (facts_of past) register
    (failures_of ledger old) (failures_of ledger new) from to result)

-- True if passing some list of rows in order changes the sink (a visitor of rows) from `from` to
-- `to`. If the store returned wrong results, the rows may be wrong.
abbrev pub TakesRows : {S T : Type 0} → (S → T → S → Type 0) → (from to : S) → Type 0
TakesRows {S} {T} takes from to = (rows : List T) × TakesAll takes from rows to

-- The failure counter after a query that failed with the given cause. If a quarter hour without a
-- civil day is the cause, the failure is not counted. Each other failure is counted once.
abbrev pub CountsCause : (before after : Failures) → StoreCause → Type 0
CountsCause before after store.NoDay = after ≡ before
CountsCause before after why = StoreFailed why before after

-- The failure counter after a refused query. The reason for the refusal is `NotFound`, a failure of
-- the store, that memory ran out, or that the program has stopped (it refuses everything).
--
-- A failure of the store is counted once, whatever the store returned. Running out of memory is not
-- counted, but may be recorded as last failure.
abbrev pub CountsWhy : (before after : Failures) → Refusal → Type 0
CountsWhy before after refusal.NotFound = after ≡ before
CountsWhy before after (refusal.Store cause) = CountsCause before after cause
CountsWhy before after refusal.Memory = MemoryLacked (Unit {0}) before after
CountsWhy before after refusal.Stopped = after ≡ before
CountsWhy before after _ = ⊥

-- The failure counter after a query. The counter is unchanged after `Ok`. After a refusal, it
-- counts each failure of the store once.
abbrev pub CountsAsked : {T : Type 0} → (before after : Failures) → Result T Refusal → Type 0
CountsAsked before after (Ok x) = after ≡ before
CountsAsked before after (Err why) = CountsWhy before after why

-- The effect of a query on the store. The records, the records that may remain after a crash, and
-- the time zone are unchanged. If the store is clean (every wrong result was detected) after the
-- query, it was clean before.
pub record Asks {T : Type 0} (old new : Ledger) (result : Result T Refusal) : Type 0 where
  pub keeps : KeepsFacts old new
  pub counts : CountsAsked old.failures new.failures result
  pub not_stopped : IfErr result IsNotStopped
  pub clean : new.is_clean → old.is_clean
  pub zone : new.zone ≡ old.zone

-- The effect of a query on the program's state. The state, the notifications, the bytes to send and
-- the records that may remain after a crash are unchanged. The query is refused as `Stopped` if and
-- only if the program refused everything before. No query makes the program refuse everything.
pub record OnlyAsks {B T : Type 0} (ledger : B → Ledger) (old new : Office B)
    (result : Result T Refusal) : Type 0 where
  pub stands : (past : History) → Stands ledger past old → Stands ledger past new
  pub keeps : KeepsFacts (ledger (books_in old)) (ledger (books_in new))
  pub notes : notes_in new ≡ notes_in old
  pub outgoing : outgoing_in new ≡ outgoing_in old
  pub stopped : (result ≡ Err refusal.Stopped) ↔ (is_stopped old ≡ true)
  pub stays : is_stopped new ≡ is_stopped old
  pub counts : CountsAsked (failures_of ledger old) (failures_of ledger new) result
  pub clean : (ledger (books_in new)).is_clean → (ledger (books_in old)).is_clean
  pub zone : (ledger (books_in new)).zone ≡ (ledger (books_in old)).zone
