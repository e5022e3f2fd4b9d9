-- The energies of a register (a named counter) by civil day, over earlier database files and the
-- file of the running program.
--
-- The energy intervals of the earlier database files were added up by civil day, in the order of
-- the files, before those of the current file are added.
use Rattle.std.specs.Prelude.{◌≡◌, ◌⊎◌, ℕ, List, ◌++◌, map, All, Option, Some, Result, Ok, Err, MatchResult, OnOk}
use Rattle.std.specs.List.{flat_map}
use Rattle.std.specs.declared.alloc.Global.{Global}
use Rattle.std.specs.declared.vec.Vec.{Vec}
use Rattle.interval_core.specs.Days.{AreAccounts, account_of}
use Rattle.interval_core.specs.declared.shares.Share.{Share}
use Rattle.interval_core.specs.declared.totals.DayTotal.{DayTotal}
use Rattle.interval_core.specs.declared.zone.Zone.{Zone}
use Rattle.office_events.specs.declared.facts.Fact.{Fact}
use Rattle.office_events.specs.declared.facts.Opening.{Opening}
use Rattle.office_events.specs.declared.questions.Installation.{Installation}
use Rattle.office_events.specs.declared.refusals.Refusal.{Refusal}
use Rattle.office_events.specs.declared.refusals.Refusal.TheVariants as refusal
use Rattle.office_events.specs.declared.refusals.StoreCause.TheVariants as store
use Rattle.office_books.specs.Facts.{opening_of, register_of}
use Rattle.office_books.specs.History.{facts_of}
use Rattle.office_books.specs.Intervals.{rows_of_opening, rows_of_register}
use Rattle.office_books.specs.Meters.{installation_of}
use Rattle.office_books.specs.Ledgers.{Ledger}
use Rattle.office_books.specs.Rows.{TakesAll}
use Rattle.office_books.specs.Spans.{rows_within}
use Rattle.office_books.specs.declared.failures.Failures.{Failures}
use Rattle.office_books.specs.declared.spans.Span.{Span}
use Rattle.office_core.specs.Asking.{IsFound, IsRowFound, is_there}
use Rattle.office_core.specs.Failing.{IsOutside}
use Rattle.office_core.specs.Several.{KeepsUnlessRefused}
use Rattle.office_core.specs.Standing.{After}
use Rattle.office_core.specs.Taking.{failures_of}
use Rattle.office_core.specs.declared.office.Office.{Office}
use Rattle.carried_books.specs.Joining.Days.{AreOutOfTurn, AreSumOf, HasNumber, TakesShare}
use Rattle.carried_books.specs.declared.joining.days.EarlierDays.{EarlierDays}
use Rattle.carried_books.specs.declared.joining.days.JoinedDays.{JoinedDays}

-- The records of a database file have this opening (a meter's first entry), and a search for the
-- meter's name finds this opening.
abbrev pub IsInstalled : List Fact → Opening → Type 0
IsInstalled facts opening = opening_of facts opening.meter ≡ Some opening

-- The result of adding up energy intervals (energies of quarter hours) over a span of time. A
-- success means that the intervals of the meters with the openings (first entries) in `openings`
-- were added, meter by meter. An error means that the database failed.
abbrev pub TakesMeters : List Fact → List Opening → Span → (before after : Failures)
    → (from to : JoinedDays) → Result (Unit {0}) Refusal → Type 0
TakesMeters facts openings span before after from to result =
    MatchResult result
    (λ done. TakesAll TakesShare from
    (rows_within span (flat_map (rows_of_opening facts) openings)) to)
    (IsOutside ⊥ before after)

-- If the meters in `listed` are in the records of the current database file, then their energy
-- intervals were added up from these records. The records were only read.
pub record AsksMeters {B : Type 0} (ledger : B → Ledger) (old new : Office B)
    (listed : List Installation) (span : Span) (from to : JoinedDays)
    (result : Result (Unit {0}) Refusal) : Type 0 where
  pub left : KeepsUnlessRefused ledger old new result
  pub takes : After ledger old new (λ past. (openings : List Opening)
      → listed ≡ map (installation_of (facts_of past)) openings
      → All (IsInstalled (facts_of past)) openings
      → TakesMeters (facts_of past) openings span
      (failures_of ledger old) (failures_of ledger new) from to result)

-- The result of adding up the energy intervals (energies of quarter hours) of an accounting
-- register (a named counter). A success means that the intervals in a span of time were added up.
-- An error means that no register has the name, or that the database failed.
pub record TakesRegister (facts : List Fact) (register : List ℕ) (span : Span)
    (before after : Failures) (from to : JoinedDays) (result : Result (Unit {0}) Refusal) :
    Type 0 where
  pub answer : IsRowFound (is_there (register_of facts register)) before after result
  pub whole : OnOk result (TakesAll TakesShare from
      (rows_within span (rows_of_register facts register)) to)

-- The energy intervals of the accounting register (a named counter) were added up from the records
-- of all events that the program accepted. The records were only read.
abbrev pub AsksRegister : {B : Type 0} → (B → Ledger) → (old new : Office B)
    → (register : List ℕ) → Span → (from to : JoinedDays) → Result (Unit {0}) Refusal → Type 0
AsksRegister ledger old new register span from to result = After ledger old new (λ past.
    TakesRegister (facts_of past) register span (failures_of ledger old) (failures_of ledger new)
    from to result)

-- The result of a request for the energy of a register (a named counter) by day: the energy of the
-- intervals in `rows`, or the reason for a refusal.
--
-- A request for the energy of a register (a named counter) by day is refused for one of four
-- reasons. No register has the name, the database or memory failed, the program's event handling
-- had stopped after a failure, or an interval is out of order.
abbrev pub ListsOver : Zone → (rows : List Share) → (there : Option (Unit {0}))
    → (before after : Failures) → Result (Vec DayTotal Global) Refusal → Type 0
ListsOver zone rows there before after (Ok days) =
    (there ≡ Some tt) × (after ≡ before) × AreAccounts zone rows (map account_of days.items)
ListsOver zone rows there before after (Err why) =
    IsFound {T = Unit {0}} (there ≡ Some tt) there before after (Err why)
    ⊎ ((why ≡ refusal.Store store.NoDay) × (after ≡ before) × AreOutOfTurn rows)

-- The energy intervals of a register (a named counter) in all files: those of earlier database
-- files, followed by those of the current file that start in a span of time.
abbrev pub rows_of_both : Span → (earlier : List Share) → List Fact → (register : List ℕ)
    → List Share
rows_of_both span earlier facts register =
    earlier ++ rows_within span (rows_of_register facts register)

-- States that, if the total energy fits in 128 bits, a successful request for an accounting
-- register (a named counter) returns its energy by day. The energy is that in earlier database
-- files and in the events that the running program accepted.
abbrev pub ReportsDaysOver : {B : Type 0} → (B → Ledger) → (old new : Office B) → Zone
    → (earlier : EarlierDays) → (register : List ℕ) → Span
    → Result (Vec DayTotal Global) Refusal → Type 0
ReportsDaysOver ledger old new zone earlier register span result = After ledger old new (λ past.
    (rows : List Share) → AreSumOf zone rows earlier
    → HasNumber (rows_of_both span rows (facts_of past) register)
    → ListsOver zone (rows_of_both span rows (facts_of past) register)
    (is_there (register_of (facts_of past) register))
    (failures_of ledger old) (failures_of ledger new) result)

-- The refusal of a request for the energy of a register (a named counter) if memory ran out. If no
-- register has the name, the database failed or the program had stopped, the refusal reports this
-- failure. Without such a failure, the refusal is `Memory`.
abbrev pub LacksMemory : {B : Type 0} → (B → Ledger) → (old new : Office B)
    → (register : List ℕ) → Refusal → Type 0
LacksMemory ledger old new register why = After ledger old new (λ past.
    let there = is_there (register_of (facts_of past) register) in
    IsFound {T = Unit {0}} (there ≡ Some tt) there (failures_of ledger old)
    (failures_of ledger new) (Err why))
