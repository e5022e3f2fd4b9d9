-- The events that one call of `turn` has fed to the office (the event engine) so far, and the
-- resulting state. A call of `turn` processes one device event, such as received bytes.
use Rattle.std.specs.Prelude.{◌≡◌, ◌⊎◌, ◌≤◌, ℕ, List, [], ◌∷◌, length, Option, Some, None}
use Rattle.office_books.specs.History.{History}
use Rattle.office_books.specs.declared.failures.Failures.{Failures}
use Rattle.office_books.specs.Ledgers.{Ledger}
use Rattle.office_core.specs.EventRun.{Answered}
use Rattle.office_core.specs.Standing.{After, books_in}
use Rattle.office_core.specs.Taking.{failures_of}
use Rattle.office_core.specs.declared.office.Office.{Office}
use Rattle.office_program.specs.Rounds.{IsFed, round_state}
use Rattle.office_program.specs.declared.device_rounds.round.Round.{Round}
use Rattle.office_events.specs.Showing.{Shown}
use Rattle.office_program.specs.Driver.Turns.{AreNext, AreShown, Table, Wished, first_request, next_by, table, table_with}

-- The state during a call of `turn`, which processes one device event. It has the event engine, the
-- failure counts of its store, the polling rounds, and the observer that is shown each event.
pub record Scene (B V : Type 0) : Type 0 where
  pub office : Office B
  pub failures : Failures
  pub rounds : List Round
  pub observer : V

-- Builds a `Scene` (the state during a call of `turn`, which processes one device event) from its
-- fields.
abbrev pub scene : {B V : Type 0} → Office B → Failures → List Round → V → Scene B V
scene office failures rounds observer =
    record { office = office; failures = failures; rounds = rounds; observer = observer }

-- The state at the start of a call of `turn`, which processes one device event. It has the store's
-- failure counts, the observer, the polling rounds, and the event to feed first to the event
-- engine.
pub record Start (V : Type 0) : Type 0 where
  pub failures : Failures
  pub table : Table
  pub observer : V

-- Builds a `Start` (the state at the start of a call of `turn`, which processes one device event)
-- from its fields.
abbrev pub start : {V : Type 0} → Failures → Table → V → Start V
start failures at observer = record { failures = failures; table = at; observer = observer }

-- True if each event in the list has the timestamp `at`.
abbrev pub AreAt : ℕ → List Answered → Type 0
AreAt at [] = Unit {0}
AreAt at (one ∷ earlier) = AreAt at earlier × (one.at ≡ at)

-- The invariant of a call of `turn` (which processes one device event): each event that the call
-- has fed to the event engine was the next event to feed, and all events have one timestamp.
--
-- The event engine gave each event the answer that the specification gives, and the observer got a
-- report of each event. The engine and the polling rounds are in the state after the events.
pub record Going {B V : Type 0} (ledger : B → Ledger) (sees : V → Shown → V → Type 0)
    (past : History) (begun : Start V)
    (at : ℕ) (fed : List Answered) (first : Option Wished) (now : Scene B V) : Type 0 where
  pub leaves : IsFed ledger past (round_state None None begun.failures)
      (round_state None None now.failures) now.office fed
  pub next : AreNext past begun.table fed
  pub timed : AreAt at fed
  pub rounds : table first now.rounds ≡ table_with past begun.table fed
  pub shown : AreShown sees begun.observer now.observer past begun.table fed

-- States that if `one` is the next event for the event engine, the call of `turn` (which processes
-- one device event) fed this event to the engine. Then `new` is the state after the event.
--
-- The definition `FeedsNext` states nothing if `one` is not the next event to feed to the event
-- engine, or if the program used a wrong result of the store.
abbrev pub FeedsNext : {B V : Type 0} → (B → Ledger) → (V → Shown → V → Type 0) → (at : ℕ) → Wished
    → (old new : Scene B V) → Type 0
FeedsNext {B} {V} ledger sees at one old new =
    (past : History) (begun : Start V) (fed : List Answered) (first : Option Wished)
    → Going ledger sees past begun at fed first old → next_by first old.rounds ≡ Some one
    → (ledger (books_in new.office)).is_clean
    → (next : Answered) × Going ledger sees past begun at (next ∷ fed) None new

-- True if a call of `turn` (which processes one device event) is complete: no polling round
-- generates an event, or the call has fed at least 256 events to the event engine.
abbrev pub IsSettled : List Round → (before after : List Answered) → Type 0
IsSettled rounds before after = (first_request rounds ≡ None) ⊎ (256 ≤ length after)

-- True if the polling rounds' events were fed to the event engine, until no round generated an
-- event or 256 events were fed.
abbrev pub OfficeGoesOn : {B V : Type 0} → (B → Ledger) → (V → Shown → V → Type 0) → (at : ℕ)
    → (old new : Scene B V) → Type 0
OfficeGoesOn {B} {V} ledger sees at old new =
    (past : History) (begun : Start V) (fed : List Answered)
    → Going ledger sees past begun at fed None old → (ledger (books_in new.office)).is_clean
    → (later : List Answered) × Going ledger sees past begun at later None new
    × IsSettled new.rounds fed later

-- The contract of feeding one event to the event engine. The definition `FeedsNext` relates the
-- engine, its polling rounds and its observer before and after the call.
abbrev pub FeedsOne : {B V : Type 0} → (B → Ledger) → (V → Shown → V → Type 0) → (at : ℕ) → Wished
    → (old new : Office B) → (before after : List Round) → (from to : V) → Type 0
FeedsOne ledger sees at one old new before after from to =
    FeedsNext ledger sees at one (scene old (failures_of ledger old) before from)
    (scene new (failures_of ledger new) after to)

-- The contract of feeding the polling rounds' events to the event engine. The definition
-- `OfficeGoesOn` relates the engine, its polling rounds and its observer before and after the call.
abbrev pub Settles : {B V : Type 0} → (B → Ledger) → (V → Shown → V → Type 0) → (at : ℕ)
    → (old new : Office B) → (before after : List Round) → (from to : V) → Type 0
Settles ledger sees at old new before after from to =
    OfficeGoesOn ledger sees at (scene old (failures_of ledger old) before from)
    (scene new (failures_of ledger new) after to)

-- The result of a complete call of `turn` (which processes one device event). The call fed the
-- device event, if there was one, to the event engine. Then it fed the events of polling rounds,
-- until no round generated an event or 256 events were fed.
pub record TakesTurn {B V : Type 0} (ledger : B → Ledger) (sees : V → Shown → V → Type 0)
    (past : History) (begun : Start V)
    (at : ℕ) (now : Scene B V) : Type 0 where
  pub fed : List Answered
  pub going : Going ledger sees past begun at fed None now
  pub settled : IsSettled now.rounds [] fed

-- True if an event engine has performed a complete call of `turn` (which processes one device
-- event).
--
-- `begun` has the polling rounds and the event to feed first to the engine. `rounds` and `to` are
-- the rounds and the observer after the call of `turn`, which processes one device event.
abbrev pub Turns : {B V : Type 0} → (B → Ledger) → (V → Shown → V → Type 0) → (at : ℕ)
    → (begun : Table) → (old new : Office B) → (rounds : List Round) → (from to : V) → Type 0
Turns ledger sees at begun old new rounds from to =
    After ledger old new (λ past. TakesTurn ledger sees past
    (start (failures_of ledger old) begun from) at
    (scene new (failures_of ledger new) rounds to))
