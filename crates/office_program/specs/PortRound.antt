-- The result of a command that polls a device once over TCP. The command opens an office, the
-- engine that records meters' energy, over a store.
use Rattle.std.specs.Prelude.{◌≡◌, ℕ, List, Option, Result}
use Rattle.std.specs.declared.io.Write as writers
use Rattle.mb_wire.specs.declared.sockets.clock.Clock as clocks
use Rattle.office_events.specs.Names.{named}
use Rattle.office_books.specs.History.{History}
use Rattle.office_books.specs.Ledgers.{Ledger}
use Rattle.office_books.specs.declared.books.Books as stores
use Rattle.office_core.specs.Standing.{After}
use Rattle.office_core.specs.Taking.{failures_of}
use Rattle.office_core.specs.declared.office.Office.{Office}
use Rattle.office_program.specs.Rounds.{Wire, round_state, passage}
use Rattle.office_program.specs.declared.fault.RoundFault.{RoundFault}
use Rattle.office_program.specs.Texts.OpenedOffice.{ReportsUnopened}
use Rattle.office_program.specs.Texts.Rounds.{PollsRound}
use Rattle.office_program.specs.Opened.{OverStanding, WithOffice}
use Rattle.office_program.specs.declared.port_round.PollEnd.{PollEnd}
use Rattle.office_program.specs.declared.port_round.PollEnd.TheVariants.{Polled, Unopened, Unconnected}

-- True if the device was polled in one polling round over some link (a connection to the device),
-- as the contract `PollsRound` describes.
pub record IsPolled {B : Type 0} (ledger : B → Ledger) (device : List ℕ)
    (later had holds : Option (List ℕ)) (done : Result (Unit {0}) RoundFault)
    (following : History) (then : Option (List ℕ)) (opened left : Office B) : Type 0 where
  pub from : Wire
  pub to : Wire
  pub polls : PollsRound ledger (named device) following
      (passage (round_state had then (failures_of ledger opened))
      (round_state holds later (failures_of ledger left)) from to) left done

-- True if the event engine is unchanged and nothing was printed, because no connection to the
-- device was established.
pub record IsLeft {B : Type 0} (had holds : Option (List ℕ)) (opened left : Office B)
    : Type 0 where
  pub same : left ≡ opened
  pub silent : holds ≡ had

-- The state of the event engine after the command that polls a device once. If the device was
-- connected, the result is the state after a polling round. If no connection was established, the
-- engine is unchanged.
abbrev pub PollsPort : {B : Type 0} → (B → Ledger) → (device : List ℕ)
    → (later had holds : Option (List ℕ)) → PollEnd
    → (following : History) → (then : Option (List ℕ)) → (opened left : Office B) → Type 0
PollsPort ledger device later had holds (Polled done) following then opened left =
    IsPolled ledger device later had holds done following then opened left
PollsPort ledger device later had holds Unconnected following then opened left =
    IsLeft had holds opened left
PollsPort ledger device later had holds (Unopened status) following then opened left = ⊥

-- The contract of polling a device once over TCP. The definition `PollsPort` states the result,
-- whatever events the event engine accepted before.
abbrev pub PollsPortOf : {B C W : Type 0} → stores.Ghosts B → clocks.Ghosts C → writers.Ghosts W
    → (device : List ℕ) → (old new : Office B) → (before after : C) → (had holds : W) → PollEnd
    → Type 0
PollsPortOf b c w device old new before after had holds end =
    After b.ledger old new (λ past. PollsPort b.ledger device (c.moments after) (w.contents had)
    (w.contents holds) end past (c.moments before) old new)

-- True if the event engine was opened and the device was polled. Also true if opening the engine
-- was refused and only the refusal was printed.
abbrev pub ReportsPolling : {B : Type 0} → (B → Ledger) → (past : History) → (device : List ℕ)
    → (moments later : Option (List ℕ)) → (books back : B) → (had holds : Option (List ℕ))
    → PollEnd → Type 0
ReportsPolling ledger past device moments later books back had holds (Unopened status) =
    ReportsUnopened past moments later (ledger books) (ledger back) status had holds
ReportsPolling ledger past device moments later books back had holds end =
    WithOffice ledger past moments back (PollsPort ledger device later had holds end)

-- The contract of the command that polls a device once, for any accepted events that the store
-- records. The definition `ReportsPolling` states the result.
abbrev pub PollsOver : {B C W : Type 0} → stores.Ghosts B → clocks.Ghosts C → writers.Ghosts W
    → (device : List ℕ) → (books back : B) → (before after : C) → (had holds : W) → PollEnd → Type 0
PollsOver b c w device books back before after had holds end =
    OverStanding b.ledger books back (λ past. ReportsPolling b.ledger past device (c.moments before)
    (c.moments after) books back (w.contents had) (w.contents holds) end)
