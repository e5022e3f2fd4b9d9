-- Contracts of the functions of a polling round: their effect on the round, its link to the device,
-- the office (the engine that records energy), the clock and the writer of the output.
--
-- In each contract of a polling round's functions, the names `old`, `before`, `had`, `from` and
-- `here` denote the state before the function's call. The parameters for the state after the call
-- and for the result come last.
use Rattle.std.specs.Prelude.{◌≡◌, ℕ, Bool, List, ◌∷◌, ◌++◌, Option, Result, Ok, Err}
use Rattle.std.specs.Io.KnownBytes.{Appends, Consumes}
use Rattle.std.specs.declared.io.Write as writers
use Rattle.mb_wire.specs.declared.link.Link as links
use Rattle.mb_wire.specs.declared.sockets.clock.Clock as clocks
use Rattle.script_text.specs.AnswerText.{accepted_text}
use Rattle.office_events.specs.declared.answers.Answer.{Answer}
use Rattle.office_events.specs.declared.events.Event.{Event}
use Rattle.office_events.specs.declared.events.Event.TheVariants as event
use Rattle.office_books.specs.History.{History}
use Rattle.office_books.specs.declared.books.Books as stores
use Rattle.office_core.specs.EventRun.{Answered}
use Rattle.office_core.specs.Standing.{After, books_in, notes_in, outgoing_in}
use Rattle.office_core.specs.Taking.{failures_of}
use Rattle.office_core.specs.declared.office.Office.{Office}
use Rattle.office_program.specs.Course.{Connect, Does, IsTaken, Next, Over, StartFrom, Take, next_in}
use Rattle.office_program.specs.FedEvents.{frames_after, piece_in, pieces_after}
use Rattle.office_program.specs.Rounds.{RoundState, Passage, Rounds, Wire, round_state, passage, wire}
use Rattle.office_program.specs.Stepping.{Broken, Closes, Connects, EndsPrinted, EndsUnprinted, Feeds, Going, IsNew, IsWired, Prints, Scene, Steps, StepsFrom, Reported, scene}
use Rattle.office_program.specs.Polling.{settled}
use Rattle.office_program.specs.Taking.{over_or_take}
use Rattle.office_program.specs.declared.fault.RoundFault.{RoundFault}
use Rattle.office_program.specs.declared.progress.Progress.{Progress}

-- The bytes that a link (a connection to a device) will deliver to later reads, and the bytes
-- written to it. Each is `None` if the link's type does not specify it. Contracts compare them
-- before and after a call.
abbrev pub wire_of : {L : Type 0} → links.Ghosts L → L → Wire
wire_of l link = wire (l.remaining link) (l.given link)

-- True if a function's call printed the report of an accepted event: the event engine's
-- notifications, Modbus frames and answer. If the write failed, only a part of the report was
-- printed.
abbrev pub PrintsReported : {B W : Type 0} → writers.Ghosts W → Office B → Answer → (had holds : W)
    → Result Answer RoundFault → Type 0
PrintsReported w office given had holds result =
    Prints given (accepted_text given (notes_in office) (outgoing_in office))
    (w.contents had) (w.contents holds) result

-- True if the event engine processed the last event of a polling round. Nothing was printed,
-- because an earlier write to the output had failed.
abbrev pub EndsSilently : {B : Type 0} → stores.Ghosts B → (at : ℕ) → Event → (old new : Office B)
    → Type 0
EndsSilently b at gone old new = (printed moments later : Option (List ℕ))
    → After b.ledger old new (λ past. EndsUnprinted b.ledger past at gone
    (round_state printed moments (failures_of b.ledger old))
    (round_state printed later (failures_of b.ledger new)) old new)

module _ {B W : Type 0} (b : stores.Ghosts B) (w : writers.Ghosts W) where
  -- True if an event was fed to the event engine and the engine's report of the event was printed,
  -- whatever time the clock returned.
  abbrev pub FeedsAndPrints : (at : ℕ) → Event → (old new : Office B) → (had holds : W)
      → Result Answer RoundFault → Type 0
  FeedsAndPrints at e old new had holds result = (moments later : Option (List ℕ))
      → After b.ledger old new (λ past. Feeds b.ledger past at e
      (round_state (w.contents had) moments (failures_of b.ledger old))
      (round_state (w.contents holds) later (failures_of b.ledger new)) new result)

  -- True if the last event of a polling round was fed to the event engine and its report was
  -- printed, whatever time the clock returned.
  abbrev pub EndsAndPrints : (at : ℕ) → Event → (cause : RoundFault) → (old new : Office B)
      → (had holds : W) → (fault : RoundFault) → Type 0
  EndsAndPrints at gone cause old new had holds fault = (moments later : Option (List ℕ))
      → After b.ledger old new (λ past. EndsPrinted b.ledger past at gone cause
      (round_state (w.contents had) moments (failures_of b.ledger old))
      (round_state (w.contents holds) later (failures_of b.ledger new)) old new fault)

module _ {B C W : Type 0} (b : stores.Ghosts B) (c : clocks.Ghosts C) (w : writers.Ghosts W) where
  -- The text printed so far, the remaining times of the clock, and the failure counts of the event
  -- engine's store. Text and times are `None` if the writer or the clock does not specify them.
  abbrev pub desk_of : Office B → C → W → RoundState
  desk_of office clock output =
      round_state (w.contents output) (c.moments clock) (failures_of b.ledger office)

  -- The type of a relation between the event engine, the clock and the writer of the output before
  -- and after a call, and a result of type `X`.
  abbrev pub Leaves : Type 0 → Type 1
  Leaves X = (old new : Office B) → (before after : C) → (had holds : W) → X → Type 0

  -- True if the event engine was fed the first event of a new polling round: the event `Connected`,
  -- for the round's device.
  abbrev pub ReportsConnection : (from to : Progress) → Leaves (Result (Unit {0}) RoundFault)
  ReportsConnection from to old new before after had holds result =
      After b.ledger old new (λ past. Connects b.ledger from.round.device past
      (desk_of old before had) (desk_of new after holds) new to result)

  -- States that if a polling round is new and `e` is its event `Connected`, then `e` was fed to the
  -- event engine. States nothing otherwise.
  abbrev pub ReportsFirst : Event → (from to : Progress) → Leaves (Result (Unit {0}) RoundFault)
  ReportsFirst e from to old new before after had holds result =
      IsNew from → e ≡ event.Connected from.round.device
      → ReportsConnection from to old new before after had holds result

  -- States that if `e` is the next event of a running polling round, the event engine was fed `e`
  -- and its report was printed. States nothing otherwise.
  abbrev pub ReportsNext : Event → (from to : Progress) → Leaves (Result (Unit {0}) RoundFault)
  ReportsNext e from to old new before after had holds result =
      (device : Option (List ℕ)) (past : History) (begun : RoundState) (fed : List Answered)
      → Going b.ledger device past begun (desk_of old before had) old fed from
      → Does device (next_in past fed) e → (b.ledger (books_in new)).is_clean
      → (one : Answered) × (one.event ≡ e)
      × Reported b.ledger device past begun (desk_of new after holds) new fed one to result

  -- States that if the fault `cause` ended the polling round early, then the round's last event was
  -- fed to the event engine. This event is `Gone`: the device is disconnected.
  abbrev pub ClosesBroken : Progress → (cause : RoundFault) → Leaves RoundFault
  ClosesBroken progress cause old new before after had holds fault =
      (device : Option (List ℕ)) (past : History) (begun : RoundState) (fed : List Answered)
      → Broken b.ledger device past begun (desk_of old before had) old fed progress cause
      → (b.ledger (books_in new)).is_clean
      → Closes b.ledger device past begun (desk_of new after holds) new fed cause fault

  -- States that if a polling round's event `Connected` was refused or not printed, the round ended
  -- as `Rounds` (the contract of a complete round) describes, with its link unchanged.
  abbrev pub EndsUnconnected : Progress → (cause : RoundFault) → Leaves RoundFault
  EndsUnconnected progress cause old new before after had holds fault =
      (device : Option (List ℕ)) (past : History) (begun : RoundState) (wire : Wire)
      → Connects b.ledger device past begun (desk_of old before had) old progress (Err cause)
      → (b.ledger (books_in new)).is_clean
      → Rounds b.ledger device past (passage begun (desk_of new after holds) wire wire) new
      (Err fault)

module _ {L B C W : Type 0} (l : links.Ghosts L) (b : stores.Ghosts B) (c : clocks.Ghosts C)
    (w : writers.Ghosts W) where
  -- The state of a polling round together with its link (the connection to the device), the event
  -- engine, the clock and the writer of the output.
  abbrev pub scene_of : Progress → L → Office B → C → W → Scene B
  scene_of progress link office clock output =
      scene office (desk_of b c w office clock output) (wire_of l link) progress

  -- The state of the output writer, the clock, the store's failure counts and the link (connection
  -- to the device) at the start and end of a polling round. A part that its type does not specify
  -- is `None`.
  abbrev pub passage_of : (from to : L) → (old new : Office B) → (before after : C)
      → (had holds : W) → Passage
  passage_of from to old new before after had holds =
      passage (desk_of b c w old before had) (desk_of b c w new after holds)
      (wire_of l from) (wire_of l to)

  -- The type of the contract of an action of a polling round. It relates the result to the round,
  -- its link, the event engine, the clock and the writer of the output before and after the call.
  abbrev pub StepsBetween : Type 0 → Type 1
  StepsBetween X = (here there : Progress) → (from to : L) → Leaves b c w (Result X RoundFault)

  -- States that if `now` is the polling round's next action, then the call of a polling function
  -- performed this action. Afterwards `then` gives the round's next action from the call's result.
  abbrev pub StepsOn : {X : Type 0} → (now : Next) → (then : X → Next) → StepsBetween X
  StepsOn now then here there from to old new before after had holds result =
      StepsFrom b.ledger (scene_of here from old before had) (scene_of there to new after holds)
      now result then

  -- States that if `e` is the polling round's next event, `e` was fed to the event engine. The
  -- engine's Modbus frames were written to the link (the connection to the device).
  abbrev pub Puts : Event → StepsBetween (Unit {0})
  Puts e here there from to old new before after had holds result =
      (device : Option (List ℕ)) (past : History) (begun : RoundState) (first : Wire)
      (fed : List Answered)
      → Going b.ledger device past begun (desk_of b c w old before had) old fed here
      → Consumes first.remaining (l.remaining from) (pieces_after fed ++ piece_in e)
      → Appends first.given (l.given from) (frames_after past fed)
      → Does device (next_in past fed) e → (b.ledger (books_in new)).is_clean
      → (one : Answered) × (one.event ≡ e)
      × Steps b.ledger device past begun (desk_of b c w new after holds) first
      (wire_of l to) new (one ∷ fed) there result (λ done. next_in past (one ∷ fed))

  -- True if the event that the polling round generates was fed to the event engine. If the round
  -- generates no event, because it waits for responses or is over, then no event was fed.
  abbrev pub FeedsWanted : StepsBetween (Unit {0})
  FeedsWanted here there from to old new before after had holds result =
      (now : Next) → StepsOn now (λ done. settled now) here there from to old new before after had
      holds result

  -- True if a call of a polling function fed to the event engine the event, if any, that the
  -- polling round generated after an event from the link (connection). The call's result says
  -- whether the round is over.
  abbrev pub Follows : StepsBetween Bool
  Follows here there from to old new before after had holds result =
      (now : Next) → (now ≡ Connect → ⊥)
      → StepsOn now over_or_take here there from to old new before after had holds result

  -- States that if the event `e` came from the link (the connection to the device), then `e` was
  -- fed to the event engine. Then the event that the polling round generated, if any, was fed to
  -- the engine. The result says whether the round is over.
  abbrev pub FeedsTaken : Event → StepsBetween Bool
  FeedsTaken e here there from to old new before after had holds result =
      (device : Option (List ℕ)) (past : History) (begun : RoundState) (first : Wire)
      (fed : List Answered)
      → Going b.ledger device past begun (desk_of b c w old before had) old fed here
      → Consumes first.remaining (l.remaining from) (pieces_after fed ++ piece_in e)
      → Appends first.given (l.given from) (frames_after past fed)
      → next_in past fed ≡ Take → IsTaken here.round.device e → (b.ledger (books_in new)).is_clean
      → (later : List Answered)
      × Steps b.ledger device past begun (desk_of b c w new after holds) first
      (wire_of l to) new later there result over_or_take

  -- True if the link (the connection to the device) was read once, and the events that follow from
  -- the read were fed to the event engine. The result says whether the polling round is over.
  abbrev pub TakesTurn : StepsBetween Bool
  TakesTurn = StepsOn Take over_or_take

  -- True if the link (the connection to the device) was read until the polling round was over.
  abbrev pub TakesTurns : StepsBetween (Unit {0})
  TakesTurns = StepsOn Take (λ done. Over)

  -- True if the Modbus reads of the device's plan were started, and the link (the connection to the
  -- device) was read until the polling round was over.
  abbrev pub PollsOut : StepsBetween (Unit {0})
  PollsOut = StepsOn (StartFrom 0) (λ done. Over)

  -- States that if the polling round had started no Modbus read before a call of the polling
  -- function, then this call polled the device until the round was over.
  abbrev pub PollsToEnd : Progress → (from to : L) → Leaves b c w (Result (Unit {0}) RoundFault)
  PollsToEnd progress from to old new before after had holds result =
      (device : Option (List ℕ)) (past : History) (begun : RoundState) (first : Wire)
      (fed : List Answered)
      → Going b.ledger device past begun (desk_of b c w old before had) old fed progress
      → IsWired {X = Unit {0}} past first (wire_of l from) fed (Ok tt)
      → next_in past fed ≡ StartFrom 0 → (b.ledger (books_in new)).is_clean
      → Rounds b.ledger device past
      (passage begun (desk_of b c w new after holds) first (wire_of l to)) new result

  -- True if a call of a function that polls the device performed a complete polling round, from the
  -- connection to the end of the round.
  abbrev pub RoundsOver : (device : Option (List ℕ)) → (from to : L)
      → Leaves b c w (Result (Unit {0}) RoundFault)
  RoundsOver device from to old new before after had holds result =
      After b.ledger old new (λ past. Rounds b.ledger device past
      (passage_of from to old new before after had holds) new result)
