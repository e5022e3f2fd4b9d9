-- The contract of the command `sunreg run`: which events and requests the program processes, and at
-- which timestamps.
use Rattle.std.specs.Prelude.{◌≡◌, ◌⊎◌, ℕ, max, List, [], ◌∷◌, ◌++◌, length, Option}
use Rattle.mb_wire.specs.Sockets.Clocks.{ReportsMoment}
use Rattle.office_events.specs.declared.commands.Command.{Command}
use Rattle.office_events.specs.declared.commands.Command.TheVariants as command
use Rattle.office_events.specs.declared.events.Event.{Event}
use Rattle.office_events.specs.declared.events.Event.TheVariants as event
use Rattle.office_books.specs.Facts.{latest_in, pending_in}
use Rattle.office_books.specs.History.{History, Opened, facts_of}
use Rattle.office_books.specs.Refusals.{with_answer}
use Rattle.office_books.specs.Ledgers.{Ledger}
use Rattle.office_core.specs.Leaving.{BooksStand}
use Rattle.office_core.specs.EventRun.{Answered}
use Rattle.office_core.specs.Standing.{After, Stands, books_in}
use Rattle.office_core.specs.declared.office.Office.{Office}
use Rattle.office_http.specs.Serving.{with_asked}
use Rattle.office_http.specs.Connections.Connections.{Connection}
use Rattle.office_running.specs.declared.leftovers.Left.{Left}

-- Defines the steps of a run (one execution of `sunreg run`) at one timestamp, and the program's
-- state after them. A step processes an event or answers an HTTP connection.

-- One step of `sunreg run`: the program processed an event of a device's polling round, or answered
-- the requests on an HTTP client's connection.
--
-- The parameter `names` has the host names that the `Host` header of a request may have.
pub data Step (names : List (List ℕ)) : Type 0 where
  Fed : Answered → Step names
  Asks : Connection names → Step names

-- True if the command starts the Modbus reads of a device. A polling round (the polls of one
-- device, one for each read) generates no command except these.
abbrev pub StartsRound : Command → Type 0
StartsRound (command.StartRound start) = Unit {0}
StartsRound _ = ⊥

-- True if the event belongs to a polling round: the device connected, sent bytes or disconnected,
-- or its reads are started. A timer event also counts.
abbrev pub IsOfRound : Event → Type 0
IsOfRound (event.Connected device) = Unit {0}
IsOfRound (event.Bytes device piece) = Unit {0}
IsOfRound event.Tick = Unit {0}
IsOfRound (event.Gone device closing) = Unit {0}
IsOfRound (event.Command given) = StartsRound given
IsOfRound (event.Asked asked) = ⊥

-- True if a step of `sunreg run` (a processed event or an answered connection) happened at the
-- timestamp `at`. If the step processed an event, the event also belongs to a device's polling
-- round.
abbrev pub IsStepAt : {names : List (List ℕ)} → (at : ℕ) → Step names → Type 0
IsStepAt at (Fed fed) = (fed.at ≡ at) × IsOfRound fed.event
IsStepAt at (Asks one) = one.at ≡ at

-- True if each step in a list of steps of `sunreg run` (processed events or answered connections)
-- happened at timestamp `at`.
abbrev pub AreAt : {names : List (List ℕ)} → (at : ℕ) → List (Step names) → Type 0
AreAt at [] = Unit {0}
AreAt at (one ∷ earlier) = IsStepAt at one × AreAt at earlier

-- The history of the program's accepted events after one more step of a run: a processed event or
-- an answered HTTP connection.
abbrev pub with_step : {names : List (List ℕ)} → History → Step names → History
with_step past (Fed fed) = with_answer past fed.at fed.event fed.result
with_step past (Asks one) = with_asked past one.at one.asked

-- The history of the program's accepted events after several steps of a run (processed events or
-- answered connections). The list has the latest step first.
abbrev pub history_with : {names : List (List ℕ)} → (past : History) → List (Step names)
    → History
history_with past [] = past
history_with past (one ∷ earlier) = with_step (history_with past earlier) one

-- True if the program is in the state that follows from some steps of `sunreg run` (processed
-- events or answered connections), all at the timestamp `at`.
pub record StandsAfterSteps {B : Type 0} (names : List (List ℕ)) (at : ℕ) (ledger : B → Ledger)
    (past : History) (office : Office B) : Type 0 where
  pub steps : List (Step names)
  pub each : AreAt at steps
  pub stands : Stands ledger (history_with past steps) office

-- The contract of each function of the event loop. Whatever bytes arrive, the program processes
-- only events of polling rounds and requests of clients, all at the timestamp `at`.
--
-- Clean means that the program used no wrong result of a store. If the store is clean after a
-- function of the event loop returns, then it was clean before the call. The store's time zone is
-- unchanged.
pub record Goes {B : Type 0} (names : List (List ℕ)) (at : ℕ) (ledger : B → Ledger)
    (old new : Office B) : Type 0 where
  pub stands : After ledger old new (λ past. StandsAfterSteps names at ledger past new)
  pub clean : (ledger (books_in new)).is_clean → (ledger (books_in old)).is_clean
  pub zone : (ledger (books_in new)).zone ≡ (ledger (books_in old)).zone

-- Defines the turns (passes) of the event loop of `sunreg run`. In each, the clock is read once,
-- and then events are processed or HTTP connections are answered.

-- True if the clock was read once, and `latest` is the later of the time that it returned and
-- `before`. `before` is the latest time that the clock had returned earlier.
pub record ReadsClock (before latest : ℕ) (begun now : Option (List ℕ)) : Type 0 where
  pub reported : ℕ
  pub reports : ReportsMoment begun now reported
  pub is_latest : latest ≡ max before reported

-- One turn (pass) of the run's event loop: the time that the clock returned, and the steps of the
-- turn (processed events or answered connections), the latest step first.
pub record Turn (names : List (List ℕ)) : Type 0 where
  pub reported : ℕ
  pub steps : List (Step names)

-- The latest time that the clock returned in a list of turns (passes) of the event loop, or `first`
-- if this is later. `first` is the latest timestamp before these passes.
abbrev pub latest_of : {names : List (List ℕ)} → (first : ℕ) → List (Turn names) → ℕ
latest_of first [] = first
latest_of first (turn ∷ earlier) = max (latest_of first earlier) turn.reported

-- True if the clock was read once in each turn (pass) of the event loop. All steps of a turn
-- happened at the latest time that the clock had returned by this turn, so timestamps never
-- decrease.
abbrev pub AreTurns : {names : List (List ℕ)} → (first : ℕ) → (begun now : Option (List ℕ))
    → List (Turn names) → Type 0
AreTurns first begun now [] = now ≡ begun
AreTurns first begun now (turn ∷ earlier) =
    (between : Option (List ℕ)) × AreTurns first begun between earlier
    × ReportsMoment between now turn.reported × AreAt (latest_of first (turn ∷ earlier)) turn.steps

-- The steps (processed events or answered connections) of all given turns (passes) of the event
-- loop. The latest step is first.
abbrev pub steps_of : {names : List (List ℕ)} → List (Turn names) → List (Step names)
steps_of [] = []
steps_of (turn ∷ earlier) = turn.steps ++ steps_of earlier

-- True if the program is in the state that follows from some passes of the event loop. `latest` is
-- the latest time that the clock returned in these passes, but at least `first`.
pub record StandsAfterTurns {B : Type 0} (names : List (List ℕ)) (first latest : ℕ)
    (begun now : Option (List ℕ)) (ledger : B → Ledger) (past : History)
    (office : Office B) : Type 0 where
  pub turns : List (Turn names)
  pub are : AreTurns first begun now turns
  pub is_latest : latest ≡ latest_of first turns
  pub stands : Stands ledger (history_with past (steps_of turns)) office

-- True if the program processed some passes of the event loop and nothing else.
--
-- A store is clean if the program used no wrong result of the store. A store that is clean after
-- the processed passes was clean before them. Its time zone is unchanged.
pub record TakesTurns {B : Type 0} (names : List (List ℕ)) (ledger : B → Ledger)
    (first latest : ℕ) (begun now : Option (List ℕ)) (old new : Office B) : Type 0 where
  pub stands : After ledger old new
      (λ past. StandsAfterTurns names first latest begun now ledger past new)
  pub clean : (ledger (books_in new)).is_clean → (ledger (books_in old)).is_clean
  pub zone : (ledger (books_in new)).zone ≡ (ledger (books_in old)).zone

-- True if the program processed some passes of the event loop and nothing else. No timestamp of
-- these passes is before `first`.
pub record TurnsFrom {B : Type 0} (names : List (List ℕ)) (ledger : B → Ledger) (first : ℕ)
    (begun now : Option (List ℕ)) (old new : Office B) : Type 0 where
  pub latest : ℕ
  pub turns : TakesTurns names ledger first latest begun now old new

-- True if the clock was read and returned the timestamp `first`, and then the program processed
-- some passes of the event loop.
pub record RunsOn {B : Type 0} (names : List (List ℕ)) (ledger : B → Ledger)
    (begun now : Option (List ℕ)) (old new : Office B) : Type 0 where
  pub first : ℕ
  pub between : Option (List ℕ)
  pub reports : ReportsMoment begun between first
  pub turns : TurnsFrom names ledger first between now old new

-- Defines the store's records after a complete run of `sunreg run`, from the opening of the store
-- to the end of the program.

-- True if the store has the records from before the run, then an opening of the store, then the
-- records of the run's passes of the event loop. The opening's timestamp is a time that the clock
-- returned.
pub record StandAfterOpening (names : List (List ℕ)) (begun now : Option (List ℕ))
    (ledger : Ledger) (past : History) : Type 0 where
  pub at : ℕ
  pub opened : Option (List ℕ)
  pub reports_opening : ReportsMoment begun opened at
  pub first : ℕ
  pub between : Option (List ℕ)
  pub reports : ReportsMoment opened between first
  pub turns : List (Turn names)
  pub are : AreTurns first between now turns
  pub stand : BooksStand ledger (history_with (Opened at ∷ past) (steps_of turns))

-- True if the store has the records from before an execution of `sunreg run`, either alone or with
-- the records of this execution. The execution's records are those of an opening of the store, and
-- then of passes of the event loop.
abbrev pub BooksRun : (names : List (List ℕ)) → (begun now : Option (List ℕ)) → Ledger
    → (past : History) → Type 0
BooksRun names begun now ledger past =
    BooksStand ledger past ⊎ StandAfterOpening names begun now ledger past

-- True if `left` has the timestamp of the store's latest record, and the number of stored polls
-- that have no recorded outcome.
pub record IsLeft (past : History) (left : Left) : Type 0 where
  pub latest : left.latest ≡ latest_in (facts_of past)
  pub waiting : left.waiting ≡ length (pending_in (facts_of past))
