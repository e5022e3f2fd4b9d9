-- Lemmas: what the program does in one pass of the event loop of `sunreg run` are steps at one
-- timestamp. A step processes one event or answers one HTTP connection. Such steps make complete
-- passes.
use Rattle.std.proofs.Common.{◌≡◌, ◌⊎◌, inl, inr, ℕ, true, false, Bool, List, [], ◌∷◌, ◌++◌, Option, Some, None, Result, refl, sym, ap, ◌∙◌, subst, append_assoc}
use Rattle.std.specs.Prelude.{max, position, slice_get, if◌then◌else◌}
use Rattle.office_events.specs.declared.answers.Answer.{Answer}
use Rattle.office_events.specs.declared.events.Event.{Event}
use Rattle.office_events.specs.declared.refusals.Refusal.{Refusal}
use Rattle.office_books.specs.History.{History, Opened}
use Rattle.office_books.specs.Refusals.{with_answer}
use Rattle.office_books.specs.declared.failures.Failures.{Failures}
use Rattle.office_books.specs.Ledgers.{KeepsFacts, Ledger}
use Rattle.office_core.specs.Leaving.{BooksStand}
use Rattle.office_core.specs.Asking.{OnlyAsks}
use Rattle.office_core.specs.EventRun.{Answered}
use Rattle.office_core.specs.Standing.{After, Stands, books_in}
use Rattle.office_core.specs.Taking.{Ends}
use Rattle.office_core.specs.declared.office.Office.{Office}
use Rattle.office_running.specs.Http.Clients as clients
use Rattle.office_running.specs.Http.Clients.{ServesClients}
use Rattle.office_http.specs.Connections.Connections as connections
use Rattle.office_http.specs.Connections.Connections.{Connection}
use Rattle.office_http.specs.Serving.{with_asked}
use Rattle.office_program.specs.Passing as rounds
use Rattle.office_program.specs.FedEvents as reporting
use Rattle.office_program.specs.Driver.Going as driver
use Rattle.office_program.specs.Driver.Going.{Start, TakesTurn as TakesDeviceTurn, scene}
use Rattle.office_events.specs.Showing.{Shown}
use Rattle.office_program.specs.Driver.Turns as table
use Rattle.office_program.specs.Driver.Turns.{Table, Wished}
use Rattle.office_program.specs.DeviceRounds.Rounds.{has_request, wish_at, wish_of}
use Rattle.office_program.specs.declared.device_rounds.round.Round.{Round}
use Rattle.office_program.specs.declared.device_rounds.stage.Stage.{Stage}
use Rattle.office_program.specs.declared.device_rounds.stage.Stage.TheVariants.{Off, Joining, Starting, Waiting, Leaving}
use Rattle.office_program.specs.declared.driver.device_events.DeviceEvent.{DeviceEvent}
use Rattle.office_program.specs.declared.driver.device_events.DeviceEvent.TheVariants.{Connected, Received, Closed, Tick}
use Rattle.office_program.specs.Texts.OpenedOffice.{Opens}
use Rattle.office_program.specs.Texts.Passing.{Lasts}
use Rattle.run_http.specs.Status.Advice.Lacks.{LooksUp}
use Rattle.office_running.specs.Runs.{AreAt, BooksRun, Goes, IsOfRound, ReadsClock, RunsOn, Step, Fed, Asks, TakesTurns, TurnsFrom, history_with, latest_of, steps_of, with_step}

-- Lemmas: a step of `sunreg run` processes one event or answers one HTTP connection. An empty list
-- of steps has any timestamp. Two lists of steps at one timestamp are together steps at this
-- timestamp.

-- If the program's state is unchanged, then it is the state after an empty list of steps (processed
-- events or answered connections), whatever the timestamp.
pub goes_none : {B : Type 0} (names : List (List ℕ)) (at : ℕ) (ledger : B → Ledger) (office : Office B) → Goes names at ledger office office
goes_none names at ledger office = record {
  stands = λ past stands clean. record { steps = []; each = tt; stands = stands };
  clean = λ clean. clean;
  zone = refl;
}

after_both : {names : List (List ℕ)} (past : History) (later earlier : List (Step names))
    → history_with past (later ++ earlier) ≡ history_with (history_with past earlier) later
after_both past [] earlier = refl
after_both past (one ∷ later) earlier = ap (λ h. with_step h one) (after_both past later earlier)

each_of_both : {names : List (List ℕ)} (at : ℕ) (later earlier : List (Step names)) → AreAt at later → AreAt at earlier → AreAt at (later ++ earlier)
each_of_both at [] earlier a b = b
each_of_both at (one ∷ later) earlier a b = (a.0, each_of_both at later earlier a.1 b)

-- Suppose that the program makes steps (processed events or answered connections) at a timestamp,
-- and then more steps at this timestamp. Then all of them together are steps at this timestamp.
pub goes_both : {B : Type 0} (names : List (List ℕ)) (at : ℕ) (ledger : B → Ledger) (a b c : Office B) → Goes names at ledger a b → Goes names at ledger b c
    → Goes names at ledger a c
goes_both names at ledger a b c first next = record {
  stands = λ past stands clean.
      let one = first.stands past stands (next.clean clean) in
      let after = next.stands (history_with past one.steps) one.stands clean in
      record {
        steps = after.steps ++ one.steps;
        each = each_of_both at after.steps one.steps after.each one.each;
        stands =
            let P : History → Type 0 = λ h. Stands ledger h c in
            subst P (sym (after_both past after.steps one.steps)) after.stands;
      };
  clean = λ clean. first.clean (next.clean clean);
  zone = next.zone ∙ first.zone;
}

-- Lemmas: if one pass of the event loop processes events of devices, then these are steps of the
-- run (processed events or answered connections) at the timestamp of the pass.

abbrev of_events : (names : List (List ℕ)) → List Answered → List (Step names)
of_events names [] = []
of_events names (one ∷ earlier) = Fed one ∷ of_events names earlier

after_events : (names : List (List ℕ)) (past : History) (fed : List Answered) → history_with past (of_events names fed) ≡ reporting.history_with past fed
after_events names past [] = refl
after_events names past (one ∷ earlier) = ap (λ h. with_answer h one.at one.event one.result) (after_events names past earlier)

-- True if the polling round of a device generates no event next, or generates an event that belongs
-- to polling rounds (`IsOfRound`).
abbrev WishesOfRound : Option Event → Type 0
WishesOfRound None = Unit {0}
WishesOfRound (Some e) = IsOfRound e

abbrev IsWishedOfRound : Option Wished → Type 0
IsWishedOfRound None = Unit {0}
IsWishedOfRound (Some one) = IsOfRound one.event

wish_is : (stage : Stage) (device : Option (List ℕ)) (started : ℕ) → WishesOfRound (wish_at stage device started)
wish_is Off device started = tt
wish_is Joining device started = tt
wish_is Starting device started = tt
wish_is Waiting device started = tt
wish_is (Leaving closing) device started = tt

wished_is : (place : ℕ) (wish : Option Event) → WishesOfRound wish → IsWishedOfRound (table.wished_at place wish)
wished_is place None h = tt
wished_is place (Some e) h = h

in_is : (place : ℕ) (round : Option Round) → IsWishedOfRound (table.wish_in place round)
in_is place None = tt
in_is place (Some round) = wished_is place (wish_of round) (wish_is round.stage round.device round.started)

from_is : (place : Option ℕ) (rounds : List Round) → IsWishedOfRound (table.wish_from place rounds)
from_is None rounds = tt
from_is (Some place) rounds = in_is place (slice_get rounds place)

first_is : (rounds : List Round) → IsWishedOfRound (table.first_request rounds)
first_is rounds = from_is (position has_request rounds) rounds

next_is : (first : Option Wished) (rounds : List Round) → IsWishedOfRound first → IsWishedOfRound (table.next_by first rounds)
next_is None rounds h = first_is rounds
next_is (Some one) rounds h = h

after_is : (past : History) (from : Table) (fed : List Answered) → IsWishedOfRound from.first → IsWishedOfRound (table.table_with past from fed).first
after_is past from [] h = h
after_is past from (one ∷ earlier) h = tt

event_is : (next : Option Wished) (e : Event) → IsWishedOfRound next → table.IsNext next e → IsOfRound e
event_is None e h is = absurd is
event_is (Some one) e h is = subst IsOfRound (sym is) h

each_fed : (names : List (List ℕ)) (at : ℕ) (past : History) (from : Table) (fed : List Answered) → IsWishedOfRound from.first → table.AreNext past from fed
    → driver.AreAt at fed → AreAt at (of_events names fed)
each_fed names at past from [] h next timed = tt
each_fed names at past from (one ∷ earlier) h next timed =
    let before = table.table_with past from earlier in (
      (timed.1, event_is (table.next_of before) one.event (next_is before.first before.rounds (after_is past from earlier h)) next.1),
      each_fed names at past from earlier h next.0 timed.0,
    )

came_at_is : (stage : Stage) (place : ℕ) (device : Option (List ℕ)) (piece : List ℕ) → IsWishedOfRound (table.came_at stage place device piece)
came_at_is Off place device piece = tt
came_at_is Joining place device piece = tt
came_at_is Starting place device piece = tt
came_at_is Waiting place device piece = tt
came_at_is (Leaving closing) place device piece = tt

came_is : (place : ℕ) (round : Option Round) (piece : List ℕ) → IsWishedOfRound (table.came place round piece)
came_is place None piece = tt
came_is place (Some round) piece = came_at_is round.stage place round.device piece

pub opened_is : (device_event : DeviceEvent) (rounds : List Round) → IsWishedOfRound (table.opened device_event rounds).first
opened_is (Connected place) rounds = tt
opened_is (Received place piece) rounds = came_is place (slice_get rounds place) piece
opened_is (Closed place closing) rounds = tt
opened_is Tick rounds = tt

pub goes_turn : {B V : Type 0} (names : List (List ℕ)) (ledger : B → Ledger) (sees : V → Shown → V → Type 0) (at : ℕ) (old new : Office B) (begun : Start V)
    (failures : Failures) (turned : List Round) (observer : V) → IsWishedOfRound begun.table.first
    → After ledger old new (λ past. TakesDeviceTurn ledger sees past begun at (scene new failures turned observer))
    → rounds.Lasts ledger old new → Goes names at ledger old new
goes_turn names ledger sees at old new begun failures turned observer opened turns lasts = record {
  stands = λ past stands clean.
      let takes = turns past stands clean in
      record {
        steps = of_events names takes.fed;
        each = each_fed names at past begun.table takes.fed opened takes.going.next takes.going.timed;
        stands =
            let P : History → Type 0 = λ h. Stands ledger h new in
            subst P (sym (after_events names past takes.fed)) takes.going.leaves.stands;
      };
  clean = lasts.clean;
  zone = lasts.zone;
}

-- If the program processes one event of a polling round, then its state advances by exactly one
-- step of the run (`Goes`): this event, at its timestamp.
pub goes_fed : {B : Type 0} (names : List (List ℕ)) (ledger : B → Ledger) (at : ℕ) (e : Event) (answer : Result Answer Refusal) (old new : Office B)
    → After ledger old new (λ past. Stands ledger (with_answer past at e answer) new) → Ends ledger old new e answer → IsOfRound e → Goes names at ledger old new
goes_fed names ledger at e answer old new feeds ends is = record {
  stands = λ past stands clean. record {
    steps = Fed (record { at = at; event = e; result = answer }) ∷ [];
    each = ((refl, is), tt);
    stands = feeds past stands clean;
  };
  clean = ends.clean;
  zone = ends.zone;
}

-- Lemmas: if one pass of the event loop answers requests of HTTP clients, then these are steps of
-- the run (processed events or answered connections) at the timestamp of the pass.

abbrev of_connections : (names : List (List ℕ)) → List (Connection names) → List (Step names)
of_connections names [] = []
of_connections names (one ∷ earlier) = Asks one ∷ of_connections names earlier

after_connections : (names : List (List ℕ)) (past : History) (asked : List (Connection names))
    → history_with past (of_connections names asked) ≡ connections.history_with past asked
after_connections names past [] = refl
after_connections names past (one ∷ earlier) = ap (λ h. with_asked h one.at one.asked) (after_connections names past earlier)

each_asked : (names : List (List ℕ)) (at : ℕ) (asked : List (Connection names)) → clients.AreAt at asked → AreAt at (of_connections names asked)
each_asked names at [] h = tt
each_asked names at (one ∷ earlier) h = (h.0, each_asked names at earlier h.1)

pub goes_asked : {B : Type 0} (names : List (List ℕ)) (at : ℕ) (ledger : B → Ledger) (old new : Office B) → ServesClients names at ledger old new
    → Goes names at ledger old new
goes_asked names at ledger old new ask = record {
  stands = λ past stands clean.
      let after = ask.stands past stands clean in
      record {
        steps = of_connections names after.connections;
        each = each_asked names at after.connections after.each;
        stands =
            let P : History → Type 0 = λ h. Stands ledger h new in
            subst P (sym (after_connections names past after.connections)) after.stands;
      };
  clean = ask.clean;
  zone = ask.zone;
}

-- Lemmas: a pass of the event loop is complete if the clock was read and then steps (processed
-- events or answered connections) were taken at the latest clock time. One more such pass can
-- follow complete passes.

pub no_turns : {B : Type 0} (names : List (List ℕ)) (ledger : B → Ledger) (first : ℕ) (begun : Option (List ℕ)) (office : Office B)
    → TakesTurns names ledger first first begun begun office office
no_turns names ledger first begun office = record {
  stands = λ past stands clean. record { turns = []; are = refl; is_latest = refl; stands = stands };
  clean = λ clean. clean;
  zone = refl;
}

-- Suppose that some passes of the event loop satisfy the contract `TakesTurns`. If the clock is
-- read once more, and the program then processes events or answers connections at the latest clock
-- time, one more pass satisfies it.
one_turn : {B : Type 0} (names : List (List ℕ)) (ledger : B → Ledger) (first before latest : ℕ) (begun between now : Option (List ℕ)) (a b c : Office B)
    → TakesTurns names ledger first before begun between a b → ReadsClock before latest between now → Goes names latest ledger b c
    → TakesTurns names ledger first latest begun now a c
one_turn names ledger first before latest begun between now a b c turns reads goes = record {
  stands = λ past stands clean.
      let some = turns.stands past stands (goes.clean clean) in
      let after = goes.stands (history_with past (steps_of some.turns)) some.stands clean in
      let is : latest ≡ latest_of first (record { reported = reads.reported; steps = after.steps } ∷ some.turns) = reads.is_latest ∙ ap (λ n. max n reads.reported) some.is_latest in
      record {
        turns = record { reported = reads.reported; steps = after.steps } ∷ some.turns;
        are = (between, some.are, reads.reports, subst (λ n. AreAt n after.steps) is after.each);
        is_latest = is;
        stands =
            let P : History → Type 0 = λ h. Stands ledger h c in
            subst P (sym (after_both past after.steps (steps_of some.turns))) after.stands;
      };
  clean = λ clean. turns.clean (goes.clean clean);
  zone = goes.zone ∙ turns.zone;
}

-- True if some passes of the event loop are complete, and the clock was read once more, for the
-- next pass.
pub record Begins {B : Type 0} (names : List (List ℕ)) (ledger : B → Ledger) (first latest : ℕ) (begun now : Option (List ℕ)) (old new : Office B) : Type 0 where
  pub before : ℕ
  pub between : Option (List ℕ)
  pub turns : TakesTurns names ledger first before begun between old new
  pub reads : ReadsClock before latest between now

pub first_begins : {B : Type 0} (names : List (List ℕ)) (ledger : B → Ledger) (first latest : ℕ) (begun now : Option (List ℕ)) (office : Office B)
    → ReadsClock first latest begun now → Begins names ledger first latest begun now office office
first_begins names ledger first latest begun now office reads = record {
  before = first;
  between = begun;
  turns = no_turns names ledger first begun office;
  reads = reads;
}

-- Suppose that the clock was read for a pass of the event loop, and the program then processed
-- events or answered connections at that time. Then the pass satisfies the contract `TakesTurns`.
pub turn_ends : {B : Type 0} (names : List (List ℕ)) (ledger : B → Ledger) (first latest at : ℕ) (begun now : Option (List ℕ)) (a b c : Office B)
    → at ≡ latest → Begins names ledger first latest begun now a b → Goes names at ledger b c → TakesTurns names ledger first latest begun now a c
turn_ends names ledger first latest at begun now a b c same begins goes =
    let P : ℕ → Type 0 = λ n. Goes names n ledger b c in
    one_turn names ledger first begins.before latest begun begins.between now a b c begins.turns begins.reads (subst P same goes)

pub next_begins : {B : Type 0} (names : List (List ℕ)) (ledger : B → Ledger) (first latest later at : ℕ) (begun now after : Option (List ℕ)) (a b c d : Office B)
    → at ≡ latest → Begins names ledger first latest begun now a b → Goes names at ledger b c → Goes names at ledger c d → ReadsClock latest later now after
    → Begins names ledger first later begun after a d
next_begins names ledger first latest later at begun now after a b c d same begins goes heard reads = record {
  before = latest;
  between = now;
  turns = turn_ends names ledger first latest at begun now a b d same begins (goes_both names at ledger b c d goes heard);
  reads = reads;
}

-- Suppose that the program only answers a query, and then processes some passes of the event loop.
-- Its state then follows from these passes alone, because the query records nothing.
pub turns_after_asking : {B T : Type 0} (names : List (List ℕ)) (ledger : B → Ledger) (first : ℕ) (begun now : Option (List ℕ)) (a b c : Office B)
    (answer : Result T Refusal) → OnlyAsks ledger a b answer → TurnsFrom names ledger first begun now b c → TurnsFrom names ledger first begun now a c
turns_after_asking names ledger first begun now a b c answer asks goes = record {
  latest = goes.latest;
  turns = record {
    stands = λ past stands clean. goes.turns.stands past (asks.stands past stands) clean;
    clean = λ clean. asks.clean (goes.turns.clean clean);
    zone = goes.turns.zone ∙ asks.zone;
  };
}

-- Lemmas: after a complete run of `sunreg run`, the store has the records of its opening and of the
-- passes of the event loop.

-- If the program only reads a store, then the store's records still follow from its history (its
-- openings and accepted events).
pub reads_stand : (old new : Ledger) (past : History) → KeepsFacts old new → BooksStand old past → BooksStand new past
reads_stand old new past keeps stands = record {
  is_past = stands.is_past;
  holds = keeps.facts _ stands.holds;
  leaves = record {
    left = stands.leaves.left;
    may = keeps.left _ stands.leaves.may;
    each = stands.leaves.each;
  };
}

-- If a run opened the store and processed passes of the event loop, the store has the records of
-- the opening and the passes.
pub ran_opened : {B : Type 0} (names : List (List ℕ)) (ledger : B → Ledger) (past : History) (begun opened now : Option (List ℕ)) (office new : Office B) (books : B)
    → books ≡ books_in new → ((ledger (books_in office)).is_clean → Opens ledger past begun opened office) → RunsOn names ledger opened now office new
    → (ledger books).is_clean → BooksRun names begun now (ledger books) past
ran_opened {B = B} names ledger past begun opened now office new books is opens runs clean =
    let P : B → Type 0 = λ b. (ledger b).is_clean in
    let Q : B → Type 0 = λ b. BooksRun names begun now (ledger b) past in
    let whole = subst P is clean in
    let turns = runs.turns.turns in
    let opening = opens (turns.clean whole) in
    let so = turns.stands (Opened opening.at ∷ past) opening.stands whole in
    subst Q (sym is) (inr (record {
      at = opening.at;
      opened = opened;
      reports_opening = opening.timed;
      first = runs.first;
      between = runs.between;
      reports = runs.reports;
      turns = so.turns;
      are = so.are;
      stand = so.stands.books;
    }))

-- If the program only queries a store, then the store's records still follow from its history (its
-- openings and accepted events).
pub looked_stand : (a b c : Ledger) (past : History) → LooksUp b c → (BooksStand a past → BooksStand b past) → BooksStand a past → BooksStand c past
looked_stand a b c past looks before stands = reads_stand b c past looks.keeps (before stands)

pub looked_last : (a b c : Ledger) → LooksUp b c → Lasts a b → Lasts a c
looked_last a b c looks first = record { clean = λ clean. first.clean (looks.clean clean); zone = looks.zone ∙ first.zone }

-- A store is clean if the program used no wrong result of the store. If a store is clean after two
-- calls, then it was clean before these calls.
pub lasts_both : (a b c : Ledger) → Lasts a b → Lasts b c → Lasts a c
lasts_both a b c first next = record { clean = λ clean. first.clean (next.clean clean); zone = next.zone ∙ first.zone }

pub lasts_run : {B : Type 0} (names : List (List ℕ)) (ledger : B → Ledger) (begun now : Option (List ℕ)) (office new : Office B) (books : B) → books ≡ books_in new
    → RunsOn names ledger begun now office new → Lasts (ledger (books_in office)) (ledger books)
lasts_run {B = B} names ledger begun now office new books is runs =
    let Q : B → Type 0 = λ b. Lasts (ledger (books_in office)) (ledger b) in
    subst Q (sym is) (record { clean = runs.turns.turns.clean; zone = runs.turns.turns.zone })
