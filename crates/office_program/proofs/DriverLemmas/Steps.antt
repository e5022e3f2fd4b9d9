-- Lemmas on the function `turn`, which feeds events to the office (the event engine) one by one.
-- After each event, the state follows from all events that were fed.
use Rattle.std.proofs.Common.{◌≡◌, inl, inr, ℕ, ◌+◌, ◌≤◌, List, [], ◌∷◌, map, length, Option, Some, None, Result, refl, sym, ap, ◌∙◌, subst, arith}
use Rattle.office_events.specs.declared.answers.Answer.{Answer}
use Rattle.office_events.specs.declared.answers.Note.{Note}
use Rattle.office_events.specs.declared.events.Event.{Event}
use Rattle.office_events.specs.declared.refusals.Refusal.{Refusal}
use Rattle.office_books.specs.History.{History}
use Rattle.office_books.specs.Notes.{notes_after, outgoing_after}
use Rattle.office_books.specs.Refusals.{with_answer}
use Rattle.office_books.specs.declared.failures.Failures.{Failures}
use Rattle.office_books.specs.Ledgers.{Ledger}
use Rattle.office_core.specs.EventRun.{Answered}
use Rattle.office_core.specs.Standing.{Stands, books_in, notes_in, outgoing_in}
use Rattle.office_core.specs.Taking.{IsAnswer, IsReported}
use Rattle.office_program.specs.FedEvents.{history_with}
use Rattle.office_program.specs.DeviceRounds.Rounds.{heard}
use Rattle.office_program.specs.declared.device_rounds.round.Round.{Round}
use Rattle.office_events.specs.Showing.{Shown, shown}
use Rattle.office_program.specs.Driver.Turns.{IsNext, Table, Wished, answered_for, first_request, next_by, next_of, place_of, table, table_after, table_with, reported, wished}
use Rattle.office_program.specs.Driver.Going.{FeedsNext, Going, OfficeGoesOn, Scene, Start, TakesTurn, start}

is_next : (first : Option Wished) (rounds : List Round) (at : Table) (one : Wished) → table first rounds ≡ at
    → next_by first rounds ≡ Some one → next_of at ≡ Some one
is_next first rounds at one is next = sym (ap next_of is) ∙ next

next_event : (next : Option Wished) (place : Option ℕ) (e : Event) → next ≡ Some (wished place e) → IsNext next e
next_event next place e is = let P : Option Wished → Type 0 = λ x. IsNext x e in subst P (sym is) refl

next_rounds : (first : Option Wished) (rounds mid new : List Round) (at : Table) (place : Option ℕ) (e : Event) (answer : Result Answer Refusal)
    (notes now : List Note) → table first rounds ≡ at → next_of at ≡ Some (wished place e) → mid ≡ answered_for place answer rounds
    → new ≡ map (heard notes) mid → notes ≡ now → table None new ≡ table_after at answer now
next_rounds first rounds mid new at place e answer notes now is next mid_is new_is notes_are =
    ap (table None)
    (new_is ∙ ap (map (heard notes)) mid_is ∙ ap (λ n. reported place answer n rounds) notes_are
    ∙ ap (λ p. reported p answer now rounds) (sym (ap place_of next)) ∙ ap (λ t. reported (place_of (next_of at)) answer now t.rounds) is)

next_shown : {V : Type 0} (sees : V → Shown → V → Type 0) (old new : V) (next : Option Wished) (place : Option ℕ) (at : ℕ) (e : Event)
    (answer : Result Answer Refusal) (notes now : List Note) (frames out : List ℕ) → next ≡ Some (wished place e) → notes ≡ now → frames ≡ out
    → sees old (shown place at e answer notes frames) new → sees old (shown (place_of next) at e answer now out) new
next_shown sees old new next place at e answer notes now frames out is notes_are frames_are h =
    let P : Shown → Type 0 = λ s. sees old s new in
    subst P
    (ap (λ n. shown place at e answer n frames) notes_are ∙ ap (λ f. shown place at e answer now f) frames_are
    ∙ ap (λ p. shown p at e answer now out) (sym (ap place_of is)))
    h

-- After a call of `turn` (which processes one device event) fed its next event, the event engine
-- and the polling rounds are in the state after this event. The observer got a report of the event.
pub feeds_next : {B V : Type 0} (ledger : B → Ledger) (sees : V → Shown → V → Type 0) (at : ℕ) (place : Option ℕ) (e : Event)
    (answer : Result Answer Refusal) (old new : Scene B V) (mid : List Round) (notes : List Note) (frames : List ℕ)
    → ((past : History) → Stands ledger past old.office → (ledger (books_in new.office)).is_clean
    → Stands ledger (with_answer past at e answer) new.office × IsAnswer past at e old.failures new.failures answer × IsReported past at e answer new.office)
    → mid ≡ answered_for place answer old.rounds → new.rounds ≡ map (heard notes) mid → notes ≡ notes_in new.office
    → frames ≡ outgoing_in new.office → sees old.observer (shown place at e answer notes frames) new.observer
    → FeedsNext ledger sees at (wished place e) old new
feeds_next ledger sees at place e answer old new mid notes frames feeds mid_is new_is notes_are frames_are saw = λ past begun fed first going next clean.
    let so = feeds (history_with past fed) going.leaves.stands clean in
    let now = is_next first old.rounds (table_with past begun.table fed) (wished place e) going.rounds next in
    let all_notes : notes ≡ notes_after (history_with past fed) at e answer = notes_are ∙ so.2.notes in
    let all_frames : frames ≡ outgoing_after (history_with past fed) at e answer = frames_are ∙ so.2.outgoing in (
      record { at = at; event = e; result = answer },
      record {
        leaves = record { stands = so.0; answered = (old.failures, going.leaves.answered, so.1) };
        next = (going.next, next_event (next_of (table_with past begun.table fed)) place e now);
        timed = (going.timed, refl);
        rounds = next_rounds first old.rounds mid new.rounds (table_with past begun.table fed) place e answer notes _ going.rounds now mid_is new_is all_notes;
        shown = (
          old.observer,
          going.shown,
          next_shown sees old.observer new.observer (next_of (table_with past begun.table fed)) place at e answer notes _ frames _ now all_notes all_frames saw,
        );
      },
    )

-- The loop invariant of the function `turn` (which processes one device event): the call has fed at
-- least `steps` events to the event engine, and the present state follows from these events.
pub record GoesFar {B V : Type 0} (ledger : B → Ledger) (sees : V → Shown → V → Type 0) (at steps : ℕ) (past : History) (begun : Start V)
    (now : Scene B V) : Type 0 where
  pub fed : List Answered
  pub going : Going ledger sees past begun at fed None now
  pub far : steps ≤ length fed

abbrev pub Comes : {B V : Type 0} → (B → Ledger) → (V → Shown → V → Type 0) → (at steps : ℕ) → (old new : Scene B V) → Type 0
Comes {B} {V} ledger sees at steps old new =
    (past : History) (begun : Start V) (fed : List Answered) → Going ledger sees past begun at fed None old
    → (ledger (books_in new.office)).is_clean → GoesFar ledger sees at steps past begun new

pub comes_none : {B V : Type 0} (ledger : B → Ledger) (sees : V → Shown → V → Type 0) (at : ℕ) (old : Scene B V)
    → Comes ledger sees at 0 old old
comes_none ledger sees at old = λ past begun fed going clean. record { fed = fed; going = going; far = omega arith }

pub comes_one : {B V : Type 0} (ledger : B → Ledger) (sees : V → Shown → V → Type 0) (at steps : ℕ) (one : Wished) (old mid new : Scene B V)
    → Comes ledger sees at steps old mid → first_request mid.rounds ≡ Some one → FeedsNext ledger sees at one mid new
    → ((ledger (books_in new.office)).is_clean → (ledger (books_in mid.office)).is_clean) → Comes ledger sees at (steps + 1) old new
comes_one ledger sees at steps one old mid new comes requested_event feeds lasts = λ past begun fed going clean.
    let far = comes past begun fed going (lasts clean) in
    let more = feeds past begun far.fed None far.going requested_event clean in
    let least : steps ≤ length far.fed = far.far in
    record { fed = more.0 ∷ far.fed; going = more.1; far = omega (arith, least) }

pub settled_none : {B V : Type 0} (ledger : B → Ledger) (sees : V → Shown → V → Type 0) (at steps : ℕ) (old new : Scene B V)
    → Comes ledger sees at steps old new → first_request new.rounds ≡ None → OfficeGoesOn ledger sees at old new
settled_none ledger sees at steps old new comes none = λ past begun fed going clean.
    let far = comes past begun fed going clean in (far.fed, far.going, inl none)

pub settled_far : {B V : Type 0} (ledger : B → Ledger) (sees : V → Shown → V → Type 0) (at steps : ℕ) (old new : Scene B V)
    → Comes ledger sees at steps old new → 256 ≤ steps → OfficeGoesOn ledger sees at old new
settled_far ledger sees at steps old new comes enough = λ past begun fed going clean.
    let far = comes past begun fed going clean in
    let least : steps ≤ length far.fed = far.far in (far.fed, far.going, inr (omega (arith, least, enough)))

begins : {B V : Type 0} (ledger : B → Ledger) (sees : V → Shown → V → Type 0) (at : ℕ) (past : History) (first : Option Wished) (old : Scene B V)
    → Stands ledger past old.office
    → Going ledger sees past (start old.failures (table first old.rounds) old.observer) at [] first old
begins ledger sees at past first old stands = record {
  leaves = record { stands = stands; answered = refl };
  next = tt;
  timed = tt;
  rounds = refl;
  shown = refl;
}

-- If a call of `turn` (which processes events of devices) has no device event for the event engine,
-- it feeds only events of polling rounds.
pub turns_on : {B V : Type 0} (ledger : B → Ledger) (sees : V → Shown → V → Type 0) (at : ℕ) (past : History) (old new : Scene B V)
    → OfficeGoesOn ledger sees at old new → Stands ledger past old.office → (ledger (books_in new.office)).is_clean
    → TakesTurn ledger sees past (start old.failures (table None old.rounds) old.observer) at new
turns_on ledger sees at past old new goes stands clean =
    let so = goes past (start old.failures (table None old.rounds) old.observer) [] (begins ledger sees at past None old stands) clean in
    record { fed = so.0; going = so.1; settled = so.2 }

-- If a call of `turn` (which processes one device event) has a device event for the event engine,
-- it first feeds this event to the engine. Then it feeds the events that polling rounds generate.
pub turns_first : {B V : Type 0} (ledger : B → Ledger) (sees : V → Shown → V → Type 0) (at : ℕ) (past : History) (one : Wished) (old mid new : Scene B V)
    → FeedsNext ledger sees at one old mid → OfficeGoesOn ledger sees at mid new
    → ((ledger (books_in new.office)).is_clean → (ledger (books_in mid.office)).is_clean) → Stands ledger past old.office
    → (ledger (books_in new.office)).is_clean
    → TakesTurn ledger sees past (start old.failures (table (Some one) old.rounds) old.observer) at new
turns_first ledger sees at past one old mid new feeds goes lasts stands clean =
    let begun = start old.failures (table (Some one) old.rounds) old.observer in
    let fed = feeds past begun [] (Some one) (begins ledger sees at past (Some one) old stands) refl (lasts clean) in
    let so = goes past begun (fed.0 ∷ []) fed.1 clean in
    record { fed = so.0; going = so.1; settled = so.2 }

-- If `TakesTurn`, the contract of `turn` (which processes one device event), holds for a state at
-- the start of a call, then the contract holds for an equal state.
pub turns_as : {B V : Type 0} (ledger : B → Ledger) (sees : V → Shown → V → Type 0) (at : ℕ) (past : History) (failures : Failures) (one other : Table) (observer : V)
    (new : Scene B V) → one ≡ other → TakesTurn ledger sees past (start failures one observer) at new
    → TakesTurn ledger sees past (start failures other observer) at new
turns_as ledger sees at past failures one other observer new same takes =
    let P : Table → Type 0 = λ t. TakesTurn ledger sees past (start failures t observer) at new in subst P same takes
