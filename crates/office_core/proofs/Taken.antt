-- Lemmas about the program's state and answer after an accepted event.
use Rattle.std.proofs.Common.{◌≡◌, ℕ, Bool, true, false, cond, List, [], ◌∷◌, inl, inr, refl, sym, ap, subst, ◌∙◌, Option, Some, None, Result, Ok, Err}
use Rattle.office_events.specs.declared.answers.Answer.{Answer}
use Rattle.office_events.specs.declared.answers.Answer.TheVariants as answer
use Rattle.office_events.specs.declared.answers.CommandKind.{CommandKind}
use Rattle.office_events.specs.declared.events.Event.{Event}
use Rattle.office_events.specs.declared.events.Event.TheVariants as event
use Rattle.office_events.specs.declared.facts.Fact.{Fact}
use Rattle.office_events.specs.declared.refusals.Refusal.{Refusal}
use Rattle.office_events.specs.declared.refusals.Refusal.TheVariants as refusal
use Rattle.office_books.specs.Sessions.{Slot, command_in}
use Rattle.office_books.specs.History.{History, Fed, facts_of, slots_of, next_poll, settled_on}
use Rattle.office_books.specs.Refusals.{IsAccepted, refusal_of, unless_kept, unless_refused, decision_of, answer_of, is_start}
use Rattle.office_books.specs.Lawfulness.{IsPast, PutsPlanned}
use Rattle.office_books.specs.declared.faults.BooksFault.{BooksFault}
use Rattle.office_books.specs.declared.faults.BooksFault.TheVariants.{Store, Memory}
use Rattle.office_books.specs.declared.faults.StoreFault.TheVariants.{Refused, Damaged}
use Rattle.office_books.specs.declared.failures.Failures.{Failures}
use Rattle.office_books.specs.Faults.{FailuresAfterCalls, as_refusal, faults_after}
use Rattle.office_books.specs.Refusals.{with_answer}
use Rattle.office_books.specs.Notes.{notes_of, outgoing_of, notes_after, outgoing_after}
use Rattle.office_core.specs.Sessions.Keeping.{KeepsSlots}
use Rattle.office_books.specs.Ledgers.{Ledger, KeepsFacts, Moves}
use Rattle.office_core.specs.Settling.Settling.{SettleNothing}
use Rattle.poll_core.specs.Settling as session
use Rattle.office_events.specs.declared.facts.Device.{Device}
use Rattle.office_core.specs.declared.office.Office.{Office}
use Rattle.office_core.specs.Decisions.{IsNoChange}
use Rattle.office_core.specs.Events.{is_command, may_settle}
use Rattle.office_core.specs.Failing.{IsOutside, stops}
use Rattle.office_core.specs.Leaving.{BooksStand, Leaves, LeftByEvent, LeftOnceFailed}
use Rattle.office_core.specs.Standing.{Goes, notes_in, outgoing_in}
use Rattle.office_core.specs.Taking.{LeavesEvent, MayTake, Takes}
use Rattle.office_core.proofs.Left.{moved_on, moved_not, done_left, failed_left}

-- If an event is accepted, then its answer is not a refusal, and it is not the stored answer to a
-- retry.
pub accepted_decision : (past : History) (at : ℕ) (e : Event) → IsAccepted past at e → decision_of past at e ≡ Ok (answer_of (slots_of past) (facts_of past) at e)
accepted_decision past at e accepted =
    ap (λ kept. unless_kept (unless_refused (answer_of (slots_of past) (facts_of past) at e) (refusal_of past at e)) kept) accepted.new
    ∙ ap (unless_refused (answer_of (slots_of past) (facts_of past) at e)) accepted.right

-- If a property holds for the answers `Started` (polls were started) and `Done` (any other
-- command), then it holds for the answer to each accepted command.
by_start : (So : Answer → Type 0) → ((n m k : ℕ) → So (answer.Started n m k)) → ((k : CommandKind) → So (answer.Done k))
    → (b : Bool) (n m k : ℕ) (kind : CommandKind) → So (cond b (answer.Started n m k) (answer.Done kind))
by_start So started done true n m k kind = started n m k
by_start So started done false n m k kind = done kind

pub by_answer : (So : Answer → Type 0) → ((n m k : ℕ) → So (answer.Started n m k)) → ((k : CommandKind) → So (answer.Done k))
    → So answer.Noted → (slots : List Slot) (facts : List Fact) (at : ℕ) (e : Event) → So (answer_of slots facts at e)
by_answer So started done noted slots facts at (event.Connected given) = noted
by_answer So started done noted slots facts at (event.Bytes given piece) = noted
by_answer So started done noted slots facts at event.Tick = noted
by_answer So started done noted slots facts at (event.Gone given closing) = noted
by_answer So started done noted slots facts at (event.Command c) = by_start So started done (is_start c) _ _ _ _
by_answer So started done noted slots facts at (event.Asked asked) = by_start So started done (is_start asked.command) _ _ _ _

-- Suppose that a list of events is a possible history: each event was accepted after the earlier
-- ones. If one more event is accepted, the list with this event is also a possible history.
pub one_more_past : (past : History) (at : ℕ) (e : Event) → IsPast past → IsAccepted past at e → PutsPlanned (command_in e) → IsPast (Fed at e ∷ past)
one_more_past past at e is accepted planned = record { accepted = (accepted, is.accepted); planned = (planned, is.planned) }

-- If an event fails because the store fails or memory runs out, then after a crash the store has
-- all records of the event or none.
pub event_failed : (old new : Ledger) (past : History) (at : ℕ) (e : Event) (why : BooksFault) → Leaves old new (LeftOnceFailed past (Fed at e))
    → Leaves old new (LeftByEvent past at e (Err (as_refusal why)))
event_failed old new past at e (Store fault) left = left
event_failed old new past at e Memory left = left

left_by_refused : (past : History) (at : ℕ) (e : Event) (why : Refusal) (left : List (List Fact)) → LeftByEvent past at e (Err why) left left
left_by_refused past at e (refusal.Store why) left = inl refl
left_by_refused past at e refusal.Memory left = inl refl
left_by_refused past at e why left = refl

left_by_kept : (past : History) (at : ℕ) (e : Event) (given : Answer) (left : List (List Fact)) → IsNoChange (Ok given) → LeftByEvent past at e (Ok given) left left
left_by_kept past at e (answer.Again kind) left none = refl
left_by_kept past at e given left none = absurd none

pub unchanged_left : (old new : Ledger) (past : History) (at : ℕ) (e : Event) (given : Result Answer Refusal) → KeepsFacts old new → IsNoChange given
    → Leaves old new (LeftByEvent past at e given)
unchanged_left old new past at e (Ok given) keeps none = λ before may. (before, left_by_kept past at e given before none, keeps.left before may)
unchanged_left old new past at e (Err why) keeps none = λ before may. (before, left_by_refused past at e why before, keeps.left before may)

pub refused_left : (old new : Ledger) (past : History) (at : ℕ) (e : Event) (why : Refusal) → KeepsFacts old new → Leaves old new (LeftByEvent past at e (Err why))
refused_left old new past at e why keeps = λ before may. (before, left_by_refused past at e why before, keeps.left before may)

-- If a call to the store fails, then the refusal that reports this failure satisfies `IsOutside`
-- (the cause is not in the request). The failure counter has counted the failure.
pub failed_outside : (T takes_memory : Type 0) (before after : Failures) (why : BooksFault) → FailuresAfterCalls {T = T} (Err why) before after → takes_memory
    → IsOutside takes_memory before after (as_refusal why)
failed_outside T takes_memory before after (Store Refused) is takes = is
failed_outside T takes_memory before after (Store Damaged) is takes = is
failed_outside T takes_memory before after Memory (inl reported) takes = inl reported
failed_outside T takes_memory before after Memory (inr same) takes = inr (takes, same)

-- The conditions `few` and `many` state when the program may run out of memory outside the store. A
-- report of a failure that is correct under `few` is correct under the weaker `many`.
pub outside_more : (few many : Type 0) (before after : Failures) (why : Refusal) → (few → many) → IsOutside few before after why → IsOutside many before after why
outside_more few many before after (refusal.Store cause) more is = is
outside_more few many before after refusal.Memory more (inl reported) = inl reported
outside_more few many before after refusal.Memory more (inr own) = inr (more own.0, own.1)
outside_more few many before after refusal.Stopped more is = is
outside_more few many before after why more is = absurd is

pub books_failed : (T takes_memory : Type 0) (before after : Failures) (why : BooksFault) → after ≡ faults_after {T = T} (Err why) before
    → IsOutside takes_memory before after (as_refusal why)
books_failed T takes_memory before after (Store Refused) is = is
books_failed T takes_memory before after (Store Damaged) is = is
books_failed T takes_memory before after Memory is = inl is

-- If an event fails without stopping the program, then the event is of a kind that cannot end
-- polls.
pub goes_on_unsettling : (e : Event) (why : BooksFault) → stops e (Err (as_refusal why)) ≡ false → may_settle e ≡ false
goes_on_unsettling (event.Connected given) why on = refl
goes_on_unsettling (event.Bytes given piece) (Store fault) on = absurd (cc)
goes_on_unsettling (event.Bytes given piece) Memory on = absurd (cc)
goes_on_unsettling event.Tick (Store fault) on = absurd (cc)
goes_on_unsettling event.Tick Memory on = absurd (cc)
goes_on_unsettling (event.Gone given closing) (Store fault) on = absurd (cc)
goes_on_unsettling (event.Gone given closing) Memory on = absurd (cc)
goes_on_unsettling (event.Command c) why on = refl
goes_on_unsettling (event.Asked asked) why on = refl

settled_none : (number at : ℕ) (given : Option (List ℕ)) (device : Device) (present : Option (List session.Event)) → settled_on number at (event.Connected given) device present ≡ []
settled_none number at given device None = refl
settled_none number at given device (Some before) = refl

connected_settles : (number at : ℕ) (given : Option (List ℕ)) (slots : List Slot) → SettleNothing number at (event.Connected given) slots
connected_settles number at given [] = tt
connected_settles number at given (slot ∷ slots) = (settled_none number at given slot.device slot.present, connected_settles number at given slots)

-- If an event requests no command and is of a kind that cannot end polls, then it ends no poll of
-- any device.
pub unsettling : (e : Event) (number at : ℕ) (slots : List Slot) → is_command e ≡ false → may_settle e ≡ false → SettleNothing number at e slots
unsettling (event.Connected given) number at slots device none = connected_settles number at given slots
unsettling (event.Bytes given piece) number at slots device none = absurd (cc)
unsettling event.Tick number at slots device none = absurd (cc)
unsettling (event.Gone given closing) number at slots device none = absurd (cc)
unsettling (event.Command c) number at slots device none = absurd (cc)
unsettling (event.Asked asked) number at slots device none = absurd (cc)

-- The answer to an accepted device event (not a command), such as a received chunk of bytes, is
-- `Noted` (the event was accepted).
pub noted : (slots : List Slot) (facts : List Fact) (at : ℕ) (e : Event) → is_command e ≡ false → answer.Noted ≡ answer_of slots facts at e
noted slots facts at (event.Connected given) device = refl
noted slots facts at (event.Bytes given piece) device = refl
noted slots facts at event.Tick device = refl
noted slots facts at (event.Gone given closing) device = refl
noted slots facts at (event.Command c) device = absurd (cc)
noted slots facts at (event.Asked asked) device = absurd (cc)

pub unsent : (number at : ℕ) (e : Event) (slots : List Slot) (facts : List Fact) → is_command e ≡ false → outgoing_of number at e slots facts ≡ []
unsent number at (event.Connected given) slots facts device = refl
unsent number at (event.Bytes given piece) slots facts device = refl
unsent number at event.Tick slots facts device = refl
unsent number at (event.Gone given closing) slots facts device = refl
unsent number at (event.Command c) slots facts device = absurd (cc)
unsent number at (event.Asked asked) slots facts device = absurd (cc)

pub unnoted : (number at : ℕ) (e : Event) (slots : List Slot) (facts : List Fact) → is_command e ≡ true → notes_of number at e slots facts ≡ []
unnoted number at (event.Connected given) slots facts asks = refl
unnoted number at (event.Bytes given piece) slots facts asks = absurd (cc)
unnoted number at event.Tick slots facts asks = absurd (cc)
unnoted number at (event.Gone given closing) slots facts asks = absurd (cc)
unnoted number at (event.Command c) slots facts asks = refl
unnoted number at (event.Asked asked) slots facts asks = refl

-- If no call to the store fails, then an accepted event has the answer, the records and the
-- notifications that the specification requires.
pub taken : {B T : Type 0} (ledger : B → Ledger) (past : History) (at : ℕ) (e : Event) (old new : Office B) (x : T) (given : Answer)
    → MayTake ledger past e old → IsAccepted past at e → (ledger new.books).is_clean
    → Moves (ledger old.books) (ledger new.books) (facts_of past) (facts_of (Fed at e ∷ past)) (Ok x)
    → given ≡ answer_of (slots_of past) (facts_of past) at e → new.latest ≡ at → KeepsSlots new.slots.items (slots_of (Fed at e ∷ past))
    → notes_in new ≡ notes_of (next_poll (facts_of past)) at e (slots_of past) (facts_of past)
    → outgoing_in new ≡ outgoing_of (next_poll (facts_of past)) at e (slots_of past) (facts_of past)
    → Takes ledger past at e old new (Ok given)
taken ledger past at e old new x given may accepted clean moves is latest slots notes outgoing =
    let follows : with_answer past at e (Ok given) ≡ Fed at e ∷ past =
    ap (λ a. with_answer past at e (Ok a)) is
    ∙ by_answer (λ a. with_answer past at e (Ok a) ≡ Fed at e ∷ past) (λ n m k. refl) (λ k. refl) refl (slots_of past) (facts_of past) at e in
    let reported : notes_after past at e (Ok given) ≡ notes_of (next_poll (facts_of past)) at e (slots_of past) (facts_of past) =
    ap (λ a. notes_after past at e (Ok a)) is
    ∙ by_answer (λ a. notes_after past at e (Ok a) ≡ notes_of (next_poll (facts_of past)) at e (slots_of past) (facts_of past)) (λ n m k. refl) (λ k. refl) refl (slots_of past) (facts_of past) at e in
    let sent : outgoing_after past at e (Ok given) ≡ outgoing_of (next_poll (facts_of past)) at e (slots_of past) (facts_of past) =
    ap (λ a. outgoing_after past at e (Ok a)) is
    ∙ by_answer (λ a. outgoing_after past at e (Ok a) ≡ outgoing_of (next_poll (facts_of past)) at e (slots_of past) (facts_of past)) (λ n m k. refl) (λ k. refl) refl (slots_of past) (facts_of past) at e in
    let left = done_left (ledger old.books) (ledger new.books) (Fed at e) past x moves clean may.books in
    let Left : Answer → Type 0 = λ a. LeavesEvent ledger at e old new (Ok a) past in
    record {
      answer = inl (ap (λ a. Ok a) is ∙ sym (accepted_decision past at e accepted), moves.goes.faults);
      books =
          subst (BooksStand (ledger new.books)) (sym follows)
          (moved_on (ledger old.books) (ledger new.books) (Fed at e) past x moves (one_more_past past at e may.books.is_past accepted may.planned) clean may.books);
      leaves = subst Left (sym is) (by_answer Left (λ n m k. left) (λ k. left) left (slots_of past) (facts_of past) at e);
      goes = λ on. subst (λ h. Goes h new) (sym follows) (record { latest = latest; slots = slots });
      reported = record { notes = notes ∙ sym reported; outgoing = outgoing ∙ sym sent };
    }

-- If a call to the store fails during an accepted event, then the program's answer is the refusal
-- that reports this failure, as the contract `Takes` requires.
pub not_taken : {B T : Type 0} (ledger : B → Ledger) (past : History) (at : ℕ) (e : Event) (old new : Office B) (fault : BooksFault) (why : Refusal)
    → MayTake ledger past e old → IsAccepted past at e → (ledger new.books).is_clean
    → Moves {T = T} (ledger old.books) (ledger new.books) (facts_of past) (facts_of (Fed at e ∷ past)) (Err fault)
    → why ≡ as_refusal fault → (stops e (Err (as_refusal fault)) ≡ false → Goes past new) → notes_in new ≡ notes_in old → outgoing_in new ≡ outgoing_in old
    → Takes ledger past at e old new (Err why)
not_taken {T = T} ledger past at e old new fault why may accepted clean moves is goes notes outgoing =
    subst (λ w. Takes ledger past at e old new (Err w)) (sym is)
    (record {
      answer = inr (failed_outside T (IsAccepted past at e) _ _ fault moves.goes.faults accepted);
      books = moved_not (ledger old.books) (ledger new.books) (Fed at e) past fault moves (one_more_past past at e may.books.is_past accepted may.planned) clean may.books;
      leaves =
          event_failed (ledger old.books) (ledger new.books) past at e fault
          (failed_left (ledger old.books) (ledger new.books) (Fed at e) past fault moves (one_more_past past at e may.books.is_past accepted may.planned) clean may.books);
      goes = goes;
      reported = record { notes = notes ∙ may.notes; outgoing = outgoing ∙ may.outgoing };
    })
