-- Properties of a polling round's next action after each kind of event, and of the bytes that an
-- event contains.
use Rattle.std.proofs.Common.{◌≡◌, ℕ, ◌==◌, nat_le, nat_lt, Bool, true, false, cond, List, [], ◌∷◌, Option, Result, Ok, Err, refl, sym, ap, subst}
use Rattle.std.specs.List.{count_by}
use Rattle.poll_core.specs.declared.outcome.Closing.{Closing}
use Rattle.office_events.specs.declared.answers.Answer.{Answer}
use Rattle.office_events.specs.declared.answers.Answer.TheVariants as answer
use Rattle.office_events.specs.declared.events.Event.{Event}
use Rattle.office_events.specs.declared.events.Event.TheVariants as event
use Rattle.office_events.specs.declared.refusals.Refusal.{Refusal}
use Rattle.office_books.specs.History.{History}
use Rattle.office_books.specs.Notes.{notes_after}
use Rattle.office_core.specs.EventRun.{Answered}
use Rattle.office_program.specs.Course.{Connect, IsTaken, Leave, Over, StartFrom, Take, endings_of, first_poll, is_ending, next_after, next_by, next_in, next_left, polls_ended, reads_planned, reads_started, start_from}
use Rattle.office_program.specs.FedEvents.{history_with}

no_notes : (h : History) (at : ℕ) (device : Option (List ℕ)) (read : ℕ) (result : Result Answer Refusal)
    → notes_after h at (start_from device read) result ≡ []
no_notes h at device read (Ok answer.Noted) = refl
no_notes h at device read (Ok (answer.Done kind)) = refl
no_notes h at device read (Ok (answer.Again kind)) = refl
no_notes h at device read (Ok (answer.Started first count of)) = refl
no_notes h at device read (Err why) = refl

takes_on : (first : Option ℕ) (h : History) (at : ℕ) (device : Option (List ℕ)) (read : ℕ) (result : Result Answer Refusal)
    (started ended planned : ℕ)
    → next_by (start_from device read) (next_after (count_by (is_ending first) (notes_after h at (start_from device read) result)) started ended planned)
    ≡ Take
takes_on first h at device read result started ended planned = rw (no_notes h at device read result) refl

-- After a polling round started Modbus reads, the round's next action is a read of the link (the
-- connection to the device).
pub start_next : (past : History) (fed : List Answered) (one : Answered) (device : Option (List ℕ)) (read : ℕ)
    → one.event ≡ start_from device read → next_in past (one ∷ fed) ≡ Take
start_next past fed one device read is =
    let ended = polls_ended past (one ∷ fed) in
    let P : Event → Type 0 = λ e.
    next_by e (next_after (count_by (is_ending (first_poll fed)) (notes_after (history_with past fed) one.at e one.result))
    (reads_started (one ∷ fed)) ended (reads_planned (one ∷ fed))) ≡ Take in
    subst P (sym is)
    (takes_on (first_poll fed) (history_with past fed) one.at device read one.result (reads_started (one ∷ fed)) ended (reads_planned (one ∷ fed)))

-- After the event `Gone` (the device is disconnected), the polling round is over.
pub end_next : (past : History) (fed : List Answered) (one : Answered) (given : Option (List ℕ)) (c : Closing) → one.event ≡ event.Gone given c
    → next_in past (one ∷ fed) ≡ Over
end_next past fed one given c is =
    ap (λ e. next_by e (next_after (endings_of past fed one) (reads_started (one ∷ fed)) (polls_ended past (one ∷ fed)) (reads_planned (one ∷ fed)))) is

-- After the event `Connected` (the device is connected), the round's next action is to start the
-- Modbus reads, beginning with the plan's read 0.
pub connection_next : (past : History) (fed : List Answered) (one : Answered) (given : Option (List ℕ)) → one.event ≡ event.Connected given
    → next_in past (one ∷ fed) ≡ StartFrom 0
connection_next past fed one given is =
    ap (λ e. next_by e (next_after (endings_of past fed one) (reads_started (one ∷ fed)) (polls_ended past (one ∷ fed)) (reads_planned (one ∷ fed)))) is

-- After an event that can end polls, a polling round's next action is to start reads, to disconnect
-- or to read from the link. It is never to connect.
left_not : (start leave : Bool) (n : ℕ) → cond start (StartFrom n) (cond leave Leave Take) ≡ Connect → ⊥
left_not true leave n h = absurd (cc)
left_not false true n h = absurd (cc)
left_not false false n h = absurd (cc)

after_not : (none : Bool) (started ended planned : ℕ) → cond none Take (next_left started ended planned) ≡ Connect → ⊥
after_not true started ended planned h = absurd (cc)
after_not false started ended planned h = left_not (nat_lt started planned) (nat_le planned ended) started h

after_is_not : (device : Option (List ℕ)) (e : Event) (endings started ended planned : ℕ) → IsTaken device e
    → next_by e (next_after endings started ended planned) ≡ Connect → ⊥
after_is_not device (event.Connected given) endings started ended planned taken h = absurd taken
after_is_not device (event.Bytes given piece) endings started ended planned taken h = after_not (endings == 0) started ended planned h
after_is_not device event.Tick endings started ended planned taken h = after_not (endings == 0) started ended planned h
after_is_not device (event.Gone given c) endings started ended planned taken h = absurd (cc)
after_is_not device (event.Command c) endings started ended planned taken h = absurd taken
after_is_not device (event.Asked asked) endings started ended planned taken h = absurd taken

pub not_anew : (past : History) (fed : List Answered) (one : Answered) (device : Option (List ℕ)) (e : Event) → one.event ≡ e → IsTaken device e
    → next_in past (one ∷ fed) ≡ Connect → ⊥
not_anew past fed one device e is taken h =
    after_is_not device one.event (endings_of past fed one) (reads_started (one ∷ fed)) (polls_ended past (one ∷ fed)) (reads_planned (one ∷ fed))
    (subst (IsTaken device) (sym is) taken) h
