-- Proof that none of a device's polls is pending after the device's polling round (one poll for
-- each Modbus read that covers its point list) is over.
use Rattle.std.proofs.Common.{◌≡◌, inr, ℕ, ◌==◌, nat_lt, nat_le, Bool, true, false, cond, List, [], ◌∷◌, Option, Result, Ok, Err, refl, sym, subst, IsOk}
use Rattle.poll_core.specs.declared.outcome.Closing.{Closing}
use Rattle.office_events.specs.declared.answers.Answer.{Answer}
use Rattle.office_events.specs.declared.events.Event.{Event}
use Rattle.office_events.specs.declared.events.Event.TheVariants as event
use Rattle.office_events.specs.declared.refusals.Refusal.{Refusal}
use Rattle.office_books.specs.History.{History}
use Rattle.office_books.specs.Refusals.{with_answer}
use Rattle.office_books.specs.declared.failures.Failures.{Failures}
use Rattle.office_books.specs.Ledgers.{Ledger}
use Rattle.office_core.specs.EventRun.{Answered}
use Rattle.office_core.specs.Taking.{IsAnswer}
use Rattle.office_core.specs.declared.office.Office.{Office}
use Rattle.office_program.specs.Course.{AreNext, Connect, Does, Leave, Next, Over, StartFrom, Take, endings_of, next_after, next_by, next_in, next_left, polls_ended, reads_planned, reads_started}
use Rattle.office_program.specs.Rounds.{RoundState, IsBrokenOff, IsRound, NoneWaits, Wire, passage}
use Rattle.office_program.specs.Stepping.{Broken, Closes, Going, IsWired}
use Rattle.office_program.specs.FedEvents.{AreAnswered, history_with}
use Rattle.office_program.specs.declared.fault.RoundFault.{RoundFault}
use Rattle.office_program.specs.declared.progress.Progress.{Progress}
use Rattle.office_program.proofs.Absent.{gone_accepted}
use Rattle.office_program.proofs.Timely.{one_accepted}

goes_left : (start leave : Bool) (n : ℕ) → cond start (StartFrom n) (cond leave Leave Take) ≡ Over → ⊥
goes_left true leave n h = absurd (cc)
goes_left false true n h = absurd (cc)
goes_left false false n h = absurd (cc)

goes_after : (none : Bool) (started ended planned : ℕ) → cond none Take (next_left started ended planned) ≡ Over → ⊥
goes_after true started ended planned h = absurd (cc)
goes_after false started ended planned h = goes_left (nat_lt started planned) (nat_le planned ended) started h

-- True if the event is `Gone`: a device is disconnected. A polling round is over after this event.
pub record IsGone (e : Event) : Type 0 where
  pub given : Option (List ℕ)
  pub cause : Closing
  pub is : e ≡ event.Gone given cause

over_by : (e : Event) (endings started ended planned : ℕ) → next_by e (next_after endings started ended planned) ≡ Over → IsGone e
over_by (event.Connected given) endings started ended planned h = absurd (cc)
over_by (event.Bytes given piece) endings started ended planned h = absurd (goes_after (endings == 0) started ended planned h)
over_by event.Tick endings started ended planned h = absurd (goes_after (endings == 0) started ended planned h)
over_by (event.Gone given c) endings started ended planned h = record { given = given; cause = c; is = refl }
over_by (event.Command c) endings started ended planned h = absurd (goes_after (endings == 0) started ended planned h)
over_by (event.Asked asked) endings started ended planned h = absurd (goes_after (endings == 0) started ended planned h)

of_this : (device given : Option (List ℕ)) (c : Closing) (next : Next) → Does device next (event.Gone given c) → given ≡ device
of_this device given c Connect h = absurd (cc)
of_this device given c (StartFrom read) h = absurd (cc)
of_this device given c Leave h = cc
of_this device given c Take h = h.0
of_this device given c Over h = absurd h

gone_so : (device given : Option (List ℕ)) (c : Closing) (past : History) (at : ℕ) (e : Event) (reply : Result Answer Refusal) (before after : Failures)
    → e ≡ event.Gone given c → given ≡ device → IsOk reply → IsAnswer past at e before after reply → NoneWaits device (with_answer past at e reply)
gone_so device given c past at e (Err why) before after is same ok reported = absurd (cc)
gone_so device given c past at e (Ok answer) before after is same ok reported =
    let P : Event → Type 0 = λ x. IsAnswer past at x before after (Ok answer) in
    let mine = subst P is reported in
    let Q : Event → Type 0 = λ x. NoneWaits device (with_answer past at x (Ok answer)) in
    let R : Option (List ℕ) → Type 0 = λ d. NoneWaits d (with_answer past at (event.Gone given c) (Ok answer)) in
    subst Q (sym is)
    (subst R same (gone_accepted past at given c before after answer (one_accepted past at (event.Gone given c) before after answer tt mine)))

-- If a polling round is over after the events that it fed to the event engine, then none of its
-- device's polls is pending.
pub over_settled : (device : Option (List ℕ)) (past : History) (fed : List Answered) (before after : Failures) → next_in past fed ≡ Over
    → AreNext device past fed → AreAnswered past before after fed → NoneWaits device (history_with past fed)
over_settled device past [] before after over next reported = absurd (cc)
over_settled device past (one ∷ earlier) before after over next reported =
    let gone = over_by one.event (endings_of past earlier one) (reads_started (one ∷ earlier)) (polls_ended past (one ∷ earlier)) (reads_planned (one ∷ earlier)) over in
    let P : Event → Type 0 = λ e. Does device (next_in past earlier) e in
    gone_so device gone.given gone.cause (history_with past earlier) one.at one.event one.result reported.0 after gone.is
    (of_this device gone.given gone.cause (next_in past earlier) (subst P gone.is next.1)) next.2 reported.2

pub is_round : {B : Type 0} (ledger : B → Ledger) (device : Option (List ℕ)) (past : History) (begun now : RoundState) (from to : Wire) (office : Office B)
    (fed : List Answered) (round : Progress) → Going ledger device past begun now office fed round
    → IsWired {X = Unit {0}} past from to fed (Ok tt) → next_in past fed ≡ Over → IsRound ledger device past (passage begun now from to) office
is_round ledger device past begun now from to office fed round going wired over = record {
  fed = fed;
  leaves = going.leaves;
  next = going.next;
  over = over;
  timed = going.timed;
  taken = wired.taken;
  given = wired.given;
  printed = going.printed;
  settled = inr (over_settled device past fed begun.failures now.failures over going.next going.leaves.answered);
}

-- If a fault ended a polling round early, and the event engine processed the round's last event,
-- then `IsBrokenOff` holds, the contract for a round that ended early.
pub is_broken_off : {B : Type 0} (ledger : B → Ledger) (device : Option (List ℕ)) (past : History) (begun was now : RoundState) (from to : Wire)
    (before office : Office B) (earlier : List Answered) (round : Progress) (cause fault : RoundFault)
    → Broken ledger device past begun was before earlier round cause → IsWired {X = Unit {0}} past from to earlier (Err cause)
    → Closes ledger device past begun now office earlier cause fault → IsBrokenOff ledger device past (passage begun now from to) office fault
is_broken_off ledger device past begun was now from to before office earlier round cause fault broken wired closes = record {
  cause = cause;
  reported = closes.reported;
  earlier = earlier;
  course = broken.course;
  gone = closes.gone;
  event = closes.event;
  leaves = closes.leaves;
  timed = closes.timed;
  taken = wired.taken;
  given = wired.given;
  printed = closes.printed;
  settled = closes.settled;
}
