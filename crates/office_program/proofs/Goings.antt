-- Proofs that a polling round continues after an event that was accepted and printed, and ends
-- early after any other event.
use Rattle.std.proofs.Common.{◌≡◌, inl, ℕ, Bool, List, [], ◌∷◌, ◌++◌, Option, Result, Ok, Err, refl, sym, ap, ◌∙◌, subst}
use Rattle.std.proofs.KnownBytes.{Appends-trans}
use Rattle.std.specs.Io.KnownBytes.{Appends}
use Rattle.sun_points.specs.Writing.{GotPart}
use Rattle.script_text.proofs.Got.{got_both}
use Rattle.mb_wire.specs.Sockets.Clocks.{ReportsMoment}
use Rattle.office_events.specs.declared.answers.Answer.{Answer}
use Rattle.office_events.specs.declared.events.Event.{Event}
use Rattle.office_events.specs.declared.refusals.Refusal.{Refusal}
use Rattle.office_books.specs.History.{History, latest_of}
use Rattle.office_books.specs.Lawfulness.{IsPast}
use Rattle.office_books.specs.Ledgers.{Ledger}
use Rattle.office_core.specs.EventRun.{Answered}
use Rattle.office_core.specs.Standing.{notes_in}
use Rattle.office_core.specs.declared.office.Office.{Office}
use Rattle.office_program.specs.Course.{Does, next_in}
use Rattle.office_program.specs.Polling.{Holds, RoundsHold, round_after}
use Rattle.office_program.specs.Rounds.{RoundState}
use Rattle.office_program.specs.Stepping.{Broken, FeedStops, Feeds, RoundGoesOn, Going, IsTaken, IsUnprinted, Prints, Reported, latest_after}
use Rattle.office_program.specs.FedEvents.{history_with, text_after, reported_text}
use Rattle.office_program.specs.declared.fault.RoundFault.{RoundFault}
use Rattle.office_program.specs.declared.fault.RoundFault.TheVariants.{Refused, Link, Output, TurnsUsed}
use Rattle.office_program.specs.declared.device_rounds.round.Round.{Round}
use Rattle.office_program.specs.declared.progress.Progress.{Progress}
use Rattle.office_program.proofs.Timely.{of_round, one_accepted}

abbrev pub fed_one : (at : ℕ) → Event → Result Answer Refusal → Answered
fed_one at e result = record { at = at; event = e; result = result }

-- If the office (the event engine) accepts the next event of a running polling round, and the
-- event's report is printed, the round continues.
pub goes_on : {B : Type 0} (rounds : RoundsHold) (ledger : B → Ledger) (device : Option (List ℕ)) (past : History) (begun was now : RoundState)
    (before office : Office B) (fed : List Answered) (old new : Progress) (at : ℕ) (e : Event) (given : Answer)
    → Going ledger device past begun was before fed old → Does device (next_in past fed) e → ReportsMoment was.moments now.moments at
    → IsTaken ledger (history_with past fed) at e (Ok given) was now office
    → Appends was.printed now.printed (reported_text (history_with past fed) at e (Ok given))
    → new.round ≡ round_after e given (notes_in office) old.round → new.latest ≡ at
    → RoundGoesOn ledger device past begun now office fed (fed_one at e (Ok given)) new
goes_on rounds ledger device past begun was now before office fed old new at e given going does reports taken printed round latest =
    let history = history_with past fed in
    let accepted = one_accepted history at e was.failures now.failures given (of_round device (next_in past fed) e does) taken.answer in
    let holds = rounds device past fed old.round at e was.failures now.failures given going.holds does taken.answer (subst IsPast accepted taken.stands.books.is_past) in
    record {
      going = record {
        leaves = record { stands = taken.stands; answered = (was.failures, going.leaves.answered, taken.answer) };
        next = (going.next, does, refl);
        timed = (was.moments, going.timed, reports);
        printed = Appends-trans begun.printed was.printed now.printed (text_after past fed) _ going.printed printed;
        holds = subst (Holds device past (fed_one at e (Ok given) ∷ fed))
            (sym (round ∙ ap (λ notes. round_after e given notes old.round) taken.reported.notes)) holds;
        latest = latest ∙ sym (ap latest_of accepted);
      };
      reported = taken.reported.outgoing;
    }

-- If the event engine refuses the next event of a running polling round, then the round ends early.
pub breaks_off : {B : Type 0} (ledger : B → Ledger) (device : Option (List ℕ)) (past : History) (begun was now : RoundState) (before office : Office B)
    (fed : List Answered) (old new : Progress) (at : ℕ) (e : Event) (why : Refusal)
    → Going ledger device past begun was before fed old → Does device (next_in past fed) e → ReportsMoment was.moments now.moments at
    → IsTaken ledger (history_with past fed) at e (Err why) was now office → Appends was.printed now.printed []
    → new.round ≡ old.round → new.latest ≡ old.latest
    → Broken ledger device past begun now office (fed_one at e (Err why) ∷ fed) new (Refused why)
breaks_off ledger device past begun was now before office fed old new at e why going does reports taken printed same latest = record {
  leaves = record { stands = taken.stands; answered = (was.failures, going.leaves.answered, taken.answer) };
  course = inl (going.next, does, refl);
  timed = (was.moments, going.timed, reports);
  printed = Appends-trans begun.printed was.printed now.printed (text_after past fed) [] going.printed printed;
  device_is = ap (λ (r : Round). r.device) same ∙ going.holds.device_is;
  latest = latest ∙ going.latest;
}

pub part_more : (a b c : Option (List ℕ)) (x y : List ℕ) → Appends a b x → GotPart y b c → GotPart (x ++ y) a c
part_more a b c x y first second =
    let failed : Result (Unit {0}) (Unit {0}) = Err tt in got_both failed a b c x y (x ++ y) first second refl

-- If the event engine accepts the next event of a running polling round, but printing the report
-- failed, then the round ends early.
pub unprinted : {B : Type 0} (ledger : B → Ledger) (device : Option (List ℕ)) (past : History) (begun was now : RoundState) (before office : Office B)
    (fed : List Answered) (old new : Progress) (at : ℕ) (e : Event)
    → Going ledger device past begun was before fed old → Does device (next_in past fed) e → ReportsMoment was.moments now.moments at
    → (taken : IsUnprinted ledger (history_with past fed) at e was now office) → new.round ≡ old.round → new.latest ≡ at
    → Broken ledger device past begun now office (fed_one at e (Ok taken.given) ∷ fed) new Output
unprinted ledger device past begun was now before office fed old new at e going does reports taken same latest =
    let accepted = one_accepted (history_with past fed) at e was.failures now.failures taken.given (of_round device (next_in past fed) e does) taken.taken.answer in
    record {
      leaves = record { stands = taken.taken.stands; answered = (was.failures, going.leaves.answered, taken.taken.answer) };
      course = (going.next, does, refl);
      timed = (was.moments, going.timed, reports);
      printed = part_more begun.printed was.printed now.printed (text_after past fed) _ going.printed taken.printed;
      device_is = ap (λ (r : Round). r.device) same ∙ going.holds.device_is;
      latest = latest ∙ sym (ap latest_of accepted);
    }

pub fed_printed : {B : Type 0} (ledger : B → Ledger) (past : History) (at : ℕ) (e : Event) (given : Answer) (was now : RoundState) (office : Office B)
    (text : List ℕ) (result : Result Answer RoundFault) → IsTaken ledger past at e (Ok given) was now office
    → Prints given text was.printed now.printed result → text ≡ reported_text past at e (Ok given) → Feeds ledger past at e was now office result
fed_printed ledger past at e given was now office text (Ok reported) taken h is =
    let P : Answer → Type 0 = λ x.
    IsTaken ledger past at e (Ok x) was now office × Appends was.printed now.printed (reported_text past at e (Ok x)) in
    let Q : List ℕ → Type 0 = λ x. Appends was.printed now.printed x in
    subst P (sym h.0) (taken, subst Q is h.1)
fed_printed ledger past at e given was now office text (Err (Refused why)) taken h is = absurd h
fed_printed ledger past at e given was now office text (Err Link) taken h is = absurd h
fed_printed ledger past at e given was now office text (Err Output) taken h is =
    let Q : List ℕ → Type 0 = λ x. GotPart x was.printed now.printed in
    record { given = given; taken = taken; printed = subst Q is h }
fed_printed ledger past at e given was now office text (Err TurnsUsed) taken h is = absurd h

-- If the next event of a running polling round is refused or its report can't be printed, the round
-- ends early and sends no frames.
pub reported_broken : {B : Type 0} (ledger : B → Ledger) (device : Option (List ℕ)) (past : History) (begun was now : RoundState) (before office : Office B)
    (fed : List Answered) (old new : Progress) (at : ℕ) (e : Event) (cause : RoundFault)
    → Going ledger device past begun was before fed old → Does device (next_in past fed) e → ReportsMoment was.moments now.moments at
    → Feeds ledger (history_with past fed) at e was now office (Err cause) → new.round ≡ old.round
    → new.latest ≡ latest_after cause at old.latest
    → (one : Answered) × (one.event ≡ e) × Reported ledger device past begun now office fed one new (Err cause)
reported_broken ledger device past begun was now before office fed old new at e (Refused why) going does reports feeds same latest = (
  fed_one at e (Err why),
  refl,
  (breaks_off ledger device past begun was now before office fed old new at e why going does reports feeds.0 feeds.1 same latest, refl),
)
reported_broken ledger device past begun was now before office fed old new at e Link going does reports feeds same latest = absurd feeds
reported_broken ledger device past begun was now before office fed old new at e Output going does reports feeds same latest = (
  fed_one at e (Ok feeds.given),
  refl,
  (unprinted ledger device past begun was now before office fed old new at e going does reports feeds same latest, tt),
)
reported_broken ledger device past begun was now before office fed old new at e TurnsUsed going does reports feeds same latest = absurd feeds

-- If the report of an event was printed, completely or in part, then the event engine accepted the
-- event. So `FeedStops`, the rule for refusals, states nothing and holds.
pub printed_stops : (was : Bool) (e : Event) (given : Answer) (text : List ℕ) (a b : Option (List ℕ)) (result : Result Answer RoundFault)
    (now : Bool) → Prints given text a b result → FeedStops was e result now
printed_stops was e given text a b (Ok reported) now h = tt
printed_stops was e given text a b (Err (Refused why)) now h = absurd h
printed_stops was e given text a b (Err Link) now h = absurd h
printed_stops was e given text a b (Err Output) now h = tt
printed_stops was e given text a b (Err TurnsUsed) now h = absurd h
