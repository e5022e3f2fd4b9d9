-- Proofs that a polling round that a fault ended early feeds its last event (`Gone`, the device is
-- disconnected) as `Closes` requires, the contract for ending the round.
use Rattle.std.proofs.Common.{◌≡◌, ◌⊎◌, inl, inr, ℕ, nat_lt, ◌||◌, Bool, true, false, List, ◌∷◌, ◌++◌, Option, Result, Ok, Err, refl, sym, ap, ◌∙◌, subst}
use Rattle.std.specs.Io.KnownBytes.{Appends}
use Rattle.std.proofs.KnownBytes.{Appends-trans}
use Rattle.sun_points.specs.Writing.{GotPart}
use Rattle.script_text.proofs.Got.{got_first}
use Rattle.mb_wire.specs.Sockets.Clocks.{ReportsMoment}
use Rattle.poll_core.specs.declared.outcome.Closing.{Closing}
use Rattle.poll_core.specs.declared.outcome.Closing.TheVariants as closing
use Rattle.office_events.specs.declared.answers.Answer.{Answer}
use Rattle.office_events.specs.declared.events.Event.{Event}
use Rattle.office_events.specs.declared.events.Event.TheVariants as event
use Rattle.office_events.specs.declared.refusals.Refusal.{Refusal}
use Rattle.office_events.specs.declared.refusals.Refusal.TheVariants as refusal
use Rattle.office_books.specs.History.{History, latest_of}
use Rattle.office_books.specs.Facts.{moment_limit}
use Rattle.office_books.specs.Refusals.{IsAccepted, with_answer}
use Rattle.office_books.specs.declared.failures.Failures.{Failures}
use Rattle.office_books.specs.Ledgers.{Ledger}
use Rattle.office_core.specs.Failing.{FailsOutside, stops}
use Rattle.office_core.specs.EventRun.{Answered}
use Rattle.office_core.specs.Standing.{is_stopped}
use Rattle.office_core.specs.declared.office.Office.{Office}
use Rattle.office_program.specs.Faults.{IsPrinted}
use Rattle.office_program.specs.Rounds.{RoundState, IsSettled, IsReportedOf, NoneWaits, gone_at}
use Rattle.office_program.specs.Stepping.{Broken, Closes, EndsPrinted, EndsUnprinted, Feeds, FeedStops, IsTaken, RefusedStops, Stops, fault_after, is_output}
use Rattle.office_program.specs.FedEvents.{history_with, text_after, reported_text}
use Rattle.office_program.specs.declared.fault.RoundFault.{RoundFault}
use Rattle.office_program.specs.declared.fault.RoundFault.TheVariants.{Refused, Link, Output, TurnsUsed}
use Rattle.office_program.specs.declared.progress.Progress.{Progress}
use Rattle.office_program.proofs.Absent.{gone}
use Rattle.office_program.proofs.Goings.{part_more}
use Rattle.office_program.proofs.Timely.{gone_in_time, latest_within}

or_true : (a b : Bool) → b ≡ true → (a || b) ≡ true
or_true true b h = refl
or_true false b h = h

stopped_by : (was now : Bool) (d : Option (List ℕ)) (c : Closing) (takes_memory : Type 0) (before after : Failures) (reply : Result Answer Refusal)
    → Stops was (event.Gone d c) reply now → FailsOutside takes_memory before after reply → now ≡ true
stopped_by was now d c takes_memory before after (Ok given) stops fails = absurd fails
stopped_by was now d c takes_memory before after (Err (refusal.Store why)) stops fails = stops.after ∙ or_true was true refl
stopped_by was now d c takes_memory before after (Err refusal.Memory) stops fails = stops.after ∙ or_true was true refl
stopped_by was now d c takes_memory before after (Err refusal.Stopped) stops fails = stops.after ∙ ap (λ b. b || false) (stops.before refl)
stopped_by was now d c takes_memory before after (Err refusal.NotFound) stops fails = absurd fails
stopped_by was now d c takes_memory before after (Err refusal.Exists) stops fails = absurd fails
stopped_by was now d c takes_memory before after (Err refusal.ClockBack) stops fails = absurd fails
stopped_by was now d c takes_memory before after (Err refusal.BadScale) stops fails = absurd fails
stopped_by was now d c takes_memory before after (Err refusal.NegativeStep) stops fails = absurd fails
stopped_by was now d c takes_memory before after (Err refusal.NotLater) stops fails = absurd fails
stopped_by was now d c takes_memory before after (Err refusal.SpanTooLong) stops fails = absurd fails
stopped_by was now d c takes_memory before after (Err refusal.TotalFull) stops fails = absurd fails
stopped_by was now d c takes_memory before after (Err refusal.Ended) stops fails = absurd fails
stopped_by was now d c takes_memory before after (Err refusal.Busy) stops fails = absurd fails
stopped_by was now d c takes_memory before after (Err refusal.Reused) stops fails = absurd fails
stopped_by was now d c takes_memory before after (Err refusal.Limit) stops fails = absurd fails
stopped_by was now d c takes_memory before after (Err refusal.NotVoidable) stops fails = absurd fails
stopped_by was now d c takes_memory before after (Err (refusal.NotPlausible why)) stops fails = absurd fails

stopped_as : {B : Type 0} (office : Office B) (was : Bool) (d : Option (List ℕ)) (c : Closing) (takes_memory : Type 0) (before after : Failures) (reply : Result Answer Refusal)
    → RefusedStops was (event.Gone d c) reply (is_stopped office) → FailsOutside takes_memory before after reply → is_stopped office ≡ true
stopped_as office was d c takes_memory before after (Ok given) stops fails = absurd fails
stopped_as office was d c takes_memory before after (Err why) stops fails =
    stopped_by was (is_stopped office) d c takes_memory before after (Err why) (stops why refl) fails

settled_or : {B : Type 0} (d : Option (List ℕ)) (c : Closing) (history : History) (office : Office B) (was : Bool) (takes_memory : Type 0) (before after : Failures) (at : ℕ)
    (reply : Result Answer Refusal) → RefusedStops was (event.Gone d c) reply (is_stopped office)
    → NoneWaits d (with_answer history at (event.Gone d c) reply) ⊎ FailsOutside takes_memory before after reply
    → IsSettled d (with_answer history at (event.Gone d c) reply) office
settled_or d c history office was takes_memory before after at reply stops (inl none) = inr none
settled_or d c history office was takes_memory before after at reply stops (inr fails) = inl (stopped_as office was d c takes_memory before after reply stops fails)

abbrev pub gone_one : (device : Option (List ℕ)) → (at : ℕ) → Result Answer Refusal → Answered
gone_one device at reply = record { at = at; event = event.Gone device closing.Failed; result = reply }

-- Suppose that a fault ended a polling round early, the event engine processed the round's last
-- event, and the event's report was printed, completely or in part. Then `Closes`, the contract for
-- ending the round, holds.
pub closes : {B : Type 0} (ledger : B → Ledger) (device : Option (List ℕ)) (past : History) (begun was now : RoundState) (before office : Office B)
    (earlier : List Answered) (round : Progress) (cause fault : RoundFault) (moment at : ℕ) (reply : Result Answer Refusal)
    → Broken ledger device past begun was before earlier round cause → ReportsMoment was.moments now.moments moment
    → at ≡ gone_at round.latest moment
    → IsTaken ledger (history_with past earlier) at (event.Gone device closing.Failed) reply was now office
    → RefusedStops (is_stopped before) (event.Gone device closing.Failed) reply (is_stopped office) → IsReportedOf cause fault
    → IsPrinted {X = Unit {0}} (Err fault) (text_after past (gone_one device at reply ∷ earlier)) begun.printed now.printed
    → Closes ledger device past begun now office earlier cause fault
closes ledger device past begun was now before office earlier round cause fault moment at reply broken reports is taken stops reported printed =
    let history = history_with past earlier in
    let when : at ≡ gone_at (latest_of history) moment = is ∙ ap (λ n. gone_at n moment) broken.latest in
    let times = gone_in_time (latest_of history) moment (latest_within history broken.leaves.stands.books.is_past.accepted) in
    record {
      reported = reported;
      gone = gone_one device at reply;
      event = refl;
      leaves = record { stands = taken.stands; answered = (was.failures, broken.leaves.answered, taken.answer) };
      timed = record { between = was.moments; timed = broken.timed; moment = moment; reported = reports; is = when };
      printed = printed;
      settled = settled_or device closing.Failed history office (is_stopped before) (IsAccepted history at (event.Gone device closing.Failed)) was.failures now.failures at reply stops
          (gone history at device closing.Failed was.failures now.failures reply (ap (λ n. nat_lt n (latest_of history)) when ∙ times.0)
          (ap (λ n. nat_lt moment_limit n) when ∙ times.1) taken.answer);
    }

-- Suppose that no write failed before the last event of a polling round. If the report of this
-- event was printed completely, then the reports of all events were printed completely.
pub whole_printed : (cause : RoundFault) (text more : List ℕ) (a b c : Option (List ℕ)) → (cause ≡ Output → ⊥)
    → IsPrinted {X = Unit {0}} (Err cause) text a b → Appends b c more → IsPrinted {X = Unit {0}} (Err cause) (text ++ more) a c
whole_printed (Refused why) text more a b c other printed reported = Appends-trans a b c text more printed reported
whole_printed Link text more a b c other printed reported = Appends-trans a b c text more printed reported
whole_printed Output text more a b c other printed reported = absurd (other refl)
whole_printed TurnsUsed text more a b c other printed reported = Appends-trans a b c text more printed reported

pub part_printed : (cause : RoundFault) (text more : List ℕ) (a b c : Option (List ℕ)) → (cause ≡ Output → ⊥)
    → IsPrinted {X = Unit {0}} (Err cause) text a b → GotPart more b c → GotPart (text ++ more) a c
part_printed (Refused why) text more a b c other printed reported = part_more a b c text more printed reported
part_printed Link text more a b c other printed reported = part_more a b c text more printed reported
part_printed Output text more a b c other printed reported = absurd (other refl)
part_printed TurnsUsed text more a b c other printed reported = part_more a b c text more printed reported

pub part_of_more : (a b : Option (List ℕ)) (text more : List ℕ) → GotPart text a b → GotPart (text ++ more) a b
part_of_more a b text more got =
    let failed : Result (Unit {0}) (Unit {0}) = Err tt in got_first failed a b text more (text ++ more) refl got refl

reported_after : {B : Type 0} (ledger : B → Ledger) (device : Option (List ℕ)) (past : History) (begun was now : RoundState) (before office : Office B)
    (earlier : List Answered) (round : Progress) (cause fault : RoundFault) (moment at : ℕ) (reply : Result Answer Refusal)
    → Broken ledger device past begun was before earlier round cause → (cause ≡ Output → ⊥) → ReportsMoment was.moments now.moments moment
    → at ≡ gone_at round.latest moment
    → IsTaken ledger (history_with past earlier) at (event.Gone device closing.Failed) reply was now office
    → RefusedStops (is_stopped before) (event.Gone device closing.Failed) reply (is_stopped office)
    → ((fault ≡ cause) × Appends was.printed now.printed (reported_text (history_with past earlier) at (event.Gone device closing.Failed) reply))
    ⊎ ((fault ≡ Output) × GotPart (reported_text (history_with past earlier) at (event.Gone device closing.Failed) reply) was.printed now.printed)
    → Closes ledger device past begun now office earlier cause fault
reported_after ledger device past begun was now before office earlier round cause fault moment at reply broken other reports is taken stops (inl reported) =
    let P : RoundFault → Type 0 = λ f. Closes ledger device past begun now office earlier cause f in
    subst P (sym reported.0)
    (closes ledger device past begun was now before office earlier round cause cause moment at reply broken reports is taken stops (inl refl)
    (whole_printed cause (text_after past earlier) _ begun.printed was.printed now.printed other broken.printed reported.1))
reported_after ledger device past begun was now before office earlier round cause fault moment at reply broken other reports is taken stops (inr reported) =
    let P : RoundFault → Type 0 = λ f. Closes ledger device past begun now office earlier cause f in
    subst P (sym reported.0)
    (closes ledger device past begun was now before office earlier round cause Output moment at reply broken reports is taken stops (inr refl)
    (part_printed cause (text_after past earlier) _ begun.printed was.printed now.printed other broken.printed reported.1))

-- Suppose that a fault other than a failed write of the output ended a polling round. The event
-- engine processed the round's last event, and the event's report was printed, completely or in
-- part. Then `Closes`, the contract for ending the round, holds.
pub closes_printed : {B : Type 0} (ledger : B → Ledger) (device same : Option (List ℕ)) (past : History) (begun was now : RoundState)
    (before office : Office B) (earlier : List Answered) (round : Progress) (cause fault : RoundFault) (moment at : ℕ) → same ≡ device
    → Broken ledger device past begun was before earlier round cause → (cause ≡ Output → ⊥) → ReportsMoment was.moments now.moments moment
    → at ≡ gone_at round.latest moment
    → EndsPrinted ledger (history_with past earlier) at (event.Gone same closing.Failed) cause was now before office fault
    → Closes ledger device past begun now office earlier cause fault
closes_printed ledger device same past begun was now before office earlier round cause fault moment at equal broken other reports is ends =
    let P : Option (List ℕ) → Type 0 = λ d.
    EndsPrinted ledger (history_with past earlier) at (event.Gone d closing.Failed) cause was now before office fault in
    let mine = subst P equal ends in
    reported_after ledger device past begun was now before office earlier round cause fault moment at mine.reply broken other reports is mine.taken mine.stops mine.printed

-- Suppose that a failed write of the output ended a polling round. If the event engine processed
-- the round's last event and nothing was printed, then `Closes`, the contract for ending the round,
-- holds.
pub closes_unprinted : {B : Type 0} (ledger : B → Ledger) (device same : Option (List ℕ)) (past : History) (begun was now : RoundState)
    (before office : Office B) (earlier : List Answered) (round : Progress) (moment at : ℕ) → same ≡ device
    → Broken ledger device past begun was before earlier round Output → ReportsMoment was.moments now.moments moment
    → at ≡ gone_at round.latest moment → now.printed ≡ was.printed
    → EndsUnprinted ledger (history_with past earlier) at (event.Gone same closing.Failed) was now before office
    → Closes ledger device past begun now office earlier Output Output
closes_unprinted ledger device same past begun was now before office earlier round moment at equal broken reports is unprinted ends =
    let P : Option (List ℕ) → Type 0 = λ d.
    EndsUnprinted ledger (history_with past earlier) at (event.Gone d closing.Failed) was now before office in
    let mine = subst P equal ends in
    let Q : Option (List ℕ) → Type 0 = λ o. GotPart (text_after past earlier) begun.printed o in
    closes ledger device past begun was now before office earlier round Output Output moment at mine.reply broken reports is mine.taken mine.stops (inl refl)
    (part_of_more begun.printed now.printed (text_after past earlier) _ (subst Q (sym unprinted) broken.printed))

pub not_refused : (was now : Bool) (e : Event) (given : Answer) → RefusedStops was e (Ok given) now
not_refused was now e given why is = absurd (cc)

pub ended_err : {B : Type 0} (ledger : B → Ledger) (past : History) (at : ℕ) (e : Event) (cause fault reported : RoundFault) (begun now : RoundState)
    (old new : Office B) → Feeds ledger past at e begun now new (Err fault) → FeedStops (is_stopped old) e (Err fault) (is_stopped new)
    → reported ≡ fault_after cause fault → EndsPrinted ledger past at e cause begun now old new reported
ended_err ledger past at e cause (Refused why) reported begun now old new feeds stops is =
    record { reply = Err why; taken = feeds.0; stops = λ other same. stops; printed = inl (is, feeds.1) }
ended_err ledger past at e cause Link reported begun now old new feeds stops is = absurd feeds
ended_err ledger past at e cause Output reported begun now old new feeds stops is =
    record { reply = Ok feeds.given; taken = feeds.taken; stops = λ other same. absurd (cc); printed = inr (is, feeds.printed) }
ended_err ledger past at e cause TurnsUsed reported begun now old new feeds stops is = absurd feeds

is_that : (fault : RoundFault) → is_output fault ≡ true → fault ≡ Output
is_that (Refused why) h = absurd (cc)
is_that Link h = absurd (cc)
is_that Output h = refl
is_that TurnsUsed h = absurd (cc)

pub is_other : (fault : RoundFault) → is_output fault ≡ false → fault ≡ Output → ⊥
is_other fault h is = let no : true ≡ false = ap is_output (sym is) ∙ h in absurd (cc)

pub closes_as : {B : Type 0} (ledger : B → Ledger) (device same : Option (List ℕ)) (past : History) (begun was now : RoundState)
    (before office : Office B) (earlier : List Answered) (round : Progress) (cause : RoundFault) (moment at : ℕ) → is_output cause ≡ true
    → same ≡ device → Broken ledger device past begun was before earlier round cause → ReportsMoment was.moments now.moments moment
    → at ≡ gone_at round.latest moment → now.printed ≡ was.printed
    → EndsUnprinted ledger (history_with past earlier) at (event.Gone same closing.Failed) was now before office
    → Closes ledger device past begun now office earlier cause Output
closes_as ledger device same past begun was now before office earlier round cause moment at output equal broken reports is unprinted ends =
    let P : RoundFault → Type 0 = λ f.
    Broken ledger device past begun was before earlier round f → Closes ledger device past begun now office earlier f Output in
    subst P (sym (is_that cause output))
    (λ b. closes_unprinted ledger device same past begun was now before office earlier round moment at equal b reports is unprinted ends) broken
