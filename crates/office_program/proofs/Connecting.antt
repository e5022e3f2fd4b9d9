-- Properties of the first event of a polling round: the event `Connected`, which reports that the
-- round's device is connected.
use Rattle.std.proofs.Common.{◌≡◌, ℕ, List, [], ◌∷◌, Option, Result, Ok, Err, refl, sym, ap, ◌∙◌, subst}
use Rattle.std.specs.Io.KnownBytes.{Appends}
use Rattle.mb_wire.specs.Sockets.Clocks.{ReportsMoment}
use Rattle.office_events.specs.declared.answers.Answer.{Answer}
use Rattle.office_events.specs.declared.events.Event.{Event}
use Rattle.office_events.specs.declared.events.Event.TheVariants as event
use Rattle.office_events.specs.declared.refusals.Refusal.{Refusal}
use Rattle.office_books.specs.History.{History, latest_of}
use Rattle.office_books.specs.Lawfulness.{IsPast}
use Rattle.office_books.specs.Ledgers.{Ledger}
use Rattle.office_core.specs.Standing.{notes_in}
use Rattle.office_core.specs.declared.office.Office.{Office}
use Rattle.office_program.specs.Rounds.{RoundState, IsFed}
use Rattle.office_program.specs.Stepping.{Connects, Feeds, IsNew, IsTaken, IsUnprinted, connection, latest_after}
use Rattle.office_program.specs.Polling.{Holds, RoundsHold, round_after}
use Rattle.office_program.specs.FedEvents.{history_with, reported_text}
use Rattle.office_program.specs.declared.fault.RoundFault.{RoundFault}
use Rattle.office_program.specs.declared.fault.RoundFault.TheVariants.{Refused, Link, Output, TurnsUsed}
use Rattle.office_program.specs.declared.device_rounds.round.Round.{Round}
use Rattle.office_program.specs.declared.progress.Progress.{Progress}
use Rattle.office_program.proofs.Timely.{one_accepted}

-- The state of a polling round after the office (the event engine) accepted the round's first
-- event: `Connected`, which reports that the device is connected.
pub record Connected (device : Option (List ℕ)) (past : History) (at : ℕ) (given : Answer) (new : Progress) : Type 0 where
  pub holds : Holds device past (connection device at (Ok given) ∷ []) new.round
  pub latest : new.latest ≡ latest_of (history_with past (connection device at (Ok given) ∷ []))

connected : {B : Type 0} (rounds : RoundsHold) (ledger : B → Ledger) (past : History) (begun now : RoundState) (office : Office B) (at : ℕ) (given : Answer)
    (old new : Progress) → IsNew old → IsTaken ledger past at (event.Connected old.round.device) (Ok given) begun now office
    → new.round ≡ round_after (event.Connected old.round.device) given (notes_in office) old.round → new.latest ≡ at
    → Connected old.round.device past at given new
connected rounds ledger past begun now office at given old new fresh taken round latest =
    let device = old.round.device in
    let e : Event = event.Connected device in
    let accepted = one_accepted past at e begun.failures now.failures given tt taken.answer in
    let first : Holds device past [] old.round =
    subst (Holds device past []) (sym fresh)
    (record { device_is = refl; next = refl; stands = record { none = refl; polls = refl; started = refl; planned = refl } }) in
    let holds = rounds device past [] old.round at e begun.failures now.failures given first refl taken.answer (subst IsPast accepted taken.stands.books.is_past) in
    record {
      holds = subst (Holds device past (connection device at (Ok given) ∷ []))
          (sym (round ∙ ap (λ notes. round_after e given notes old.round) taken.reported.notes)) holds;
      latest = latest ∙ sym (ap latest_of accepted);
    }

fed_first : {B : Type 0} (ledger : B → Ledger) (past : History) (begun now : RoundState) (office : Office B) (at : ℕ) (device : Option (List ℕ))
    (reply : Result Answer Refusal) → IsTaken ledger past at (event.Connected device) reply begun now office
    → IsFed ledger past begun now office (connection device at reply ∷ [])
fed_first ledger past begun now office at device reply taken =
    record { stands = taken.stands; answered = (begun.failures, refl, taken.answer) }

connects_here : {B : Type 0} (rounds : RoundsHold) (ledger : B → Ledger) (past : History) (begun now : RoundState) (office : Office B) (at : ℕ) (given : Answer)
    (old new : Progress) → IsNew old → new.round ≡ round_after (event.Connected old.round.device) given (notes_in office) old.round → new.latest ≡ at
    → ReportsMoment begun.moments now.moments at
    → IsTaken ledger past at (event.Connected old.round.device) (Ok given) begun now office
    → Appends begun.printed now.printed (reported_text past at (event.Connected old.round.device) (Ok given))
    → Connects ledger old.round.device past begun now office new (Ok tt)
connects_here rounds ledger past begun now office at given old new fresh round latest reports taken printed =
    let so = connected rounds ledger past begun now office at given old new fresh taken round latest in (
      at,
      (
        given,
        record {
          leaves = fed_first ledger past begun now office at old.round.device (Ok given) taken;
          next = (tt, refl, refl);
          timed = (begun.moments, refl, reports);
          printed = printed;
          holds = so.holds;
          latest = so.latest;
        },
      ),
    )

pub connects : {B : Type 0} (rounds : RoundsHold) (ledger : B → Ledger) (past : History) (begun now : RoundState) (office : Office B) (at : ℕ) (e : Event)
    (given : Answer) (old new : Progress) → IsNew old → e ≡ event.Connected old.round.device → new.round ≡ round_after e given (notes_in office) old.round
    → new.latest ≡ at → ReportsMoment begun.moments now.moments at → IsTaken ledger past at e (Ok given) begun now office
    → Appends begun.printed now.printed (reported_text past at e (Ok given)) → Connects ledger old.round.device past begun now office new (Ok tt)
connects rounds ledger past begun now office at e given old new fresh is round latest reports taken printed =
    let P : Event → Type 0 = λ x.
    new.round ≡ round_after x given (notes_in office) old.round → IsTaken ledger past at x (Ok given) begun now office
    → Appends begun.printed now.printed (reported_text past at x (Ok given)) → Connects ledger old.round.device past begun now office new (Ok tt) in
    subst P (sym is) (λ r t p. connects_here rounds ledger past begun now office at given old new fresh r latest reports t p) round taken printed

pub unconnected : {B : Type 0} (ledger : B → Ledger) (past : History) (begun now : RoundState) (office : Office B) (at : ℕ) (why : Refusal)
    (device : Option (List ℕ)) (round : Progress) → ReportsMoment begun.moments now.moments at
    → IsTaken ledger past at (event.Connected device) (Err why) begun now office → Appends begun.printed now.printed []
    → Connects ledger device past begun now office round (Err (Refused why))
unconnected ledger past begun now office at why device round reports taken printed =
    (at, fed_first ledger past begun now office at device (Err why) taken, reports, printed)

pub connects_unprinted : {B : Type 0} (ledger : B → Ledger) (past : History) (begun now : RoundState) (office : Office B) (at : ℕ)
    (old new : Progress) → new.round ≡ old.round → new.latest ≡ at → ReportsMoment begun.moments now.moments at
    → IsUnprinted ledger past at (event.Connected old.round.device) begun now office
    → Connects ledger old.round.device past begun now office new (Err Output)
connects_unprinted ledger past begun now office at old new same latest reports unprinted =
    let accepted = one_accepted past at (event.Connected old.round.device) begun.failures now.failures unprinted.given tt unprinted.taken.answer in (
      at,
      (
        unprinted.given,
        record {
          leaves = fed_first ledger past begun now office at old.round.device (Ok unprinted.given) unprinted.taken;
          course = (tt, refl, refl);
          timed = (begun.moments, refl, reports);
          printed = unprinted.printed;
          device_is = ap (λ (r : Round). r.device) same;
          latest = latest ∙ sym (ap latest_of accepted);
        },
      ),
    )

failed_here : {B : Type 0} (ledger : B → Ledger) (past : History) (begun now : RoundState) (office : Office B) (at : ℕ)
    (old new : Progress) (fault : RoundFault) → new.round ≡ old.round → new.latest ≡ latest_after fault at old.latest
    → ReportsMoment begun.moments now.moments at → Feeds ledger past at (event.Connected old.round.device) begun now office (Err fault)
    → Connects ledger old.round.device past begun now office new (Err fault)
failed_here ledger past begun now office at old new (Refused why) same latest reports feeds =
    unconnected ledger past begun now office at why old.round.device new reports feeds.0 feeds.1
failed_here ledger past begun now office at old new Link same latest reports feeds = absurd feeds
failed_here ledger past begun now office at old new Output same latest reports feeds =
    connects_unprinted ledger past begun now office at old new same latest reports feeds
failed_here ledger past begun now office at old new TurnsUsed same latest reports feeds = absurd feeds

pub connect_failed : {B : Type 0} (ledger : B → Ledger) (past : History) (begun now : RoundState) (office : Office B) (at : ℕ) (e : Event)
    (old new : Progress) (fault : RoundFault) → e ≡ event.Connected old.round.device → new.round ≡ old.round → new.latest ≡ latest_after fault at old.latest
    → ReportsMoment begun.moments now.moments at → Feeds ledger past at e begun now office (Err fault)
    → Connects ledger old.round.device past begun now office new (Err fault)
connect_failed ledger past begun now office at e old new fault is same latest reports feeds =
    let P : Event → Type 0 = λ x. Feeds ledger past at x begun now office (Err fault) → Connects ledger old.round.device past begun now office new (Err fault) in
    subst P (sym is) (λ f. failed_here ledger past begun now office at old new fault same latest reports f) feeds
