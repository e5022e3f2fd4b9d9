-- Proof of the theorem on a complete polling round, from the event `Connected` to the end of the
-- round.
use Rattle.std.proofs.Common.{◌≡◌, inl, inr, ℕ, List, [], ◌∷◌, Option, Result, Ok, Err, refl, sym, subst}
use Rattle.std.proofs.KnownBytes.{Appends-nil, Consumes-nil}
use Rattle.office_events.specs.declared.answers.Answer.{Answer}
use Rattle.office_events.specs.declared.answers.Answer.TheVariants as answer
use Rattle.office_events.specs.declared.events.Event.TheVariants as event
use Rattle.office_events.specs.declared.refusals.Refusal.{Refusal}
use Rattle.office_books.specs.History.{History}
use Rattle.office_books.specs.Notes.{outgoing_after}
use Rattle.office_books.specs.Ledgers.{Ledger}
use Rattle.office_core.specs.EventRun.{Answered}
use Rattle.office_core.specs.declared.office.Office.{Office}
use Rattle.office_program.specs.Faults.{OfOffice, is_link_fault}
use Rattle.office_program.specs.Passing.{CountsFailures}
use Rattle.mb_wire.specs.Links.{risen}
use Rattle.office_program.specs.Rounds.{RoundState, IsReportedOf, Rounds, Wire, passage}
use Rattle.office_program.specs.Stepping.{Broken, Closes, Connects, IsWired, connection}
use Rattle.office_program.specs.declared.fault.RoundFault.{RoundFault}
use Rattle.office_program.specs.declared.fault.RoundFault.TheVariants.{Refused, Link, Output, TurnsUsed}
use Rattle.office_program.specs.declared.progress.Progress.{Progress}
use Rattle.office_program.proofs.Overs.{is_broken_off}
use Rattle.office_program.proofs.Wires.{appends_nothing, part_of_all}

-- For the event `Connected`, the office (the event engine) sends no Modbus frames.
no_frames : (h : History) (at : ℕ) (d : Option (List ℕ)) (given : Answer) → outgoing_after h at (event.Connected d) (Ok given) ≡ []
no_frames h at d answer.Noted = refl
no_frames h at d (answer.Done kind) = refl
no_frames h at d (answer.Again kind) = refl
no_frames h at d (answer.Started first count of) = refl

pub wired_connected : (past : History) (at : ℕ) (device : Option (List ℕ)) (given : Answer) (w : Wire)
    → IsWired {X = Unit {0}} past w w (connection device at (Ok given) ∷ []) (Ok tt)
wired_connected past at device given w = record {
  taken = Consumes-nil w.remaining;
  given = appends_nothing w.given w.given [] _ (Appends-nil w.given) (no_frames past at device given);
}

pub wired_unprinted : (past : History) (at : ℕ) (device : Option (List ℕ)) (given : Answer) (w : Wire)
    → IsWired {X = Unit {0}} past w w (connection device at (Ok given) ∷ []) (Err Output)
wired_unprinted past at device given w =
    let wired = wired_connected past at device given w in
    record { taken = wired.taken; given = part_of_all w.given w.given _ wired.given }

-- If the event engine refused the event `Connected` of a polling round, then the round's result
-- satisfies `IsNotConnected`, the contract for this case.
pub unconnected : {B : Type 0} (ledger : B → Ledger) (device : Option (List ℕ)) (past : History) (begun now : RoundState) (w : Wire)
    (office : Office B) (round : Progress) (why : Refusal) → Connects ledger device past begun now office round (Err (Refused why))
    → Rounds ledger device past (passage begun now w w) office (Err (Refused why))
unconnected ledger device past begun now w office round why h =
    inl (record { at = h.0; leaves = h.1; timed = h.2; same = refl; printed = h.3 })

-- If the event engine accepted the event `Connected` of a polling round but the event's report
-- could not be printed, a fault ended the round.
pub unprinted : {B : Type 0} (ledger : B → Ledger) (device : Option (List ℕ)) (past : History) (begun was now : RoundState) (w : Wire)
    (before office : Office B) (round : Progress) (fault : RoundFault) → (h : Connects ledger device past begun was before round (Err Output))
    → Closes ledger device past begun now office (connection device h.0 (Ok h.1.0) ∷ []) Output fault
    → Rounds ledger device past (passage begun now w w) office (Err fault)
unprinted ledger device past begun was now w before office round fault h closes =
    inr (is_broken_off ledger device past begun was now w w before office (connection device h.0 (Ok h.1.0) ∷ []) round Output fault h.1.1
    (wired_unprinted past h.0 device h.1.0 w) closes)

pub unprinted_as : {B : Type 0} (ledger : B → Ledger) (device : Option (List ℕ)) (past : History) (begun was now : RoundState) (w : Wire)
    (before office : Office B) (round : Progress) (cause fault : RoundFault) → cause ≡ Output
    → Connects ledger device past begun was before round (Err cause)
    → ((fed : List Answered) → Broken ledger device past begun was before fed round cause → Closes ledger device past begun now office fed cause fault)
    → Rounds ledger device past (passage begun now w w) office (Err fault)
unprinted_as ledger device past begun was now w before office round cause fault is h closes =
    let P : RoundFault → Type 0 = λ f.
    Connects ledger device past begun was before round (Err f)
    → ((fed : List Answered) → Broken ledger device past begun was before fed round f → Closes ledger device past begun now office fed f fault)
    → Rounds ledger device past (passage begun now w w) office (Err fault) in
    subst P (sym is)
    (λ reported shuts. unprinted ledger device past begun was now w before office round fault reported (shuts (connection device reported.0 (Ok reported.1.0) ∷ []) reported.1.1))
    h closes

pub connects_same : {B : Type 0} (ledger : B → Ledger) (device same : Option (List ℕ)) (past : History) (begun now : RoundState) (office : Office B)
    (round : Progress) (result : Result (Unit {0}) RoundFault) → same ≡ device → Connects ledger same past begun now office round result
    → Connects ledger device past begun now office round result
connects_same ledger device same past begun now office round result equal h =
    let P : Option (List ℕ) → Type 0 = λ d. Connects ledger d past begun now office round result in subst P equal h

-- True if the result is the fault `TurnsUsed`: the polling round used all of its reads of the link
-- (the connection to the device).
abbrev pub IsUsed : Result (Unit {0}) RoundFault → Type 0
IsUsed result = result ≡ Err TurnsUsed

-- If the fault `TurnsUsed` (all reads of the link were used) is reported for a polling round, then
-- this fault ended the round early.
pub reported_used : (fault reported : RoundFault) → IsReportedOf fault reported → IsUsed (Err reported) → IsUsed (Err fault)
reported_used fault reported (inl is) h = cc
reported_used fault reported (inr is) h = absurd (cc)

pub not_used : (fault reported : RoundFault) → OfOffice {X = Unit {0}} (Err fault) → IsReportedOf fault reported → IsUsed (Err reported) → ⊥
not_used (Refused why) reported of is h = let so = reported_used (Refused why) reported is h in absurd (cc)
not_used Link reported of is h = absurd of
not_used Output reported of is h = let so = reported_used Output reported is h in absurd (cc)
not_used TurnsUsed reported of is h = absurd of

failures_by : (fault reported : RoundFault) (before after : ℕ) → reported ≡ fault → CountsFailures {X = Unit {0}} (Err fault) before after
    → CountsFailures {X = Unit {0}} (Err reported) before after
failures_by fault reported before after is h =
    let P : RoundFault → Type 0 = λ f. CountsFailures {X = Unit {0}} (Err f) before after in subst P (sym is) h

-- Suppose that the link's (connection's) count of failures grew by one exactly if the fault that
-- ended a polling round was a failure of the link. Then the count also matches the reported fault.
pub counts_failures : (fault reported : RoundFault) (before after : ℕ) → after ≡ risen (is_link_fault {X = Unit {0}} (Err fault)) before
    → IsReportedOf fault reported → CountsFailures {X = Unit {0}} (Err reported) before after
counts_failures (Refused why) reported before after h (inl is) = failures_by (Refused why) reported before after is h
counts_failures (Refused why) reported before after h (inr is) = failures_by Output reported before after is (inl h)
counts_failures Link reported before after h (inl is) = failures_by Link reported before after is h
counts_failures Link reported before after h (inr is) = failures_by Output reported before after is (inr h)
counts_failures Output reported before after h (inl is) = failures_by Output reported before after is (inl h)
counts_failures Output reported before after h (inr is) = failures_by Output reported before after is (inl h)
counts_failures TurnsUsed reported before after h (inl is) = failures_by TurnsUsed reported before after is h
counts_failures TurnsUsed reported before after h (inr is) = failures_by Output reported before after is (inl h)

pub kept_failures : (fault reported : RoundFault) (count : ℕ) → OfOffice {X = Unit {0}} (Err fault) → IsReportedOf fault reported
    → CountsFailures {X = Unit {0}} (Err reported) count count
kept_failures (Refused why) reported count of is = counts_failures (Refused why) reported count count refl is
kept_failures Link reported count of is = absurd of
kept_failures Output reported count of is = counts_failures Output reported count count refl is
kept_failures TurnsUsed reported count of is = absurd of
