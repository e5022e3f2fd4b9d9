-- Lemmas about reading a meter's counter from its device, for an input line with `@read`. The
-- program replaces `@read` by this reading.
use Rattle.std.proofs.Common.{◌≡◌, inl, inr, ℕ, pos, List, Option, Some, None, Result, Ok, Err, refl, sym, ap, subst, ◌∙◌}
use Rattle.std.specs.Prelude.{is_some}
use Rattle.std.specs.Option.{option_and_then}
use Rattle.std.specs.declared.io.Error.{Error}
use Rattle.office_events.specs.declared.events.Asked.{Asked as Request}
use Rattle.office_events.specs.declared.facts.Device.{Device}
use Rattle.office_events.specs.declared.facts.Fact.{Fact}
use Rattle.office_events.specs.declared.facts.Register.{Register}
use Rattle.office_events.specs.declared.refusals.Refusal.{Refusal}
use Rattle.office_books.specs.Facts.{device_of, register_of}
use Rattle.office_books.specs.History.{History, facts_of}
use Rattle.office_books.specs.Ledgers.{Ledger}
use Rattle.office_books.specs.declared.books.Repeat.{Repeat}
use Rattle.office_books.specs.declared.failures.Failures.{Failures}
use Rattle.office_core.specs.declared.office.Office.{Office}
use Rattle.office_program.specs.Rounds.{RoundState, round_state}
use Rattle.office_program.specs.declared.entering.files.Shown.{Shown}
use Rattle.office_program.specs.declared.entering.progress.Progress.{Progress}
use Rattle.office_program.specs.declared.entering.read_line.ReadRequest.{ReadRequest}
use Rattle.office_program.specs.Entering.Asking.{HasAsked}
use Rattle.office_program.specs.Entering.Lines.{Reporting}
use Rattle.office_program.specs.Entering.ReadLines as line
use Rattle.office_program.specs.Entering.Reading.{HasShown, IsCounterFor, IsFilled, IsReadThere, IsShownFor, repeat_of_read}

pub counter_reported : (reports : Reporting) (facts : List Fact) (register : Option (List ℕ)) (counter : Register) (device : Device) (shown : Option Shown)
    → option_and_then (register_of facts) register ≡ Some counter → device_of facts counter.device ≡ Some device → reports.counters device counter shown
    → IsCounterFor reports facts register shown
counter_reported reports facts register counter device None found there reported =
    inr (inr (record { counter = counter; device = device; register_is = found; device_is = there; reported = reported }))
counter_reported reports facts register counter device (Some shown) found there reported =
    record { counter = counter; device = device; register_is = found; device_is = there; reported = reported }

-- Suppose that an earlier query did not fail, so that it left the failure counts of the store
-- unchanged. Then the answer to a later query for the counter's reading is also correct for the
-- counts before the earlier query.
pub read_on : {B : Type 0} (ledger : B → Ledger) (reports : Reporting) (register : Option (List ℕ)) (past : History) (before between after : Failures) (office : Office B)
    (result : Result (Option Shown) Refusal) → between ≡ before → IsReadThere ledger reports register past between after office result
    → IsReadThere ledger reports register past before after office result
read_on ledger reports register past before between after office result same done =
    let P : Failures → Type 0 = λ n. IsReadThere ledger reports register past n after office result in
    subst P same done

-- If the store does not have the request of an input line with `@read`, then the counter is read
-- for the request. The reading replaces this placeholder.
pub filled : {B : Type 0} (ledger : B → Ledger) (reports : Reporting) (read : ReadRequest) (register : Option (List ℕ)) (past : History) (before between after : Failures)
    (office : Office B) (result : Result (Option Shown) Refusal) → repeat_of_read (facts_of past) read ≡ None → register ≡ line.register_of read.line
    → between ≡ before → IsReadThere ledger reports register past between after office result → IsFilled ledger reports read past before after office result
filled ledger reports read register past before between after office (Ok (Some shown)) new same none done =
    let P : Option (List ℕ) → Type 0 = λ r. IsCounterFor reports (facts_of past) r (Some shown) in
    record { stands = done.stands; reported = (inr (subst P same done.reported.0), done.reported.1 ∙ none) }
filled ledger reports read register past before between after office (Ok None) new same none done =
    let P : Option (List ℕ) → Type 0 = λ r. IsCounterFor reports (facts_of past) r None in
    record { stands = done.stands; reported = ((new, subst P same done.reported.0), done.reported.1 ∙ none) }
filled ledger reports read register past before between after office (Err why) new same none done =
    let on = read_on ledger reports register past before between after office (Err why) none done in
    record { stands = on.stands; reported = on.reported }

-- If the store has the request of an input line with `@read` (the reading's placeholder), then the
-- line is found to be a retry.
pub kept_read : (facts : List Fact) (read : ReadRequest) (repeat : Repeat) → repeat_of_read facts read ≡ Some repeat → is_some (repeat_of_read facts read) ≡ is_some (Some repeat)
kept_read facts read repeat kept = ap is_some kept

pub found_as : (reports : Reporting) (past : History) (read : ReadRequest) (found shown : Option Shown) (before after : Failures) → found ≡ shown
    → HasShown reports (facts_of past) read before after (Ok found) → IsShownFor reports (facts_of past) read shown × (after ≡ before)
found_as reports past read found shown before after same reported =
    let P : Option Shown → Type 0 = λ s. IsShownFor reports (facts_of past) read s in
    (subst P same reported.0, reported.1)

-- If a query does not fail, then a later request has the same effect as if the query had not been
-- made.
pub asked_on : {B : Type 0} (ledger : B → Ledger) (request : Request) (past : History) (progress : Progress) (printed moments : Option (List ℕ)) (before between : Failures)
    (now : RoundState) (office : Office B) (result : Result Progress Error) → between ≡ before
    → HasAsked ledger request past progress (round_state printed moments between) now office result
    → HasAsked ledger request past progress (round_state printed moments before) now office result
asked_on ledger request past progress printed moments before between now office result same done =
    let P : Failures → Type 0 = λ n. HasAsked ledger request past progress (round_state printed moments n) now office result in
    subst P same done
