-- Definitions of the refusal that reports a store failure, and of the store's failure counter.
use Rattle.std.specs.Prelude.{◌≡◌, ◌⊎◌, ◌+◌, min, Some, None, Result, Ok, Err}
use Rattle.office_events.specs.declared.refusals.Refusal.{Refusal}
use Rattle.office_events.specs.declared.refusals.Refusal.TheVariants as refusal
use Rattle.office_events.specs.declared.refusals.StoreCause.{StoreCause}
use Rattle.office_events.specs.declared.refusals.StoreCause.TheVariants as cause
use Rattle.office_books.specs.declared.failures.Failures.{Failures}
use Rattle.office_books.specs.declared.faults.StoreFault.{StoreFault}
use Rattle.office_books.specs.declared.faults.StoreFault.TheVariants.{Refused, Damaged}
use Rattle.office_books.specs.declared.faults.BooksFault.{BooksFault}
use Rattle.office_books.specs.declared.faults.BooksFault.TheVariants.{Store, Memory}

-- The cause that a refusal states for a given failure of the store.
abbrev pub as_cause : StoreFault → StoreCause
as_cause Refused = cause.Refused
as_cause Damaged = cause.Damaged

-- The refusal that reports a failure of the store or a lack of memory.
abbrev pub as_refusal : BooksFault → Refusal
as_refusal (Store fault) = refusal.Store (as_cause fault)
as_refusal Memory = refusal.Memory

-- The failure counter of a store that never failed.
abbrev pub no_failures : Failures
no_failures = record { count = 0; last = None }

-- The failure counter after one more failure. It counts failures of the store up to 2^64 - 1, and
-- does not count a lack of memory.
abbrev pub failed_by : BooksFault → Failures → Failures
failed_by (Store fault) failures = record {
  count = min (failures.count + 1) 18446744073709551615;
  last = Some (Store fault);
}
failed_by Memory failures = record { count = failures.count; last = Some Memory }

-- The failure counter after one call to the store with the given result.
abbrev pub faults_after : {T : Type 0} → Result T BooksFault → Failures → Failures
faults_after (Ok x) failures = failures
faults_after (Err fault) failures = failed_by fault failures

-- States how a sequence of calls to a store changes its failure counter. A failure of the store
-- adds one, and success changes nothing. A lack of memory is not counted, but the counter may
-- record it as the last failure.
abbrev pub FailuresAfterCalls : {T : Type 0} → Result T BooksFault → (old new : Failures) → Type 0
FailuresAfterCalls (Ok x) old new = new ≡ old
FailuresAfterCalls (Err (Store fault)) old new = new ≡ failed_by (Store fault) old
FailuresAfterCalls (Err Memory) old new = (new ≡ failed_by Memory old) ⊎ (new ≡ old)
