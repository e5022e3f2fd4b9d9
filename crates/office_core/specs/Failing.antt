-- The refusals that report that the store failed or memory ran out, and the store's failure
-- counter.
use Rattle.std.specs.Prelude.{◌≡◌, ◌⊎◌, Bool, true, false, ◌&&◌, Result, Ok, Err}
use Rattle.office_events.specs.declared.answers.Answer.{Answer}
use Rattle.office_events.specs.declared.events.Event.{Event}
use Rattle.office_events.specs.declared.refusals.Refusal.{Refusal}
use Rattle.office_events.specs.declared.refusals.Refusal.TheVariants as refusal
use Rattle.office_events.specs.declared.refusals.StoreCause.{StoreCause}
use Rattle.office_events.specs.declared.refusals.StoreCause.TheVariants as store
use Rattle.office_books.specs.declared.faults.BooksFault.TheVariants as fault
use Rattle.office_books.specs.declared.faults.StoreFault.TheVariants as kind
use Rattle.office_books.specs.declared.failures.Failures.{Failures}
use Rattle.office_books.specs.Faults.{failed_by}
use Rattle.office_core.specs.Events.{may_settle}

-- True if the store failed with the given cause and its failure counter was increased by one.
-- `NoDay` (a quarter hour without a civil day) is not a failure of the store.
abbrev pub StoreFailed : StoreCause → (before after : Failures) → Type 0
StoreFailed store.Refused before after = after ≡ failed_by (fault.Store kind.Refused) before
StoreFailed store.Damaged before after = after ≡ failed_by (fault.Store kind.Damaged) before
StoreFailed store.NoDay before after = ⊥

-- True if memory ran out, either in the store, which recorded this as its last failure, or outside
-- the store. Memory may run out outside the store only if `takes_memory` holds.
abbrev pub MemoryLacked : (takes_memory : Type 0) → (before after : Failures) → Type 0
MemoryLacked takes_memory before after =
    (after ≡ failed_by fault.Memory before) ⊎ (takes_memory × (after ≡ before))

-- True if the cause of the refusal is not in the request. The cause is that the store failed, that
-- memory ran out, or that the program has stopped (it refuses everything).
abbrev pub IsOutside : (takes_memory : Type 0) → (before after : Failures) → Refusal → Type 0
IsOutside takes_memory before after (refusal.Store why) = StoreFailed why before after
IsOutside takes_memory before after refusal.Memory = MemoryLacked takes_memory before after
IsOutside takes_memory before after refusal.Stopped = after ≡ before
IsOutside takes_memory before after _ = ⊥

-- True if the result is a refusal whose cause is not in the request: the store failed, memory ran
-- out, or the program has stopped (it refuses everything).
abbrev pub FailsOutside : {T : Type 0} → (takes_memory : Type 0) → (before after : Failures)
    → Result T Refusal → Type 0
FailsOutside takes_memory before after (Ok x) = ⊥
FailsOutside takes_memory before after (Err why) = IsOutside takes_memory before after why

-- The store's failure counter after an opening of the store. A failure of the store that the
-- opening reports was counted. Running out of memory is not counted, but may be recorded as last
-- failure.
abbrev pub CountsFailures : {T : Type 0} → (before after : Failures) → Result T Refusal → Type 0
CountsFailures before after (Ok x) = after ≡ before
CountsFailures before after (Err (refusal.Store why)) = StoreFailed why before after
CountsFailures before after (Err refusal.Memory) = MemoryLacked (Unit {0}) before after
CountsFailures before after (Err _) = after ≡ before

-- The store's failure counter after an event was refused with a cause of the store. The failure was
-- counted once. The cause `Refused` may also mean that all poll numbers are used, which is not
-- counted.
abbrev pub StoreCounts : (before after : Failures) → StoreCause → Type 0
StoreCounts before after store.Refused =
    StoreFailed store.Refused before after ⊎ (after ≡ before)
StoreCounts before after why = StoreFailed why before after

-- The store's failure counter after an event. A failure of the store that the answer reports was
-- counted, unless all poll numbers are used. Running out of memory is not counted, but may be
-- recorded as last failure.
abbrev pub Counts : {T : Type 0} → (before after : Failures) → Result T Refusal → Type 0
Counts before after (Ok x) = after ≡ before
Counts before after (Err (refusal.Store why)) = StoreCounts before after why
Counts before after (Err refusal.Memory) = MemoryLacked (Unit {0}) before after
Counts before after (Err _) = after ≡ before

-- True if the refusal is not `Stopped`, which reports that the program refuses everything after an
-- earlier failure.
abbrev pub IsNotStopped : Refusal → Type 0
IsNotStopped refusal.Stopped = ⊥
IsNotStopped _ = Unit {0}

-- True if the cause of a failure is not a quarter hour without a civil day.
abbrev pub IsOfStore : StoreCause → Type 0
IsOfStore store.NoDay = ⊥
IsOfStore _ = Unit {0}

-- True if the refusal does not report a quarter hour without a civil day.
abbrev pub IsNotForWantOfDay : Refusal → Type 0
IsNotForWantOfDay (refusal.Store cause) = IsOfStore cause
IsNotForWantOfDay _ = Unit {0}

-- True if the result reports that the store failed or memory ran out.
abbrev pub is_failure : {T : Type 0} → Result T Refusal → Bool
is_failure (Ok x) = false
is_failure (Err (refusal.Store why)) = true
is_failure (Err refusal.Memory) = true
is_failure (Err _) = false

-- True if the event stops the program, which then refuses all events: the event may end polls, and
-- its answer reports a failure. Some Modbus sessions may then be updated and others not.
abbrev pub stops : Event → Result Answer Refusal → Bool
stops e result = may_settle e && is_failure result
