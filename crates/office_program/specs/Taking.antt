-- The event that a polling round makes from one read of the device's link, and the number of such
-- reads.
use Rattle.std.specs.Prelude.{◌≡◌, ◌⊎◌, ℕ, Bool, true, false, List, [], length, Option, Some, Result, Ok, Err}
use Rattle.mb_wire.specs.Links.{risen}
use Rattle.mb_wire.specs.declared.link.LastTake.{LastTake}
use Rattle.mb_wire.specs.declared.link.LinkFailed.{LinkFailed}
use Rattle.mb_wire.specs.declared.link.Took.{Took}
use Rattle.mb_wire.specs.declared.link.Took.TheVariants.{Bytes, End, Idle}
use Rattle.poll_core.specs.declared.outcome.Closing.TheVariants as closing
use Rattle.office_events.specs.declared.events.Event.{Event}
use Rattle.office_events.specs.declared.events.Event.TheVariants as event
use Rattle.office_events.specs.declared.refusals.Refusal.TheVariants as refusal
use Rattle.office_program.specs.Course.{Next, Over, Take}
use Rattle.office_program.specs.FedEvents.{piece_in}
use Rattle.office_program.specs.declared.fault.RoundFault.{RoundFault}
use Rattle.office_program.specs.declared.fault.RoundFault.TheVariants.{Refused, Link, Output, TurnsUsed}

-- The next action of a polling round, after the round read the link and fed the resulting events.
-- If the round is over, no action follows (`Over`), otherwise another read of the link (`Take`).
abbrev pub over_or_take : Bool → Next
over_or_take true = Over
over_or_take false = Take

-- True if the event matches the result of a read of the device's link. The event has the received
-- bytes, reports the end of the connection (`Gone`), or is a timer event (`Tick`) after a timeout.
abbrev pub IsEventOf : (device : Option (List ℕ)) → Result Took LinkFailed → Event → Type 0
IsEventOf device (Ok (Bytes count)) e =
    (piece : List ℕ) × (length piece ≡ count) × (e ≡ event.Bytes device piece)
IsEventOf device (Ok End) e = e ≡ event.Gone device closing.Gone
IsEventOf device (Ok Idle) e = e ≡ event.Tick
IsEventOf device (Err failed) e = ⊥

-- True if the last read of the device's link had a buffer of 260 bytes and the result `answer`.
abbrev pub IsLast : Option LastTake → Result Took LinkFailed → Type 0
IsLast last answer = last ≡ Some (record { room = 260; answer = answer })

-- True if the device's link was read once, and the event matches the result of the read. Also true
-- if memory for the received bytes ran out before the link was read.
abbrev pub Brings : (device : Option (List ℕ)) → Result Event RoundFault → (before after : ℕ)
    → Option LastTake → Type 0
Brings device (Ok e) before after last =
    (after ≡ risen true before)
    × ((answer : Result Took LinkFailed) × IsLast last answer × IsEventOf device answer e)
Brings device (Err (Refused why)) before after last = (after ≡ before) × (why ≡ refusal.Memory)
Brings device (Err Link) before after last =
    (after ≡ risen true before) × IsLast last (Err (record {}))
Brings device (Err Output) before after last = ⊥
Brings device (Err TurnsUsed) before after last = ⊥

-- The bytes in an event that was read from the device's link. Empty if the read failed, or if the
-- event has no received bytes.
abbrev pub brought : Result Event RoundFault → List ℕ
brought (Ok e) = piece_in e
brought (Err fault) = []

-- True if one read of the link (the connection to the device) raised the link's count of reads by
-- one. If memory for received bytes ran out, the count may be unchanged.
abbrev pub TurnTakes : {X : Type 0} → Result X RoundFault → (before after : ℕ) → Type 0
TurnTakes (Ok x) before after = after ≡ risen true before
TurnTakes (Err (Refused why)) before after = (after ≡ risen true before) ⊎ (after ≡ before)
TurnTakes (Err Link) before after = after ≡ risen true before
TurnTakes (Err Output) before after = after ≡ risen true before
TurnTakes (Err TurnsUsed) before after = ⊥
