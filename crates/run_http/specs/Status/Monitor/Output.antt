-- The queues of bytes that wait to be sent to each device.
use Rattle.std.specs.Prelude.{◌≡◌, ◌⊎◌, ℕ, Bool, true, false, if◌then◌else◌, List, [], ◌++◌, map, slice_get, slice_set, Option, Some, None}
use Rattle.office_events.specs.declared.events.Event.{Event}
use Rattle.office_events.specs.declared.events.Event.TheVariants as event
use Rattle.run_http.specs.declared.status.monitor.run_monitor.RunMonitor.{RunMonitor}

-- The bytes that wait to be sent to each device. The index of a device in the list is its slot.
abbrev pub queues_of : RunMonitor → List (List ℕ)
queues_of monitor = map (λ queue. queue.items) monitor.outgoing.items

-- True if the event ends a device's connection.
abbrev pub is_end : Event → Bool
is_end (event.Connected given) = false
is_end (event.Bytes given piece) = false
is_end event.Tick = false
is_end (event.Gone given closing) = true
is_end (event.Command c) = false
is_end (event.Asked asked) = false

-- The bytes that still wait to be sent to a device after an event: the bytes in its queue, or none
-- if the event ended the connection.
abbrev pub kept : Event → (queue : List ℕ) → List ℕ
kept e queue = if is_end e then [] else queue

-- States that either all Modbus frames of the event were queued in order, or no frame was queued
-- because memory ran out.
abbrev pub IsPut : Event → (frames old new : List ℕ) → Type 0
IsPut e frames old new = (new ≡ kept e old ++ frames) ⊎ (new ≡ kept e old ++ [])

-- The send queues after frames were added to the queue at the index `place`. The queues are
-- unchanged if that index does not exist.
abbrev pub sent_in : ℕ → Option (List ℕ) → Event → (frames : List ℕ) → List (List ℕ)
    → List (List ℕ)
sent_in place None e frames queues = queues
sent_in place (Some queue) e frames queues = slice_set queues place (kept e queue ++ frames)

-- The send queues of all devices after the frames were added for the device with the index `place`.
abbrev pub sent_to : ℕ → Event → (frames : List ℕ) → List (List ℕ) → List (List ℕ)
sent_to place e frames queues = sent_in place (slice_get queues place) e frames queues

-- States that either all Modbus frames were queued for the device with the index `place`, or no
-- frame was queued because memory ran out.
abbrev pub IsSentTo : ℕ → Event → (frames : List ℕ) → (old new : List (List ℕ)) → Type 0
IsSentTo place e frames old new =
    (new ≡ sent_to place e frames old) ⊎ (new ≡ sent_to place e [] old)

-- States that the Modbus frames of the event were queued for the device that the event concerns. An
-- event that concerns no single device changes no queue.
abbrev pub IsSentFor : Option ℕ → Event → (frames : List ℕ) → (old new : List (List ℕ)) → Type 0
IsSentFor None e frames old new = new ≡ old
IsSentFor (Some place) e frames old new = IsSentTo place e frames old new

-- The bytes of an optional send queue. A missing queue has no bytes.
abbrev pub taken_in : Option (List ℕ) → List ℕ
taken_in None = []
taken_in (Some queue) = queue

-- The bytes that wait to be sent to the device with the index `place`.
abbrev pub taken_at : ℕ → List (List ℕ) → List ℕ
taken_at place queues = taken_in (slice_get queues place)
