-- Defines what the program records of each event for `/status` and its logs: counts, device states
-- and Modbus frames to send.
use Rattle.std.specs.Prelude.{◌≡◌, ℕ, Bool, true, false, List, slice_get, slice_set, Option, Some, None, Result, Ok, Err, if◌then◌else◌}
use Rattle.std.specs.List.{list_any}
use Rattle.office_events.specs.declared.answers.Answer.{Answer}
use Rattle.office_events.specs.declared.answers.Note.{Note}
use Rattle.office_events.specs.declared.answers.Note.TheVariants as note
use Rattle.office_events.specs.declared.events.Event.{Event}
use Rattle.office_events.specs.declared.events.Event.TheVariants as event
use Rattle.office_events.specs.declared.refusals.Refusal.{Refusal}
use Rattle.run_http.specs.Status.Status.Counts.{noted_all, refused}
use Rattle.run_http.specs.declared.status.status.counts.Counts.{Counts}
use Rattle.run_http.specs.declared.status.status.status.DeviceState.{DeviceState}
use Rattle.office_events.specs.Showing.{Shown}
use Rattle.run_http.specs.Status.Monitor.Output.{IsSentFor, queues_of}
use Rattle.run_http.specs.declared.status.monitor.run_monitor.RunMonitor.{RunMonitor}

-- The state of a device that has no connection and no reading.
abbrev pub unconnected : (name : Option (List ℕ)) → DeviceState
unconnected name = record { name = name; connected = false; latest = None }

-- True if the notification reports an accepted reading.
abbrev pub is_reading : Note → Bool
is_reading (note.Outcome poll outcome) = false
is_reading (note.Reading meter raw rolls step) = true
is_reading (note.Held meter raw cause) = false

-- True if the device is connected after the event `Connected`. If the program refused the event,
-- the device is connected exactly if it was connected before (`before`).
abbrev pub connected_by : (before : Bool) → Result Answer Refusal → Bool
connected_by before (Ok given) = true
connected_by before (Err why) = before

-- True if a device is connected after one of its events, given whether it was connected before that
-- event.
abbrev pub is_connected : (before : Bool) → Event → Result Answer Refusal → Bool
is_connected before (event.Connected given) answer = connected_by before answer
is_connected before (event.Bytes given piece) answer = before
is_connected before event.Tick answer = before
is_connected before (event.Gone given closing) answer = false
is_connected before (event.Command c) answer = before
is_connected before (event.Asked asked) answer = before

-- The state of a device after one of its events: whether it is connected, and the time of its
-- latest accepted reading.
abbrev pub followed : (at : ℕ) → Event → Result Answer Refusal → List Note → DeviceState
    → DeviceState
followed at e answer notes state = record {
  name = state.name;
  connected = is_connected state.connected e answer;
  latest = if list_any is_reading notes then Some at else state.latest;
}

-- The states of all devices after an event of the device with the index `place`. The states are
-- unchanged if that index does not exist.
abbrev pub followed_in : ℕ → Option DeviceState → (at : ℕ) → Event → Result Answer Refusal
    → List Note → List DeviceState → List DeviceState
followed_in place None at e answer notes states = states
followed_in place (Some state) at e answer notes states =
    slice_set states place (followed at e answer notes state)

-- The states of all devices after this event of the device with the index `place`.
abbrev pub followed_at : ℕ → (at : ℕ) → Event → Result Answer Refusal → List Note → List DeviceState
    → List DeviceState
followed_at place at e answer notes states =
    followed_in place (slice_get states place) at e answer notes states

-- The states of all devices, as `/status` shows them, after one event. An event that concerns no
-- single device changes no state.
abbrev pub followed_for : Option ℕ → (at : ℕ) → Event → Result Answer Refusal → List Note
    → List DeviceState → List DeviceState
followed_for None at e answer notes states = states
followed_for (Some place) at e answer notes states = followed_at place at e answer notes states

-- The counts of polls, readings and refusals after an event. If the program refused the event, the
-- refusal is counted. Notifications of polls and readings are counted too.
abbrev pub counted : Result Answer Refusal → List Note → Counts → Counts
counted (Ok given) notes counts = noted_all notes counts
counted (Err why) notes counts = noted_all notes (refused counts)

-- States what the program records of one event for `/status` and the logs: counts, the device
-- states and the Modbus frames to send.
pub record Keeps (old : RunMonitor) (shown : Shown) (new : RunMonitor) : Type 0 where
  pub counts : new.counts ≡ counted shown.answer shown.notes old.counts
  pub states : new.states.items
      ≡ followed_for shown.place shown.at shown.event shown.answer shown.notes old.states.items
  pub outgoing : IsSentFor shown.place shown.event shown.frames (queues_of old) (queues_of new)
