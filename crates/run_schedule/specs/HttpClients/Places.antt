-- Defines the slots of HTTP connections, and which slot a new connection gets.
use Rattle.std.specs.Prelude.{◌≡◌, ℕ, ◌<◌, ◌≤◌, nat_le, nat_lt, if◌then◌else◌, Bool, true, false, List, length, position, slice_set, slice_get, Option, None, Some}
use Rattle.run_schedule.specs.declared.http_clients.place.Place.{Place}
use Rattle.run_schedule.specs.declared.http_clients.place.Place.TheVariants.{Free, Silent, Asked}
use Rattle.run_schedule.specs.declared.http_clients.client_slots.Admission.{Admission}

-- True if the slot has no HTTP connection.
abbrev pub is_free : Place → Bool
is_free Free = true
is_free (Silent until) = false
is_free (Asked until) = false

-- True if the deadline of the slot's HTTP connection has passed. False for a free slot.
abbrev pub is_over : (now : ℕ) → Place → Bool
is_over now Free = false
is_over now (Silent until) = nat_le until now
is_over now (Asked until) = nat_le until now

-- The state of the slot after the client of its idle HTTP connection sent a request.
abbrev pub asked : Place → Place
asked Free = Free
asked (Silent until) = Asked until
asked (Asked until) = Asked until

-- The deadline of the slot's HTTP connection if the connection is idle, otherwise none.
abbrev pub silent_until : Place → Option ℕ
silent_until Free = None
silent_until (Silent until) = Some until
silent_until (Asked until) = None

-- States that the HTTP connection in the slot is idle, and that `until` is its deadline.
abbrev pub IsSilentAt : List Place → (place until : ℕ) → Type 0
IsSilentAt places place until = slice_get places place ≡ Some (Silent until)

-- The idle HTTP connection with the earlier deadline: `best` or the connection in slot `i`. If slot
-- `i` has no idle connection, the result is `best`. The result and `best` are pairs of a slot and
-- its deadline.
abbrev pub older : Option (ℕ × ℕ) → ℕ → Place → Option (ℕ × ℕ)
older best i Free = best
older best i (Asked until) = best
older None i (Silent until) = Some (i, until)
older (Some best) i (Silent until) = if nat_lt until best.1 then Some (i, until) else Some best

-- The slot of the idle HTTP connection with the earliest deadline. None if no connection is idle.
abbrev pub IsOldest : List Place → Option ℕ → Type 0
IsOldest places None = (place until : ℕ) → IsSilentAt places place until → ⊥
IsOldest places (Some place) =
    (until : ℕ) × IsSilentAt places place until
    × ((other later : ℕ) → IsSilentAt places other later → until ≤ later)

-- The slot for a new HTTP connection: the free slot `free` if there is one, otherwise the slot of
-- the idle connection with the earliest deadline.
abbrev pub IsChosenAfter : (free : Option ℕ) → List Place → Option ℕ → Type 0
IsChosenAfter (Some place) places chosen = chosen ≡ Some place
IsChosenAfter None places chosen = IsOldest places chosen

-- True if `chosen` is the slot (index) that a new HTTP connection gets, or `None` if it gets no
-- slot.
abbrev pub IsChosen : List Place → Option ℕ → Type 0
IsChosen places chosen = IsChosenAfter (position is_free places) places chosen

-- States that a new HTTP connection gets a slot and the deadline `until`. If the slot had an idle
-- connection, the caller must close that connection. Without a slot for the new connection, nothing
-- changes.
abbrev pub Admits : (until : ℕ) → (old new : List Place) → Option Admission → Type 0
Admits until old new None = IsChosen old None × (new ≡ old)
Admits until old new (Some one) =
    IsChosen old (Some one.place) × (new ≡ slice_set old one.place (Silent until))
    × (slice_get old one.place ≡ Some Free → one.drops ≡ false)
    × ((later : ℕ) → IsSilentAt old one.place later → one.drops ≡ true)

-- The slots of HTTP connections after the client in slot `place` sent a request. The slots are
-- unchanged if slot `place` does not exist.
abbrev pub asked_in : ℕ → Option Place → List Place → List Place
asked_in place None places = places
asked_in place (Some one) places = slice_set places place (asked one)

-- The slots (places for HTTP connections) after the client in the slot `place` sent a request.
abbrev pub asked_at : ℕ → List Place → List Place
asked_at place places = asked_in place (slice_get places place) places

-- True if the deadline of the HTTP connection in an optional slot has passed. False if the slot
-- does not exist.
abbrev pub is_over_in : (now : ℕ) → Option Place → Bool
is_over_in now None = false
is_over_in now (Some one) = is_over now one

-- True if the deadline of the HTTP connection in slot `place` has passed.
abbrev pub is_over_at : ℕ → (now : ℕ) → List Place → Bool
is_over_at place now places = is_over_in now (slice_get places place)
