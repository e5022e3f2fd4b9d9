-- Lemmas: bytes that are queued for one device are appended to this device's send queue, and the
-- queues of all other devices are unchanged.
use Rattle.std.proofs.Common.{◌≡◌, inl, inr, ℕ, ◌<◌, ◌≤◌, List, [], ◌++◌, length, set, get_or, map, Bool, true, false, cond, Some, None, sym, ap, ◌∙◌}
use Rattle.std.proofs.lemmas.List.{append-nil, map-set}
use Rattle.std.proofs.lemmas.Option.{slice_get-get_or, slice_get-map, slice_get_past}
use Rattle.std.specs.Prelude.{slice_get, Vec}
use Rattle.std.specs.declared.alloc.Global.{Global}
use Rattle.std.specs.Option.{option_map}
use Rattle.office_events.specs.declared.events.Event.{Event}
use Rattle.run_http.specs.Status.Monitor.Output.{IsPut, IsSentTo, kept, sent_in, sent_to, taken_at, taken_in}

-- After the Modbus frames of an event are queued, the device's send queue has all these frames, or
-- none of them if memory ran out.
pub write_or_not : (e : Event) (frames old left new : List ℕ) (done : Bool) → left ≡ kept e old
    → new ≡ cond done (left ++ frames) left → IsPut e frames old new
write_or_not e frames old left new true was is = inl (is ∙ ap (λ xs. xs ++ frames) was)
write_or_not e frames old left new false was is = inr (is ∙ was ∙ sym (append-nil (kept e old)))

-- The element at an index of a mapped list is the mapped element at that index.
pub seen_at : {X : Type 0} (f : X → List ℕ) (xs : List X) (place : ℕ) (d : X) → place < length xs
    → slice_get (map f xs) place ≡ Some (f (get_or xs place d))
seen_at f xs place d inside = slice_get-map f xs place ∙ ap (option_map f) (slice_get-get_or xs place d inside)

pub seen_past : {X : Type 0} (f : X → List ℕ) (xs : List X) (place : ℕ) → length xs ≤ place → slice_get (map f xs) place ≡ None
seen_past f xs place past = slice_get-map f xs place ∙ ap (option_map f) (slice_get_past xs place past)

-- If frames are appended to the queue of a slot (a device's index), then they wait to be sent to
-- the device in that slot.
pub sent_there : {X : Type 0} (f : X → List ℕ) (xs : List X) (place : ℕ) (x d : X) (e : Event) (frames : List ℕ) → place < length xs
    → f x ≡ kept e (f (get_or xs place d)) ++ frames → map f (set xs place x) ≡ sent_to place e frames (map f xs)
sent_there f xs place x d e frames inside is =
    map-set f xs place x ∙ ap (set (map f xs) place) is
    ∙ ap (λ found. sent_in place found e frames (map f xs)) (sym (seen_at f xs place d inside))

pub sent_at : {X : Type 0} (f : X → List ℕ) (xs : List X) (place : ℕ) (x d : X) (e : Event) (frames : List ℕ) → place < length xs
    → IsPut e frames (f (get_or xs place d)) (f x) → IsSentTo place e frames (map f xs) (map f (set xs place x))
sent_at f xs place x d e frames inside (inl is) = inl (sent_there f xs place x d e frames inside is)
sent_at f xs place x d e frames inside (inr is) = inr (sent_there f xs place x d e [] inside is)

-- If frames are queued for a slot (a device's index) that does not exist, then no queue changes.
pub sent_nowhere : {X : Type 0} (f : X → List ℕ) (xs : List X) (place : ℕ) (e : Event) (frames : List ℕ) → length xs ≤ place
    → IsSentTo place e frames (map f xs) (map f xs)
sent_nowhere f xs place e frames past =
    inl (ap (λ found. sent_in place found e frames (map f xs)) (sym (seen_past f xs place past)))

pub taken_there : {X : Type 0} (f : X → List ℕ) (xs : List X) (place : ℕ) (d : X) → place < length xs
    → f (get_or xs place d) ≡ taken_at place (map f xs)
taken_there f xs place d inside = ap taken_in (sym (seen_at f xs place d inside))

pub taken_nowhere : {X : Type 0} (f : X → List ℕ) (xs : List X) (place : ℕ) → length xs ≤ place → [] ≡ taken_at place (map f xs)
taken_nowhere f xs place past = ap taken_in (sym (seen_past f xs place past))

-- If the send queue of the device with the index `place` is emptied, then the queues of all other
-- devices are unchanged.
pub left_there : {X : Type 0} (f : X → List ℕ) (xs : List X) (place : ℕ) (x : X) → f x ≡ [] → map f (set xs place x) ≡ set (map f xs) place []
left_there f xs place x is = map-set f xs place x ∙ ap (set (map f xs) place) is

abbrev pub bytes_of : Vec ℕ Global → List ℕ
bytes_of queue = queue.items
