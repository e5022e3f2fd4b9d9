-- Lemmas: connections, received bytes, timer events and the ends of connections start no poll.
-- Three reasons to refuse an event (`IsPassed`) do not apply to accepted events.
use Rattle.std.proofs.Common.{◌≡◌, ℕ, Bool, true, false, List, [], ◌∷◌, ◌++◌, take, refl, Option, Some, None, if◌then◌else◌}
use Rattle.std.specs.List.{flat_map, find}
use Rattle.poll_core.specs.Settling as session
use Rattle.poll_core.specs.Settling.{Start, Piece, Tick, Close}
use Rattle.poll_core.specs.declared.outcome.Closing.{Closing}
use Rattle.office_events.specs.declared.facts.Device.{Device}
use Rattle.office_events.specs.declared.events.Event.{Event}
use Rattle.office_events.specs.declared.events.Event.TheVariants as event
use Rattle.office_events.specs.declared.refusals.Refusal.{Refusal}
use Rattle.office_events.specs.declared.refusals.Refusal.TheVariants as refusal
use Rattle.office_events.specs.declared.refusals.StoreCause.TheVariants as store
use Rattle.office_books.specs.Facts.{is_named}
use Rattle.office_books.specs.Sessions.{Slot}
use Rattle.office_books.specs.History.{settled_on, settled_by}
use Rattle.office_books.specs.Refusals.{reasons}
use Rattle.office_books.proofs.EndedFacts.{settled_on_all}
use Rattle.office_books.proofs.Happenings.{numbers_by}
use Rattle.office_books.proofs.EndedSlots.{new_on, new_by}
use Rattle.office_books.proofs.ApartSlots.{not_found_if, of_none}

-- Received bytes and the end of a connection start no poll.
piece_starts : (b : Bool) (m : ℕ) (bytes : List ℕ) → numbers_by (if b then Piece m bytes ∷ [] else []) ≡ []
piece_starts true m bytes = refl
piece_starts false m bytes = refl

close_starts : (b : Bool) (m : ℕ) (closing : Closing) → numbers_by (if b then Close m closing ∷ [] else []) ≡ []
close_starts true m closing = refl
close_starts false m closing = refl

abbrev pub NoneNew : (number at : ℕ) → Event → List Slot → Type 0
NoneNew number at e slots = flat_map (new_by number at [] e) slots ≡ []

connects_on : (number at : ℕ) (given : Option (List ℕ)) (device : Device) (present : Option (List session.Event)) → new_on number at [] (event.Connected given) device present ≡ []
connects_on number at given device None = refl
connects_on number at given device (Some before) = refl

pub connects_start : (number at : ℕ) (given : Option (List ℕ)) (slots : List Slot) → NoneNew number at (event.Connected given) slots
connects_start number at given slots =
    of_none (new_by number at [] (event.Connected given)) (λ slot. connects_on number at given slot.device slot.present) slots

bytes_on : (number at : ℕ) (given : Option (List ℕ)) (piece : List ℕ) (device : Device) (present : Option (List session.Event)) → new_on number at [] (event.Bytes given piece) device present ≡ []
bytes_on number at given piece device None = refl
bytes_on number at given piece device (Some before) = piece_starts (is_named given device.name) at piece

pub bytes_start : (number at : ℕ) (given : Option (List ℕ)) (piece : List ℕ) (slots : List Slot) → NoneNew number at (event.Bytes given piece) slots
bytes_start number at given piece slots =
    of_none (new_by number at [] (event.Bytes given piece)) (λ slot. bytes_on number at given piece slot.device slot.present) slots

ticks_on : (number at : ℕ) (device : Device) (present : Option (List session.Event)) → new_on number at [] event.Tick device present ≡ []
ticks_on number at device None = refl
ticks_on number at device (Some before) = refl

pub ticks_start : (number at : ℕ) (slots : List Slot) → NoneNew number at event.Tick slots
ticks_start number at slots = of_none (new_by number at [] event.Tick) (λ slot. ticks_on number at slot.device slot.present) slots

ends_on : (number at : ℕ) (given : Option (List ℕ)) (closing : Closing) (device : Device) (present : Option (List session.Event)) → new_on number at [] (event.Gone given closing) device present ≡ []
ends_on number at given closing device None = refl
ends_on number at given closing device (Some before) = close_starts (is_named given device.name) at closing

pub ends_start : (number at : ℕ) (given : Option (List ℕ)) (closing : Closing) (slots : List Slot) → NoneNew number at (event.Gone given closing) slots
ends_start number at given closing slots =
    of_none (new_by number at [] (event.Gone given closing)) (λ slot. ends_on number at given closing slot.device slot.present) slots

-- A new connection ends no poll.
unsettled : (number at : ℕ) (given : Option (List ℕ)) (device : Device) (present : Option (List session.Event)) → settled_on number at (event.Connected given) device present ≡ []
unsettled number at given device None = refl
unsettled number at given device (Some before) = refl

pub connects_settle : (number at : ℕ) (given : Option (List ℕ)) (slots : List Slot) → settled_on_all number at (event.Connected given) slots ≡ []
connects_settle number at given slots =
    of_none (settled_by number at (event.Connected given)) (λ slot. unsettled number at given slot.device slot.present) slots

-- True if three reasons to refuse an event do not apply: `Exists` (what it adds already exists),
-- `Busy` (its device's connection does not allow it), and that all poll numbers are used. None of
-- the three applies to an accepted event.
pub record IsPassed (refuses : Refusal → Bool) : Type 0 where
  pub there : refuses refusal.Exists ≡ false
  pub busy : refuses refusal.Busy ≡ false
  pub few : refuses (refusal.Store store.Refused) ≡ false

last_not_found : {X : Type 0} (p : X → Bool) (xs : List X) (x : X) → find p (xs ++ x ∷ []) ≡ None → p x ≡ false
last_not_found p [] x h = (not_found_if (p x) x None h).0
last_not_found p (y ∷ ys) x h = last_not_found p ys x (not_found_if (p y) y (find p (ys ++ x ∷ [])) h).1

pub passed : (refuses : Refusal → Bool) → find refuses reasons ≡ None → IsPassed refuses
passed refuses h =
    let found = not_found_if (refuses refusal.NotFound) _ _ h in
    let there = not_found_if (refuses refusal.Exists) _ _ found.1 in
    let clock = not_found_if (refuses refusal.ClockBack) _ _ there.1 in
    let scale = not_found_if (refuses refusal.BadScale) _ _ clock.1 in
    let negative = not_found_if (refuses refusal.NegativeStep) _ _ scale.1 in
    let later = not_found_if (refuses refusal.NotLater) _ _ negative.1 in
    let long = not_found_if (refuses refusal.SpanTooLong) _ _ later.1 in
    let full = not_found_if (refuses refusal.TotalFull) _ _ long.1 in
    let ended = not_found_if (refuses refusal.Ended) _ _ full.1 in
    let busy = not_found_if (refuses refusal.Busy) _ _ ended.1 in
    record { there = there.0; busy = busy.0; few = last_not_found refuses (take 20 reasons) (refusal.Store store.Refused) h }
