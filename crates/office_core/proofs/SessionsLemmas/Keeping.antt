-- Lemmas that the slots in memory have the state that follows from the accepted events. A slot is a
-- device with its session, the state of its connection.
use Rattle.std.proofs.Common.{◌≡◌, ℕ, zero, suc, ◌+◌, ◌<◌, List, [], ◌∷◌, Bool, true, false, not, cond, Option, Some, None, IfSome, is_some, length, get_or, nat_lt, refl, ap, sym, ◌∙◌, arith}
use Rattle.std.specs.List.{find, slice_get, position, position_or_len}
use Rattle.std.specs.Option.{option_and_then}
use Rattle.std.proofs.lemmas.List.Folds.{find_at}
use Rattle.std.proofs.lemmas.Option.{slice_get_past}
use Rattle.std.proofs.lemmas.Bool.{ltb-false}
use Rattle.poll_core.specs.Settling as session
use Rattle.poll_core.specs.Standing as standing
use Rattle.office_events.specs.declared.facts.Device.{Device}
use Rattle.office_books.specs.Facts.{is_named}
use Rattle.office_books.specs.Sessions as sessions
use Rattle.office_core.specs.declared.sessions.slots.Slot.{Slot}
use Rattle.office_core.specs.Sessions.Keeping.{KeepsPresent, KeepsSlot, KeepsSlots}

-- True if the device of this slot (a device with its connection in memory) has the given name.
abbrev pub is_at : Option (List ℕ) → Slot → Bool
is_at given kept = is_named given kept.device.name

abbrev pub is_of : Option (List ℕ) → sessions.Slot → Bool
is_of given slot = is_named given slot.device.name

pub same_length : (kept : List Slot) (slots : List sessions.Slot) → KeepsSlots kept slots → length kept ≡ length slots
same_length [] [] keeps = refl
same_length [] (slot ∷ slots) keeps = absurd keeps
same_length (k ∷ kept) [] keeps = absurd keeps
same_length (k ∷ kept) (slot ∷ slots) keeps = ap suc (same_length kept slots keeps.1)

same_place : (given : Option (List ℕ)) (kept : List Slot) (slots : List sessions.Slot) → KeepsSlots kept slots
    → position_or_len (is_at given) kept ≡ position_or_len (is_of given) slots
same_place given [] [] keeps = refl
same_place given [] (slot ∷ slots) keeps = absurd keeps
same_place given (k ∷ kept) [] keeps = absurd keeps
same_place given (k ∷ kept) (slot ∷ slots) keeps =
    ap (λ (d : Device). cond (not (is_named given d.name)) (1 + position_or_len (is_at given) kept) 0) keeps.0.device
    ∙ ap (λ n. cond (not (is_of given slot)) (1 + n) 0) (same_place given kept slots keeps.1)

same_position : (given : Option (List ℕ)) (kept : List Slot) (slots : List sessions.Slot) → KeepsSlots kept slots
    → position (is_at given) kept ≡ position (is_of given) slots
same_position given kept slots keeps =
    ap (λ n. cond (nat_lt n (length kept)) (Some n) None) (same_place given kept slots keeps)
    ∙ ap (λ m. cond (nat_lt (position_or_len (is_of given) slots) m) (Some (position_or_len (is_of given) slots)) None) (same_length kept slots keeps)

got : {X : Type 0} (xs : List X) (n : ℕ) (inside : Bool) → nat_lt n (length xs) ≡ inside
    → option_and_then (slice_get xs) (cond inside (Some n) None) ≡ slice_get xs n
got xs n true h = refl
got xs n false h = sym (slice_get_past xs n (ltb-false n (length xs) h))

position_found : {X : Type 0} (p : X → Bool) (xs : List X) → find p xs ≡ option_and_then (slice_get xs) (position p xs)
position_found p xs = find_at p xs ∙ sym (got xs (position_or_len p xs) (nat_lt (position_or_len p xs) (length xs)) refl)

-- The index of a device's slot (connection) in memory equals the index of the device in the list of
-- devices.
pub slot_found : (given : Option (List ℕ)) (kept : List Slot) (slots : List sessions.Slot) (place : Option ℕ) → place ≡ position (is_at given) kept
    → KeepsSlots kept slots → sessions.slot_of slots given ≡ option_and_then (slice_get slots) place
slot_found given kept slots place is keeps =
    position_found (is_of given) slots ∙ ap (option_and_then (slice_get slots)) (sym (is ∙ same_position given kept slots keeps))

-- The slot (a device with its Modbus session) in memory at an index has the state of the slot at
-- the same index that follows from the accepted events.
pub keeps_at : (kept : List Slot) (slots : List sessions.Slot) (i : ℕ) (d : Slot) → KeepsSlots kept slots → i < length kept
    → (slot : sessions.Slot) × (slice_get slots i ≡ Some slot) × KeepsSlot (get_or kept i d) slot
keeps_at [] slots i d keeps inside = absurd (omega arith)
keeps_at (k ∷ kept) [] i d keeps inside = absurd keeps
keeps_at (k ∷ kept) (slot ∷ slots) zero d keeps inside = (slot, refl, keeps.0)
keeps_at (k ∷ kept) (slot ∷ slots) (suc i) d keeps inside = keeps_at kept slots i d keeps.1 (omega arith)

some_at : {X : Type 0} (xs : List X) (i : ℕ) → i < length xs → true ≡ is_some (slice_get xs i)
some_at [] i inside = absurd (omega arith)
some_at (x ∷ xs) zero inside = refl
some_at (x ∷ xs) (suc i) inside = some_at xs i (omega arith)

some_got : (kept : List Slot) (slots : List sessions.Slot) (place : Option ℕ) → KeepsSlots kept slots → IfSome place (λ i. i < length kept)
    → is_some place ≡ is_some (option_and_then (slice_get slots) place)
some_got kept slots None keeps inside = refl
some_got kept slots (Some i) keeps inside =
    let e = same_length kept slots keeps in some_at slots i (omega (arith, e, inside))

-- A device has the given name if and only if the device of its slot (connection) in memory has this
-- name.
pub some_slot : (given : Option (List ℕ)) (kept : List Slot) (slots : List sessions.Slot) (place : Option ℕ) (b : Bool) → b ≡ is_some place
    → IfSome place (λ i. i < length kept) → sessions.slot_of slots given ≡ option_and_then (slice_get slots) place → KeepsSlots kept slots
    → b ≡ is_some (sessions.slot_of slots given)
some_slot given kept slots place b is inside found keeps =
    is ∙ some_got kept slots place keeps inside ∙ ap is_some (sym found)

some_present : (device : Device) (k : Option standing.State) (present : Option (List session.Event)) → KeepsPresent device k present → is_some k ≡ is_some present
some_present device None None keeps = refl
some_present device None (Some events) keeps = absurd keeps
some_present device (Some k) None keeps = absurd keeps
some_present device (Some k) (Some events) keeps = refl

-- A device is connected if and only if its slot (the state of its connection) in memory has a
-- Modbus session.
pub present_slot : (given : Option (List ℕ)) (kept : List Slot) (slots : List sessions.Slot) (i : ℕ) (d : Slot) (b : Bool)
    → b ≡ is_some (get_or kept i d).session → i < length kept → sessions.slot_of slots given ≡ slice_get slots i → KeepsSlots kept slots
    → b ≡ is_some (sessions.present_of slots given)
present_slot given kept slots i d b is inside found keeps =
    let (slot, got, keeps_slot) = keeps_at kept slots i d keeps inside in
    is ∙ some_present slot.device (get_or kept i d).session slot.present keeps_slot.session
    ∙ ap (λ (o : Option sessions.Slot). is_some (option_and_then (λ slot. slot.present) o)) (sym (found ∙ got))
