-- Lemmas that no two slots have devices with the same name. A slot is a device with its sessions,
-- one for each connection. Therefore the start of a poll concerns one session, and a new connection
-- concerns a device without a session.
use Rattle.std.proofs.Common.{◌≡◌, ℕ, Bool, true, false, cond, List, [], ◌∷◌, ◌++◌, map, refl, sym, ap, subst, ◌∙◌, Option, Some, None, is_some, inl, inr, if◌then◌else◌}
use Rattle.std.specs.List.{flat_map, find}
use Rattle.std.specs.Option.{option_and_then}
use Rattle.std.proofs.lemmas.Bool.{cases_Bool, cond-true, cond-false, false_from_ne_true, both_ways}
use Rattle.std.proofs.lemmas.List.{append-nil}
use Rattle.std.proofs.lemmas.Slice.Eq.{bytes_eq-Decides}
use Rattle.mb_wire.specs.declared.span.ReadSpan.{ReadSpan}
use Rattle.poll_core.specs.Settling as session
use Rattle.office_events.specs.declared.facts.Device.{Device}
use Rattle.office_events.specs.declared.events.Event.{Event}
use Rattle.office_events.specs.declared.events.Event.TheVariants as event
use Rattle.office_books.specs.Facts.{same, is_named}
use Rattle.office_books.specs.Sessions.{Slot, slot_of, present_of, reaches, connects, slot_reached, slot_after, slot_restarted}
use Rattle.office_books.proofs.Happenings.{device_happened}
use Rattle.office_books.proofs.EndedSlots.{AreFree, slot_with}

pub same_eq : (a b : List ℕ) → same a b ≡ true → a ≡ b
same_eq a b h = (bytes_eq-Decides a b).0 h

pub same_refl : (a : List ℕ) → same a a ≡ true
same_refl a = (bytes_eq-Decides a a).1 refl

same_back : (a b : List ℕ) → same a b ≡ false → same b a ≡ false
same_back a b h = false_from_ne_true _ (λ t.
    let e : b ≡ a = same_eq b a t in
    let here : same a b ≡ true = ap (same a) e ∙ same_refl a in
    both_ways _ h here)

-- True if no slot (a device with its Modbus sessions) in the list has a device with the given name.
abbrev pub NoneNamed : List ℕ → List Slot → Type 0
NoneNamed name [] = Unit {0}
NoneNamed name (slot ∷ slots) = (same name slot.device.name ≡ false) × NoneNamed name slots

abbrev pub AreApart : List Slot → Type 0
AreApart [] = Unit {0}
AreApart (slot ∷ slots) = NoneNamed slot.device.name slots × AreApart slots

none_named-map : (f : Slot → Slot) → ((slot : Slot) → (f slot).device ≡ slot.device) → (name : List ℕ) (slots : List Slot) → NoneNamed name slots → NoneNamed name (map f slots)
none_named-map f keeps name [] h = tt
none_named-map f keeps name (slot ∷ slots) h = (ap (λ (d : Device). same name d.name) (keeps slot) ∙ h.0, none_named-map f keeps name slots h.1)

pub apart-map : (f : Slot → Slot) → ((slot : Slot) → (f slot).device ≡ slot.device) → (slots : List Slot) → AreApart slots → AreApart (map f slots)
apart-map f keeps [] h = tt
apart-map f keeps (slot ∷ slots) h =
    let P : Device → Type 0 = λ d. NoneNamed d.name (map f slots) in
    (subst P (sym (keeps slot)) (none_named-map f keeps slot.device.name slots h.0), apart-map f keeps slots h.1)

device_reached : (number at : ℕ) (spans : List ReadSpan) (e : Event) (slot : Slot) (present : Option (List session.Event)) → (slot_reached number at spans e slot present).device ≡ slot.device
device_reached number at spans e slot None = refl
device_reached number at spans e slot (Some before) = device_happened slot before (reaches number at spans e slot.device before)

device_if : (number at : ℕ) (spans : List ReadSpan) (e : Event) (slot : Slot) (b : Bool)
    → let after = if b then slot_with slot.device slot.ended (Some []) else slot_reached number at spans e slot slot.present in after.device ≡ slot.device
device_if number at spans e slot true = refl
device_if number at spans e slot false = device_reached number at spans e slot slot.present

-- An event leaves the device of a slot (a device with its Modbus sessions) unchanged.
pub device-after : (number at : ℕ) (spans : List ReadSpan) (e : Event) (slot : Slot) → (slot_after number at spans e slot).device ≡ slot.device
device-after number at spans e slot = device_if number at spans e slot (connects e slot.device)

pub device-restarted : (slot : Slot) → (slot_restarted slot).device ≡ slot.device
device-restarted slot = refl

-- If a search by a condition in a list finds nothing, then the first element does not satisfy the
-- condition. A search in the remaining elements finds nothing either.
pub not_found_if : {X : Type 0} (b : Bool) (x : X) (r : Option X) → cond b (Some x) r ≡ None → (b ≡ false) × (r ≡ None)
not_found_if true x r h = cc
not_found_if false x r h = (refl, h)

-- If a search for a device name finds no slot (a device with its session), then no slot in the list
-- has a device with this name.
none_found : (name : List ℕ) (slots : List Slot) → slot_of slots (Some name) ≡ None → NoneNamed name slots
none_found name [] h = tt
none_found name (slot ∷ slots) h =
    let parts = not_found_if (same name slot.device.name) slot (slot_of slots (Some name)) h in
    (parts.0, none_found name slots parts.1)

none_named-push : (name : List ℕ) (slots : List Slot) (new : Slot) → NoneNamed name slots → same name new.device.name ≡ false → NoneNamed name (slots ++ new ∷ [])
none_named-push name [] new h other = (other, tt)
none_named-push name (slot ∷ slots) new h other = (h.0, none_named-push name slots new h.1 other)

apart-push_by : (slots : List Slot) (new : Slot) → AreApart slots → NoneNamed new.device.name slots → AreApart (slots ++ new ∷ [])
apart-push_by [] new h none = (tt, tt)
apart-push_by (slot ∷ slots) new h none =
    (none_named-push slot.device.name slots new h.0 (same_back new.device.name slot.device.name none.0), apart-push_by slots new h.1 none.1)

pub apart-push : (slots : List Slot) (new : Slot) → AreApart slots → slot_of slots (Some new.device.name) ≡ None → AreApart (slots ++ new ∷ [])
apart-push slots new h none = apart-push_by slots new h (none_found new.device.name slots none)

-- An event that connects no device satisfies `AreFree`: no device that the event connects was
-- connected before.
pub free_other : (e : Event) → ((device : Device) → connects e device ≡ false) → (slots : List Slot) → AreFree e slots
free_other e never [] = tt
free_other e never (slot ∷ slots) = ((λ h. absurd (both_ways _ (never slot.device) h)), free_other e never slots)

free_unnamed : (name : List ℕ) (slots : List Slot) → NoneNamed name slots → AreFree (event.Connected (Some name)) slots
free_unnamed name [] h = tt
free_unnamed name (slot ∷ slots) h = ((λ here. absurd (both_ways _ h.0 here)), free_unnamed name slots h.1)

absent : (o : Option (List session.Event)) → is_some o ≡ false → o ≡ None
absent None h = refl
absent (Some events) h = cc

present_here : (name : List ℕ) (slot : Slot) (slots : List Slot) → same name slot.device.name ≡ true → present_of (slot ∷ slots) (Some name) ≡ slot.present
present_here name slot slots h = ap (option_and_then (λ (l : Slot). l.present)) (cond-true _ _ _ h)

present_later : (name : List ℕ) (slot : Slot) (slots : List Slot) → same name slot.device.name ≡ false → present_of (slot ∷ slots) (Some name) ≡ present_of slots (Some name)
present_later name slot slots h = ap (option_and_then (λ (l : Slot). l.present)) (cond-false _ _ _ h)

free_named : (name : List ℕ) (slots : List Slot) → AreApart slots → present_of slots (Some name) ≡ None → AreFree (event.Connected (Some name)) slots
free_named name [] h none = tt
free_named name (slot ∷ slots) h none = elim (cases_Bool (same name slot.device.name)) [
  | inl here ↦
      let e : slot.device.name ≡ name = sym (same_eq name slot.device.name here) in
      let P : List ℕ → Type 0 = λ n. NoneNamed n slots in
      ((λ _. sym (present_here name slot slots here) ∙ none), free_unnamed name slots (subst P e h.0))
  | inr other ↦
      ((λ here. absurd (both_ways _ other here)), free_named name slots h.1 (sym (present_later name slot slots other) ∙ none))
]

pub free_connected : (given : Option (List ℕ)) (slots : List Slot) → AreApart slots → is_some (present_of slots given) ≡ false → AreFree (event.Connected given) slots
free_connected None slots h absent_there = free_other (event.Connected None) (λ device. refl) slots
free_connected (Some name) slots h absent_there = free_named name slots h (absent (present_of slots (Some name)) absent_there)

-- If a function returns the empty list for every element, then mapping a list with the function and
-- concatenating the results yields the empty list.
pub of_none : {X Y : Type 0} (f : X → List Y) → ((x : X) → f x ≡ []) → (xs : List X) → flat_map f xs ≡ []
of_none f none [] = refl
of_none f none (x ∷ xs) = ap (λ ys. ys ++ flat_map f xs) (none x) ∙ of_none f none xs

pub find_never : {X : Type 0} (xs : List X) → find (λ (x : X). false) xs ≡ None
find_never [] = refl
find_never (x ∷ xs) = find_never xs

abbrev pub reported_by : {X : Type 0} → (Slot → List X) → Option Slot → List X
reported_by f None = []
reported_by f (Some slot) = f slot

abbrev pub if_named : {X : Type 0} → Option (List ℕ) → (Slot → List X) → Slot → List X
if_named given f slot = if is_named given slot.device.name then f slot else []

unnamed_tell : {X : Type 0} (name : List ℕ) (f : Slot → List X) (slots : List Slot) → NoneNamed name slots → flat_map (if_named (Some name) f) slots ≡ []
unnamed_tell name f [] h = refl
unnamed_tell name f (slot ∷ slots) h =
    ap (λ xs. xs ++ flat_map (if_named (Some name) f) slots) (cond-false _ _ _ h.0) ∙ unnamed_tell name f slots h.1

named_reports : {X : Type 0} (name : List ℕ) (f : Slot → List X) (slots : List Slot) → AreApart slots
    → flat_map (if_named (Some name) f) slots ≡ reported_by f (slot_of slots (Some name))
named_reports name f [] h = refl
named_reports name f (slot ∷ slots) h = elim (cases_Bool (same name slot.device.name)) [
  | inl here ↦
      let e : slot.device.name ≡ name = sym (same_eq name slot.device.name here) in
      let P : List ℕ → Type 0 = λ n. NoneNamed n slots in
      ap (λ xs. xs ++ flat_map (if_named (Some name) f) slots) (cond-true _ _ _ here)
      ∙ ap (λ xs. f slot ++ xs) (unnamed_tell name f slots (subst P e h.0))
      ∙ append-nil (f slot)
      ∙ ap (reported_by f) (sym (cond-true _ _ _ here))
  | inr other ↦
      ap (λ xs. xs ++ flat_map (if_named (Some name) f) slots) (cond-false _ _ _ other)
      ∙ named_reports name f slots h.1
      ∙ ap (reported_by f) (sym (cond-false _ _ _ other))
]

pub one_reports : {X : Type 0} (given : Option (List ℕ)) (f : Slot → List X) (slots : List Slot) → AreApart slots
    → flat_map (if_named given f) slots ≡ reported_by f (slot_of slots given)
one_reports None f slots h = of_none (if_named None f) (λ slot. refl) slots ∙ ap (reported_by f) (sym (find_never slots))
one_reports (Some name) f slots h = named_reports name f slots h
