-- Lemmas that the slots (devices with their Modbus sessions) have the same devices as the records.
use Rattle.std.proofs.Common.{◌≡◌, ℕ, Bool, true, false, cond, List, [], ◌∷◌, ◌++◌, ◌||◌, map, reverse, refl, sym, ap, ◌∙◌, Option, Some, None}
use Rattle.std.specs.Option.{is_some, option_map, option_to_list}
use Rattle.std.specs.List.{find, list_any}
use Rattle.std.proofs.lemmas.List.{map-append, append-nil, reverse-append}
use Rattle.std.proofs.lemmas.List.Sorted.{list_any-IsPermutation, IsPermutation-reverse}
use Rattle.mb_wire.specs.declared.span.ReadSpan.{ReadSpan}
use Rattle.office_events.specs.declared.facts.Device.{Device}
use Rattle.office_events.specs.declared.facts.Fact.{Fact}
use Rattle.office_events.specs.declared.facts.Fact.TheVariants as fact
use Rattle.office_events.specs.declared.commands.Command.{Command}
use Rattle.office_events.specs.declared.commands.Command.TheVariants as command
use Rattle.office_events.specs.declared.events.Event.{Event}
use Rattle.office_events.specs.declared.events.Event.TheVariants as event
use Rattle.office_books.specs.Facts.{same, is_named, devices_in, device_of, pending_in, as_device}
use Rattle.office_books.specs.Sessions.{Slot, slot_of, slot_after, device_by, new_slot, slots_added, slots_after, slot_restarted, command_in}
use Rattle.office_books.specs.History.{History, Opened, Fed, next_poll, added_by, reply_by, spans_in, with_settled, facts_after, facts_of, slots_of, lost}
use Rattle.office_books.proofs.Lookups.{same_turned, is_some-find, list_any-map, list_any-agree}
use Rattle.office_books.proofs.EndedFacts.{unseen-with_settled}
use Rattle.office_books.proofs.ApartSlots.{device-after, same_refl}
use Rattle.office_books.proofs.QuietFacts.{HoldsOfBooks, added_each, reply_each, each_mapped, unseen, later_part_first}

-- The devices of a list of slots. A slot is a device with its Modbus sessions.
abbrev pub devices_on : List Slot → List Device
devices_on slots = map (λ slot. slot.device) slots

-- True if the records and the list of slots (devices with their Modbus sessions) have the same
-- devices, in the same order.
abbrev pub HaveSameDevices : List Slot → List Fact → Type 0
HaveSameDevices slots facts = devices_on slots ≡ reverse (devices_in facts)

map_kept : {X Y : Type 0} (g : X → Y) (f : X → X) → ((x : X) → g (f x) ≡ g x) → (xs : List X) → map g (map f xs) ≡ map g xs
map_kept g f h [] = refl
map_kept g f h (x ∷ xs) = ap (λ y. y ∷ map g (map f xs)) (h x) ∙ ap (λ ys. g x ∷ ys) (map_kept g f h xs)

same_slots : (number at : ℕ) (spans : List ReadSpan) (e : Event) (slots : List Slot) → slots_added (command_in e) ≡ []
    → devices_on (slots_after number at spans e slots) ≡ devices_on slots
same_slots number at spans e slots none =
    ap (λ added. devices_on (map (slot_after number at spans e) slots ++ added)) none
    ∙ ap devices_on (append-nil (map (slot_after number at spans e) slots))
    ∙ map_kept (λ slot. slot.device) (slot_after number at spans e) (device-after number at spans e) slots

-- True if the record is not a device record.
abbrev NoDevice : Fact → Type 0
NoDevice f = as_device f ≡ None

books_have_none : HoldsOfBooks NoDevice
books_have_none = record { list = λ p. refl; register = λ r. refl; opening = λ o. refl; entry = λ b. refl; void = λ v. refl }

by_settled : (number at : ℕ) (e : Event) (slots : List Slot) (facts : List Fact) → slots_added (command_in e) ≡ [] → HaveSameDevices slots facts
    → HaveSameDevices (slots_after number at [] e slots) (with_settled number at e slots facts)
by_settled number at e slots facts none h =
    same_slots number at [] e slots none ∙ h
    ∙ ap reverse (sym (unseen-with_settled as_device (record { entry = λ b. refl; hold = λ h. refl }) (λ e. refl) number at e slots facts))

added_device : (slots : List Slot) (facts : List Fact) (o : Option Device) → HaveSameDevices slots facts
    → HaveSameDevices (slots ++ new_slot o) (reverse (option_to_list (option_map fact.Device o)) ++ facts)
added_device slots facts None h = ap devices_on (append-nil slots) ∙ h
added_device slots facts (Some d) h =
    map-append (λ (slot : Slot). slot.device) slots (new_slot (Some d))
    ∙ ap (λ ds. ds ++ d ∷ []) h
    ∙ sym (reverse-append (d ∷ []) (devices_in facts))

by_command : (number at : ℕ) (spans : List ReadSpan) (slots : List Slot) (facts : List Fact) (c : Command) → HaveSameDevices slots facts
    → HaveSameDevices (slots_after number at spans (event.Command c) slots) (reverse (added_by number at slots facts c) ++ facts)
by_command number at spans slots facts (command.AddDevice c) h =
    let e : Event = event.Command (command.AddDevice c) in
    added_device (map (slot_after number at spans e) slots) facts (device_by c)
    (map_kept (λ slot. slot.device) (slot_after number at spans e) (device-after number at spans e) slots ∙ h)
by_command number at spans slots facts c h =
    same_slots number at spans (event.Command c) slots refl ∙ h
    ∙ ap reverse (sym (unseen as_device (added_by number at slots facts c) facts
    (added_each NoDevice books_have_none number at slots facts c (λ d e. absurd (cc)) (λ e device send. refl))))

by_event : (number at : ℕ) (slots : List Slot) (facts : List Fact) (e : Event) → HaveSameDevices slots facts
    → HaveSameDevices (slots_after number at (spans_in facts (command_in e)) e slots) (facts_after number at e slots facts)
by_event number at slots facts (event.Connected given) h = same_slots number at [] (event.Connected given) slots refl ∙ h
by_event number at slots facts (event.Bytes given piece) h = by_settled number at (event.Bytes given piece) slots facts refl h
by_event number at slots facts event.Tick h = by_settled number at event.Tick slots facts refl h
by_event number at slots facts (event.Gone given closing) h = by_settled number at (event.Gone given closing) slots facts refl h
by_event number at slots facts (event.Command c) h = by_command number at (spans_in facts (Some c)) slots facts c h
by_event number at slots facts (event.Asked asked) h =
    by_command number at (spans_in facts (Some asked.command)) slots facts asked.command h
    ∙ ap reverse (sym (ap devices_in (later_part_first (added_by number at slots facts asked.command) (reply_by at asked) facts)
    ∙ unseen as_device (reply_by at asked) (reverse (added_by number at slots facts asked.command) ++ facts) (reply_each NoDevice (λ r. refl) at asked)))

pub same_devices : (history : History) → HaveSameDevices (slots_of history) (facts_of history)
same_devices [] = refl
same_devices (Opened at ∷ past) =
    map_kept (λ slot. slot.device) slot_restarted (λ slot. refl) (slots_of past)
    ∙ same_devices past
    ∙ ap reverse (sym (unseen as_device (map (lost at) (pending_in (facts_of past))) (facts_of past)
    (each_mapped NoDevice (lost at) (λ poll. refl) (pending_in (facts_of past)))))
same_devices (Fed at e ∷ past) = by_event (next_poll (facts_of past)) at (slots_of past) (facts_of past) e (same_devices past)

-- If the second condition of a disjunction is true, then the disjunction is true.
or_true : (b : Bool) → (b || true) ≡ true
or_true true = refl
or_true false = refl

any_step : {X : Type 0} (q : X → Bool) (b : Bool) (y x : X) (o : Option X) (any : Bool) → q x ≡ true → (o ≡ Some x → any ≡ true)
    → cond b (Some y) o ≡ Some x → (q y || any) ≡ true
any_step q true y x o any is later h = let same_one : y ≡ x = cc in ap (λ z. q z || any) same_one ∙ ap (λ c. c || any) is
any_step q false y x o any is later h = ap (λ c. q y || c) (later h) ∙ or_true (q y)

any_found : {X : Type 0} (p q : X → Bool) (xs : List X) (x : X) → q x ≡ true → find p xs ≡ Some x → list_any q xs ≡ true
any_found p q [] x is h = absurd (cc)
any_found p q (y ∷ xs) x is h = any_step q (p y) y x (find p xs) (list_any q xs) is (any_found p q xs x is) h

pub found_is_known : (slots : List Slot) (facts : List Fact) (given : Option (List ℕ)) (slot : Slot) → HaveSameDevices slots facts
    → slot_of slots given ≡ Some slot → is_some (device_of facts slot.device.name) ≡ true
found_is_known slots facts given slot h found =
    let its : Device → Bool = λ d. same d.name slot.device.name in
    is_some-find its (devices_in facts)
    ∙ list_any-IsPermutation its (devices_in facts) (reverse (devices_in facts)) (IsPermutation-reverse (devices_in facts))
    ∙ ap (list_any its) (sym h)
    ∙ list_any-map its (λ (l : Slot). l.device) slots
    ∙ any_found (λ (l : Slot). is_named given l.device.name) (λ (l : Slot). its l.device) slots slot (same_refl slot.device.name) found

-- A slot (a device with its Modbus sessions) with a given device name exists if and only if a
-- device record has this name.
pub same_names : (slots : List Slot) (facts : List Fact) → HaveSameDevices slots facts → (name : List ℕ)
    → is_some (slot_of slots (Some name)) ≡ is_some (device_of facts name)
same_names slots facts h name =
    is_some-find (λ (slot : Slot). same name slot.device.name) slots
    ∙ sym (list_any-map (λ (d : Device). same name d.name) (λ (slot : Slot). slot.device) slots)
    ∙ ap (list_any (λ (d : Device). same name d.name)) h
    ∙ sym (list_any-IsPermutation (λ (d : Device). same name d.name) (devices_in facts) (reverse (devices_in facts)) (IsPermutation-reverse (devices_in facts)))
    ∙ list_any-agree (λ (d : Device). same name d.name) (λ (d : Device). same d.name name) (devices_in facts) (λ d. same_turned name d.name)
    ∙ sym (is_some-find (λ (d : Device). same d.name name) (devices_in facts))
