-- Lemmas that the records stay lawful after the polls of an accepted command are added. Lawful
-- means that the rules for adding records accept each record after the earlier ones.
use Rattle.std.proofs.Common.{◌≡◌, ℕ, ◌+◌, ◌≤◌, true, false, List, ◌++◌, reverse, length, refl, sym, ap, subst, ◌∙◌, Option, Some, None}
use Rattle.std.specs.Option.{is_some}
use Rattle.mb_wire.specs.declared.span.ReadSpan.{ReadSpan}
use Rattle.poll_core.specs.Settling as session
use Rattle.office_events.specs.declared.facts.Fact.{Fact}
use Rattle.office_books.specs.Facts.{moment_limit, poll_limit, is_named, device_of, polls_in}
use Rattle.office_books.specs.Sessions.{Slot, slot_of}
use Rattle.office_books.specs.History.{next_poll, polls_from, sends_from}
use Rattle.office_books.specs.Lawful.{AreLawful}
use Rattle.office_books.proofs.Lookups.{same_text, find_passes}
use Rattle.office_books.proofs.Rounds.{round_fits}
use Rattle.office_books.proofs.DeviceSlots.{HaveSameDevices, same_names}

found_is_known : (slots : List Slot) (facts : List Fact) (given : Option (List ℕ)) (slot : Slot) → HaveSameDevices slots facts
    → slot_of slots given ≡ Some slot → is_some (device_of facts slot.device.name) ≡ true
found_is_known slots facts None slot devices e =
    absurd (let named : false ≡ true = find_passes (λ (l : Slot). is_named None l.device.name) slots slot e in cc)
found_is_known slots facts (Some name) slot devices e =
    let is : name ≡ slot.device.name = same_text name slot.device.name (find_passes (λ (l : Slot). is_named (Some name) l.device.name) slots slot e) in
    subst (λ (n : List ℕ). is_some (device_of facts n) ≡ true) is (sym (same_names slots facts devices name) ∙ ap is_some e)

present_fits : (facts : List Fact) (at : ℕ) (spans : List ReadSpan) (slot : Slot) (present : Option (List session.Event)) → slot.present ≡ present
    → AreLawful facts → at ≤ moment_limit → is_some (device_of facts slot.device.name) ≡ true
    → length (polls_in facts) + length (sends_from (next_poll facts) at spans (Some (record { device = slot.device; ended = slot.ended; present = present }))) ≤ poll_limit
    → AreLawful (reverse (polls_from (next_poll facts) at spans (Some (record { device = slot.device; ended = slot.ended; present = present }))) ++ facts)
present_fits facts at spans slot None is h timely known few = h
present_fits facts at spans slot (Some before) is h timely known few =
    round_fits at (next_poll facts) slot.device before spans facts h timely refl known few

-- After the polls that are sent on a device's Modbus session are recorded, the records still follow
-- the rules for adding records (`AreLawful`).
pub polls_fit : (slots : List Slot) (facts : List Fact) (at : ℕ) (spans : List ReadSpan) (given : Option (List ℕ)) (o : Option Slot)
    → HaveSameDevices slots facts → AreLawful facts → at ≤ moment_limit → slot_of slots given ≡ o
    → length (polls_in facts) + length (sends_from (next_poll facts) at spans o) ≤ poll_limit
    → AreLawful (reverse (polls_from (next_poll facts) at spans o) ++ facts)
polls_fit slots facts at spans given None devices h timely e few = h
polls_fit slots facts at spans given (Some slot) devices h timely e few =
    present_fits facts at spans slot slot.present refl h timely (found_is_known slots facts given slot devices e) few
