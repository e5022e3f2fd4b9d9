-- Lemmas that no poll is pending (without an outcome) in an ended session, which is a former
-- connection of a device. A restart of the program ends all sessions.
use Rattle.std.proofs.Common.{◌≡◌, ℕ, Bool, true, false, List, [], ◌∷◌, ◌++◌, map, refl, sym, ap, ◌∙◌, Option, Some, None, if◌then◌else◌}
use Rattle.std.specs.List.{flat_map}
use Rattle.std.specs.List.Sorted.{IsPermutation}
use Rattle.std.proofs.lemmas.List.{map-append, append-nil}
use Rattle.std.proofs.lemmas.List.Sorted.{IsPermutation-refl, IsPermutation-trans}
use Rattle.poll_core.specs.Settling as session
use Rattle.poll_core.specs.Polls as poll
use Rattle.poll_core.specs.Settling.{Start, Piece, Tick, Close, results, pending}
use Rattle.office_events.specs.declared.facts.Device.{Device}
use Rattle.office_events.specs.declared.events.Event.{Event}
use Rattle.mb_wire.specs.declared.span.ReadSpan.{ReadSpan}
use Rattle.office_books.specs.Sessions.{Slot, EndedSession, reaches, connects, with_happenings, slot_reached, slot_after, slot_restarted}
use Rattle.office_books.specs.PollEndings.{polls_on, polls_on_ended, polls_of_slot, polls_of_slots, pending_on}
use Rattle.office_books.proofs.Permutations.{same_is, sorted_out}
use Rattle.office_books.proofs.SessionLaws.{SessionLaws, pending-close}
use Rattle.office_books.proofs.EndedPolls.{numbers_in, ends_in, waiting_in}
use Rattle.office_books.proofs.EndedSlots.{slot_with, waiting_on, none_waits, lost_shown, numbers_shown, more_of, ends_both, numbers_both, waiting_both}
use Rattle.office_books.proofs.LostPolls.{lost_end}

abbrev pub AreOver : List Slot → Type 0
AreOver [] = Unit {0}
AreOver (slot ∷ slots) = (waiting_in (polls_on_ended slot.device slot.ended) ≡ []) × AreOver slots

-- The pending polls (without an outcome) of a device are the pending polls of its present Modbus
-- session.
waiting_with : (device : Device) (ended : List EndedSession) (present : Option (List session.Event)) → waiting_in (polls_on_ended device ended) ≡ []
    → waiting_in (polls_of_slot (slot_with device ended present)) ≡ pending_on (slot_with device ended present)
waiting_with device ended None over = over
waiting_with device ended (Some events) over =
    waiting_both (polls_on device false events) (polls_on_ended device ended)
    ∙ ap (λ ns. waiting_in (polls_on device false events) ++ ns) over
    ∙ append-nil _
    ∙ waiting_on device events

pub waiting_slots : (slots : List Slot) → AreOver slots → waiting_in (polls_of_slots slots) ≡ flat_map pending_on slots
waiting_slots [] over = refl
waiting_slots (slot ∷ slots) over =
    waiting_both (polls_of_slot slot) (polls_of_slots slots)
    ∙ ap (λ ns. ns ++ waiting_in (polls_of_slots slots)) (waiting_with slot.device slot.ended slot.present over.0)
    ∙ ap (λ ns. pending_on slot ++ ns) (waiting_slots slots over.1)

-- After a Modbus session ends with a close event, no poll of the session is pending (without an
-- outcome).
over_happened : (laws : SessionLaws) (device : Device) (ended : List EndedSession) (p : Option (List session.Event)) (before happenings : List session.Event) → waiting_in (polls_on_ended device ended) ≡ []
    → let slot = with_happenings (slot_with device ended p) before happenings in waiting_in (polls_on_ended slot.device slot.ended) ≡ []
over_happened laws device ended p before [] over = over
over_happened laws device ended p before (Start m n u s ∷ later) over = over_happened laws device ended p (before ++ Start m n u s ∷ []) later over
over_happened laws device ended p before (Piece m b ∷ later) over = over_happened laws device ended p (before ++ Piece m b ∷ []) later over
over_happened laws device ended p before (Tick m ∷ later) over = over_happened laws device ended p (before ++ Tick m ∷ []) later over
over_happened laws device ended p before (Close m c ∷ later) over =
    waiting_both (polls_on device false (before ++ Close m c ∷ [])) (polls_on_ended device ended)
    ∙ ap (λ ns. ns ++ waiting_in (polls_on_ended device ended)) (waiting_on device (before ++ Close m c ∷ []) ∙ ap (λ ps. map (λ (p : poll.Poll). p.number) ps) (pending-close laws device.timeout before m c))
    ∙ over

over_reached : (laws : SessionLaws) (number at : ℕ) (spans : List ReadSpan) (e : Event) (device : Device) (ended : List EndedSession) (present : Option (List session.Event))
    → waiting_in (polls_on_ended device ended) ≡ []
    → let slot = slot_reached number at spans e (slot_with device ended present) present in waiting_in (polls_on_ended slot.device slot.ended) ≡ []
over_reached laws number at spans e device ended None over = over
over_reached laws number at spans e device ended (Some before) over =
    over_happened laws device ended (Some before) before (reaches number at spans e device before) over

over_if : (laws : SessionLaws) (number at : ℕ) (spans : List ReadSpan) (e : Event) (slot : Slot) (b : Bool) → waiting_in (polls_on_ended slot.device slot.ended) ≡ []
    → let after = if b then slot_with slot.device slot.ended (Some []) else slot_reached number at spans e slot slot.present in
    waiting_in (polls_on_ended after.device after.ended) ≡ []
over_if laws number at spans e slot true over = over
over_if laws number at spans e slot false over = over_reached laws number at spans e slot.device slot.ended slot.present over

pub over-after : (laws : SessionLaws) (number at : ℕ) (spans : List ReadSpan) (e : Event) (slots : List Slot) → AreOver slots → AreOver (map (slot_after number at spans e) slots)
over-after laws number at spans e [] over = tt
over-after laws number at spans e (slot ∷ slots) over = (over_if laws number at spans e slot (connects e slot.device) over.0, over-after laws number at spans e slots over.1)

over_restarted : (device : Device) (ended : List EndedSession) (present : Option (List session.Event)) → waiting_in (polls_on_ended device ended) ≡ []
    → let slot = slot_restarted (slot_with device ended present) in waiting_in (polls_on_ended slot.device slot.ended) ≡ []
over_restarted device ended None over = over
over_restarted device ended (Some events) over =
    waiting_both (polls_on device true events) (polls_on_ended device ended)
    ∙ ap (λ ns. ns ++ waiting_in (polls_on_ended device ended)) (none_waits (results device.timeout [] events))
    ∙ over

pub over-restarted : (slots : List Slot) → AreOver slots → AreOver (map slot_restarted slots)
over-restarted [] over = tt
over-restarted (slot ∷ slots) over = (over_restarted slot.device slot.ended slot.present over.0, over-restarted slots over.1)

-- After a restart of the program, each pending poll (without an outcome) has ended as lost, and no
-- poll was started.
ends_with : (device : Device) (ended : List EndedSession) (present : Option (List session.Event))
    → IsPermutation (ends_in (polls_of_slot (slot_restarted (slot_with device ended present)))) (ends_in (polls_of_slot (slot_with device ended present)) ++ map lost_end (pending_on (slot_with device ended present)))
ends_with device ended None = same_is _ _ (sym (append-nil _))
ends_with device ended (Some events) =
    let new = polls_on device true events in
    let old = polls_on device false events in
    let rest = polls_on_ended device ended in
    IsPermutation-trans _ _ _ (same_is _ _ (ends_both new rest))
    (IsPermutation-trans _ _ _ (more_of (ends_in new) (ends_in old) (map lost_end (waiting_in old)) (ends_in rest) (lost_shown (results device.timeout [] events)))
    (same_is _ _ (ap (λ ends. ends ++ map lost_end (waiting_in old)) (sym (ends_both old rest))
    ∙ ap (λ ns. ends_in (old ++ rest) ++ map lost_end ns) (waiting_on device events))))

pub ends-restarted : (slots : List Slot) → IsPermutation (ends_in (polls_of_slots (map slot_restarted slots))) (ends_in (polls_of_slots slots) ++ map lost_end (flat_map pending_on slots))
ends-restarted [] = IsPermutation-refl []
ends-restarted (slot ∷ slots) =
    let S = pending_on slot in
    let T = flat_map pending_on slots in
    IsPermutation-trans _ _ _ (same_is _ _ (ends_both (polls_of_slot (slot_restarted slot)) (polls_of_slots (map slot_restarted slots))))
    (IsPermutation-trans _ _ _
    (sorted_out _ _ (ends_in (polls_of_slot slot)) (map lost_end S) (ends_in (polls_of_slots slots)) (map lost_end T) (ends_with slot.device slot.ended slot.present) (ends-restarted slots))
    (same_is _ _ (ap (λ ends. ends ++ (map lost_end S ++ map lost_end T)) (sym (ends_both (polls_of_slot slot) (polls_of_slots slots)))
    ∙ ap (λ ends. ends_in (polls_of_slots (slot ∷ slots)) ++ ends) (sym (map-append lost_end S T)))))

numbers_with : (device : Device) (ended : List EndedSession) (present : Option (List session.Event))
    → numbers_in (polls_of_slot (slot_restarted (slot_with device ended present))) ≡ numbers_in (polls_of_slot (slot_with device ended present))
numbers_with device ended None = refl
numbers_with device ended (Some events) =
    let rs = results device.timeout [] events in
    numbers_both (polls_on device true events) (polls_on_ended device ended)
    ∙ ap (λ ns. ns ++ numbers_in (polls_on_ended device ended)) (numbers_shown true rs ∙ sym (numbers_shown false rs))
    ∙ sym (numbers_both (polls_on device false events) (polls_on_ended device ended))

pub numbers-restarted : (slots : List Slot) → numbers_in (polls_of_slots (map slot_restarted slots)) ≡ numbers_in (polls_of_slots slots)
numbers-restarted [] = refl
numbers-restarted (slot ∷ slots) =
    numbers_both (polls_of_slot (slot_restarted slot)) (polls_of_slots (map slot_restarted slots))
    ∙ ap (λ ns. ns ++ numbers_in (polls_of_slots (map slot_restarted slots))) (numbers_with slot.device slot.ended slot.present)
    ∙ ap (λ ns. numbers_in (polls_of_slot slot) ++ ns) (numbers-restarted slots)
    ∙ sym (numbers_both (polls_of_slot slot) (polls_of_slots slots))
