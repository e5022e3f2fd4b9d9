-- Lemmas: after an event, the polls of all devices have their earlier numbers and outcomes and
-- those that the event adds. After a restart of the program, each pending poll has ended as lost.
use Rattle.std.proofs.Common.{◌≡◌, ℕ, Bool, true, false, List, [], ◌∷◌, ◌++◌, map, refl, sym, ap, ◌∙◌, Option, Some, None, append_assoc, if◌then◌else◌}
use Rattle.std.specs.List.{filter, filter_map, flat_map}
use Rattle.std.specs.Option.{is_none}
use Rattle.std.specs.List.Sorted.{IsPermutation}
use Rattle.std.proofs.lemmas.List.{map-append, append-nil}
use Rattle.std.proofs.lemmas.List.Elements.{filter-append, filter_map-append}
use Rattle.std.proofs.lemmas.List.Sorted.{IsPermutation-refl, IsPermutation-trans, IsPermutation-cons, IsPermutation-sym, IsPermutation-append_left, IsPermutation-middle, IsPermutation-map}
use Rattle.poll_core.specs.Settling as session
use Rattle.poll_core.specs.Polls as poll
use Rattle.poll_core.specs.declared.outcome.Outcome.{Outcome}
use Rattle.poll_core.specs.Settling.{Start, Piece, Tick, Close, results, pending, outcomes_at}
use Rattle.poll_core.specs.Laws.{with_outcome, outcomes_by_poll}
use Rattle.office_events.specs.declared.facts.Device.{Device}
use Rattle.office_events.specs.declared.events.Event.{Event}
use Rattle.office_books.specs.Sessions.{Slot, EndedSession, reaches, connects, with_happenings, slot_reached, slot_after}
use Rattle.mb_wire.specs.declared.span.ReadSpan.{ReadSpan}
use Rattle.office_books.specs.History.{settled_in, settled_on, settled_by}
use Rattle.office_books.specs.PollEndings.{end_by, polls_on, polls_on_ended, polls_of_slot, polls_of_slots}
use Rattle.office_books.proofs.Permutations.{same_is, sorted_out}
use Rattle.office_books.proofs.SessionLaws.{SessionLaws, numbers_of, number_by, numbers-push, outcomes_by_poll-push}
use Rattle.office_books.proofs.EndedPolls.{Ended, reported, numbers_in, ends_in, waiting_in}
use Rattle.office_books.proofs.EndedFacts.{as_end, settled_on_all}
use Rattle.office_books.proofs.Happenings.{EndLast, numbers_by, ends_last, same_settled}
use Rattle.office_books.proofs.LostPolls.{lost_end}

abbrev pub Results : Type 0
Results = List (poll.Poll × Option session.Settlement)

abbrev pub shown : Bool → Results → List Ended
shown restarted rs = map (λ result. (result.0.number, end_by restarted result.1)) rs

-- The numbers of a Modbus session's polls do not depend on whether a restart of the program ended
-- the session.
pub numbers_shown : (b : Bool) (rs : Results) → numbers_in (shown b rs) ≡ numbers_of rs
numbers_shown b [] = refl
numbers_shown b (r ∷ rs) = ap (λ ns. r.0.number ∷ ns) (numbers_shown b rs)

ends_shown : (rs : Results) → ends_in (shown false rs) ≡ map as_end (filter_map with_outcome rs)
ends_shown [] = refl
ends_shown ((p, None) ∷ rs) = ends_shown rs
ends_shown ((p, Some s) ∷ rs) = ap (λ ends. as_end (p.number, s) ∷ ends) (ends_shown rs)

waiting_shown : (rs : Results) → waiting_in (shown false rs) ≡ map (λ p. p.number) (map (λ r. r.0) (filter (λ r. is_none r.1) rs))
waiting_shown [] = refl
waiting_shown ((p, None) ∷ rs) = ap (λ ns. p.number ∷ ns) (waiting_shown rs)
waiting_shown ((p, Some s) ∷ rs) = waiting_shown rs

pub none_waits : (rs : Results) → waiting_in (shown true rs) ≡ []
none_waits [] = refl
none_waits ((p, None) ∷ rs) = none_waits rs
none_waits ((p, Some s) ∷ rs) = none_waits rs

pub lost_shown : (rs : Results) → IsPermutation (ends_in (shown true rs)) (ends_in (shown false rs) ++ map lost_end (waiting_in (shown false rs)))
lost_shown [] = IsPermutation-refl []
lost_shown ((p, None) ∷ rs) =
    IsPermutation-trans _ _ _ (IsPermutation-cons (lost_end p.number) _ _ (lost_shown rs))
    (IsPermutation-sym _ _ (IsPermutation-middle (ends_in (shown false rs)) (lost_end p.number) (map lost_end (waiting_in (shown false rs)))))
lost_shown ((p, Some s) ∷ rs) = IsPermutation-cons (as_end (p.number, s)) _ _ (lost_shown rs)

-- The pending polls of a Modbus session are exactly the session's polls that have no outcome.
pub waiting_on : (device : Device) (events : List session.Event) → waiting_in (polls_on device false events) ≡ map (λ p. p.number) (pending device.timeout events)
unfolding pending
waiting_on device events = waiting_shown (results device.timeout [] events)

ends-push : (laws : SessionLaws) (device : Device) (events : List session.Event) (e : session.Event)
    → IsPermutation (ends_in (polls_on device false (events ++ e ∷ []))) (ends_in (polls_on device false events) ++ map as_end (outcomes_at device.timeout events e))
ends-push laws device events e =
    let t = device.timeout in
    IsPermutation-trans _ _ _ (same_is _ _ (ends_shown (results t [] (events ++ e ∷ []))))
    (IsPermutation-trans _ _ _ (IsPermutation-map as_end (outcomes_by_poll t (events ++ e ∷ [])) (outcomes_by_poll t events ++ outcomes_at t events e) (outcomes_by_poll-push laws t events e))
    (same_is _ _ (map-append as_end (outcomes_by_poll t events) (outcomes_at t events e) ∙ ap (λ ends. ends ++ map as_end (outcomes_at t events e)) (sym (ends_shown (results t [] events))))))

numbers-push_on : (laws : SessionLaws) (device : Device) (events : List session.Event) (e : session.Event) → numbers_in (polls_on device false (events ++ e ∷ [])) ≡ numbers_in (polls_on device false events) ++ number_by e
numbers-push_on laws device events e =
    numbers_shown false (results device.timeout [] (events ++ e ∷ [])) ∙ numbers-push laws device.timeout events e
    ∙ ap (λ ns. ns ++ number_by e) (sym (numbers_shown false (results device.timeout [] events)))

-- If the first of two concatenated lists gets more elements, then the concatenation gets the same
-- elements, up to their order.
pub more_of : {X : Type 0} (us xs ys zs : List X) → IsPermutation us (xs ++ ys) → IsPermutation (us ++ zs) ((xs ++ zs) ++ ys)
more_of us xs ys zs p =
    IsPermutation-trans _ _ _ (sorted_out us zs xs ys zs [] p (same_is _ _ (sym (append-nil zs)))) (same_is _ _ (ap (λ ws. (xs ++ zs) ++ ws) (append-nil ys)))

pub ends_both : (ps qs : List Ended) → ends_in (ps ++ qs) ≡ ends_in ps ++ ends_in qs
ends_both ps qs = filter_map-append reported ps qs

pub numbers_both : (ps qs : List Ended) → numbers_in (ps ++ qs) ≡ numbers_in ps ++ numbers_in qs
numbers_both ps qs = map-append (λ (poll : Ended). poll.0) ps qs

pub waiting_both : (ps qs : List Ended) → waiting_in (ps ++ qs) ≡ waiting_in ps ++ waiting_in qs
waiting_both ps qs =
    ap (λ (xs : List Ended). map (λ (poll : Ended). poll.0) xs) (filter-append (λ (poll : Ended). is_none poll.1) ps qs)
    ∙ map-append (λ (poll : Ended). poll.0) (filter (λ poll. is_none poll.1) ps) (filter (λ poll. is_none poll.1) qs)

abbrev pub slot_with : Device → List EndedSession → Option (List session.Event) → Slot
slot_with device ended present = record { device = device; ended = ended; present = present }

-- After a Modbus session event, the outcomes of the device are the earlier outcomes and those of
-- the polls that the event ends.
ends_more : (laws : SessionLaws) (device : Device) (ended : List EndedSession) (before : List session.Event) (h : session.Event)
    → IsPermutation (ends_in (polls_on device false (before ++ h ∷ []) ++ polls_on_ended device ended))
    (ends_in (polls_of_slot (slot_with device ended (Some before))) ++ map as_end (outcomes_at device.timeout before h))
ends_more laws device ended before h =
    let new = polls_on device false (before ++ h ∷ []) in
    let old = polls_on device false before in
    let rest = polls_on_ended device ended in
    IsPermutation-trans _ _ _ (same_is _ _ (ends_both new rest))
    (IsPermutation-trans _ _ _ (more_of (ends_in new) (ends_in old) (map as_end (outcomes_at device.timeout before h)) (ends_in rest) (ends-push laws device before h))
    (same_is _ _ (ap (λ ends. ends ++ map as_end (outcomes_at device.timeout before h)) (sym (ends_both old rest)))))

numbers_more : (laws : SessionLaws) (device : Device) (ended : List EndedSession) (before : List session.Event) (h : session.Event)
    → IsPermutation (numbers_in (polls_on device false (before ++ h ∷ []) ++ polls_on_ended device ended))
    (numbers_in (polls_of_slot (slot_with device ended (Some before))) ++ number_by h)
numbers_more laws device ended before h =
    let new = polls_on device false (before ++ h ∷ []) in
    let old = polls_on device false before in
    let rest = polls_on_ended device ended in
    IsPermutation-trans _ _ _ (same_is _ _ (numbers_both new rest))
    (IsPermutation-trans _ _ _ (more_of (numbers_in new) (numbers_in old) (number_by h) (numbers_in rest) (same_is _ _ (numbers-push_on laws device before h)))
    (same_is _ _ (ap (λ ns. ns ++ number_by h) (sym (numbers_both old rest)))))

-- Extending a list by some elements and then by others yields a permutation of the list that is
-- extended once by all of these elements.
grown : {X : Type 0} (end middle start first later : List X) → IsPermutation end (middle ++ later) → IsPermutation middle (start ++ first)
    → IsPermutation end (start ++ (first ++ later))
grown end middle start first later p q =
    IsPermutation-trans _ _ _ p
    (IsPermutation-trans _ _ _ (IsPermutation-append_left later middle (start ++ first) q) (same_is _ _ (append_assoc start first later)))

ends_grown : (laws : SessionLaws) (device : Device) (ended : List EndedSession) (before later : List session.Event) (h : session.Event)
    (end : List (ℕ × Outcome))
    → IsPermutation end (ends_in (polls_of_slot (slot_with device ended (Some (before ++ h ∷ [])))) ++ map as_end (settled_in device (before ++ h ∷ []) later))
    → IsPermutation end (ends_in (polls_of_slot (slot_with device ended (Some before))) ++ map as_end (settled_in device before (h ∷ later)))
ends_grown laws device ended before later h end p =
    let first = outcomes_at device.timeout before h in
    let following = settled_in device (before ++ h ∷ []) later in
    let start = ends_in (polls_of_slot (slot_with device ended (Some before))) in
    IsPermutation-trans _ _ _ (grown end _ start (map as_end first) (map as_end following) p (ends_more laws device ended before h))
    (same_is _ _ (ap (λ ends. start ++ ends) (sym (map-append as_end first following))))

numbers_grown : (laws : SessionLaws) (device : Device) (ended : List EndedSession) (before later : List session.Event) (h : session.Event)
    (end : List ℕ)
    → IsPermutation end (numbers_in (polls_of_slot (slot_with device ended (Some (before ++ h ∷ [])))) ++ numbers_by later)
    → IsPermutation end (numbers_in (polls_of_slot (slot_with device ended (Some before))) ++ numbers_by (h ∷ later))
numbers_grown laws device ended before later h end p =
    grown end _ (numbers_in (polls_of_slot (slot_with device ended (Some before)))) (number_by h) (numbers_by later) p
    (numbers_more laws device ended before h)

-- After several Modbus session events, the outcomes of the device are the earlier outcomes and
-- those of the polls that the events end.
ends_happened : (laws : SessionLaws) (device : Device) (ended : List EndedSession) (p : Option (List session.Event)) (before happenings : List session.Event) → EndLast happenings
    → IsPermutation (ends_in (polls_of_slot (with_happenings (slot_with device ended p) before happenings)))
    (ends_in (polls_of_slot (slot_with device ended (Some before))) ++ map as_end (settled_in device before happenings))
ends_happened laws device ended p before [] last = same_is _ _ (sym (append-nil _))
ends_happened laws device ended p before (Close m c ∷ []) last = ends_grown laws device ended before [] (Close m c) _ (same_is _ _ (sym (append-nil _)))
ends_happened laws device ended p before (Close m c ∷ h ∷ later) last = absurd (let none : h ∷ later ≡ [] = last.0 refl in cc)
ends_happened laws device ended p before (Start m n u s ∷ later) last =
    ends_grown laws device ended before later (Start m n u s) _ (ends_happened laws device ended p (before ++ Start m n u s ∷ []) later last.1)
ends_happened laws device ended p before (Piece m b ∷ later) last =
    ends_grown laws device ended before later (Piece m b) _ (ends_happened laws device ended p (before ++ Piece m b ∷ []) later last.1)
ends_happened laws device ended p before (Tick m ∷ later) last =
    ends_grown laws device ended before later (Tick m) _ (ends_happened laws device ended p (before ++ Tick m ∷ []) later last.1)

numbers_happened : (laws : SessionLaws) (device : Device) (ended : List EndedSession) (p : Option (List session.Event)) (before happenings : List session.Event) → EndLast happenings
    → IsPermutation (numbers_in (polls_of_slot (with_happenings (slot_with device ended p) before happenings)))
    (numbers_in (polls_of_slot (slot_with device ended (Some before))) ++ numbers_by happenings)
numbers_happened laws device ended p before [] last = same_is _ _ (sym (append-nil _))
numbers_happened laws device ended p before (Close m c ∷ []) last = numbers_grown laws device ended before [] (Close m c) _ (same_is _ _ (sym (append-nil _)))
numbers_happened laws device ended p before (Close m c ∷ h ∷ later) last = absurd (let none : h ∷ later ≡ [] = last.0 refl in cc)
numbers_happened laws device ended p before (Start m n u s ∷ later) last =
    numbers_grown laws device ended before later (Start m n u s) _ (numbers_happened laws device ended p (before ++ Start m n u s ∷ []) later last.1)
numbers_happened laws device ended p before (Piece m b ∷ later) last =
    numbers_grown laws device ended before later (Piece m b) _ (numbers_happened laws device ended p (before ++ Piece m b ∷ []) later last.1)
numbers_happened laws device ended p before (Tick m ∷ later) last =
    numbers_grown laws device ended before later (Tick m) _ (numbers_happened laws device ended p (before ++ Tick m ∷ []) later last.1)

-- The numbers of the polls that an event starts on a device.
abbrev pub new_on : (number at : ℕ) → List ReadSpan → Event → Device → Option (List session.Event) → List ℕ
new_on number at spans e device None = []
new_on number at spans e device (Some before) = numbers_by (reaches number at spans e device before)

abbrev pub new_by : (number at : ℕ) → List ReadSpan → Event → Slot → List ℕ
new_by number at spans e slot = new_on number at spans e slot.device slot.present

ends_reached : (laws : SessionLaws) (number at : ℕ) (spans : List ReadSpan) (e : Event) (device : Device) (ended : List EndedSession) (present : Option (List session.Event))
    → IsPermutation (ends_in (polls_of_slot (slot_reached number at spans e (slot_with device ended present) present)))
    (ends_in (polls_of_slot (slot_with device ended present)) ++ map as_end (settled_on number at e device present))
ends_reached laws number at spans e device ended None = same_is _ _ (sym (append-nil _))
ends_reached laws number at spans e device ended (Some before) =
    IsPermutation-trans _ _ _ (ends_happened laws device ended (Some before) before (reaches number at spans e device before) (ends_last number at spans e device before))
    (same_is _ _ (ap (λ settled. ends_in (polls_of_slot (slot_with device ended (Some before))) ++ map as_end settled) (same_settled number at spans e device before)))

numbers_reached : (laws : SessionLaws) (number at : ℕ) (spans : List ReadSpan) (e : Event) (device : Device) (ended : List EndedSession) (present : Option (List session.Event))
    → IsPermutation (numbers_in (polls_of_slot (slot_reached number at spans e (slot_with device ended present) present)))
    (numbers_in (polls_of_slot (slot_with device ended present)) ++ new_on number at spans e device present)
numbers_reached laws number at spans e device ended None = same_is _ _ (sym (append-nil _))
numbers_reached laws number at spans e device ended (Some before) =
    numbers_happened laws device ended (Some before) before (reaches number at spans e device before) (ends_last number at spans e device before)

-- After a new connection, the outcomes of the device are unchanged, because the device had no
-- session.
connected_ends : (number at : ℕ) (e : Event) (device : Device) (ended : List EndedSession) (present : Option (List session.Event)) → present ≡ None
    → ends_in (polls_of_slot (slot_with device ended (Some []))) ≡ ends_in (polls_of_slot (slot_with device ended present)) ++ map as_end (settled_on number at e device present)
connected_ends number at e device ended None none = sym (append-nil _)
connected_ends number at e device ended (Some before) none = cc

connected_numbers : (number at : ℕ) (spans : List ReadSpan) (e : Event) (device : Device) (ended : List EndedSession) (present : Option (List session.Event)) → present ≡ None
    → numbers_in (polls_of_slot (slot_with device ended (Some []))) ≡ numbers_in (polls_of_slot (slot_with device ended present)) ++ new_on number at spans e device present
connected_numbers number at spans e device ended None none = sym (append-nil _)
connected_numbers number at spans e device ended (Some before) none = cc

ends_if : (laws : SessionLaws) (number at : ℕ) (spans : List ReadSpan) (e : Event) (slot : Slot) (b : Bool) → (b ≡ true → slot.present ≡ None)
    → IsPermutation (ends_in (polls_of_slot (if b then slot_with slot.device slot.ended (Some []) else slot_reached number at spans e slot slot.present)))
    (ends_in (polls_of_slot slot) ++ map as_end (settled_by number at e slot))
ends_if laws number at spans e slot true free = same_is _ _ (connected_ends number at e slot.device slot.ended slot.present (free refl))
ends_if laws number at spans e slot false free = ends_reached laws number at spans e slot.device slot.ended slot.present

numbers_if : (laws : SessionLaws) (number at : ℕ) (spans : List ReadSpan) (e : Event) (slot : Slot) (b : Bool) → (b ≡ true → slot.present ≡ None)
    → IsPermutation (numbers_in (polls_of_slot (if b then slot_with slot.device slot.ended (Some []) else slot_reached number at spans e slot slot.present)))
    (numbers_in (polls_of_slot slot) ++ new_by number at spans e slot)
numbers_if laws number at spans e slot true free = same_is _ _ (connected_numbers number at spans e slot.device slot.ended slot.present (free refl))
numbers_if laws number at spans e slot false free = numbers_reached laws number at spans e slot.device slot.ended slot.present

-- True if every device that the event connects has no present Modbus session, so it is not
-- connected yet.
abbrev pub AreFree : Event → List Slot → Type 0
AreFree e [] = Unit {0}
AreFree e (slot ∷ slots) = (connects e slot.device ≡ true → slot.present ≡ None) × AreFree e slots

pub ends-after : (laws : SessionLaws) (number at : ℕ) (spans : List ReadSpan) (e : Event) (slots : List Slot) → AreFree e slots
    → IsPermutation (ends_in (polls_of_slots (map (slot_after number at spans e) slots))) (ends_in (polls_of_slots slots) ++ map as_end (settled_on_all number at e slots))
ends-after laws number at spans e [] free = IsPermutation-refl []
ends-after laws number at spans e (slot ∷ slots) free =
    let S = settled_by number at e slot in
    let T = settled_on_all number at e slots in
    IsPermutation-trans _ _ _ (same_is _ _ (ends_both (polls_of_slot (slot_after number at spans e slot)) (polls_of_slots (map (slot_after number at spans e) slots))))
    (IsPermutation-trans _ _ _
    (sorted_out _ _ (ends_in (polls_of_slot slot)) (map as_end S) (ends_in (polls_of_slots slots)) (map as_end T) (ends_if laws number at spans e slot (connects e slot.device) free.0) (ends-after laws number at spans e slots free.1))
    (same_is _ _ (ap (λ ends. ends ++ (map as_end S ++ map as_end T)) (sym (ends_both (polls_of_slot slot) (polls_of_slots slots)))
    ∙ ap (λ ends. ends_in (polls_of_slots (slot ∷ slots)) ++ ends) (sym (map-append as_end S T)))))

pub numbers-after : (laws : SessionLaws) (number at : ℕ) (spans : List ReadSpan) (e : Event) (slots : List Slot) → AreFree e slots
    → IsPermutation (numbers_in (polls_of_slots (map (slot_after number at spans e) slots))) (numbers_in (polls_of_slots slots) ++ flat_map (new_by number at spans e) slots)
numbers-after laws number at spans e [] free = IsPermutation-refl []
numbers-after laws number at spans e (slot ∷ slots) free =
    let S = new_by number at spans e slot in
    let T = flat_map (new_by number at spans e) slots in
    IsPermutation-trans _ _ _ (same_is _ _ (numbers_both (polls_of_slot (slot_after number at spans e slot)) (polls_of_slots (map (slot_after number at spans e) slots))))
    (IsPermutation-trans _ _ _
    (sorted_out _ _ (numbers_in (polls_of_slot slot)) S (numbers_in (polls_of_slots slots)) T (numbers_if laws number at spans e slot (connects e slot.device) free.0) (numbers-after laws number at spans e slots free.1))
    (same_is _ _ (ap (λ ns. ns ++ (S ++ T)) (sym (numbers_both (polls_of_slot slot) (polls_of_slots slots))))))
