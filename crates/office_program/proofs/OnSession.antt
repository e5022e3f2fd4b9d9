-- Properties of the polls that were started since a device connected (its session). The number of
-- pending polls is at most the device's window, the number of polls that the device accepts at a
-- time.
use Rattle.std.proofs.Common.{◌≡◌, ℕ, suc, ◌+◌, ◌≤◌, ◌==◌, Bool, true, false, cond, List, [], ◌∷◌, ◌++◌, length, map, Option, Some, None, refl, sym, ap, ◌∙◌, subst, arith, append_assoc, append-nil}
use Rattle.std.specs.List.{cons_option, filter}
use Rattle.std.proofs.lemmas.Bool.{cond-false, eq-eqb, ne_eqb}
use Rattle.std.proofs.lemmas.List.{length-append, length-map}
use Rattle.std.proofs.lemmas.List.Elements.{filter_map-append}
use Rattle.mb_wire.specs.declared.span.ReadSpan.{ReadSpan}
use Rattle.poll_core.specs.Settling as session
use Rattle.poll_core.specs.Settling.{Piece, Tick, pending, results}
use Rattle.poll_core.specs.declared.outcome.Outcome.{Outcome}
use Rattle.office_events.specs.declared.commands.Command.TheVariants as command
use Rattle.office_events.specs.declared.commands.StartRound.{StartRound}
use Rattle.office_events.specs.declared.events.Event.TheVariants as event
use Rattle.office_events.specs.declared.facts.Device.{Device}
use Rattle.office_events.specs.declared.facts.EndedPoll.{EndedPoll}
use Rattle.office_events.specs.declared.facts.Fact.{Fact}
use Rattle.office_books.specs.Facts.{ends_of, is_named}
use Rattle.office_books.specs.PollEndings.{polls_of_slot, polls_of_slots, polls_on, polls_on_ended, polls_on_present}
use Rattle.office_books.specs.Sessions.{Send, Slot, sends_on, slot_after, slot_of, slot_reached, start_by, with_happenings}
use Rattle.office_books.proofs.ApartSlots.{device-after}
use Rattle.office_books.proofs.EndedFacts.{ends_are, recorded}
use Rattle.office_books.proofs.EndedPolls.{Ended, ends_in, is_of, numbers_in, pick, picked-IsPermutation, waiting_in}
use Rattle.office_books.proofs.EndedSlots.{ends_both, numbers_shown, waiting_on}
use Rattle.office_books.proofs.EndOnce.{Agree}
use Rattle.office_books.proofs.Happenings.{sent_numbers}
use Rattle.office_books.proofs.Lookups.{find_passes}
use Rattle.office_books.proofs.SessionLaws.{SessionLaws, number_by, numbers-push}
use Rattle.office_program.specs.Polling.{IsOnSession, is_open}

-- If a change of the device table keeps the devices' names, then looking up a device in the changed
-- table returns the device's changed entry.
found_step : (b : Bool) (f : Slot → Slot) (one slot : Slot) (later after : Option Slot) → (later ≡ Some slot → after ≡ Some (f slot))
    → cond b (Some one) later ≡ Some slot → cond b (Some (f one)) after ≡ Some (f slot)
found_step true f one slot later after rest h = let same : one ≡ slot = cc in ap (λ s. Some (f s)) same
found_step false f one slot later after rest h = rest h

pub found_after : (f : Slot → Slot) → ((slot : Slot) → (f slot).device ≡ slot.device) → (slots : List Slot) (given : Option (List ℕ)) (slot : Slot)
    → slot_of slots given ≡ Some slot → slot_of (map f slots ++ []) given ≡ Some (f slot)
found_after f keeps [] given slot h = absurd (cc)
found_after f keeps (one ∷ slots) given slot h =
    ap (λ (d : Device). cond (is_named given d.name) (Some (f one)) (slot_of (map f slots ++ []) given)) (keeps one)
    ∙ found_step (is_named given one.device.name) f one slot (slot_of slots given) (slot_of (map f slots ++ []) given) (found_after f keeps slots given slot) h

-- If one more event occurs in a session (the polls since a device connected), its started polls are
-- added to the session's polls.
numbers_more : (laws : SessionLaws) (device : Device) (before : List session.Event) (h : session.Event)
    → numbers_in (polls_on device false (before ++ h ∷ [])) ≡ numbers_in (polls_on device false before) ++ number_by h
numbers_more laws device before h =
    numbers_shown false (results device.timeout [] (before ++ h ∷ [])) ∙ numbers-push laws device.timeout before h
    ∙ ap (λ ns. ns ++ number_by h) (sym (numbers_shown false (results device.timeout [] before)))

abbrev numbers_of_slot : Slot → List ℕ
numbers_of_slot slot = numbers_in (polls_on_present slot.device slot.present)

ticked : (laws : SessionLaws) (number at : ℕ) (slot : Slot) (present : Option (List session.Event)) → slot.present ≡ present
    → numbers_of_slot (slot_reached number at [] event.Tick slot present) ≡ numbers_in (polls_on_present slot.device present)
ticked laws number at slot None is = ap (λ p. numbers_in (polls_on_present slot.device p)) is
ticked laws number at slot (Some before) is = numbers_more laws slot.device before (Tick at) ∙ append-nil _

pieced_step : (laws : SessionLaws) (named : Bool) (at : ℕ) (piece : List ℕ) (slot : Slot) (before : List session.Event)
    → numbers_of_slot (with_happenings slot before (cond named (Piece at piece ∷ []) [])) ≡ numbers_in (polls_on slot.device false before)
pieced_step laws true at piece slot before = numbers_more laws slot.device before (Piece at piece) ∙ append-nil _
pieced_step laws false at piece slot before = refl

pieced : (laws : SessionLaws) (number at : ℕ) (given : Option (List ℕ)) (piece : List ℕ) (slot : Slot) (present : Option (List session.Event))
    → slot.present ≡ present
    → numbers_of_slot (slot_reached number at [] (event.Bytes given piece) slot present) ≡ numbers_in (polls_on_present slot.device present)
pieced laws number at given piece slot None is = ap (λ p. numbers_in (polls_on_present slot.device p)) is
pieced laws number at given piece slot (Some before) is = pieced_step laws (is_named given slot.device.name) at piece slot before

-- If an event of a session (the polls since a device connected) is a timer event or received bytes,
-- it starts no polls.
pub on_tick : (laws : SessionLaws) (number at : ℕ) (slots : List Slot) (device : Option (List ℕ)) (numbers : List ℕ)
    → IsOnSession slots device numbers → IsOnSession (map (slot_after number at [] event.Tick) slots ++ []) device numbers
on_tick laws number at slots device numbers on = record {
  slot = slot_after number at [] event.Tick on.slot;
  found = found_after (slot_after number at [] event.Tick) (device-after number at [] event.Tick) slots device on.slot on.found;
  are = ticked laws number at on.slot on.slot.present refl ∙ on.are;
}

pub on_piece : (laws : SessionLaws) (number at : ℕ) (given : Option (List ℕ)) (piece : List ℕ) (slots : List Slot) (device : Option (List ℕ))
    (numbers : List ℕ) → IsOnSession slots device numbers
    → IsOnSession (map (slot_after number at [] (event.Bytes given piece)) slots ++ []) device numbers
on_piece laws number at given piece slots device numbers on = record {
  slot = slot_after number at [] (event.Bytes given piece) on.slot;
  found = found_after (slot_after number at [] (event.Bytes given piece)) (device-after number at [] (event.Bytes given piece)) slots device on.slot on.found;
  are = pieced laws number at given piece on.slot on.slot.present refl ∙ on.are;
}

-- Directly after a device connects, its session (the polls since the connection) has no polls.
connected_step : (number at : ℕ) (slot : Slot) (named : Bool) (other : Slot) → named ≡ true
    → numbers_of_slot (cond named (record { device = slot.device; ended = slot.ended; present = Some [] }) other) ≡ []
connected_step number at slot true other is = refl
connected_step number at slot false other is = absurd (cc)

pub on_connection : (number at : ℕ) (slots : List Slot) (device : Option (List ℕ)) (slot : Slot) → slot_of slots device ≡ Some slot
    → IsOnSession (map (slot_after number at [] (event.Connected device)) slots ++ []) device []
on_connection number at slots device slot found = record {
  slot = slot_after number at [] (event.Connected device) slot;
  found = found_after (slot_after number at [] (event.Connected device)) (device-after number at [] (event.Connected device)) slots device slot found;
  are = connected_step number at slot (is_named device slot.device.name) _
      (find_passes (λ (one : Slot). is_named device one.device.name) slots slot found);
}

-- If Modbus reads are started in a session (the polls since the device connected), then their polls
-- are added to the session's polls.
happened : (at : ℕ) (slot : Slot) (before : List session.Event) (sends : List Send)
    → with_happenings slot before (map (start_by at slot.device) sends)
    ≡ record { device = slot.device; ended = slot.ended; present = Some (before ++ map (start_by at slot.device) sends) }
happened at slot before [] = ap (λ es. record { device = slot.device; ended = slot.ended; present = Some es }) (sym (append-nil before))
happened at slot before (send ∷ sends) =
    happened at slot (before ++ start_by at slot.device send ∷ []) sends
    ∙ ap (λ es. record { device = slot.device; ended = slot.ended; present = Some es })
    (append_assoc before (start_by at slot.device send ∷ []) (map (start_by at slot.device) sends))

sent_on : (laws : SessionLaws) (at : ℕ) (device : Device) (before : List session.Event) (sends : List Send)
    → numbers_in (polls_on device false (before ++ map (start_by at device) sends)) ≡ numbers_in (polls_on device false before) ++ sent_numbers sends
sent_on laws at device before [] = ap (λ es. numbers_in (polls_on device false es)) (append-nil before) ∙ sym (append-nil _)
sent_on laws at device before (send ∷ sends) =
    ap (λ es. numbers_in (polls_on device false es)) (sym (append_assoc before (start_by at device send ∷ []) (map (start_by at device) sends)))
    ∙ sent_on laws at device (before ++ start_by at device send ∷ []) sends
    ∙ ap (λ ns. ns ++ sent_numbers sends) (numbers_more laws device before (start_by at device send))
    ∙ append_assoc (numbers_in (polls_on device false before)) (send.number ∷ []) (sent_numbers sends)

-- True if `after` is the slot (the state of a device) that results from `slot` when Modbus reads
-- are started. The session in `after` has the events `before`, followed by the starts of the reads
-- `sends`.
pub record IsAfterStart (at : ℕ) (slot : Slot) (before : List session.Event) (sends : List Send) (after : Slot) : Type 0 where
  pub device : after.device ≡ slot.device
  pub present : after.present ≡ Some (before ++ map (start_by at slot.device) sends)

start_named : (named : Bool) (at : ℕ) (slot : Slot) (before : List session.Event) (sends : List Send) → named ≡ true
    → IsAfterStart at slot before sends (with_happenings slot before (cond named (map (start_by at slot.device) sends) []))
start_named true at slot before sends is =
    let after = happened at slot before sends in
    record { device = ap (λ (s : Slot). s.device) after; present = ap (λ (s : Slot). s.present) after }
start_named false at slot before sends is = absurd (cc)

start_reached : (number at : ℕ) (spans : List ReadSpan) (c : StartRound) (slot : Slot) (before : List session.Event) (present : Option (List session.Event))
    → present ≡ Some before → is_named c.device slot.device.name ≡ true
    → IsAfterStart at slot before (sends_on number at slot.device before spans)
    (slot_reached number at spans (event.Command (command.StartRound c)) slot present)
start_reached number at spans c slot before None is named = absurd (cc)
start_reached number at spans c slot before (Some other) is named =
    let same : other ≡ before = cc in
    let P : List session.Event → Type 0 = λ es.
    IsAfterStart at slot es (sends_on number at slot.device es spans) (slot_reached number at spans (event.Command (command.StartRound c)) slot (Some other)) in
    subst P same (start_named (is_named c.device slot.device.name) at slot other (sends_on number at slot.device other spans) named)

pub after_start : (number at : ℕ) (spans : List ReadSpan) (c : StartRound) (slots : List Slot) (slot : Slot) (before : List session.Event)
    → slot_of slots c.device ≡ Some slot → slot.present ≡ Some before
    → IsAfterStart at slot before (sends_on number at slot.device before spans)
    (slot_after number at spans (event.Command (command.StartRound c)) slot)
after_start number at spans c slots slot before found present =
    start_reached number at spans c slot before slot.present present (find_passes (λ (one : Slot). is_named c.device one.device.name) slots slot found)

pub started_on : (laws : SessionLaws) (at : ℕ) (slot after : Slot) (before : List session.Event) (sends : List Send) (numbers : List ℕ)
    → slot.present ≡ Some before → IsAfterStart at slot before sends after → numbers_of_slot slot ≡ numbers
    → numbers_of_slot after ≡ numbers ++ sent_numbers sends
started_on laws at slot after before sends numbers present is on =
    ap (λ (d : Device). numbers_in (polls_on_present d after.present)) is.device
    ∙ ap (λ p. numbers_in (polls_on_present slot.device p)) is.present
    ∙ sent_on laws at slot.device before sends
    ∙ ap (λ ns. ns ++ sent_numbers sends) (ap (λ p. numbers_in (polls_on_present slot.device p)) (sym present) ∙ on)

-- The number of outcomes of poll `n` in two appended lists equals the sum of the numbers in each
-- list.
picked_both : (n : ℕ) (xs ys : List (ℕ × Outcome)) → length (pick n (xs ++ ys)) ≡ length (pick n xs) + length (pick n ys)
picked_both n xs ys = ap length (filter_map-append (is_of n) xs ys) ∙ length-append (pick n xs) (pick n ys)

here_step : (n : ℕ) (b : Bool) (one slot : Slot) (later : Option Slot) (rest : List Slot) → (all : ℕ)
    → all ≡ length (pick n (ends_in (polls_of_slot one))) + length (pick n (ends_in (polls_of_slots rest)))
    → (later ≡ Some slot → length (pick n (ends_in (polls_of_slot slot))) ≤ length (pick n (ends_in (polls_of_slots rest))))
    → cond b (Some one) later ≡ Some slot → length (pick n (ends_in (polls_of_slot slot))) ≤ all
here_step n true one slot later rest all is more h =
    let same : one ≡ slot = cc in
    let its : length (pick n (ends_in (polls_of_slot one))) ≡ length (pick n (ends_in (polls_of_slot slot))) =
    ap (λ (s : Slot). length (pick n (ends_in (polls_of_slot s)))) same in
    omega (arith, is, its)
here_step n false one slot later rest all is more h = let few = more h in omega (arith, is, few)

in_slot : (n : ℕ) (slots : List Slot) (given : Option (List ℕ)) (slot : Slot) → slot_of slots given ≡ Some slot
    → length (pick n (ends_in (polls_of_slot slot))) ≤ length (pick n (ends_in (polls_of_slots slots)))
in_slot n [] given slot h = absurd (cc)
in_slot n (one ∷ slots) given slot h =
    here_step n (is_named given one.device.name) one slot (slot_of slots given) slots (length (pick n (ends_in (polls_of_slots (one ∷ slots)))))
    (ap (λ es. length (pick n es)) (ends_both (polls_of_slot one) (polls_of_slots slots))
    ∙ picked_both n (ends_in (polls_of_slot one)) (ends_in (polls_of_slots slots)))
    (in_slot n slots given slot) h

in_session : (n : ℕ) (slot : Slot)
    → length (pick n (ends_in (polls_on_present slot.device slot.present))) ≤ length (pick n (ends_in (polls_of_slot slot)))
in_session n slot =
    let both = ap (λ es. length (pick n es)) (ends_both (polls_on_present slot.device slot.present) (polls_on_ended slot.device slot.ended))
    ∙ picked_both n (ends_in (polls_on_present slot.device slot.present)) (ends_in (polls_on_ended slot.device slot.ended)) in
    omega (arith, both)

recorded_of : (facts : List Fact) (slots : List Slot) → Agree facts slots → (n : ℕ)
    → length (ends_of facts n) ≡ length (pick n (ends_in (polls_of_slots slots)))
recorded_of facts slots agree n =
    sym (length-map (ends_of facts n) (λ (end : EndedPoll). end.outcome)) ∙ ap length (ends_are facts n)
    ∙ picked-IsPermutation n (recorded facts) (ends_in (polls_of_slots slots)) agree.ended

one_there : (m : ℕ) (o : Outcome) (xs : List (ℕ × Outcome)) → 1 ≤ length (pick m ((m, o) ∷ xs))
one_there m o xs =
    let is : length (pick m ((m, o) ∷ xs)) ≡ suc (length (pick m xs)) =
    ap (λ b. length (cons_option (cond b (Some o) None) (pick m xs))) (eq-eqb m m refl) in
    omega (arith, is)

more_step : (b : Bool) (o : Outcome) (ys : List Outcome) → length ys ≤ length (cons_option (cond b (Some o) None) ys)
more_step true o ys = omega arith
more_step false o ys = omega arith

open_step : (b : Bool) (m : ℕ) (xs : List ℕ) (k : ℕ) → length xs ≤ k → length (cond b (m ∷ xs) xs) ≤ suc k
open_step true m xs k h = omega (arith, h)
open_step false m xs k h = omega (arith, h)

open_wait : (test : ℕ → Bool) (polls : List Ended) → ((n : ℕ) → 1 ≤ length (pick n (ends_in polls)) → test n ≡ false)
    → length (filter test (numbers_in polls)) ≤ length (waiting_in polls)
open_wait test [] ended = omega arith
open_wait test ((m, None) ∷ polls) ended =
    open_step (test m) m (filter test (numbers_in polls)) (length (waiting_in polls)) (open_wait test polls ended)
open_wait test ((m, Some o) ∷ polls) ended =
    let rest = open_wait test polls (λ n some.
    ended n (let more = more_step (m == n) o (pick n (ends_in polls)) in omega (arith, more, some))) in
    let none = ap length (cond-false (test m) (m ∷ filter test (numbers_in polls)) (filter test (numbers_in polls)) (ended m (one_there m o (ends_in polls)))) in
    omega (arith, rest, none)

closed_if : (n : ℕ) → 1 ≤ n → (n == 0) ≡ false
closed_if n h = ne_eqb n 0 (λ e. absurd (omega (arith, h, e)))

pub few_open : (facts : List Fact) (slots : List Slot) (given : Option (List ℕ)) (slot : Slot) → Agree facts slots → slot_of slots given ≡ Some slot
    → length (filter (is_open facts) (numbers_of_slot slot)) ≤ length (waiting_in (polls_on_present slot.device slot.present))
few_open facts slots given slot agree found =
    open_wait (is_open facts) (polls_on_present slot.device slot.present)
    (λ n some. closed_if (length (ends_of facts n))
    (let all = recorded_of facts slots agree n in
    let here = in_slot n slots given slot found in
    let its = in_session n slot in
    omega (arith, all, here, its, some)))

pub few_wait : (device : Device) (present : Option (List session.Event)) (events : List session.Event) → present ≡ Some events
    → length (waiting_in (polls_on_present device present)) ≡ length (pending device.timeout events)
few_wait device present events is =
    ap (λ p. length (waiting_in (polls_on_present device p))) is ∙ ap length (waiting_on device events)
    ∙ length-map (pending device.timeout events) (λ p. p.number)
