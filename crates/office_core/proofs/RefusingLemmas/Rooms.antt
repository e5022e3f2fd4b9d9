-- Lemmas about the number of polls that a Modbus session can start now, one after another.
use Rattle.std.proofs.Common.{◌≡◌, ℕ, ◌+◌, ◌<◌, ◌≤◌, min, nat_lt, false, List, [], ◌∷◌, ◌++◌, length, get_or, refl, sym, ap, subst, ◌∙◌, inl, inr, Option, Some, None, append_assoc, arith}
use Rattle.std.specs.Prelude.{IsSome}
use Rattle.std.specs.List.{slice_get}
use Rattle.std.specs.Option.{is_none}
use Rattle.std.proofs.lemmas.Bool.{cases_lt, cond-true, cond-false, lt-ltb, le-ltb}
use Rattle.std.proofs.lemmas.List.{length-append}
use Rattle.mb_wire.specs.declared.span.ReadSpan.{ReadSpan}
use Rattle.poll_core.specs.Settling as session
use Rattle.poll_core.specs.Standing as standing
use Rattle.poll_core.specs.Standing.{last_moment}
use Rattle.poll_core.specs.Starting.{start_fault, AreStarts, IsReady}
use Rattle.office_events.specs.declared.facts.Device.{Device}
use Rattle.office_books.specs.Sessions as sessions
use Rattle.office_books.specs.Sessions.{Send, is_startable, start_by, sends_on, slot_of}
use Rattle.office_books.specs.History.{sends_from}
use Rattle.office_books.specs.Refusals.{is_ready}
use Rattle.office_core.specs.declared.sessions.slots.Slot.{Slot}
use Rattle.office_core.specs.Sessions.Keeping.{KeepsPresent, KeepsSession, KeepsSlots}
use Rattle.office_core.proofs.SessionsLemmas.Keeping.{keeps_at}
use Rattle.office_core.specs.Refusing.Rounds.{HasRoomFor, HasRoomOn}

some_is_none : {X : Type 0} (o : Option X) → IsSome o → is_none o ≡ false
some_is_none None h = absurd (cc)
some_is_none (Some x) h = refl

starts_more : (starts : List session.Event) (send : Send) (at : ℕ) (device : Device) → AreStarts starts → AreStarts (starts ++ start_by at device send ∷ [])
starts_more [] send at device h = (refl, tt)
starts_more (s ∷ starts) send at device h = (h.0, starts_more starts send at device h.1)

abbrev IsReadyFor : Device → List session.Event → (id count : ℕ) → Type 0
IsReadyFor device events id count = IsReady device.timeout device.window events id count

-- Suppose that a Modbus session can start `count` polls, and at most `count` of them were started.
-- It can start another poll if and only if fewer than `count` were started.
startable : (device : Device) (events starts : List session.Event) (id count : ℕ) → IsReadyFor device events id count → AreStarts starts
    → length starts ≤ count → is_startable device (Some (events ++ starts)) ≡ nat_lt (length starts) count
startable device events starts id count ready are few =
    let now : ℕ = last_moment (events ++ starts) in
    elim (cases_lt (length starts) count) [
      | inl lt ↦
          let none : start_fault device.timeout device.window (events ++ starts) now ≡ None = ready.succeed starts now are lt (omega arith) in
          ap (λ o. is_none o) none ∙ sym (lt-ltb (length starts) count lt)
      | inr ge ↦
          some_is_none (start_fault device.timeout device.window (events ++ starts) now) (ready.no_more starts now are (omega (arith, few, ge)))
          ∙ sym (le-ltb (length starts) count ge)
    ]

-- If a Modbus session can start `count` polls, then it starts the first `count` of the given reads,
-- or all reads if there are fewer.
sends_count : (at number : ℕ) (device : Device) (events starts : List session.Event) (id count : ℕ) (spans : List ReadSpan)
    → IsReadyFor device events id count → AreStarts starts → length starts ≤ count
    → length starts + length (sends_on number at device (events ++ starts) spans) ≡ min count (length starts + length spans)
sends_count at number device events starts id count [] ready are few = omega (arith, few)
sends_count at number device events starts id count (span ∷ spans) ready are few =
    let send : Send = record { number = number; id = session.next_id (events ++ starts); span = span } in
    let here : List session.Event = events ++ starts in
    let can : is_startable device (Some here) ≡ nat_lt (length starts) count = startable device events starts id count ready are few in
    elim (cases_lt (length starts) count) [
      | inl lt ↦
          let more : List session.Event = starts ++ start_by at device send ∷ [] in
          let longer : length more ≡ length starts + 1 = length-append starts (start_by at device send ∷ []) in
          let rest = sends_count at (number + 1) device events more id count spans ready (starts_more starts send at device are) (omega (arith, longer, lt)) in
          let same : sends_on (number + 1) at device (events ++ more) spans ≡ sends_on (number + 1) at device (here ++ start_by at device send ∷ []) spans =
          ap (λ (es : List session.Event). sends_on (number + 1) at device es spans) (sym (append_assoc events starts (start_by at device send ∷ []))) in
          let first : sends_on number at device here (span ∷ spans) ≡ send ∷ sends_on (number + 1) at device (here ++ start_by at device send ∷ []) spans =
          cond-true _ _ _ (can ∙ lt-ltb (length starts) count lt) in
          omega (arith, rest, longer, ap length same, ap length first)
      | inr ge ↦
          let first : sends_on number at device here (span ∷ spans) ≡ [] = cond-false _ _ _ (can ∙ le-ltb (length starts) count ge) in
          omega (arith, ap length first, few, ge)
    ]

append_none : {X : Type 0} (xs : List X) → xs ++ [] ≡ xs
append_none [] = refl
append_none (x ∷ xs) = ap (λ ys. x ∷ ys) (append_none xs)

room_after : (device : Device) (events : List session.Event) (id count : ℕ) → IsReadyFor device events id count → HasRoomOn device (Some events) count
room_after device events id count ready = record {
  starts =
      ap (λ (es : List session.Event). is_startable device (Some es)) (sym (append_none events))
      ∙ startable device events [] id count ready tt (omega arith);
  sends = λ number at spans.
      let all = sends_count at number device events [] id count spans ready tt (omega arith) in
      let same = ap (λ (es : List session.Event). length (sends_on number at device es spans)) (append_none events) in
      omega (arith, all, same);
}

-- The Modbus session in memory and the list of its events determine the same number of polls that
-- can be started now, one after another.
pub room_kept : (device : Device) (kept : standing.State) (present : Option (List session.Event)) (id count : ℕ) → KeepsPresent device (Some kept) present
    → ((events : List session.Event) → standing.Stands kept events → IsReady kept.timeout kept.window events id count) → HasRoomOn device present count
room_kept device kept None id count keeps ready = absurd keeps
room_kept device kept (Some events) id count keeps ready =
    let this : KeepsSession device kept events = keeps in
    room_after device events id count
    (subst (λ w. IsReady device.timeout w events id count) this.window
    (subst (λ t. IsReady t kept.window events id count) this.timeout (ready events this.stands)))

-- The number of polls that a device can start equals the number that its Modbus session in memory
-- can start.
pub room_found : (given : Option (List ℕ)) (kept : List Slot) (slots : List sessions.Slot) (i : ℕ) (d : Slot) (count : ℕ)
    → ((device : Device) (present : Option (List session.Event)) → KeepsPresent device (get_or kept i d).session present → HasRoomOn device present count)
    → i < length kept → slot_of slots given ≡ slice_get slots i → KeepsSlots kept slots → HasRoomFor slots given count
room_found given kept slots i d count on inside found keeps =
    let (slot, got, keeps_slot) = keeps_at kept slots i d keeps inside in
    let room = on slot.device slot.present keeps_slot.session in
    record {
      known = ap (λ (o : Option sessions.Slot). is_none o) (found ∙ got);
      starts = ap is_ready (found ∙ got) ∙ room.starts;
      sends = λ number at spans. ap (λ (o : Option sessions.Slot). length (sends_from number at spans o)) (found ∙ got) ∙ room.sends number at spans;
    }
