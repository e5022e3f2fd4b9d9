-- Properties of an accepted start of Modbus reads. It starts at least one read, and at most as many
-- as the device accepts at a time. Its polls get the next poll numbers.
use Rattle.std.proofs.Common.{◌≡◌, ◌⊎◌, inl, inr, ℕ, zero, suc, ◌+◌, ◌<◌, ◌≤◌, ◌==◌, nat_le, nat_lt, not, ◌||◌, Bool, true, false, cond, List, [], ◌∷◌, ◌++◌, length, map, reverse, Option, Some, None, refl, sym, ap, ◌∙◌, subst, arith, append_assoc}
use Rattle.std.specs.List.{filter}
use Rattle.std.specs.Option.{is_none}
use Rattle.std.proofs.lemmas.Bool.{cases_lt, cond-true, leb-false, ltb-false, not-false, or_parts}
use Rattle.std.proofs.lemmas.List.{length-append, length-map, length-drop}
use Rattle.std.proofs.lemmas.List.Sorted.{length_permutation}
use Rattle.mb_wire.specs.declared.span.ReadSpan.{ReadSpan}
use Rattle.mb_wire.specs.Spans.{span_view}
use Rattle.poll_core.specs.Settling as session
use Rattle.poll_core.specs.Settling.{pending}
use Rattle.poll_core.specs.declared.answers.StartFault.{StartFault}
use Rattle.poll_core.specs.declared.answers.StartFault.TheVariants.{WindowFull}
use Rattle.poll_core.proofs.Pending.{pending-start}
use Rattle.office_events.specs.declared.commands.Command.TheVariants as command
use Rattle.office_events.specs.declared.commands.StartRound.{StartRound}
use Rattle.office_events.specs.declared.events.Event.TheVariants as event
use Rattle.office_events.specs.declared.facts.Device.{Device}
use Rattle.office_events.specs.declared.facts.Fact.{Fact}
use Rattle.office_events.specs.declared.facts.Fact.TheVariants as fact
use Rattle.office_events.specs.declared.facts.Poll.{Poll}
use Rattle.office_books.specs.Facts.{devices_in, ends_of, is_named, poll_limit, polls_in}
use Rattle.office_books.specs.History.{History, added_by, facts_of, next_poll, reads_of, round_spans, sends_by, slots_of, spans_by}
use Rattle.office_books.specs.Lawful.{AreLawful}
use Rattle.office_books.specs.PollEndings.{AreNumbered}
use Rattle.office_books.specs.Refusals.{asks_bad_field, asks_beyond, asks_faulty, can_start, is_crowded, is_ready, refusal_of, sent_count}
use Rattle.office_books.specs.Sessions.{Send, Slot, is_startable, sends_on, slot_of, start_by}
use Rattle.energy_core.specs.declared.admission.TermFault.TheVariants as fault
use Rattle.read_plan.specs.PlannedLists.{Planned}
use Rattle.office_books.proofs.DeviceSlots.{devices_on}
use Rattle.office_books.proofs.Happenings.{sent_numbers}
use Rattle.office_books.proofs.LawfulChanges.{not_refused}
use Rattle.office_books.proofs.Lists.{reverse_cons}
use Rattle.office_books.proofs.StartedPolls.{command_adds, numbers}
use Rattle.office_program.specs.Polling.{from_on}

-- The conditions under which the office (the event engine) accepts a start of Modbus reads, such as
-- a connected device and a read that remains.
pub record CanStart (history : History) (at : ℕ) (c : StartRound) : Type 0 where
  pub slot : Slot
  pub before : List session.Event
  pub found : slot_of (slots_of history) c.device ≡ Some slot
  pub present : slot.present ≡ Some before
  pub ready : is_startable slot.device (Some before) ≡ true
  pub some : (length (spans_by (facts_of history) (command.StartRound c)) == 0) ≡ false
  pub few : length (polls_in (facts_of history)) + sent_count (slots_of history) (facts_of history) at (command.StartRound c) ≤ poll_limit

on_session : (history : History) (at : ℕ) (c : StartRound) (slot : Slot) (present : Option (List session.Event)) → slot.present ≡ present
    → slot_of (slots_of history) c.device ≡ Some slot → is_startable slot.device present ≡ true
    → (length (spans_by (facts_of history) (command.StartRound c)) == 0) ≡ false
    → length (polls_in (facts_of history)) + sent_count (slots_of history) (facts_of history) at (command.StartRound c) ≤ poll_limit
    → CanStart history at c
on_session history at c slot None is found ready some few = absurd (cc)
on_session history at c slot (Some before) is found ready some few =
    record { slot = slot; before = before; found = found; present = is; ready = ready; some = some; few = few }

on_slot : (history : History) (at : ℕ) (c : StartRound) (o : Option Slot) → slot_of (slots_of history) c.device ≡ o → is_ready o ≡ true
    → (length (spans_by (facts_of history) (command.StartRound c)) == 0) ≡ false
    → length (polls_in (facts_of history)) + sent_count (slots_of history) (facts_of history) at (command.StartRound c) ≤ poll_limit
    → CanStart history at c
on_slot history at c None found ready some few = absurd (cc)
on_slot history at c (Some slot) found ready some few = on_session history at c slot slot.present refl found ready some few

pub can_be_started : (history : History) (at : ℕ) (c : StartRound) → refusal_of history at (event.Command (command.StartRound c)) ≡ None
    → CanStart history at c
can_be_started history at c h =
    let slots = slots_of history in
    let facts = facts_of history in
    let all = not_refused history at (event.Command (command.StartRound c)) h in
    let busy : not (can_start slots c.device) ≡ false = all.1.1.1.1.1.1.1.1.1.0 in
    let limit = or_parts (nat_lt 4102444800 at) (asks_beyond slots facts at (command.StartRound c)) all.1.1.1.1.1.1.1.1.1.1.0 in
    let beyond = or_parts (asks_bad_field at (command.StartRound c) || is_crowded slots facts (command.StartRound c))
    (asks_faulty facts at fault.NotBelowRange (command.StartRound c)) limit.1 in
    let crowded = or_parts (asks_bad_field at (command.StartRound c)) (is_crowded slots facts (command.StartRound c)) beyond.0 in
    let few : nat_lt poll_limit (length (polls_in facts) + sent_count slots facts at (command.StartRound c)) ≡ false =
    all.1.1.1.1.1.1.1.1.1.1.1.1.1.1.1.1.1.1.1.1.0 in
    on_slot history at c (slot_of slots c.device) refl (not-false (can_start slots c.device) busy) crowded.1
    (ltb-false poll_limit (length (polls_in facts) + sent_count slots facts at (command.StartRound c)) few)

-- If a start of Modbus reads is accepted, then the event engine sends a Modbus request for at least
-- one read.
pub some_sent : (number at : ℕ) (device : Device) (before : List session.Event) (spans : List ReadSpan) → is_startable device (Some before) ≡ true
    → (length spans == 0) ≡ false → 1 ≤ length (sends_on number at device before spans)
some_sent number at device before [] ready some = absurd (cc)
some_sent number at device before (span ∷ spans) ready some =
    let send : Send = record { number = number; id = session.next_id before; span = span } in
    let later = sends_on (number + 1) at device (before ++ start_by at device send ∷ []) spans in
    let is = ap length (cond-true (is_startable device (Some before)) (send ∷ later) [] ready) in
    omega (arith, is)

few_step : (b : Bool) (send : Send) (later : List Send) (n : ℕ) → length later ≤ n → length (cond b (send ∷ later) []) ≤ suc n
few_step true send later n h = omega (arith, h)
few_step false send later n h = omega arith

pub few_sent : (number at : ℕ) (device : Device) (before : List session.Event) (spans : List ReadSpan)
    → length (sends_on number at device before spans) ≤ length spans
few_sent number at device before [] = omega arith
few_sent number at device before (span ∷ spans) =
    let send : Send = record { number = number; id = session.next_id before; span = span } in
    few_step (is_startable device (Some before)) send (sends_on (number + 1) at device (before ++ start_by at device send ∷ []) spans) (length spans)
    (few_sent (number + 1) at device (before ++ start_by at device send ∷ []) spans)

-- The number of Modbus reads that a point list's plan has from index `from` on is at most the
-- length of the plan minus `from`, or is 0.
pub reads_left : (from : ℕ) (list : Option Planned) → length (round_spans from list) + from ≤ length (round_spans 0 list)
    ⊎ (length (round_spans from list) ≡ 0)
reads_left from None = inr refl
reads_left from (Some list) =
    let reads = reads_of list in
    elim (cases_lt from (length reads)) [
      | inl less ↦ inl (omega (arith, less, length-drop from reads, length-drop 0 reads))
      | inr past ↦ inr (omega (arith, past, length-drop from reads))
    ]

-- The poll numbers of one start of Modbus reads are consecutive.
from_next : (first n : ℕ) → from_on first (suc n) ≡ first ∷ from_on (first + 1) n
from_next first zero = ap (λ k. k ∷ []) (omega arith)
from_next first (suc n) =
    let last : first + suc n ≡ (first + 1) + n = omega arith in
    ap (λ xs. xs ++ (first + suc n) ∷ []) (from_next first n) ∙ ap (λ k. first ∷ (from_on (first + 1) n ++ k ∷ [])) last

numbers_step : (b : Bool) (send : Send) (later : List Send) → sent_numbers later ≡ from_on (send.number + 1) (length later)
    → sent_numbers (cond b (send ∷ later) []) ≡ from_on send.number (length (cond b (send ∷ later) []))
numbers_step true send later h = ap (λ ns. send.number ∷ ns) h ∙ sym (from_next send.number (length later))
numbers_step false send later h = refl

pub sent_from : (number at : ℕ) (device : Device) (before : List session.Event) (spans : List ReadSpan)
    → sent_numbers (sends_on number at device before spans) ≡ from_on number (length (sends_on number at device before spans))
sent_from number at device before [] = refl
sent_from number at device before (span ∷ spans) =
    let send : Send = record { number = number; id = session.next_id before; span = span } in
    numbers_step (is_startable device (Some before)) send (sends_on (number + 1) at device (before ++ start_by at device send ∷ []) spans)
    (sent_from (number + 1) at device (before ++ start_by at device send ∷ []) spans)

-- After a start of Modbus reads, the store has a record of each started poll.
pub polls_more : (at : ℕ) (history : History) (c : StartRound) → AreNumbered (polls_in (facts_of history))
    → length (polls_in (reverse (added_by (next_poll (facts_of history)) at (slots_of history) (facts_of history) (command.StartRound c)) ++ facts_of history))
    ≡ length (polls_in (facts_of history)) + sent_count (slots_of history) (facts_of history) at (command.StartRound c)
polls_more at history c numbered =
    let facts = facts_of history in
    let slots = slots_of history in
    let number = next_poll facts in
    let after = reverse (added_by number at slots facts (command.StartRound c)) ++ facts in
    let sends = sends_by number at slots facts (command.StartRound c) in
    let adds = command_adds at slots facts (command.StartRound c) numbered in
    let same = length_permutation (numbers after) (sent_numbers sends ++ numbers facts) adds.started in
    let both = length-append (sent_numbers sends) (numbers facts) in
    let new = length-map (polls_in after) (λ (poll : Poll). poll.number) in
    let old = length-map (polls_in facts) (λ (poll : Poll). poll.number) in
    let its = length-map sends (λ (send : Send). send.number) in
    omega (arith, same, both, new, old, its)

pub ends_kept : (at : ℕ) (history : History) (c : StartRound) → AreNumbered (polls_in (facts_of history)) → (n : ℕ)
    → ends_of (reverse (added_by (next_poll (facts_of history)) at (slots_of history) (facts_of history) (command.StartRound c)) ++ facts_of history) n
    ≡ ends_of (facts_of history) n
ends_kept at history c numbered n =
    ap (λ es. filter (λ e. e.poll == n) es) (command_adds at (slots_of history) (facts_of history) (command.StartRound c) numbered).ended

-- If a start of Modbus reads is not refused, then the device's window is not full: the device
-- accepts one more pending poll.
has_room : (full : Bool) (others : Option StartFault) → is_none (cond full (Some WindowFull) others) ≡ true → full ≡ false
has_room true others h = absurd (cc)
has_room false others h = refl

room_left : (device : Device) (before : List session.Event) → is_startable device (Some before) ≡ true
    → length (pending device.timeout before) < device.window
room_left device before ready =
    leb-false device.window (length (pending device.timeout before)) (has_room (nat_le device.window (length (pending device.timeout before))) _ ready)

pending_one : (at : ℕ) (device : Device) (before : List session.Event) (send : Send)
    → length (pending device.timeout (before ++ start_by at device send ∷ [])) ≡ length (pending device.timeout before) + 1
pending_one at device before send =
    ap length (pending-start device.timeout before at send.number device.unit (span_view send.span) _ refl)
    ∙ length-append (pending device.timeout before) _

abbrev FitIn : (at : ℕ) → Device → (before : List session.Event) → List Send → Type 0
FitIn at device before sends =
    (length sends ≡ 0) ⊎ (length (pending device.timeout (before ++ map (start_by at device) sends)) ≤ device.window)

fit_more : (at : ℕ) (device : Device) (before : List session.Event) (send : Send) (later : List Send) → is_startable device (Some before) ≡ true
    → FitIn at device (before ++ start_by at device send ∷ []) later → FitIn at device before (send ∷ later)
fit_more at device before send [] ready fit =
    let room = room_left device before ready in
    let more = pending_one at device before send in
    inr (omega (arith, room, more))
fit_more at device before send (one ∷ later) ready (inl none) = absurd (omega (arith, none))
fit_more at device before send (one ∷ later) ready (inr fit) =
    let same = ap (λ es. length (pending device.timeout es)) (append_assoc before (start_by at device send ∷ []) (map (start_by at device) (one ∷ later))) in
    inr (omega (arith, fit, same))

fit_step : (b : Bool) (at : ℕ) (device : Device) (before : List session.Event) (send : Send) (later : List Send) → is_startable device (Some before) ≡ b
    → FitIn at device (before ++ start_by at device send ∷ []) later → FitIn at device before (cond b (send ∷ later) [])
fit_step true at device before send later ready fit = fit_more at device before send later ready fit
fit_step false at device before send later ready fit = inl refl

pub sends_fit : (number at : ℕ) (device : Device) (before : List session.Event) (spans : List ReadSpan)
    → FitIn at device before (sends_on number at device before spans)
sends_fit number at device before [] = inl refl
sends_fit number at device before (span ∷ spans) =
    let send : Send = record { number = number; id = session.next_id before; span = span } in
    fit_step (is_startable device (Some before)) at device before send (sends_on (number + 1) at device (before ++ start_by at device send ∷ []) spans) refl
    (sends_fit (number + 1) at device (before ++ start_by at device send ∷ []) spans)

-- True if each device accepts at most 16 pending polls at a time (its window).
abbrev AreNarrow : List Device → Type 0
AreNarrow [] = Unit {0}
AreNarrow (device ∷ devices) = (device.window ≤ 16) × AreNarrow devices

narrow : (facts : List Fact) → AreLawful facts → AreNarrow (devices_in facts)
narrow [] lawful = tt
narrow (fact.Device device ∷ facts) lawful = (lawful.0.0.window.1, narrow facts lawful.1)
narrow (f ∷ facts) lawful = narrow facts lawful.1

narrow_both : (xs ys : List Device) → AreNarrow xs → AreNarrow ys → AreNarrow (xs ++ ys)
narrow_both [] ys h k = k
narrow_both (x ∷ xs) ys h k = (h.0, narrow_both xs ys h.1 k)

narrow_turned : (xs : List Device) → AreNarrow xs → AreNarrow (reverse xs)
narrow_turned [] h = tt
narrow_turned (x ∷ xs) h =
    subst AreNarrow (sym (reverse_cons x xs)) (narrow_both (reverse xs) (x ∷ []) (narrow_turned xs h.1) (h.0, tt))

narrow_step : (b : Bool) (one slot : Slot) (later : Option Slot) → one.device.window ≤ 16 → (later ≡ Some slot → slot.device.window ≤ 16)
    → cond b (Some one) later ≡ Some slot → slot.device.window ≤ 16
narrow_step true one slot later here rest h =
    let same : one ≡ slot = cc in subst (λ (s : Slot). s.device.window ≤ 16) same here
narrow_step false one slot later here rest h = rest h

narrow_slot : (slots : List Slot) (given : Option (List ℕ)) (slot : Slot) → AreNarrow (devices_on slots) → slot_of slots given ≡ Some slot
    → slot.device.window ≤ 16
narrow_slot [] given slot h found = absurd (cc)
narrow_slot (one ∷ slots) given slot h found =
    narrow_step (is_named given one.device.name) one slot (slot_of slots given) h.0 (narrow_slot slots given slot h.1) found

pub narrow_found : (slots : List Slot) (facts : List Fact) (given : Option (List ℕ)) (slot : Slot) → devices_on slots ≡ reverse (devices_in facts)
    → AreLawful facts → slot_of slots given ≡ Some slot → slot.device.window ≤ 16
narrow_found slots facts given slot same lawful found =
    narrow_slot slots given slot (subst AreNarrow (sym same) (narrow_turned (devices_in facts) (narrow facts lawful))) found
