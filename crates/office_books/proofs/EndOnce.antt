-- The proof that each poll ends once, by induction over the accepted events. After each event, the
-- recorded polls and outcomes are those of the sessions, the connections of the devices.
use Rattle.std.proofs.Common.{◌≡◌, ℕ, ◌≤◌, ◌==◌, Bool, true, false, cond, List, [], ◌∷◌, ◌++◌, length, map, reverse, refl, sym, ap, subst, ◌∙◌, arith, Option, Some, None, is_some}
use Rattle.std.specs.List.{filter, flat_map}
use Rattle.std.proofs.lemmas.Bool.{cond-false, or_parts}
use Rattle.std.specs.Option.{option_to_list}
use Rattle.std.specs.List.Sorted.{IsPermutation}
use Rattle.std.proofs.lemmas.List.{append-nil, length-map}
use Rattle.std.proofs.lemmas.List.Concat.{flat_map-append}
use Rattle.std.proofs.lemmas.List.Sorted.{IsPermutation-refl, IsPermutation-sym, IsPermutation-trans, IsPermutation-append_left, IsPermutation-append_right, IsPermutation-append_comm, IsPermutation-map, IsPermutation-reverse}
use Rattle.mb_wire.specs.declared.span.ReadSpan.{ReadSpan}
use Rattle.office_events.specs.declared.facts.Device.{Device}
use Rattle.office_events.specs.declared.facts.Poll.{Poll}
use Rattle.office_events.specs.declared.facts.EndedPoll.{EndedPoll}
use Rattle.office_events.specs.declared.facts.Fact.{Fact}
use Rattle.office_events.specs.declared.events.Asked.{Asked}
use Rattle.office_events.specs.declared.events.Event.{Event}
use Rattle.office_events.specs.declared.events.Event.TheVariants as event
use Rattle.office_events.specs.declared.commands.AddDevice.{AddDevice}
use Rattle.office_events.specs.declared.commands.Command.{Command}
use Rattle.office_events.specs.declared.commands.Command.TheVariants as command
use Rattle.office_events.specs.declared.refusals.Refusal.TheVariants as refusal
use Rattle.office_books.specs.Facts.{is_named, polls_in, ends_of, pending_in}
use Rattle.office_books.specs.Sessions.{connects, Slot, slot_of, slot_after, slot_restarted, slots_after, new_slot, device_by}
use Rattle.office_books.specs.History.{History, Opened, Fed, next_poll, facts_of, slots_of, spans_by, added_by, reply_by, with_settled, with_lost, lost}
use Rattle.office_books.specs.Refusals.{AreAccepted, refuses, asks_taken, is_bad_request}
use Rattle.office_books.specs.PollEndings.{polls_of_slots, outcome_in, pending_on, AreNumbered, PollsEndOnce}
use Rattle.office_books.proofs.Permutations.{same_is, IsPermutation-filter, IsPermutation-filter_map, short_is}
use Rattle.office_books.proofs.SessionLaws.{SessionLaws}
use Rattle.office_books.proofs.EndedPolls.{numbers_in, ends_in, waiting_in, times, is_of, pick, times-IsPermutation, picked-IsPermutation, times_split, numbered_once, picked_is, waiting_by}
use Rattle.office_books.proofs.EndedFacts.{recorded, as_end, settled_on_all, polls-with_settled, recorded-with_settled, ends_are}
use Rattle.office_books.proofs.LostPolls.{is_pending, left_in, with_lost_is, polls-lost, recorded-lost, lost_end, filter-reverse}
use Rattle.office_books.proofs.EndedSlots.{AreFree, new_by, ends-after, numbers-after}
use Rattle.office_books.proofs.OverSlots.{AreOver, waiting_slots, over-after, over-restarted, ends-restarted, numbers-restarted}
use Rattle.office_books.proofs.ApartSlots.{not_found_if, AreApart, apart-map, apart-push, device-after, device-restarted, find_never, free_other, free_connected}
use Rattle.office_books.proofs.QuietEvents.{NoneNew, connects_start, bytes_start, ticks_start, ends_start, connects_settle, IsPassed, passed}
use Rattle.office_books.proofs.QuietFacts.{AreQuiet, later_part_first, quiet_polls, quiet_ends, quiet_reply}
use Rattle.office_books.proofs.StartedPolls.{numbers, command_adds, commands_settle, new_sent}

-- True if the recorded polls and outcomes are those of the Modbus sessions, in any order. In
-- addition, no poll is pending in an ended session, and no two devices have the same name.
pub record Agree (facts : List Fact) (slots : List Slot) : Type 0 where
  pub numbered : AreNumbered (polls_in facts)
  pub started : IsPermutation (numbers facts) (numbers_in (polls_of_slots slots))
  pub ended : IsPermutation (recorded facts) (ends_in (polls_of_slots slots))
  pub over : AreOver slots
  pub apart : AreApart slots

-- If the recorded polls are those of the Modbus sessions, then each poll number occurs at most once
-- on the sessions of all devices.
once_on : (facts : List Fact) (slots : List Slot) → Agree facts slots → (n : ℕ) → times n (numbers_in (polls_of_slots slots)) ≤ 1
once_on facts slots h n =
    let e = times-IsPermutation n (numbers facts) (numbers_in (polls_of_slots slots)) h.started in
    let l = numbered_once n (polls_in facts) h.numbered in
    omega arith

-- If `f` maps `xs` to `ys`, it still does after an element is added to `xs` and its image to `ys`.
-- The same holds if nothing is added.
filter-map_step : {X Y : Type 0} (f : X → Y) (b : Bool) (x : X) (xs : List X) (ys : List Y) → map f xs ≡ ys → map f (cond b (x ∷ xs) xs) ≡ cond b (f x ∷ ys) ys
filter-map_step f true x xs ys e = ap (λ zs. f x ∷ zs) e
filter-map_step f false x xs ys e = e

filter-map : {X Y : Type 0} (t : Y → Bool) (f : X → Y) (xs : List X) → map f (filter (λ x. t (f x)) xs) ≡ filter t (map f xs)
filter-map t f [] = refl
filter-map t f (x ∷ xs) = filter-map_step f (t (f x)) x (filter (λ y. t (f y)) xs) (filter t (map f xs)) (filter-map t f xs)

left_waiting : (facts : List Fact) (slots : List Slot) → Agree facts slots → IsPermutation (map (λ poll. poll.number) (left_in facts)) (flat_map pending_on slots)
left_waiting facts slots h =
    let polls = polls_of_slots slots in
    let t : ℕ → Bool = λ n. length (ends_of facts n) == 0 in
    let test : (n : ℕ) → t n ≡ (length (pick n (ends_in polls)) == 0) =
    λ n. ap (λ k. k == 0)
    (sym (length-map (ends_of facts n) (λ (end : EndedPoll). end.outcome)) ∙ ap length (ends_are facts n) ∙ picked-IsPermutation n (recorded facts) (ends_in polls) h.ended) in
    IsPermutation-trans _ _ _ (same_is _ _ (filter-map t (λ (poll : Poll). poll.number) (polls_in facts)))
    (IsPermutation-trans _ _ _ (IsPermutation-filter t (numbers facts) (numbers_in polls) h.started)
    (same_is _ _
    (waiting_by t (λ n. length (pick n (ends_in polls))) (λ n. times n (waiting_in polls))
    (λ n. let s = times_split n polls in let o = once_on facts slots h n in omega arith)
    test polls (λ n. omega arith) (λ n. omega arith)
    ∙ waiting_slots slots h.over)))

-- True if the polls and outcomes that an event adds to the records are those that the event starts
-- and ends on the Modbus sessions.
record Adds (number at : ℕ) (spans : List ReadSpan) (e : Event) (slots : List Slot) (facts after : List Fact) : Type 0 where
  numbered : AreNumbered (polls_in after)
  started : IsPermutation (numbers after) (flat_map (new_by number at spans e) slots ++ numbers facts)
  ended : IsPermutation (recorded after) (map as_end (settled_on_all number at e slots) ++ recorded facts)

no_polls : (ps qs : List Slot) → polls_of_slots qs ≡ [] → polls_of_slots (ps ++ qs) ≡ polls_of_slots ps
no_polls ps qs none = flat_map-append _ ps qs ∙ ap (λ xs. polls_of_slots ps ++ xs) none ∙ append-nil _

agree_after : (laws : SessionLaws) (number at : ℕ) (spans : List ReadSpan) (e : Event) (facts after : List Fact) (slots added : List Slot) → Agree facts slots → AreFree e slots → Adds number at spans e slots facts after
    → polls_of_slots added ≡ [] → AreOver (map (slot_after number at spans e) slots ++ added) → AreApart (map (slot_after number at spans e) slots ++ added)
    → Agree after (map (slot_after number at spans e) slots ++ added)
agree_after laws number at spans e facts after slots added h free adds none over apart =
    let moved = map (slot_after number at spans e) slots in
    let new = flat_map (new_by number at spans e) slots in
    let settled = map as_end (settled_on_all number at e slots) in
    let polls = polls_of_slots slots in
    let same : polls_of_slots (moved ++ added) ≡ polls_of_slots moved = no_polls moved added none in
    record {
      numbered = adds.numbered;
      started =
          IsPermutation-trans _ _ _ adds.started
          (IsPermutation-trans _ _ _ (IsPermutation-append_right new (numbers facts) (numbers_in polls) h.started)
          (IsPermutation-trans _ _ _ (IsPermutation-append_comm new (numbers_in polls))
          (IsPermutation-trans _ _ _ (IsPermutation-sym _ _ (numbers-after laws number at spans e slots free))
          (same_is _ _ (ap numbers_in (sym same))))));
      ended =
          IsPermutation-trans _ _ _ adds.ended
          (IsPermutation-trans _ _ _ (IsPermutation-append_right settled (recorded facts) (ends_in polls) h.ended)
          (IsPermutation-trans _ _ _ (IsPermutation-append_comm settled (ends_in polls))
          (IsPermutation-trans _ _ _ (IsPermutation-sym _ _ (ends-after laws number at spans e slots free))
          (same_is _ _ (ap ends_in (sym same))))));
      over = over;
      apart = apart;
    }

nothing_over : (slots : List Slot) → AreOver slots → AreOver (slots ++ [])
nothing_over slots h = let P : List Slot → Type 0 = AreOver in subst P (sym (append-nil slots)) h

nothing_apart : (slots : List Slot) → AreApart slots → AreApart (slots ++ [])
nothing_apart slots h = let P : List Slot → Type 0 = AreApart in subst P (sym (append-nil slots)) h

-- If the recorded polls and outcomes are those of the Modbus sessions, then they still are after an
-- event that adds no device.
agree_same : (laws : SessionLaws) (number at : ℕ) (spans : List ReadSpan) (e : Event) (facts after : List Fact) (slots : List Slot) → Agree facts slots → AreFree e slots → Adds number at spans e slots facts after
    → Agree after (map (slot_after number at spans e) slots ++ [])
agree_same laws number at spans e facts after slots h free adds =
    agree_after laws number at spans e facts after slots [] h free adds refl
    (nothing_over _ (over-after laws number at spans e slots h.over)) (nothing_apart _ (apart-map (slot_after number at spans e) (device-after number at spans e) slots h.apart))

-- If an event starts and ends no poll and adds no record, the records gain the polls and outcomes
-- that the Modbus sessions gain: none.
adds_none : (number at : ℕ) (e : Event) (facts : List Fact) (slots : List Slot) → AreNumbered (polls_in facts) → settled_on_all number at e slots ≡ [] → NoneNew number at e slots
    → Adds number at [] e slots facts facts
adds_none number at e facts slots numbered quiet none = record {
  numbered = numbered;
  started = same_is _ _ (ap (λ ns. ns ++ numbers facts) (sym none));
  ended = same_is _ _ (ap (λ s. map as_end s ++ recorded facts) (sym quiet));
}

-- Suppose that an event starts no poll, and adds to the records only the outcomes and readings of
-- the polls that it ends. Then it satisfies `Adds`: the records gain the polls and outcomes that
-- the Modbus sessions gain.
adds_settled : (number at : ℕ) (e : Event) (facts : List Fact) (slots : List Slot) → AreNumbered (polls_in facts) → NoneNew number at e slots → Adds number at [] e slots facts (with_settled number at e slots facts)
adds_settled number at e facts slots numbered none =
    let P : List Poll → Type 0 = AreNumbered in
    let polls = polls-with_settled number at e slots facts in
    record {
      numbered = subst P (sym polls) numbered;
      started = same_is _ _ (ap (λ (ps : List Poll). map (λ poll. poll.number) ps) polls ∙ ap (λ ns. ns ++ numbers facts) (sym none));
      ended = recorded-with_settled number at e slots facts;
    }

-- If the recorded polls and outcomes are those of the Modbus sessions, then they still are after an
-- event that ends polls and starts none.
agree_settled : (laws : SessionLaws) (number at : ℕ) (e : Event) (facts : List Fact) (slots : List Slot) → Agree facts slots → ((device : Device) → connects e device ≡ false) → NoneNew number at e slots
    → Agree (with_settled number at e slots facts) (map (slot_after number at [] e) slots ++ [])
agree_settled laws number at e facts slots h never none =
    agree_same laws number at [] e facts (with_settled number at e slots facts) slots h (free_other e never slots) (adds_settled number at e facts slots h.numbered none)

-- If no poll is pending (without an outcome) in an ended Modbus session, then no poll is pending in
-- an ended session after a device is added.
over-push : (slots : List Slot) (device : Device) → AreOver slots → AreOver (slots ++ (record { device = device; ended = []; present = None }) ∷ [])
over-push [] device h = (refl, tt)
over-push (slot ∷ slots) device h = (h.0, over-push slots device h.1)

slot_of-map : (f : Slot → Slot) → ((slot : Slot) → (f slot).device ≡ slot.device) → (name : List ℕ) (slots : List Slot) → slot_of slots (Some name) ≡ None → slot_of (map f slots) (Some name) ≡ None
slot_of-map f keeps name [] h = refl
slot_of-map f keeps name (slot ∷ slots) h =
    let parts = not_found_if (is_named (Some name) slot.device.name) slot (slot_of slots (Some name)) h in
    cond-false _ _ _ (ap (λ (d : Device). is_named (Some name) d.name) (keeps slot) ∙ parts.0) ∙ slot_of-map f keeps name slots parts.1

absent : (o : Option Slot) → is_some o ≡ false → o ≡ None
absent None h = refl
absent (Some slot) h = cc

apart_new : (unit timeout window : ℕ) (name : Option (List ℕ)) (slots : List Slot) → AreApart slots → slot_of slots name ≡ None
    → AreApart (slots ++ new_slot (device_by (record { name = name; unit = unit; timeout = timeout; window = window })))
apart_new unit timeout window None slots h unknown = nothing_apart slots h
apart_new unit timeout window (Some name) slots h unknown =
    let device : Device = record { name = name; unit = unit; timeout = timeout; window = window } in
    apart-push slots (record { device = device; ended = []; present = None }) h unknown

over_new : (o : Option Device) (slots : List Slot) → AreOver slots → AreOver (slots ++ new_slot o)
over_new None slots h = nothing_over slots h
over_new (Some device) slots h = over-push slots device h

new_reports_none : (o : Option Device) → polls_of_slots (new_slot o) ≡ []
new_reports_none None = refl
new_reports_none (Some device) = refl

unknown_after : (number at : ℕ) (spans : List ReadSpan) (e : Event) (name : Option (List ℕ)) (slots : List Slot) → is_some (slot_of slots name) ≡ false
    → slot_of (map (slot_after number at spans e) slots) name ≡ None
unknown_after number at spans e None slots h = find_never (map (slot_after number at spans e) slots)
unknown_after number at spans e (Some name) slots h =
    slot_of-map (slot_after number at spans e) (device-after number at spans e) name slots (absent _ h)

-- The records of the store after a command's records are added.
abbrev commanded : (at : ℕ) → List Slot → List Fact → Command → List Fact
commanded at slots facts c = reverse (added_by (next_poll facts) at slots facts c) ++ facts

command_agrees : (at : ℕ) (slots : List Slot) (facts : List Fact) (c : Command) → Agree facts slots
    → Adds (next_poll facts) at (spans_by facts c) (event.Command c) slots facts (commanded at slots facts c)
command_agrees at slots facts c h =
    let adds = command_adds at slots facts c h.numbered in
    record {
      numbered = adds.numbered;
      started = IsPermutation-trans _ _ _ adds.started
          (same_is _ _ (ap (λ ns. ns ++ numbers facts) (sym (new_sent (next_poll facts) at (spans_by facts c) c slots h.apart))));
      ended = same_is _ _ (ap (λ (es : List EndedPoll). map (λ end. (end.poll, end.outcome)) es) adds.ended
          ∙ ap (λ s. map as_end s ++ recorded facts) (sym (commands_settle (next_poll facts) at c slots)));
    }

agree_added : (laws : SessionLaws) (at : ℕ) (slots : List Slot) (facts : List Fact) (c : AddDevice) → Agree facts slots → is_some (slot_of slots c.name) ≡ false
    → let e : Event = event.Command (command.AddDevice c) in
    Agree (commanded at slots facts (command.AddDevice c)) (map (slot_after (next_poll facts) at [] e) slots ++ new_slot (device_by c))
agree_added laws at slots facts c h new =
    let e : Event = event.Command (command.AddDevice c) in
    let number = next_poll facts in
    let moved = map (slot_after number at [] e) slots in
    agree_after laws number at [] e facts (commanded at slots facts (command.AddDevice c)) slots (new_slot (device_by c)) h (free_other e (λ d. refl) slots)
    (command_agrees at slots facts (command.AddDevice c) h) (new_reports_none (device_by c))
    (over_new (device_by c) moved (over-after laws number at [] e slots h.over))
    (apart_new c.unit c.timeout c.window c.name moved (apart-map (slot_after number at [] e) (device-after number at [] e) slots h.apart)
    (unknown_after number at [] e c.name slots new))

agree_commanded : (laws : SessionLaws) (at : ℕ) (slots : List Slot) (facts : List Fact) (c : Command) → Agree facts slots → asks_taken slots facts c ≡ false
    → Agree (commanded at slots facts c) (slots_after (next_poll facts) at (spans_by facts c) (event.Command c) slots)
agree_commanded laws at slots facts (command.AddDevice c) h new = agree_added laws at slots facts c h new
agree_commanded laws at slots facts c h new =
    agree_same laws (next_poll facts) at (spans_by facts c) (event.Command c) facts (commanded at slots facts c) slots h
    (free_other (event.Command c) (λ d. refl) slots) (command_agrees at slots facts c h)

-- Suppose that the recorded polls and outcomes are those of the Modbus sessions. If no added record
-- concerns a poll, then they still are. A stored response is an example of such a record.
agree_quiet : (added facts : List Fact) (slots : List Slot) → Agree facts slots → AreQuiet added → Agree (reverse added ++ facts) slots
agree_quiet added facts slots h quiet =
    let P : List Poll → Type 0 = AreNumbered in
    let polls = quiet_polls added facts quiet in
    let ends = quiet_ends added facts quiet in
    record {
      numbered = subst P (sym polls) h.numbered;
      started = IsPermutation-trans _ _ _ (same_is _ _ (ap (λ (ps : List Poll). map (λ poll. poll.number) ps) polls)) h.started;
      ended = IsPermutation-trans _ _ _ (same_is _ _ (ap (λ (es : List EndedPoll). map (λ end. (end.poll, end.outcome)) es) ends)) h.ended;
      over = h.over;
      apart = h.apart;
    }

agree_replied : (added replies facts : List Fact) (slots : List Slot) → Agree (reverse added ++ facts) slots → AreQuiet replies
    → Agree (reverse (added ++ replies) ++ facts) slots
agree_replied added replies facts slots h quiet =
    let P : List Fact → Type 0 = λ fs. Agree fs slots in
    subst P (sym (later_part_first added replies facts)) (agree_quiet replies (reverse added ++ facts) slots h quiet)

agree_asked : (laws : SessionLaws) (at : ℕ) (slots : List Slot) (facts : List Fact) (asked : Asked) → Agree facts slots → asks_taken slots facts asked.command ≡ false
    → Agree (reverse (added_by (next_poll facts) at slots facts asked.command ++ reply_by at asked) ++ facts)
    (slots_after (next_poll facts) at (spans_by facts asked.command) (event.Asked asked) slots)
agree_asked laws at slots facts asked h new =
    agree_replied (added_by (next_poll facts) at slots facts asked.command) (reply_by at asked) facts _
    (agree_commanded laws at slots facts asked.command h new) (quiet_reply at asked)

-- If the recorded polls and outcomes are those of the Modbus sessions, then they still are after
-- the program restarts.
agree_opened : (at : ℕ) (facts : List Fact) (slots : List Slot) → Agree facts slots → Agree (with_lost at facts) (map slot_restarted slots)
agree_opened at facts slots h =
    let left = left_in facts in
    let after = map (lost at) left ++ facts in
    let P : List Poll → Type 0 = AreNumbered in
    let polls : polls_in after ≡ polls_in facts = polls-lost at left facts in
    let F : List Fact → Type 0 = λ fs. Agree fs (map slot_restarted slots) in
    let waits = map lost_end (flat_map pending_on slots) in
    subst F (sym (with_lost_is at facts)) record {
      numbered = subst P (sym polls) h.numbered;
      started = IsPermutation-trans _ _ _ (same_is _ _ (ap (λ (ps : List Poll). map (λ poll. poll.number) ps) polls))
          (IsPermutation-trans _ _ _ h.started (same_is _ _ (sym (numbers-restarted slots))));
      ended =
          IsPermutation-trans _ _ _ (same_is _ _ (recorded-lost at left facts))
          (IsPermutation-trans _ _ _ (IsPermutation-append_left (recorded facts) (map lost_end (map (λ poll. poll.number) left)) waits (IsPermutation-map lost_end (map (λ poll. poll.number) left) (flat_map pending_on slots) (left_waiting facts slots h)))
          (IsPermutation-trans _ _ _ (IsPermutation-append_right waits (recorded facts) (ends_in (polls_of_slots slots)) h.ended)
          (IsPermutation-trans _ _ _ (IsPermutation-append_comm waits (ends_in (polls_of_slots slots)))
          (IsPermutation-sym _ _ (ends-restarted slots)))));
      over = over-restarted slots h.over;
      apart = apart-map slot_restarted device-restarted slots h.apart;
    }

agree_fed : (laws : SessionLaws) (past : History) (at : ℕ) (e : Event) → Agree (facts_of past) (slots_of past) → IsPassed (refuses past at e)
    → Agree (facts_of (Fed at e ∷ past)) (slots_of (Fed at e ∷ past))
agree_fed laws past at (event.Connected given) h p =
    let number = next_poll (facts_of past) in
    let e : Event = event.Connected given in
    agree_same laws number at [] e (facts_of past) (facts_of past) (slots_of past) h (free_connected given (slots_of past) h.apart p.busy)
    (adds_none number at e (facts_of past) (slots_of past) h.numbered (connects_settle number at given (slots_of past)) (connects_start number at given (slots_of past)))
agree_fed laws past at (event.Bytes given piece) h p =
    let number = next_poll (facts_of past) in
    agree_settled laws number at (event.Bytes given piece) (facts_of past) (slots_of past) h (λ d. refl) (bytes_start number at given piece (slots_of past))
agree_fed laws past at event.Tick h p =
    let number = next_poll (facts_of past) in
    agree_settled laws number at event.Tick (facts_of past) (slots_of past) h (λ d. refl) (ticks_start number at (slots_of past))
agree_fed laws past at (event.Gone given closing) h p =
    let number = next_poll (facts_of past) in
    agree_settled laws number at (event.Gone given closing) (facts_of past) (slots_of past) h (λ d. refl) (ends_start number at given closing (slots_of past))
agree_fed laws past at (event.Command c) h p = agree_commanded laws at (slots_of past) (facts_of past) c h p.there
agree_fed laws past at (event.Asked asked) h p =
    agree_asked laws at (slots_of past) (facts_of past) asked h
    (or_parts (asks_taken (slots_of past) (facts_of past) asked.command) (is_bad_request asked refusal.Exists) p.there).0

pub all_agree : (laws : SessionLaws) → (history : History) → AreAccepted history → Agree (facts_of history) (slots_of history)
all_agree laws [] accepted = record { numbered = tt; started = IsPermutation-refl []; ended = IsPermutation-refl []; over = tt; apart = tt }
all_agree laws (Opened at ∷ past) accepted = agree_opened at (facts_of past) (slots_of past) (all_agree laws past accepted.1)
all_agree laws (Fed at e ∷ past) accepted = agree_fed laws past at e (all_agree laws past accepted.1) (passed (refuses past at e) accepted.0.right)

-- If the recorded polls and outcomes are those of the Modbus sessions, then the recorded outcomes
-- of a poll number equal the outcomes that follow from the session events.
agreed : (facts : List Fact) (slots : List Slot) → Agree facts slots → (n : ℕ) → map (λ end. end.outcome) (ends_of facts n) ≡ option_to_list (outcome_in slots n)
agreed facts slots h n =
    let polls = polls_of_slots slots in
    let once = once_on facts slots h n in
    let split = times_split n polls in
    ends_are facts n
    ∙ short_is (pick n (recorded facts)) (pick n (ends_in polls)) (IsPermutation-filter_map (is_of n) (recorded facts) (ends_in polls) h.ended) (omega arith)
    ∙ picked_is n polls once

pub end_once : (laws : SessionLaws) → (history : History) → AreAccepted history → PollsEndOnce history
end_once laws history accepted =
    let facts = facts_of history in
    let slots = slots_of history in
    let h = all_agree laws history accepted in
    record {
      numbered = h.numbered;
      started = h.started;
      ended = agreed facts slots h;
      pending =
          IsPermutation-trans _ _ _ (IsPermutation-map (λ (poll : Poll). poll.number) (pending_in facts) (left_in facts)
          (IsPermutation-trans _ _ _ (same_is _ _ (filter-reverse (is_pending facts) (polls_in facts))) (IsPermutation-sym _ _ (IsPermutation-reverse (left_in facts)))))
          (left_waiting facts slots h);
    }
