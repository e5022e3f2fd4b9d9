-- Lemmas on an accepted command that starts polls: its device is connected, the device's Modbus
-- session can start polls, and the next poll number is within its limit.
use Rattle.std.proofs.Common.{◌≡◌, ℕ, ◌+◌, ◌≤◌, Bool, true, false, not, cond, List, [], ◌∷◌, ◌++◌, map, length, get_or, slice_get, slice_set, zero, suc, refl, sym, ap, subst, ◌∙◌, Option, Some, None, Result, OnOk, IfOk, arith}
use Rattle.std.specs.List.{find}
use Rattle.std.specs.Option.{option_and_then}
use Rattle.std.proofs.lemmas.List.{append-nil}
use Rattle.std.proofs.lemmas.Bool.{cond-true, ltb-false, or_parts, false_from_ne_true, both_ways}
use Rattle.std.proofs.lemmas.Slice.Eq.{bytes_eq-Decides}
use Rattle.mb_wire.specs.declared.span.ReadSpan.{ReadSpan}
use Rattle.poll_core.specs.Settling as session
use Rattle.office_events.specs.declared.facts.Fact.{Fact}
use Rattle.office_events.specs.declared.answers.Answer.TheVariants as answers
use Rattle.office_events.specs.declared.commands.Command.{Command}
use Rattle.office_events.specs.declared.commands.Command.TheVariants as command
use Rattle.office_events.specs.declared.events.Event.{Event}
use Rattle.office_events.specs.declared.events.Event.TheVariants as event
use Rattle.office_books.specs.Facts.{same, is_named, poll_limit, polls_in}
use Rattle.office_books.specs.Sessions as sessions
use Rattle.office_books.specs.Sessions.{command_in, slot_of, with_happenings, start_by, sends_on, sends_at}
use Rattle.office_books.specs.History.{History, facts_of, slots_of, next_poll, spans_by, added_by, polls_from, sends_from}
use Rattle.office_books.specs.Notes as notes
use Rattle.office_books.specs.Notes.{frames_from}
use Rattle.office_books.specs.Refusals.{IsAccepted, refuses, is_start, answer_to, reads_in_all, is_ready, sent_count, asks_busy, asks_past_numbers}
use Rattle.office_books.proofs.ApartSlots.{AreApart, NoneNamed, same_eq}
use Rattle.office_books.proofs.QuietEvents.{passed}
use Rattle.office_core.specs.declared.sessions.slots.Slot.{Slot}
use Rattle.office_core.specs.Sessions.Keeping.{KeepsSlot, KeepsSlots}
use Rattle.office_core.specs.Sessions.Moments.{none_later}
use Rattle.office_core.proofs.SessionsLemmas.Moments.{AllBefore}
use Rattle.office_core.specs.Starting.Starts.{sends_of, polls_of, frames_of, slot_sent, sent_from}
use Rattle.office_books.specs.Lawful.{AreLawful}
use Rattle.office_books.specs.declared.faults.BooksFault.{BooksFault}
use Rattle.office_books.specs.Ledgers.{Ledger, Moves, with_facts}
use Rattle.office_core.specs.declared.commands.effects.Done.{Done}
use Rattle.office_core.specs.Commands.Effects.{started_on, slot_obeyed, slots_obeyed, facts_obeyed, Obeys}
use Rattle.office_core.proofs.CommandsLemmas.Carried.{not_named, if_ok, on_ok}

-- True if the command's device is connected, its Modbus session can start polls, and the next poll
-- number is at most 2^62 + 1. An accepted command that starts polls has these properties.
pub record IsBegun (past : History) (at : ℕ) (c : Command) : Type 0 where
  pub ready : is_ready (slot_of (slots_of past) (sessions.started_on c)) ≡ true
  pub few : next_poll (facts_of past) ≤ 4611686018427387905

not_busy : (b : Bool) → not b ≡ false → b ≡ true
not_busy true h = refl
not_busy false h = absurd (cc)

begun_by : (past : History) (at : ℕ) (c : Command) → is_start c ≡ true → asks_busy (slots_of past) c ≡ false
    → asks_past_numbers (slots_of past) (facts_of past) at c ≡ false → IsBegun past at c
begun_by past at (command.AddDevice c) h busy few = absurd (cc)
begun_by past at (command.PutList c) h busy few = absurd (cc)
begun_by past at (command.AddRegister c) h busy few = absurd (cc)
begun_by past at (command.Install c) h busy few = absurd (cc)
begun_by past at (command.Exchange c) h busy few = absurd (cc)
begun_by past at (command.Reset c) h busy few = absurd (cc)
begun_by past at (command.Rescale c) h busy few = absurd (cc)
begun_by past at (command.Manual c) h busy few = absurd (cc)
begun_by past at (command.Close c) h busy few = absurd (cc)
begun_by past at (command.Void c) h busy few = absurd (cc)
begun_by past at (command.StartPoll c) h busy few = record {
  ready = not_busy _ busy;
  few = omega (arith, ltb-false poll_limit (length (polls_in (facts_of past)) + sent_count (slots_of past) (facts_of past) at (command.StartPoll c)) few);
}
begun_by past at (command.StartRound c) h busy few = record {
  ready = not_busy _ busy;
  few = omega (arith, ltb-false poll_limit (length (polls_in (facts_of past)) + sent_count (slots_of past) (facts_of past) at (command.StartRound c)) few);
}

pub begun : (past : History) (at : ℕ) (e : Event) (c : Command) → IsAccepted past at e → command_in e ≡ Some c → is_start c ≡ true → IsBegun past at c
begun past at (event.Connected given) c accepted is h = absurd (cc)
begun past at (event.Bytes given piece) c accepted is h = absurd (cc)
begun past at event.Tick c accepted is h = absurd (cc)
begun past at (event.Gone given closing) c accepted is h = absurd (cc)
begun past at (event.Command own) c accepted is h =
    let same : own ≡ c = cc in
    let p = passed (refuses past at (event.Command own)) accepted.right in
    subst (IsBegun past at) same (begun_by past at own (ap is_start same ∙ h) p.busy p.few)
begun past at (event.Asked asked) c accepted is h =
    let same : asked.command ≡ c = cc in
    let p = passed (refuses past at (event.Asked asked)) accepted.right in
    subst (IsBegun past at) same (begun_by past at asked.command (ap is_start same ∙ h) (or_parts _ false p.busy).0 (or_parts _ false p.few).0)

-- True if the command starts polls on the device in the slot with index `i`. A slot is a device
-- with its session (connection).
pub record StartsOn (slots : List sessions.Slot) (c : Command) (i : ℕ) : Type 0 where
  pub slot : sessions.Slot
  pub found : slot_of slots (sessions.started_on c) ≡ Some slot
  pub there : slice_get slots i ≡ Some slot

a_slot : (o : Option sessions.Slot) → is_ready o ≡ true → (slot : sessions.Slot) × (o ≡ Some slot)
a_slot None h = absurd (cc)
a_slot (Some slot) h = (slot, refl)

pub starts_on : (slots : List sessions.Slot) (c : Command) (given : Option (List ℕ)) (place : Option ℕ) (i : ℕ) → given ≡ sessions.started_on c
    → is_ready (slot_of slots (sessions.started_on c)) ≡ true → slot_of slots given ≡ option_and_then (slice_get slots) place → place ≡ Some i
    → StartsOn slots c i
starts_on slots c given place i is ready found here =
    let it = a_slot (slot_of slots (sessions.started_on c)) ready in
    let got : slot_of slots (sessions.started_on c) ≡ slice_get slots i =
    ap (slot_of slots) (sym is) ∙ found ∙ ap (option_and_then (slice_get slots)) here in
    record { slot = it.0; found = it.1; there = sym got ∙ it.1 }

pub keeps_at : (now : List Slot) (slots : List sessions.Slot) (i : ℕ) (slot : sessions.Slot) (d : Slot) → KeepsSlots now slots → slice_get slots i ≡ Some slot
    → KeepsSlot (get_or now i d) slot
keeps_at [] [] i slot d keeps there = absurd (cc)
keeps_at [] (l ∷ slots) i slot d keeps there = absurd keeps
keeps_at (k ∷ now) [] i slot d keeps there = absurd keeps
keeps_at (k ∷ now) (l ∷ slots) zero slot d keeps there = let e : l ≡ slot = cc in subst (KeepsSlot k) e keeps.0
keeps_at (k ∷ now) (l ∷ slots) (suc i) slot d keeps there = keeps_at now slots i slot d keeps.1 there

pub before_at : (at : ℕ) (slots : List sessions.Slot) (i : ℕ) (slot : sessions.Slot) → AllBefore at slots → slice_get slots i ≡ Some slot → none_later at slot.present
before_at at [] i slot all there = absurd (cc)
before_at at (l ∷ slots) zero slot all there = let e : l ≡ slot = cc in subst (λ (x : sessions.Slot). none_later at x.present) e all.0
before_at at (l ∷ slots) (suc i) slot all there = before_at at slots i slot all.1 there

-- If a command starts polls, then its poll records, request frames and answer can be computed from
-- the slot (connection state) of its device alone.
pub added_there : (number at : ℕ) (slots : List sessions.Slot) (known : List Fact) (c : Command) (slot : sessions.Slot) → is_start c ≡ true
    → slot_of slots (sessions.started_on c) ≡ Some slot → added_by number at slots known c ≡ polls_of number at (spans_by known c) slot
added_there number at slots known (command.AddDevice c) slot h found = absurd (cc)
added_there number at slots known (command.PutList c) slot h found = absurd (cc)
added_there number at slots known (command.AddRegister c) slot h found = absurd (cc)
added_there number at slots known (command.Install c) slot h found = absurd (cc)
added_there number at slots known (command.Exchange c) slot h found = absurd (cc)
added_there number at slots known (command.Reset c) slot h found = absurd (cc)
added_there number at slots known (command.Rescale c) slot h found = absurd (cc)
added_there number at slots known (command.Manual c) slot h found = absurd (cc)
added_there number at slots known (command.Close c) slot h found = absurd (cc)
added_there number at slots known (command.Void c) slot h found = absurd (cc)
added_there number at slots known (command.StartPoll c) slot h found = ap (polls_from number at (c.span ∷ [])) found
added_there number at slots known (command.StartRound c) slot h found = ap (polls_from number at (spans_by known (command.StartRound c))) found

pub sent_there : (number at : ℕ) (slots : List sessions.Slot) (known : List Fact) (c : Command) (slot : sessions.Slot)
    → slot_of slots (sessions.started_on c) ≡ Some slot → notes.frames_by number at slots known (Some c) ≡ frames_of number at (spans_by known c) slot
sent_there number at slots known c slot found = ap (frames_from number at (spans_by known c)) found

pub answered_there : (at : ℕ) (slots : List sessions.Slot) (known : List Fact) (c : Command) (slot : sessions.Slot) → is_start c ≡ true
    → slot_of slots (sessions.started_on c) ≡ Some slot
    → answers.Started (next_poll known) (length (sends_of (next_poll known) at (spans_by known c) slot)) (reads_in_all known c) ≡ answer_to slots known at c
answered_there at slots known c slot h found =
    sym (cond-true (is_start c) _ _ h
    ∙ ap (λ (o : Option sessions.Slot). answers.Started (next_poll known) (length (sends_from (next_poll known) at (spans_by known c) o)) (reads_in_all known c)) found)

-- If a command starts polls on the device of a slot (a device with its connection), then the slot
-- after the command includes these polls.
named_slot : (number at : ℕ) (spans : List ReadSpan) (c : Command) (slot : sessions.Slot) (present : Option (List session.Event))
    → is_named (sessions.started_on c) slot.device.name ≡ true
    → started_on number at spans c slot present ≡ sent_from at slot (sends_at number at slot.device present spans) present
named_slot number at spans c slot None here = refl
named_slot number at spans c slot (Some before) here =
    ap (with_happenings slot before) (cond-true _ (map (start_by at slot.device) (sends_on number at slot.device before spans)) [] here)

its_name : (given : Option (List ℕ)) (name : List ℕ) → is_named given name ≡ true → given ≡ Some name
its_name None name h = absurd (let e : false ≡ true = h in cc)
its_name (Some text) name h = ap Some (same_eq text name h)

none_named : (number at : ℕ) (spans : List ReadSpan) (c : Command) (name : List ℕ) (now : List Slot) (slots : List sessions.Slot) → sessions.started_on c ≡ Some name
    → NoneNamed name slots → KeepsSlots now slots → KeepsSlots now (map (slot_obeyed number at spans c) slots)
none_named number at spans c name [] [] is none keeps = tt
none_named number at spans c name [] (l ∷ slots) is none keeps = absurd keeps
none_named number at spans c name (k ∷ now) [] is none keeps = absurd keeps
none_named number at spans c name (k ∷ now) (l ∷ slots) is none keeps =
    let other : is_named (sessions.started_on c) l.device.name ≡ false = ap (λ (g : Option (List ℕ)). is_named g l.device.name) is ∙ none.0 in (
      subst (KeepsSlot k) (sym (not_named number at spans c l l.present other refl)) keeps.0,
      none_named number at spans c name now slots is none.1 keeps.1,
    )

none_at : (name : List ℕ) (slots : List sessions.Slot) (i : ℕ) (slot : sessions.Slot) → NoneNamed name slots → slice_get slots i ≡ Some slot
    → same name slot.device.name ≡ false
none_at name [] i slot none there = absurd (cc)
none_at name (l ∷ slots) zero slot none there =
    let e : l ≡ slot = cc in subst (λ (x : sessions.Slot). same name x.device.name ≡ false) e none.0
none_at name (l ∷ slots) (suc i) slot none there = none_at name slots i slot none.1 there

same_back : (a b : List ℕ) → same a b ≡ false → same b a ≡ false
same_back a b h = false_from_ne_true _ (λ t.
    let e : b ≡ a = same_eq b a t in
    let here : same a b ≡ true = (bytes_eq-Decides a b).1 (sym e) in
    both_ways _ h here)

pub start_keeps : (number at : ℕ) (spans : List ReadSpan) (c : Command) (now : List Slot) (slots : List sessions.Slot) (i : ℕ) (slot : sessions.Slot) (new : Slot)
    → AreApart slots → slice_get slots i ≡ Some slot → is_named (sessions.started_on c) slot.device.name ≡ true → KeepsSlots now slots
    → KeepsSlot new (slot_sent number at spans slot) → KeepsSlots (slice_set now i new) (map (slot_obeyed number at spans c) slots)
start_keeps number at spans c [] [] i slot new apart there here keeps after = absurd (cc)
start_keeps number at spans c [] (l ∷ slots) i slot new apart there here keeps after = absurd keeps
start_keeps number at spans c (k ∷ now) [] i slot new apart there here keeps after = absurd keeps
start_keeps number at spans c (k ∷ now) (l ∷ slots) zero slot new apart there here keeps after =
    let e : slot ≡ l = cc in
    let this : is_named (sessions.started_on c) l.device.name ≡ true = subst (λ (x : sessions.Slot). is_named (sessions.started_on c) x.device.name ≡ true) e here in (
      subst (KeepsSlot new) (sym (named_slot number at spans c slot slot.present here) ∙ ap (slot_obeyed number at spans c) e) after,
      none_named number at spans c l.device.name now slots (its_name (sessions.started_on c) l.device.name this) apart.0 keeps.1,
    )
start_keeps number at spans c (k ∷ now) (l ∷ slots) (suc i) slot new apart there here keeps after =
    let is = its_name (sessions.started_on c) slot.device.name here in
    let other : is_named (sessions.started_on c) l.device.name ≡ false =
    ap (λ (g : Option (List ℕ)). is_named g l.device.name) is ∙ same_back l.device.name slot.device.name (none_at l.device.name slots i slot apart.0 there) in (
      subst (KeepsSlot k) (sym (not_named number at spans c l l.present other refl)) keeps.0,
      start_keeps number at spans c now slots i slot new apart.1 there here keeps.1 after,
    )

pub nothing_added : (number at : ℕ) (spans : List ReadSpan) (c : Command) (now : List Slot) (slots : List sessions.Slot) → is_start c ≡ true
    → KeepsSlots now (map (slot_obeyed number at spans c) slots) → KeepsSlots now (slots_obeyed number at spans c slots)
nothing_added number at spans (command.AddDevice c) now slots h keeps = absurd (cc)
nothing_added number at spans (command.PutList c) now slots h keeps = absurd (cc)
nothing_added number at spans (command.AddRegister c) now slots h keeps = absurd (cc)
nothing_added number at spans (command.Install c) now slots h keeps = absurd (cc)
nothing_added number at spans (command.Exchange c) now slots h keeps = absurd (cc)
nothing_added number at spans (command.Reset c) now slots h keeps = absurd (cc)
nothing_added number at spans (command.Rescale c) now slots h keeps = absurd (cc)
nothing_added number at spans (command.Manual c) now slots h keeps = absurd (cc)
nothing_added number at spans (command.Close c) now slots h keeps = absurd (cc)
nothing_added number at spans (command.Void c) now slots h keeps = absurd (cc)
nothing_added number at spans (command.StartPoll c) now slots h keeps = subst (KeepsSlots now) (sym (append-nil _)) keeps
nothing_added number at spans (command.StartRound c) now slots h keeps = subst (KeepsSlots now) (sym (append-nil _)) keeps

passes_by : {X : Type 0} (b : Bool) (p : X → Bool) (y x : X) (later : Option X) → p y ≡ b → (later ≡ Some x → p x ≡ true)
    → cond b (Some y) later ≡ Some x → p x ≡ true
passes_by true p y x later is rest h = let e : y ≡ x = cc in ap p (sym e) ∙ is
passes_by false p y x later is rest h = rest h

find_passes : {X : Type 0} (p : X → Bool) (xs : List X) (x : X) → find p xs ≡ Some x → p x ≡ true
find_passes p [] x h = absurd (cc)
find_passes p (y ∷ xs) x h = passes_by (p y) p y x (find p xs) refl (find_passes p xs x) h

pub found_named : (slots : List sessions.Slot) (given : Option (List ℕ)) (slot : sessions.Slot) → slot_of slots given ≡ Some slot
    → is_named given slot.device.name ≡ true
found_named slots given slot found = find_passes (λ (l : sessions.Slot). is_named given l.device.name) slots slot found

-- Suppose that the rules for adding records accept all records after a command that starts polls.
-- Then they also accept the poll records computed from the device's connection.
pub polls_lawful : (at : ℕ) (slots : List sessions.Slot) (known : List Fact) (c : Command) (replies : List Fact) (slot : sessions.Slot) → is_start c ≡ true
    → slot_of slots (sessions.started_on c) ≡ Some slot → AreLawful (facts_obeyed at slots known c replies)
    → AreLawful (with_facts (polls_of (next_poll known) at (spans_by known c) slot ++ replies) known)
polls_lawful at slots known c replies slot h found lawful =
    subst (λ (fs : List Fact). AreLawful (with_facts (fs ++ replies) known)) (added_there (next_poll known) at slots known c slot h found) lawful

pub obeys_start : (old new : Ledger) (now : List Slot) (after : Slot) (slots : List sessions.Slot) (known : List Fact) (at : ℕ) (c : Command) (replies : List Fact)
    (result : Result Done BooksFault) (i : ℕ) (on : StartsOn slots c i) → is_start c ≡ true → AreApart slots → KeepsSlots now slots
    → Moves old new known (with_facts (polls_of (next_poll known) at (spans_by known c) on.slot ++ replies) known) result
    → (old.holds known → new.is_clean → OnOk result (KeepsSlot after (slot_sent (next_poll known) at (spans_by known c) on.slot)))
    → (old.holds known → new.is_clean → IfOk result (λ done. done.answer
    ≡ answers.Started (next_poll known) (length (sends_of (next_poll known) at (spans_by known c) on.slot)) (reads_in_all known c)))
    → (old.holds known → new.is_clean → IfOk result (λ done. done.outgoing ≡ frames_of (next_poll known) at (spans_by known c) on.slot))
    → Obeys old new (slice_set now i after) slots known at c replies result
obeys_start old new now after slots known at c replies result i on h apart keeps books stands answer sent = record {
  books = subst (λ (fs : List Fact). Moves old new known (with_facts (fs ++ replies) known) result) (sym (added_there (next_poll known) at slots known c on.slot h on.found)) books;
  stands = λ known_so clean. on_ok _ _ result
      (λ own. nothing_added (next_poll known) at (spans_by known c) c (slice_set now i after) slots h
      (start_keeps (next_poll known) at (spans_by known c) c now slots i on.slot after apart on.there (found_named slots (sessions.started_on c) on.slot on.found) keeps own))
      (stands known_so clean);
  answer = λ known_so clean. if_ok _ _ result (λ done own. own ∙ answered_there at slots known c on.slot h on.found) (answer known_so clean);
  sent = λ known_so clean. if_ok _ _ result (λ done own. own ∙ sym (sent_there (next_poll known) at slots known c on.slot on.found)) (sent known_so clean);
}
