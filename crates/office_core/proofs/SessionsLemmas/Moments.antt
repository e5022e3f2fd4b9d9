-- Proof that no event of a session (connection) is later than the latest accepted event.
use Rattle.std.proofs.Common.{◌≡◌, ℕ, ◌≤◌, nat_lt, Bool, true, false, cond, List, [], ◌∷◌, ◌++◌, map, refl, Option, Some, None, arith, subst}
use Rattle.std.proofs.lemmas.Bool.{cond_both, ltb-false, or_parts}
use Rattle.energy_core.proofs.Tables.{none_pass}
use Rattle.mb_wire.specs.declared.span.ReadSpan.{ReadSpan}
use Rattle.poll_core.specs.Settling as session
use Rattle.poll_core.proofs.Settles.{last_moment-push}
use Rattle.office_events.specs.declared.facts.Device.{Device}
use Rattle.office_events.specs.declared.commands.Command.{Command}
use Rattle.office_events.specs.declared.commands.Command.TheVariants as command
use Rattle.office_events.specs.declared.events.Event.{Event}
use Rattle.office_events.specs.declared.events.Event.TheVariants as event
use Rattle.office_books.specs.Facts.{is_named}
use Rattle.office_books.specs.Sessions as sessions
use Rattle.office_books.specs.Sessions.{Send, connects, command_in, started_on, start_by, sends_on, starts_by, reaches, with_happenings, slot_reached, slot_after, slot_restarted, slots_added, new_slot, device_by}
use Rattle.office_books.specs.History.{History, Opened, Fed, facts_of, slots_of, latest_of, next_poll, spans_in}
use Rattle.office_books.specs.Refusals.{AreAccepted, refusal_of, refuses, reasons}
use Rattle.office_core.specs.Sessions.Moments.{none_later}

-- If an event is accepted, then its timestamp is not before the latest accepted event.
not_back : (past : History) (at : ℕ) (e : Event) → refusal_of past at e ≡ None → latest_of past ≤ at
not_back past at e h =
    let all = none_pass (refuses past at e) reasons h in
    ltb-false at (latest_of past) (or_parts (nat_lt at (latest_of past)) _ all.1.1.0).0

abbrev pub AllBefore : ℕ → List sessions.Slot → Type 0
AllBefore at [] = Unit {0}
AllBefore at (slot ∷ slots) = none_later at slot.present × AllBefore at slots

one_later : (at later : ℕ) → at ≤ later → (present : Option (List session.Event)) → none_later at present → none_later later present
one_later at later h None before = tt
one_later at later h (Some events) before = omega (arith, h, before)

before_later : (at later : ℕ) → at ≤ later → (slots : List sessions.Slot) → AllBefore at slots → AllBefore later slots
before_later at later h [] all = tt
before_later at later h (slot ∷ slots) all = (one_later at later h slot.present all.0, before_later at later h slots all.1)

-- True if all Modbus session events of the list have the given timestamp.
abbrev AtMoment : ℕ → List session.Event → Type 0
AtMoment at [] = Unit {0}
AtMoment at (happening ∷ later) = (session.moment_of happening ≡ at) × AtMoment at later

one_at : (at : ℕ) (b : Bool) (happening : session.Event) → session.moment_of happening ≡ at → AtMoment at (cond b (happening ∷ []) [])
one_at at true happening h = (h, tt)
one_at at false happening h = tt

starts_at : (at : ℕ) (device : Device) (sends : List Send) → AtMoment at (map (start_by at device) sends)
starts_at at device [] = tt
starts_at at device (send ∷ sends) = (refl, starts_at at device sends)

round_at : (at : ℕ) (b : Bool) (device : Device) (sends : List Send) → AtMoment at (cond b (map (start_by at device) sends) [])
round_at at true device sends = starts_at at device sends
round_at at false device sends = tt

command_at : (number at : ℕ) (spans : List ReadSpan) (c : Command) (device : Device) (before : List session.Event)
    → AtMoment at (starts_by number at spans (Some c) device before)
command_at number at spans c device before =
    round_at at (is_named (started_on c) device.name) device (sends_on number at device before spans)

reaches_at : (number at : ℕ) (spans : List ReadSpan) (e : Event) (device : Device) (before : List session.Event)
    → AtMoment at (reaches number at spans e device before)
reaches_at number at spans (event.Connected given) device before = tt
reaches_at number at spans (event.Bytes given piece) device before = one_at at (is_named given device.name) (session.Piece at piece) refl
reaches_at number at spans event.Tick device before = (refl, tt)
reaches_at number at spans (event.Gone given closing) device before = one_at at (is_named given device.name) (session.Close at closing) refl
reaches_at number at spans (event.Command c) device before = command_at number at spans c device before
reaches_at number at spans (event.Asked asked) device before = command_at number at spans asked.command device before

happened_before : (at : ℕ) (slot : sessions.Slot) (before happenings : List session.Event) → AtMoment at happenings → none_later at (Some before)
    → none_later at (with_happenings slot before happenings).present
happened_before at slot before [] all h = h
happened_before at slot before (session.Start m n u s ∷ later) all h =
    happened_before at slot (before ++ session.Start m n u s ∷ []) later all.1 (omega (arith, last_moment-push before (session.Start m n u s), all.0))
happened_before at slot before (session.Piece m bytes ∷ later) all h =
    happened_before at slot (before ++ session.Piece m bytes ∷ []) later all.1 (omega (arith, last_moment-push before (session.Piece m bytes), all.0))
happened_before at slot before (session.Tick m ∷ later) all h =
    happened_before at slot (before ++ session.Tick m ∷ []) later all.1 (omega (arith, last_moment-push before (session.Tick m), all.0))
happened_before at slot before (session.Close m closing ∷ later) all h = tt

reached_before : (number at : ℕ) (spans : List ReadSpan) (e : Event) (slot : sessions.Slot) (present : Option (List session.Event))
    → slot.present ≡ present → none_later at slot.present → none_later at (slot_reached number at spans e slot present).present
reached_before number at spans e slot None is h = h
reached_before number at spans e slot (Some before) is h =
    happened_before at slot before (reaches number at spans e slot.device before) (reaches_at number at spans e slot.device before)
    (subst (none_later at) is h)

slot_before : (number at : ℕ) (spans : List ReadSpan) (e : Event) (slot : sessions.Slot) → none_later at slot.present
    → none_later at (slot_after number at spans e slot).present
slot_before number at spans e slot h =
    cond_both (connects e slot.device) _ _ (λ (l : sessions.Slot). none_later at l.present)
    (λ c. omega arith)
    (λ c. reached_before number at spans e slot slot.present refl h)

slots_before : (number at : ℕ) (spans : List ReadSpan) (e : Event) (slots more : List sessions.Slot) → AllBefore at slots → AllBefore at more
    → AllBefore at (map (slot_after number at spans e) slots ++ more)
slots_before number at spans e [] more all new = new
slots_before number at spans e (slot ∷ slots) more all new =
    (slot_before number at spans e slot all.0, slots_before number at spans e slots more all.1 new)

new_before : (at : ℕ) (device : Option Device) → AllBefore at (new_slot device)
new_before at None = tt
new_before at (Some device) = (tt, tt)

added_before : (at : ℕ) (c : Option Command) → AllBefore at (slots_added c)
added_before at None = tt
added_before at (Some (command.AddDevice c)) = new_before at (device_by c)
added_before at (Some (command.PutList c)) = tt
added_before at (Some (command.AddRegister c)) = tt
added_before at (Some (command.Install c)) = tt
added_before at (Some (command.Exchange c)) = tt
added_before at (Some (command.Reset c)) = tt
added_before at (Some (command.Rescale c)) = tt
added_before at (Some (command.Manual c)) = tt
added_before at (Some (command.Close c)) = tt
added_before at (Some (command.Void c)) = tt
added_before at (Some (command.StartPoll c)) = tt
added_before at (Some (command.StartRound c)) = tt

restarted_before : (at : ℕ) (slots : List sessions.Slot) → AllBefore at (map slot_restarted slots)
restarted_before at [] = tt
restarted_before at (slot ∷ slots) = (tt, restarted_before at slots)

all_before : (past : History) → AreAccepted past → AllBefore (latest_of past) (slots_of past)
all_before [] accepted = tt
all_before (Opened at ∷ past) accepted = restarted_before at (slots_of past)
all_before (Fed at e ∷ past) accepted =
    slots_before (next_poll (facts_of past)) at (spans_in (facts_of past) (command_in e)) e (slots_of past) (slots_added (command_in e))
    (before_later (latest_of past) at (not_back past at e accepted.0.right) (slots_of past) (all_before past accepted.1))
    (added_before at (command_in e))

-- If an event is accepted next, then the earlier events of all Modbus sessions are not later than
-- this event.
pub before_event : (past : History) (at : ℕ) (e : Event) → AreAccepted past → refusal_of past at e ≡ None → AllBefore at (slots_of past)
before_event past at e accepted none =
    before_later (latest_of past) at (not_back past at e none) (slots_of past) (all_before past accepted)
