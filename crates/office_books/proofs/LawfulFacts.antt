-- The proof that the records after any accepted events are lawful: the rules for adding records
-- accept each record after the earlier ones.
use Rattle.std.proofs.Common.{◌≡◌, ℕ, ◌+◌, ◌≤◌, nat_lt, false, List, [], ◌∷◌, ◌++◌, map, reverse, length, refl, sym, ap, subst, Option, Some, None, arith}
use Rattle.std.specs.List.{flat_map}
use Rattle.std.specs.Option.{option_and_then}
use Rattle.std.proofs.lemmas.Bool.{or_parts, ltb-false}
use Rattle.office_events.specs.declared.facts.Poll.{Poll}
use Rattle.office_events.specs.declared.facts.Fact.{Fact}
use Rattle.office_events.specs.declared.commands.Command.{Command}
use Rattle.office_events.specs.declared.commands.Command.TheVariants as command
use Rattle.office_events.specs.declared.events.Asked.{Asked}
use Rattle.office_events.specs.declared.events.Event.{Event}
use Rattle.office_events.specs.declared.events.Event.TheVariants as event
use Rattle.office_events.specs.declared.refusals.Refusal.TheVariants as refusal
use Rattle.office_books.specs.Facts.{moment_limit, poll_limit, latest_in, pending_in, polls_in}
use Rattle.office_books.specs.Meters.{open_at}
use Rattle.office_books.specs.Sessions.{Slot, slot_of, command_in}
use Rattle.office_books.specs.History.{History, Opened, Fed, next_poll, latest_of, read_at, corrected_at, sends_by, spans_by, added_by, reply_by, with_settled, with_lost, facts_of, slots_of}
use Rattle.office_books.specs.Refusals.{refusal_of, is_later, opening_refusal_of, asks_bad_field, IsAccepted, AreAccepted}
use Rattle.office_books.specs.PollEndings.{pending_on, PollsEndOnce}
use Rattle.office_books.specs.Lawful.{AreLawful}
use Rattle.office_books.specs.Laws.{MetersAreKept}
use Rattle.office_books.proofs.Lookups.{none_parts}
use Rattle.office_books.proofs.LawfulChanges.{void_lawful}
use Rattle.office_books.proofs.LawfulExchange.{exchange_lawful}
use Rattle.office_books.proofs.LawfulReadings.{manual_lawful}
use Rattle.office_books.specs.Lawfulness.{PutsPlanned, ListsArePlanned, FactsAreLawful}
use Rattle.office_books.proofs.Added.{ReadsAt, latest_commanded, latest_added, replied_is, unseen_reply}
use Rattle.office_books.proofs.KeptFacts.{settled_on_all, settled_is, as_lost, lost_is}
use Rattle.office_books.proofs.DeviceSlots.{same_devices}
use Rattle.office_books.proofs.Times.{times, times-permutation}
use Rattle.office_books.proofs.SettledOnce.{SettlesPending, settled_numbers, settled_at_most}
use Rattle.office_books.proofs.Outcomes.{AreKept, outcomes_kept, open_once, poll_numbers}
use Rattle.office_books.proofs.Taken.{IsTimely, is_timely, IsTaken, is_taken, command_of_asked, good_request}
use Rattle.office_books.proofs.Corrections.{IsFaultless, close_fits, rescale_fits, reset_fits}
use Rattle.office_books.proofs.Additions.{device_fits, list_fits, register_fits, opening_fits}
use Rattle.office_books.proofs.Starts.{polls_fit}
use Rattle.office_books.proofs.Replies.{asked_fits}

-- True if the pending polls on the Modbus sessions have the same numbers as the recorded polls
-- without an outcome.
abbrev HaveSamePending : List Slot → List Fact → Type 0
HaveSamePending slots facts = (n : ℕ) → times n (flat_map pending_on slots) ≡ times n (poll_numbers (pending_in facts))

settled_kept : SettlesPending → (number at : ℕ) (e : Event) (slots : List Slot) (facts : List Fact) → at ≤ moment_limit → HaveSamePending slots facts
    → AreKept at facts → AreKept at (with_settled number at e slots facts)
settled_kept law number at e slots facts timely pending h =
    let at_most : (n : ℕ) → times n (settled_numbers (settled_on_all number at e slots)) ≤ times n (poll_numbers (pending_in facts)) =
    λ n. omega (arith, settled_at_most law n number at e slots, pending n) in
    subst (AreKept at) (sym (settled_is number at e slots facts))
    (outcomes_kept at (settled_on_all number at e slots) facts timely h
    (open_once facts (settled_numbers (settled_on_all number at e slots)) h.lawful at_most))

lost_numbers : (polls : List Poll) → settled_numbers (map as_lost polls) ≡ poll_numbers polls
lost_numbers [] = refl
lost_numbers (poll ∷ polls) = ap (λ ns. poll.number ∷ ns) (lost_numbers polls)

lost_kept : (at : ℕ) (facts : List Fact) → at ≤ moment_limit → AreKept at facts → AreKept at (with_lost at facts)
lost_kept at facts timely h =
    let all = map as_lost (pending_in facts) in
    subst (AreKept at) (sym (lost_is at facts))
    (outcomes_kept at all facts timely h
    (open_once facts (settled_numbers all) h.lawful (λ n. omega (arith, ap (times n) (lost_numbers (pending_in facts))))))

-- If a start of the program is accepted, then the records after the start still follow the rules
-- (`AreLawful`: each record is valid after the earlier ones).
opened_kept : (at : ℕ) (facts : List Fact) → AreLawful facts → opening_refusal_of facts at ≡ None → AreKept at (with_lost at facts)
opened_kept at facts h taken =
    let back = none_parts (nat_lt at (latest_in facts)) refusal.ClockBack _ taken in
    let limit = none_parts (nat_lt moment_limit at) refusal.Limit None back.1 in
    lost_kept at facts (ltb-false moment_limit at limit.0)
    (record { lawful = h; latest = ltb-false at (latest_in facts) back.0 })

-- The records of the store after the records of a command are added.
abbrev commanded : History → (at : ℕ) → Command → List Fact
commanded past at c = reverse (added_by (next_poll (facts_of past)) at (slots_of past) (facts_of past) c) ++ facts_of past

faultless : (past : History) (at : ℕ) (c : Command) → IsTaken past at c → IsFaultless at c (option_and_then (open_at (facts_of past)) (corrected_at c))
faultless past at c taken = record {
  negative = taken.negative;
  later = taken.later;
  long = taken.long;
  full = taken.full;
  below = taken.below;
}

is_few : (past : History) (at : ℕ) (c : Command)
    → nat_lt poll_limit (length (polls_in (facts_of past)) + length (sends_by (next_poll (facts_of past)) at (slots_of past) (facts_of past) c)) ≡ false
    → length (polls_in (facts_of past)) + length (sends_by (next_poll (facts_of past)) at (slots_of past) (facts_of past) c) ≤ poll_limit
is_few past at c h = ltb-false poll_limit _ h

command_fits : MetersAreKept → (past : History) (at : ℕ) (c : Command) → AreLawful (facts_of past) → latest_in (facts_of past) ≤ latest_of past
    → PutsPlanned (Some c) → refusal_of past at (event.Command c) ≡ None → IsTimely past at → IsTaken past at c → AreLawful (commanded past at c)
command_fits law past at (command.AddDevice c) h latest planned accepted time taken =
    device_fits (slots_of past) (facts_of past) c c.name (same_devices past) h taken.new taken.fields
command_fits law past at (command.PutList c) h latest planned accepted time taken =
    list_fits (slots_of past) (facts_of past) c.list c.device (same_devices past) h taken.known planned
command_fits law past at (command.AddRegister c) h latest planned accepted time taken =
    register_fits (slots_of past) (facts_of past) c c.name c.device (same_devices past) h taken.known taken.new
command_fits law past at (command.Install c) h latest planned accepted time taken =
    opening_fits (facts_of past) at c c.register c.meter h time.within (omega (arith, latest, time.on_time)) taken.known taken.new taken.scale taken.fields
command_fits law past at (command.Exchange c) h latest planned accepted time taken = exchange_lawful past at c h latest accepted
command_fits law past at (command.Reset c) h latest planned accepted time taken =
    reset_fits law (facts_of past) at c c.register h time.within (faultless past at (command.Reset c) taken)
command_fits law past at (command.Rescale c) h latest planned accepted time taken =
    rescale_fits (facts_of past) at c c.register h time.within taken.scale (faultless past at (command.Rescale c) taken)
command_fits law past at (command.Manual c) h latest planned accepted time taken = manual_lawful past at c h accepted
command_fits law past at (command.Close c) h latest planned accepted time taken =
    close_fits (facts_of past) at c c.register h time.within (faultless past at (command.Close c) taken)
command_fits law past at (command.Void c) h latest planned accepted time taken = void_lawful past at c h accepted
command_fits law past at (command.StartPoll c) h latest planned accepted time taken =
    polls_fit (slots_of past) (facts_of past) at (spans_by (facts_of past) (command.StartPoll c)) c.device (slot_of (slots_of past) c.device)
    (same_devices past) h time.within refl (is_few past at (command.StartPoll c) taken.few)
command_fits law past at (command.StartRound c) h latest planned accepted time taken =
    polls_fit (slots_of past) (facts_of past) at (spans_by (facts_of past) (command.StartRound c)) c.device (slot_of (slots_of past) c.device)
    (same_devices past) h time.within refl (is_few past at (command.StartRound c) taken.few)

-- If a manual reading is accepted, then its time is not later than the time of the command.
read_in_time : (at : ℕ) (given : Option ℕ) → is_later at given ≡ false → read_at at given ≤ at
read_in_time at None h = omega arith
read_in_time at (Some earlier) h = ltb-false at earlier h

reads_in_time : (at : ℕ) (c : Command) → asks_bad_field at c ≡ false → ReadsAt (λ m. m ≤ at) at c
reads_in_time at (command.Manual c) h = read_in_time at c.at (or_parts (nat_lt 255 c.rolls) (is_later at c.at) h).1
reads_in_time at c h = tt

command_kept : MetersAreKept → (past : History) (at : ℕ) (c : Command) → AreLawful (facts_of past) → latest_in (facts_of past) ≤ latest_of past
    → PutsPlanned (Some c) → refusal_of past at (event.Command c) ≡ None → AreKept at (commanded past at c)
command_kept law past at c h latest planned accepted =
    let time = is_timely past at (event.Command c) accepted in
    let taken = is_taken past at c accepted in
    record {
      lawful = command_fits law past at c h latest planned accepted time taken;
      latest = latest_commanded (next_poll (facts_of past)) at (slots_of past) (facts_of past) c (reads_in_time at c taken.fields)
          (omega (arith, latest, time.on_time));
    }

asked_kept : MetersAreKept → (past : History) (at : ℕ) (asked : Asked) → AreLawful (facts_of past) → latest_in (facts_of past) ≤ latest_of past
    → PutsPlanned (Some asked.command) → IsAccepted past at (event.Asked asked) → AreKept at (facts_of (Fed at (event.Asked asked) ∷ past))
asked_kept law past at asked h latest planned accepted =
    let own = command_kept law past at asked.command h latest planned (command_of_asked past at asked accepted.right) in
    let number : ℕ = next_poll (facts_of past) in
    let added : List Fact = added_by number at (slots_of past) (facts_of past) asked.command in
    record {
      lawful = asked_fits number at (slots_of past) (facts_of past) asked (is_timely past at (event.Asked asked) accepted.right).within accepted.new
          (good_request past at asked accepted.right) own.lawful;
      latest = subst (λ (fs : List Fact). latest_in fs ≤ at) (sym (replied_is added (reply_by at asked) (facts_of past)))
          (latest_added at (reply_by at asked) (reverse added ++ facts_of past) (unseen_reply _ at asked (λ r now. omega (arith, now))) own.latest);
    }

after_event : SettlesPending → MetersAreKept → (past : History) (at : ℕ) (e : Event) → IsAccepted past at e → PutsPlanned (command_in e)
    → HaveSamePending (slots_of past) (facts_of past) → AreLawful (facts_of past) → latest_in (facts_of past) ≤ latest_of past
    → AreKept at (facts_of past) → IsTimely past at → AreKept at (facts_of (Fed at e ∷ past))
after_event settles law past at (event.Connected given) accepted planned pending h latest kept time = kept
after_event settles law past at (event.Bytes given piece) accepted planned pending h latest kept time =
    settled_kept settles (next_poll (facts_of past)) at (event.Bytes given piece) (slots_of past) (facts_of past) time.within pending kept
after_event settles law past at event.Tick accepted planned pending h latest kept time =
    settled_kept settles (next_poll (facts_of past)) at event.Tick (slots_of past) (facts_of past) time.within pending kept
after_event settles law past at (event.Gone given closing) accepted planned pending h latest kept time =
    settled_kept settles (next_poll (facts_of past)) at (event.Gone given closing) (slots_of past) (facts_of past) time.within pending kept
after_event settles law past at (event.Command c) accepted planned pending h latest kept time =
    command_kept law past at c h latest planned accepted.right
after_event settles law past at (event.Asked asked) accepted planned pending h latest kept time =
    asked_kept law past at asked h latest planned accepted

-- Suppose that Modbus sessions end only pending polls, each poll ends once, and the energy of
-- meters balances. Then the records after any accepted events are lawful (the rules for adding
-- records accept each one).
kept : SettlesPending → ((history : History) → AreAccepted history → PollsEndOnce history) → MetersAreKept → (history : History)
    → AreAccepted history → ListsArePlanned history → AreKept (latest_of history) (facts_of history)
kept settles once law [] h planned = record { lawful = tt; latest = omega arith }
kept settles once law (Opened at ∷ past) h planned =
    opened_kept at (facts_of past) (kept settles once law past h.1 planned).lawful h.0
kept settles once law (Fed at e ∷ past) h planned =
    let before = kept settles once law past h.1 planned.1 in
    let time = is_timely past at e h.0.right in
    let same_pending : HaveSamePending (slots_of past) (facts_of past) =
    λ n. times-permutation n (poll_numbers (pending_in (facts_of past))) (flat_map pending_on (slots_of past)) (once past h.1).pending in
    after_event settles law past at e h.0 planned.0 same_pending before.lawful before.latest
    (record { lawful = before.lawful; latest = omega (arith, before.latest, time.on_time) }) time

pub lawful : SettlesPending → ((history : History) → AreAccepted history → PollsEndOnce history) → MetersAreKept → FactsAreLawful
lawful settles once law history h planned = (kept settles once law history h planned).lawful
