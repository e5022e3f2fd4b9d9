-- Lemmas: after any accepted events, the rules for the order of polls (`PollsFit`) accept each
-- recorded poll and outcome after the records before it.
use Rattle.std.proofs.Common.{◌≡◌, ℕ, suc, ◌+◌, ◌≤◌, ◌==◌, Bool, true, false, cond, List, [], ◌∷◌, ◌++◌, map, reverse, length, refl, sym, ap, subst, ◌∙◌, Option, Some, None, arith, if◌then◌else◌}
use Rattle.std.specs.List.{find}
use Rattle.std.specs.Option.{is_some}
use Rattle.std.proofs.lemmas.Bool.{or_parts, ltb-false, eqb-true}
use Rattle.energy_core.specs.declared.verdicts.Reading.{Reading}
use Rattle.energy_core.specs.declared.verdicts.Verdict.{Verdict}
use Rattle.energy_core.specs.declared.verdicts.Verdict.TheVariants.{Accepted, Held}
use Rattle.mb_wire.specs.declared.span.ReadSpan.{ReadSpan}
use Rattle.poll_core.specs.Settling as session
use Rattle.office_events.specs.declared.facts.Device.{Device}
use Rattle.office_events.specs.declared.facts.Poll.{Poll}
use Rattle.office_events.specs.declared.facts.Register.{Register}
use Rattle.office_events.specs.declared.facts.Fact.{Fact}
use Rattle.office_events.specs.declared.facts.Fact.TheVariants as fact
use Rattle.office_events.specs.declared.commands.Command.{Command}
use Rattle.office_events.specs.declared.commands.Command.TheVariants as command
use Rattle.office_events.specs.declared.events.Event.{Event}
use Rattle.office_events.specs.declared.events.Event.TheVariants as event
use Rattle.office_events.specs.declared.questions.Installation.{Installation}
use Rattle.office_events.specs.declared.refusals.Refusal.TheVariants as refusal
use Rattle.office_events.specs.declared.refusals.StoreCause.TheVariants as store
use Rattle.office_books.specs.Facts.{poll_limit, polls_in, registers_of, device_of, poll_of}
use Rattle.office_books.specs.Meters.{open_at}
use Rattle.office_books.specs.Readings.{as_fact, judgement, with_reading, with_register, with_registers, with_reply, is_read_by, reading_of}
use Rattle.office_books.specs.Sessions.{Slot, Send, slot_of, is_startable, start_by, sends_on, sends_at}
use Rattle.office_books.specs.History.{History, Opened, Fed, next_poll, facts_of, slots_of, spans_by, poll_by, polls_from, sends_from, added_by, reply_by, with_words}
use Rattle.office_books.specs.Refusals.{AreAccepted, refuses, is_bad_request, sent_count, asks_past_numbers}
use Rattle.office_books.specs.PollEndings.{PollsEndOnce}
use Rattle.office_books.specs.PollOrder.{PollsFit}
use Rattle.office_books.proofs.SettledOnce.{SettlesPending}
use Rattle.office_books.proofs.OpenPolls.{IsKeptByOutcomes, settled_keeps, lost_keeps}
use Rattle.office_books.proofs.DeviceSlots.{HaveSameDevices, same_devices, found_is_known}
use Rattle.office_books.proofs.QuietFacts.{IsQuiet, AreQuiet, books_quiet, added_each, quiet_reply, later_first, later_part_first}
use Rattle.office_books.proofs.QuietEvents.{IsPassed, passed}

-- If a record concerns no poll, then the rules for the order of polls (`PollsFit`) accept the
-- record.
quiet_fits : (f : Fact) (facts : List Fact) → IsQuiet f → PollsFit facts → PollsFit (f ∷ facts)
quiet_fits (fact.Poll p) facts q h = absurd (let e : Some p ≡ None = q.poll in cc)
quiet_fits (fact.Outcome e) facts q h = absurd (let n : Some e ≡ None = q.ended in cc)
quiet_fits (fact.Hold b) facts q h = absurd (let n : Some b ≡ None = q.hold in cc)
quiet_fits (fact.Device d) facts q h = h
quiet_fits (fact.List p) facts q h = h
quiet_fits (fact.Register r) facts q h = h
quiet_fits (fact.Opening o) facts q h = h
quiet_fits (fact.Entry b) facts q h = h
quiet_fits (fact.Void v) facts q h = h
quiet_fits (fact.Reply r) facts q h = h

all_quiet_fit : (added facts : List Fact) → AreQuiet added → PollsFit facts → PollsFit (reverse added ++ facts)
all_quiet_fit [] facts q h = h
all_quiet_fit (f ∷ added) facts q h =
    subst PollsFit (sym (later_first f added facts)) (all_quiet_fit added (f ∷ facts) q.1 (quiet_fits f facts q.0 h))

-- True if the poll was started and the records satisfy the rules for the order of polls
-- (`PollsFit`). The readings in the poll's response may then be recorded.
record WasStarted (poll : Poll) (facts : List Fact) : Type 0 where
  started : is_some (poll_of facts poll.number) ≡ true
  polls : PollsFit facts

fact_fits : (poll : Poll) (meter : List ℕ) (r : Reading) (v : Verdict) (facts : List Fact) → WasStarted poll facts → WasStarted poll (as_fact meter poll.number r v ∷ facts)
fact_fits poll meter r (Accepted rolls step) facts h = record { started = h.started; polls = h.polls }
fact_fits poll meter r (Held cause) facts h = record { started = h.started; polls = (h.started, h.polls) }

reading_fits : (poll : Poll) (r : Reading) (row : Option Installation) (facts : List Fact) → WasStarted poll facts → WasStarted poll (with_reading poll.number r row facts)
reading_fits poll r None facts h = h
reading_fits poll r (Some row) facts h = fact_fits poll row.opening.meter r (judgement row r) facts h

either_fits : (poll : Poll) (b : Bool) (read facts : List Fact) → WasStarted poll read → WasStarted poll facts → WasStarted poll (if b then read else facts)
either_fits poll true read facts h k = h
either_fits poll false read facts h k = k

registers_fit : (at : ℕ) (poll : Poll) (words : List ℕ) (registers : List Register) (facts : List Fact) → WasStarted poll facts
    → WasStarted poll (with_registers at poll words registers facts)
registers_fit at poll words [] facts h = h
registers_fit at poll words (register ∷ registers) facts h =
    let row = open_at facts register.name in
    let reading = reading_of at poll.span words register in
    registers_fit at poll words registers (with_register at poll words register facts)
    (either_fits poll (is_read_by poll.span register) (with_reading poll.number reading row facts) facts (reading_fits poll reading row facts h) h)

passes_step : {X : Type 0} (p : X → Bool) (b : Bool) (y x : X) (o : Option X) → p y ≡ b → (o ≡ Some x → p x ≡ true)
    → cond b (Some y) o ≡ Some x → p x ≡ true
passes_step p true y x o e later h = let same_one : y ≡ x = cc in ap p (sym same_one) ∙ e
passes_step p false y x o e later h = later h

find_passes : {X : Type 0} (p : X → Bool) (xs : List X) (x : X) → find p xs ≡ Some x → p x ≡ true
find_passes p [] x h = absurd (cc)
find_passes p (y ∷ ys) x h = passes_step p (p y) y x (find p ys) refl (find_passes p ys x) h

found_has_number : (facts : List Fact) (number : ℕ) (poll : Poll) → poll_of facts number ≡ Some poll → is_some (poll_of facts poll.number) ≡ true
found_has_number facts number poll found =
    let is : poll.number ≡ number = eqb-true poll.number number (find_passes (λ (p : Poll). p.number == number) (polls_in facts) poll found) in
    ap (λ (n : ℕ). is_some (poll_of facts n)) is ∙ ap is_some found

reply_fits : (at number : ℕ) (o : Option Poll) (words : List ℕ) (facts : List Fact) → poll_of facts number ≡ o → PollsFit facts → PollsFit (with_reply at o words facts)
reply_fits at number None words facts found h = h
reply_fits at number (Some poll) words facts found h =
    let all = registers_fit at poll words (registers_of facts poll.device) facts (record { started = found_has_number facts number poll found; polls = h }) in
    all.polls

words_fit : (at number : ℕ) (settlement : session.Settlement) (facts : List Fact) → PollsFit facts → PollsFit (with_words at number settlement facts)
words_fit at number (session.Answered words) facts h = reply_fits at number (poll_of facts number) words facts refl h
words_fit at number (session.Exception code) facts h = h
words_fit at number session.Silent facts h = h
words_fit at number (session.Malformed malformation) facts h = h
words_fit at number (session.Lost cause) facts h = h

outcome_fits : IsKeptByOutcomes PollsFit
outcome_fits at settled facts here h =
    words_fit at settled.0 settled.1 _ (record { started = here.started; pending = here.pending }, h)

-- The records that result when a poll is added for each of the given Modbus reads that were sent.
abbrev recorded_sends : (at : ℕ) → Device → List Send → List Fact → List Fact
recorded_sends at device sends facts = reverse (map (poll_by at device) sends) ++ facts

room : (n k limit : ℕ) → n + suc k ≤ limit → (n + 1 ≤ limit) × (suc n + k ≤ limit)
room n k limit h = (omega (arith, h), omega (arith, h))

round_step : (number at : ℕ) (device : Device) (send : Send) (later : List Send) (facts : List Fact) (b : Bool) → PollsFit facts
    → number ≡ next_poll facts
    → (number ≤ poll_limit → length (polls_in (poll_by at device send ∷ facts)) + length later ≤ poll_limit → PollsFit (recorded_sends at device later (poll_by at device send ∷ facts)))
    → length (polls_in facts) + length (cond b (send ∷ later) []) ≤ poll_limit
    → PollsFit (recorded_sends at device (cond b (send ∷ later) []) facts)
round_step number at device send later facts true h is rest few =
    let both = room (length (polls_in facts)) (length later) poll_limit few in
    subst PollsFit (sym (later_first (poll_by at device send) (map (poll_by at device) later) facts))
    (rest (subst (λ (n : ℕ). n ≤ poll_limit) (sym is) both.0) both.1)
round_step number at device send later facts false h is rest few = h

one_more : (number n : ℕ) → number ≡ n + 1 → number + 1 ≡ suc n + 1
one_more number n is = omega (arith, is)

round_fits : (number at : ℕ) (device : Device) (before : List session.Event) (spans : List ReadSpan) (facts : List Fact) → PollsFit facts
    → number ≡ next_poll facts → is_some (device_of facts device.name) ≡ true
    → length (polls_in facts) + length (sends_on number at device before spans) ≤ poll_limit
    → PollsFit (recorded_sends at device (sends_on number at device before spans) facts)
round_fits number at device before [] facts h is known few = h
round_fits number at device before (span ∷ spans) facts h is known few =
    let send : Send = record { number = number; id = session.next_id before; span = span } in
    let after = before ++ start_by at device send ∷ [] in
    round_step number at device send (sends_on (number + 1) at device after spans) facts
    (is_startable device (Some before)) h is
    (λ within later_few.
    round_fits (number + 1) at device after spans (poll_by at device send ∷ facts)
    (record { number = is; few = within; device = known }, h) (one_more number (length (polls_in facts)) is) known later_few)
    few

present_fits : (at : ℕ) (device : Device) (present : Option (List session.Event)) (spans : List ReadSpan) (facts : List Fact) → PollsFit facts
    → is_some (device_of facts device.name) ≡ true
    → length (polls_in facts) + length (sends_at (next_poll facts) at device present spans) ≤ poll_limit
    → PollsFit (recorded_sends at device (sends_at (next_poll facts) at device present spans) facts)
present_fits at device None spans facts h known few = h
present_fits at device (Some before) spans facts h known few = round_fits (next_poll facts) at device before spans facts h refl known few

sent_fit : (at : ℕ) (spans : List ReadSpan) (slots : List Slot) (facts : List Fact) (given : Option (List ℕ)) (o : Option Slot) → HaveSameDevices slots facts
    → PollsFit facts → slot_of slots given ≡ o → length (polls_in facts) + length (sends_from (next_poll facts) at spans o) ≤ poll_limit
    → PollsFit (reverse (polls_from (next_poll facts) at spans o) ++ facts)
sent_fit at spans slots facts given None same h found few = h
sent_fit at spans slots facts given (Some slot) same h found few =
    present_fits at slot.device slot.present spans facts h (found_is_known slots facts given slot same found) few

-- If a command is accepted, then the rules for the order of polls (`PollsFit`) accept the polls
-- that the command starts.
command_fits : (at : ℕ) (slots : List Slot) (facts : List Fact) (c : Command) → HaveSameDevices slots facts → asks_past_numbers slots facts at c ≡ false
    → PollsFit facts → PollsFit (reverse (added_by (next_poll facts) at slots facts c) ++ facts)
command_fits at slots facts (command.StartPoll c) same few h =
    let c' : Command = command.StartPoll c in
    sent_fit at (spans_by facts c') slots facts c.device (slot_of slots c.device) same h refl
    (ltb-false poll_limit (length (polls_in facts) + sent_count slots facts at c') few)
command_fits at slots facts (command.StartRound c) same few h =
    let c' : Command = command.StartRound c in
    sent_fit at (spans_by facts c') slots facts c.device (slot_of slots c.device) same h refl
    (ltb-false poll_limit (length (polls_in facts) + sent_count slots facts at c') few)
command_fits at slots facts c same few h =
    all_quiet_fit _ facts
    (added_each IsQuiet books_quiet (next_poll facts) at slots facts c (λ d e. record { poll = refl; ended = refl; hold = refl }) (λ e. absurd (cc))) h

event_fits : SettlesPending → (past : History) → PollsEndOnce past → (at : ℕ) (e : Event) → IsPassed (refuses past at e)
    → PollsFit (facts_of past) → PollsFit (facts_of (Fed at e ∷ past))
event_fits law past ends at (event.Connected given) p h = h
event_fits law past ends at (event.Bytes given piece) p h =
    settled_keeps law PollsFit outcome_fits past ends (next_poll (facts_of past)) at (event.Bytes given piece) h
event_fits law past ends at event.Tick p h = settled_keeps law PollsFit outcome_fits past ends (next_poll (facts_of past)) at event.Tick h
event_fits law past ends at (event.Gone given closing) p h =
    settled_keeps law PollsFit outcome_fits past ends (next_poll (facts_of past)) at (event.Gone given closing) h
event_fits law past ends at (event.Command c) p h = command_fits at (slots_of past) (facts_of past) c (same_devices past) p.few h
event_fits law past ends at (event.Asked asked) p h =
    let facts = facts_of past in
    let added = added_by (next_poll facts) at (slots_of past) facts asked.command in
    let few = (or_parts (asks_past_numbers (slots_of past) facts at asked.command) (is_bad_request asked (refusal.Store store.Refused)) p.few).0 in
    subst PollsFit (sym (later_part_first added (reply_by at asked) facts))
    (all_quiet_fit (reply_by at asked) (reverse added ++ facts) (quiet_reply at asked)
    (command_fits at (slots_of past) facts asked.command (same_devices past) few h))

-- Suppose that Modbus sessions end only pending polls and each poll ends once. Then, after any
-- accepted events, the rules for the order of polls (`PollsFit`) accept each poll and each outcome.
pub polls_fit : SettlesPending → ((history : History) → AreAccepted history → PollsEndOnce history) → (history : History) → AreAccepted history
    → PollsFit (facts_of history)
polls_fit law once [] h = tt
polls_fit law once (Opened at ∷ past) h =
    lost_keeps PollsFit outcome_fits (facts_of past) (once past h.1).numbered at (polls_fit law once past h.1)
polls_fit law once (Fed at e ∷ past) h =
    event_fits law past (once past h.1) at e (passed (refuses past at e) h.0.right) (polls_fit law once past h.1)
