-- Lemmas: a command adds to the records exactly the polls that it starts on the Modbus sessions,
-- consecutively numbered, and no outcome.
use Rattle.std.proofs.Common.{◌≡◌, ℕ, suc, ◌+◌, Bool, true, false, cond, List, [], ◌∷◌, ◌++◌, map, reverse, length, refl, sym, ap, subst, ◌∙◌, arith, Option, Some, None, if◌then◌else◌}
use Rattle.std.specs.List.{flat_map}
use Rattle.std.specs.List.Sorted.{IsPermutation}
use Rattle.std.proofs.lemmas.List.Sorted.{IsPermutation-refl, IsPermutation-trans, IsPermutation-middle}
use Rattle.mb_wire.specs.declared.span.ReadSpan.{ReadSpan}
use Rattle.poll_core.specs.Settling as session
use Rattle.office_events.specs.declared.facts.Device.{Device}
use Rattle.office_events.specs.declared.facts.Fact.{Fact}
use Rattle.office_events.specs.declared.commands.Command.{Command}
use Rattle.office_events.specs.declared.commands.Command.TheVariants as command
use Rattle.office_events.specs.declared.events.Event.TheVariants as event
use Rattle.office_books.specs.Facts.{is_named, polls_in, ended_in}
use Rattle.office_books.specs.Sessions.{Slot, Send, slot_of, started_on, start_by, is_startable, sends_on, sends_at}
use Rattle.office_books.specs.History.{next_poll, poll_by, polls_from, sends_from, sends_by, spans_by, added_by, settled_on, settled_by}
use Rattle.office_books.specs.PollEndings.{AreNumbered}
use Rattle.office_books.proofs.Permutations.{same_is}
use Rattle.office_books.proofs.EndedFacts.{settled_on_all}
use Rattle.office_books.proofs.Happenings.{sent_numbers, round_numbers, command_settles}
use Rattle.office_books.proofs.EndedSlots.{new_on, new_by}
use Rattle.office_books.proofs.ApartSlots.{AreApart, of_none, reported_by, if_named, one_reports}
use Rattle.office_books.proofs.QuietFacts.{AreQuiet, IsQuiet, later_first, quiet_polls, quiet_ends, books_quiet, added_each}

abbrev pub numbers : List Fact → List ℕ
numbers facts = map (λ poll. poll.number) (polls_in facts)

-- The records that result when a poll is added for each of the given Modbus reads that were sent.
abbrev recorded_sends : (at : ℕ) → Device → List Send → List Fact → List Fact
recorded_sends at device sends facts = reverse (map (poll_by at device) sends) ++ facts

sent_started : (at : ℕ) (device : Device) (sends : List Send) (facts : List Fact)
    → IsPermutation (numbers (recorded_sends at device sends facts)) (sent_numbers sends ++ numbers facts)
sent_started at device [] facts = IsPermutation-refl (numbers facts)
sent_started at device (send ∷ sends) facts =
    IsPermutation-trans _ _ _ (same_is _ _ (ap numbers (later_first (poll_by at device send) (map (poll_by at device) sends) facts)))
    (IsPermutation-trans _ _ _ (sent_started at device sends (poll_by at device send ∷ facts))
    (IsPermutation-middle (sent_numbers sends) send.number (numbers facts)))

sent_ends : (at : ℕ) (device : Device) (sends : List Send) (facts : List Fact) → ended_in (recorded_sends at device sends facts) ≡ ended_in facts
sent_ends at device [] facts = refl
sent_ends at device (send ∷ sends) facts =
    ap ended_in (later_first (poll_by at device send) (map (poll_by at device) sends) facts) ∙ sent_ends at device sends (poll_by at device send ∷ facts)

-- True if the recorded polls are numbered consecutively from 1.
abbrev AreNumberedIn : List Fact → Type 0
AreNumberedIn facts = AreNumbered (polls_in facts)

sent_step : (at : ℕ) (device : Device) (send : Send) (later : List Send) (facts : List Fact) (b : Bool) → AreNumberedIn facts
    → AreNumberedIn (recorded_sends at device later (poll_by at device send ∷ facts)) → AreNumberedIn (recorded_sends at device (cond b (send ∷ later) []) facts)
sent_step at device send later facts true h rest =
    let P : List Fact → Type 0 = AreNumberedIn in
    subst P (sym (later_first (poll_by at device send) (map (poll_by at device) later) facts)) rest
sent_step at device send later facts false h rest = h

one_more : (number n : ℕ) → number ≡ n + 1 → number + 1 ≡ suc n + 1
one_more number n is = omega (arith, is)

sent_numbered : (number at : ℕ) (device : Device) (before : List session.Event) (spans : List ReadSpan) (facts : List Fact) → AreNumberedIn facts
    → number ≡ next_poll facts → AreNumberedIn (recorded_sends at device (sends_on number at device before spans) facts)
sent_numbered number at device before [] facts h is = h
sent_numbered number at device before (span ∷ spans) facts h is =
    let send : Send = record { number = number; id = session.next_id before; span = span } in
    sent_step at device send (sends_on (number + 1) at device (before ++ start_by at device send ∷ []) spans) facts
    (is_startable device (Some before)) h
    (sent_numbered (number + 1) at device (before ++ start_by at device send ∷ []) spans (poll_by at device send ∷ facts)
    (is, h) (one_more number (length (polls_in facts)) is))

-- True if the added records contain exactly the polls of the given Modbus reads that were sent,
-- consecutively numbered, and no outcome of a poll.
pub record AddsPolls (facts added : List Fact) (sends : List Send) : Type 0 where
  pub numbered : AreNumbered (polls_in (reverse added ++ facts))
  pub started : IsPermutation (numbers (reverse added ++ facts)) (sent_numbers sends ++ numbers facts)
  pub ended : ended_in (reverse added ++ facts) ≡ ended_in facts

adds_quiet : (facts added : List Fact) (sends : List Send) → AreNumbered (polls_in facts) → AreQuiet added → sends ≡ [] → AddsPolls facts added sends
adds_quiet facts added sends h quiet none =
    let same = quiet_polls added facts quiet in
    record {
      numbered = subst AreNumbered (sym same) h;
      started = same_is _ _ (ap (λ polls. map (λ poll. poll.number) polls) same ∙ ap (λ ss. sent_numbers ss ++ numbers facts) (sym none));
      ended = quiet_ends added facts quiet;
    }

adds_present : (at : ℕ) (device : Device) (present : Option (List session.Event)) (spans : List ReadSpan) (facts : List Fact) → AreNumbered (polls_in facts)
    → let sends = sends_at (next_poll facts) at device present spans in AddsPolls facts (map (poll_by at device) sends) sends
adds_present at device None spans facts h = adds_quiet facts [] [] h tt refl
adds_present at device (Some before) spans facts h =
    let sends = sends_on (next_poll facts) at device before spans in
    record {
      numbered = sent_numbered (next_poll facts) at device before spans facts h refl;
      started = sent_started at device sends facts;
      ended = sent_ends at device sends facts;
    }

adds_round : (at : ℕ) (spans : List ReadSpan) (o : Option Slot) (facts : List Fact) → AreNumbered (polls_in facts)
    → AddsPolls facts (polls_from (next_poll facts) at spans o) (sends_from (next_poll facts) at spans o)
adds_round at spans None facts h = adds_quiet facts [] [] h tt refl
adds_round at spans (Some slot) facts h = adds_present at slot.device slot.present spans facts h

-- If a command requests no Modbus reads, then no frames are sent to devices for the command.
none_at : (number at : ℕ) (device : Device) (present : Option (List session.Event)) → sends_at number at device present [] ≡ []
none_at number at device None = refl
none_at number at device (Some before) = refl

none_from : (number at : ℕ) (o : Option Slot) → sends_from number at [] o ≡ []
none_from number at None = refl
none_from number at (Some slot) = none_at number at slot.device slot.present

pub command_adds : (at : ℕ) (slots : List Slot) (facts : List Fact) (c : Command) → AreNumbered (polls_in facts)
    → AddsPolls facts (added_by (next_poll facts) at slots facts c) (sends_by (next_poll facts) at slots facts c)
command_adds at slots facts (command.StartPoll c) h = adds_round at (spans_by facts (command.StartPoll c)) (slot_of slots c.device) facts h
command_adds at slots facts (command.StartRound c) h = adds_round at (spans_by facts (command.StartRound c)) (slot_of slots c.device) facts h
command_adds at slots facts c h =
    adds_quiet facts _ _ h
    (added_each IsQuiet books_quiet (next_poll facts) at slots facts c (λ d e. record { poll = refl; ended = refl; hold = refl }) (λ e. absurd (cc)))
    (none_from (next_poll facts) at (slot_of slots None))

-- A command ends no polls on the Modbus sessions, and starts exactly the polls whose reads it
-- sends.
settles_none : (number at : ℕ) (c : Command) (device : Device) (present : Option (List session.Event)) → settled_on number at (event.Command c) device present ≡ []
settles_none number at c device None = refl
settles_none number at c device (Some before) = command_settles number at [] c device before

pub commands_settle : (number at : ℕ) (c : Command) (slots : List Slot) → settled_on_all number at (event.Command c) slots ≡ []
commands_settle number at c slots =
    of_none (settled_by number at (event.Command c)) (λ slot. settles_none number at c slot.device slot.present) slots

abbrev sent_on : (number at : ℕ) → List ReadSpan → Slot → List ℕ
sent_on number at spans slot = sent_numbers (sends_at number at slot.device slot.present spans)

none_either : (b : Bool) (none : List ℕ) → none ≡ (if b then none else none)
none_either true none = refl
none_either false none = refl

new_here : (number at : ℕ) (spans : List ReadSpan) (c : Command) (device : Device) (present : Option (List session.Event))
    → new_on number at spans (event.Command c) device present
    ≡ (if is_named (started_on c) device.name then sent_numbers (sends_at number at device present spans) else [])
new_here number at spans c device None = none_either (is_named (started_on c) device.name) []
new_here number at spans c device (Some before) =
    round_numbers (is_named (started_on c) device.name) at device (sends_on number at device before spans)

new_each : (number at : ℕ) (spans : List ReadSpan) (c : Command) (slots : List Slot)
    → flat_map (new_by number at spans (event.Command c)) slots ≡ flat_map (if_named (started_on c) (sent_on number at spans)) slots
new_each number at spans c [] = refl
new_each number at spans c (slot ∷ slots) =
    ap (λ ns. ns ++ flat_map (new_by number at spans (event.Command c)) slots) (new_here number at spans c slot.device slot.present)
    ∙ ap (λ ns. if_named (started_on c) (sent_on number at spans) slot ++ ns) (new_each number at spans c slots)

reported_sends : (number at : ℕ) (spans : List ReadSpan) (o : Option Slot) → reported_by (sent_on number at spans) o ≡ sent_numbers (sends_from number at spans o)
reported_sends number at spans None = refl
reported_sends number at spans (Some slot) = refl

pub new_sent : (number at : ℕ) (spans : List ReadSpan) (c : Command) (slots : List Slot) → AreApart slots
    → flat_map (new_by number at spans (event.Command c)) slots ≡ sent_numbers (sends_from number at spans (slot_of slots (started_on c)))
new_sent number at spans c slots h =
    new_each number at spans c slots
    ∙ one_reports (started_on c) (sent_on number at spans) slots h
    ∙ reported_sends number at spans (slot_of slots (started_on c))
