-- Proof that after each event a polling round (a value of the type `Round`) is in the state that
-- follows from its events. The round therefore generates the next event that the specification
-- gives.
use Rattle.std.proofs.Common.{◌≡◌, ◌⊎◌, inl, inr, ℕ, zero, suc, ◌+◌, ◌-◌, ◌^◌, min, ◌<◌, ◌≤◌, ◌==◌, nat_le, nat_lt, not, Bool, true, false, cond, List, [], ◌∷◌, ◌++◌, length, map, Option, Some, None, Ok, refl, sym, ap, ◌∙◌, subst, arith}
use Rattle.std.specs.List.{count_by, filter}
use Rattle.std.specs.Option.{is_none, option_and_then}
use Rattle.std.proofs.lemmas.Bool.{cases_eq, eq-eqb, le-leb, le-ltb, lt-ltb, lt-leb, ltb-false, ne_eqb}
use Rattle.std.proofs.lemmas.List.{length-append}
use Rattle.std.proofs.lemmas.List.Elements.{filter-append, filter_agree}
use Rattle.std.proofs.lemmas.List.Sums.{length-filter}
use Rattle.poll_core.specs.Settling.{pending}
use Rattle.poll_core.specs.declared.outcome.Closing.TheVariants as closing
use Rattle.office_events.specs.declared.answers.Answer.{Answer}
use Rattle.office_events.specs.declared.answers.Answer.TheVariants as answer
use Rattle.office_events.specs.declared.answers.Note.{Note}
use Rattle.office_events.specs.declared.answers.Note.TheVariants as note
use Rattle.office_events.specs.declared.commands.Command.TheVariants as command
use Rattle.office_events.specs.declared.commands.StartRound.{StartRound}
use Rattle.office_events.specs.declared.events.Event.{Event}
use Rattle.office_events.specs.declared.events.Event.TheVariants as event
use Rattle.office_events.specs.declared.facts.Device.{Device}
use Rattle.office_events.specs.declared.facts.EndedPoll.{EndedPoll}
use Rattle.office_events.specs.declared.facts.Fact.{Fact}
use Rattle.office_events.specs.declared.refusals.Refusal.{Refusal}
use Rattle.office_books.specs.Facts.{ends_of, list_of, polls_in}
use Rattle.office_books.specs.History.{History, Fed, facts_of, next_poll, sends_by, sends_from, slots_of, spans_by, with_settled}
use Rattle.office_books.specs.Lawfulness.{FactsAreLawful, IsPast}
use Rattle.office_books.specs.Notes.{notes_after, settled_notes}
use Rattle.office_books.specs.PollEndings.{PollsEndOnce, polls_on_present}
use Rattle.office_books.specs.PollOrder.{PollsFit}
use Rattle.office_books.specs.Refusals.{AreAccepted, reads_in_all, refusal_of, sent_count, unless_refused}
use Rattle.office_books.specs.Sessions.{Slot, sends_at, sends_on, slot_after, slot_of, start_by}
use Rattle.office_books.proofs.ApartSlots.{device-after}
use Rattle.office_books.proofs.DeviceSlots.{same_devices}
use Rattle.office_books.proofs.EndOnce.{all_agree}
use Rattle.office_books.proofs.EndedFacts.{polls-with_settled}
use Rattle.office_books.proofs.LawfulChanges.{not_refused}
use Rattle.office_books.proofs.SessionLaws.{SessionLaws}
use Rattle.office_books.specs.declared.failures.Failures.{Failures}
use Rattle.office_core.specs.EventRun.{Answered}
use Rattle.office_core.specs.Taking.{IsAnswer}
use Rattle.office_program.specs.Course.{Does, IsTaken, Leave, Next, StartFrom, Take, endings_of, first_by, first_poll, is_ending, next_after, next_by, next_in, polls_ended, reads_planned, reads_started, start_from}
use Rattle.office_program.specs.FedEvents.{history_with}
use Rattle.office_program.specs.DeviceRounds.Polls.{ends, numbers, waits}
use Rattle.office_program.specs.DeviceRounds.Rounds.{answered, begun, going_on, heard, stage_after}
use Rattle.office_program.specs.Polling.{Holds, IsFirst, IsOnSession, IsUnderWay, StandsAt, from_on, is_open, next_at, next_of, round_after}
use Rattle.office_program.specs.declared.device_rounds.polls.Sum.{Sum}
use Rattle.office_program.specs.declared.device_rounds.round.Round.{Round}
use Rattle.office_program.specs.declared.device_rounds.stage.Stage.{Stage}
use Rattle.office_program.specs.declared.device_rounds.stage.Stage.TheVariants.{Off, Joining, Starting, Waiting, Leaving}
use Rattle.office_program.proofs.Beyond.{none_beyond, once_ended}
use Rattle.office_program.proofs.Goings.{fed_one}
use Rattle.office_program.proofs.Nexts.{start_next}
use Rattle.office_program.proofs.Numbers.{all_pass, counts_from, fewer_open, from_both, left_open, length_from, reported_from}
use Rattle.office_program.proofs.OnSession.{after_start, few_open, few_wait, found_after, on_connection, on_piece, on_tick, started_on}
use Rattle.office_program.proofs.Starts.{can_be_started, ends_kept, few_sent, narrow_found, polls_more, reads_left, sends_fit, sent_from, some_sent}
use Rattle.office_program.proofs.Timely.{connected_noted}
use Rattle.office_program.proofs.Reported.{ends_settled, reported, waits_reported}

-- The theorems that the proof on polling rounds assumes. In accepted events, each poll ends once,
-- and polls and outcomes have a permitted order. The records obey the rules for adding records, and
-- the polls of one connection obey the laws of a polling session.
pub record Laws : Type 0 where
  pub session : SessionLaws
  pub once : (history : History) → AreAccepted history → PollsEndOnce history
  pub fit : (history : History) → AreAccepted history → PollsFit (facts_of history)
  pub lawful : FactsAreLawful

abbrev round_at : (device : Option (List ℕ)) → Stage → (polls : List ℕ) → (started planned : ℕ) → Sum → Round
round_at device stage polls started planned sum = record {
  device = device;
  stage = stage;
  polls = record { items = polls };
  started = started;
  planned = planned;
  sum = sum;
}

-- The stage of a waiting polling round after the office (the event engine) reported outcomes of
-- polls.
--
-- If no poll of the polling round ended, the round still waits. Otherwise the round starts the
-- remaining Modbus reads, ends, or waits for its other polls.
abbrev stage_by : (none start leave : Bool) → Stage
stage_by none start leave = cond none Waiting (cond start Starting (cond leave (Leaving closing.Gone) Waiting))

next_by_stage : (none start leave : Bool) (started : ℕ)
    → cond none Take (cond start (StartFrom started) (cond leave Leave Take)) ≡ next_at (stage_by none start leave) started
next_by_stage true start leave started = refl
next_by_stage false true leave started = refl
next_by_stage false false true started = refl
next_by_stage false false false started = refl

gone_on_by : (start leave : Bool) (round : Round)
    → cond start (record round { stage = Starting }) (cond leave (record round { stage = Leaving closing.Gone }) round)
    ≡ record round { stage = cond start Starting (cond leave (Leaving closing.Gone) round.stage) }
gone_on_by true leave round = refl
gone_on_by false true round = refl
gone_on_by false false round = refl

going_by : (none : Bool) (device : Option (List ℕ)) (polls : List ℕ) (started planned : ℕ) (sum : Sum)
    → going_on Waiting (not none) (round_at device Waiting polls started planned sum)
    ≡ round_at device (stage_by none (nat_lt started planned) (length polls == 0)) polls started planned sum
going_by true device polls started planned sum = refl
going_by false device polls started planned sum =
    gone_on_by (nat_lt started planned) (length polls == 0) (round_at device Waiting polls started planned sum)

leaves_as : (none start a b : Bool) → (start ≡ false → a ≡ b) → stage_by none start a ≡ stage_by none start b
leaves_as true start a b h = refl
leaves_as false true a b h = refl
leaves_as false false a b h = ap (λ c. cond c (Leaving closing.Gone) Waiting) (h refl)

stands_by : (none start leave : Bool) (device : Option (List ℕ)) (past : History) (fed : List Answered) (round : Round)
    → IsUnderWay device past fed round → StandsAt (stage_by none start leave) device past fed round
stands_by true start leave device past fed round way = way
stands_by false true leave device past fed round way = way
stands_by false false true device past fed round way = refl
stands_by false false false device past fed round way = way

-- The number of pending polls is smaller after an event than before the event if and only if the
-- event has ended a poll.
fewer : (after before endings : ℕ) → before ≡ after + endings → nat_lt after before ≡ not (endings == 0)
fewer after before endings is =
    elim (cases_eq endings 0) [
      | inl none ↦
          let less : before ≤ after = omega (arith, is, none) in
          le-ltb after before less ∙ sym (ap not (eq-eqb endings 0 none))
      | inr some ↦
          let more : after < before = omega (arith, is, some) in
          lt-ltb after before more ∙ sym (ap not (ne_eqb endings 0 some))
    ]

-- If a polling round has started all of its Modbus reads, then none of its polls is pending if and
-- only if all of its polls have ended.
all_ended : (started planned ended left : ℕ) → ended + left ≡ started → started ≤ planned → nat_lt started planned ≡ false
    → (left == 0) ≡ nat_le planned ended
all_ended started planned ended left sum within none =
    let past = ltb-false started planned none in
    elim (cases_eq left 0) [
      | inl empty ↦
          let done : planned ≤ ended = omega (arith, sum, within, past, empty) in
          eq-eqb left 0 empty ∙ sym (le-leb planned ended done)
      | inr some ↦
          let more : ended < planned = omega (arith, sum, within, past, some) in
          ne_eqb left 0 some ∙ sym (lt-leb planned ended more)
    ]

first_same : (first : Option ℕ) → first_by first answer.Noted ≡ first
first_same None = refl
first_same (Some first) = refl

none_ends : (notes : List Note) → length (filter (is_ending None) notes) ≡ 0
none_ends [] = refl
none_ends (note.Outcome poll outcome ∷ notes) = none_ends notes
none_ends (note.Reading meter raw rolls step ∷ notes) = none_ends notes
none_ends (note.Held meter raw cause ∷ notes) = none_ends notes

quiet_note : (first : ℕ) (one : Note) → ((n : ℕ) → ends n one ≡ false) → is_ending (Some first) one ≡ false
quiet_note first (note.Outcome poll outcome) h = absurd (let no = h poll in let yes = eq-eqb poll poll refl in cc)
quiet_note first (note.Reading meter raw rolls step) h = refl
quiet_note first (note.Held meter raw cause) h = refl

-- Suppose that no outcome is reported for polls with numbers after the polling round's last poll.
-- Then each outcome that is reported for a number from the round's first poll on belongs to a poll
-- of the round.
ends_reported : (first : Option ℕ) (number started : ℕ) (notes : List Note) → IsFirst first number started
    → ((n : ℕ) → number + started ≤ n → reported n notes ≡ 0) → count_by (is_ending first) notes ≡ reported_from number started notes
ends_reported None number started notes is beyond =
    sym (length-filter (is_ending None) notes) ∙ none_ends notes ∙ sym (ap (λ n. reported_from number n notes) is)
ends_reported (Some first) number started notes is beyond =
    sym (length-filter (is_ending (Some first)) notes)
    ∙ ap (λ n. length (filter (is_ending (Some n)) notes)) is
    ∙ counts_from number started (is_ending (Some number)) notes (λ p o. refl) (λ one h. quiet_note number one h) beyond

-- The properties of an event that can end polls: the store records the outcomes of the ended polls,
-- and the event engine reports these outcomes in notifications.
pub record Settles (history : History) (at : ℕ) (e : Event) : Type 0 where
  pub facts : facts_of (Fed at e ∷ history)
      ≡ with_settled (next_poll (facts_of history)) at e (slots_of history) (facts_of history)
  pub notes : notes_after history at e (Ok answer.Noted)
      ≡ settled_notes (next_poll (facts_of history)) at e (slots_of history) (facts_of history)
  pub following : (next : Next) → next_by e next ≡ next

record IsSettledBy (number started before : ℕ) (history : History) (at : ℕ) (e : Event) : Type 0 where
  beyond : (n : ℕ) → number + started ≤ n → reported n (notes_after history at e (Ok answer.Noted)) ≡ 0
  polls : next_poll (facts_of (Fed at e ∷ history)) ≡ next_poll (facts_of history)
  left : filter (waits (notes_after history at e (Ok answer.Noted))) (filter (is_open (facts_of history)) (from_on number started))
      ≡ filter (is_open (facts_of (Fed at e ∷ history))) (from_on number started)
  fewer : before
      ≡ length (filter (is_open (facts_of (Fed at e ∷ history))) (from_on number started))
      + reported_from number started (notes_after history at e (Ok answer.Noted))

ends_more : (history : History) (at : ℕ) (e : Event) → Settles history at e → (n : ℕ)
    → length (ends_of (facts_of (Fed at e ∷ history)) n) ≡ reported n (notes_after history at e (Ok answer.Noted)) + length (ends_of (facts_of history) n)
ends_more history at e settles n =
    ap (λ (fs : List Fact). length (ends_of fs n)) settles.facts
    ∙ ends_settled n (next_poll (facts_of history)) at e (slots_of history) (facts_of history)
    ∙ ap (λ ns. reported n ns + length (ends_of (facts_of history) n)) (sym settles.notes)

is_settled_by : (laws : Laws) (number started : ℕ) (history : History) (at : ℕ) (e : Event) → AreAccepted (Fed at e ∷ history) → Settles history at e
    → number + started ≡ next_poll (facts_of history)
    → IsSettledBy number started (length (filter (is_open (facts_of history)) (from_on number started))) history at e
is_settled_by laws number started history at e accepted settles last =
    let after = facts_of (Fed at e ∷ history) in
    let notes = notes_after history at e (Ok answer.Noted) in
    let once = laws.once (Fed at e ∷ history) accepted in
    let more = ends_more history at e settles in
    let same : length (polls_in after) ≡ length (polls_in (facts_of history)) =
    ap (λ (fs : List Fact). length (polls_in fs)) settles.facts
    ∙ ap length (polls-with_settled (next_poll (facts_of history)) at e (slots_of history) (facts_of history)) in
    record {
      beyond = λ n past.
          let here = more n in
          let none = none_beyond after (laws.fit (Fed at e ∷ history) accepted) once.numbered n (omega (arith, same, past, last)) in
          omega (arith, here, none);
      polls = ap (λ n. n + 1) same;
      left = left_open (λ n. length (ends_of (facts_of history) n)) (λ n. length (ends_of after n)) (waits notes) notes more (λ n. waits_reported notes n) (from_on number started);
      fewer = fewer_open (λ n. length (ends_of (facts_of history) n)) (λ n. length (ends_of after n)) notes more (once_ended (Fed at e ∷ history) once) number started;
    }

settled_round : (laws : Laws) (device : Option (List ℕ)) (past : History) (fed : List Answered) (at : ℕ) (e : Event) (polls : List ℕ)
    (started planned : ℕ) (sum : Sum) → (way : IsUnderWay device past fed (round_at device Waiting polls started planned sum))
    → AreAccepted (Fed at e ∷ history_with past fed) → Settles (history_with past fed) at e
    → IsOnSession (slots_of (Fed at e ∷ history_with past fed)) device (from_on way.number (reads_started fed)) → (new : Sum)
    → let notes = notes_after (history_with past fed) at e (Ok answer.Noted) in let left = filter (waits notes) polls in
    Holds device past (fed_one at e (Ok answer.Noted) ∷ fed)
    (going_on Waiting (nat_lt (length left) (length polls)) (round_at device Waiting left started planned new))
settled_round laws device past fed at e polls started planned sum way accepted settles on new =
    let history = history_with past fed in
    let notes = notes_after history at e (Ok answer.Noted) in
    let one = fed_one at e (Ok answer.Noted) in
    let s = reads_started fed in
    let left = filter (waits notes) polls in
    let by = is_settled_by laws way.number s history at e accepted settles way.last in
    let left_is : left ≡ filter (is_open (facts_of (Fed at e ∷ history))) (from_on way.number s) =
    ap (filter (waits notes)) way.polls ∙ by.left in
    let endings : endings_of past fed one ≡ reported_from way.number s notes = ends_reported (first_poll fed) way.number s notes way.first by.beyond in
    let count : length polls ≡ length left + endings_of past fed one =
    (let had = ap length way.polls in let has = ap length left_is in let more = by.fewer in omega (arith, had, has, more, endings)) in
    let more_ended : polls_ended past (one ∷ fed) + length left ≡ s = (let so = way.ended in omega (arith, so, count)) in
    let same_started : reads_started (one ∷ fed) ≡ s = omega arith in
    let none = endings_of past fed one == 0 in
    let leave = nat_le (reads_planned fed) (polls_ended past (one ∷ fed)) in
    let stage = stage_by none (nat_lt started planned) (length left == 0) in
    let start_is : nat_lt started planned ≡ nat_lt s (reads_planned fed) =
    ap (λ n. nat_lt n planned) way.started ∙ ap (λ n. nat_lt s n) way.planned in
    let stage_is : stage ≡ stage_by none (nat_lt s (reads_planned fed)) leave =
    ap (λ b. stage_by none b (length left == 0)) start_is
    ∙ leaves_as none (nat_lt s (reads_planned fed)) (length left == 0) leave
    (λ no. all_ended s (reads_planned fed) (polls_ended past (one ∷ fed)) (length left) more_ended way.within no) in
    let next_is : next_in past (one ∷ fed) ≡ next_at stage started =
    settles.following _
    ∙ ap (λ n. next_after (endings_of past fed one) n (polls_ended past (one ∷ fed)) (reads_planned fed)) same_started
    ∙ next_by_stage none (nat_lt s (reads_planned fed)) leave s
    ∙ ap (λ x. next_at x s) (sym stage_is) ∙ ap (λ n. next_at stage n) (sym way.started) in
    let goes : going_on Waiting (nat_lt (length left) (length polls)) (round_at device Waiting left started planned new) ≡ round_at device stage left started planned new =
    ap (λ b. going_on Waiting b (round_at device Waiting left started planned new)) (fewer (length left) (length polls) (endings_of past fed one) count)
    ∙ going_by none device left started planned new in
    let still : IsUnderWay device past (one ∷ fed) (round_at device stage left started planned new) =
    record {
      number = way.number;
      first = subst (λ n. IsFirst (first_by (first_poll fed) answer.Noted) way.number n) (sym same_started)
          (subst (λ f. IsFirst f way.number s) (sym (first_same (first_poll fed))) way.first);
      last = ap (λ n. way.number + n) same_started ∙ way.last ∙ sym by.polls;
      started = way.started ∙ sym same_started;
      planned = way.planned;
      within = subst (λ n. n ≤ reads_planned fed) (sym same_started) way.within;
      polls = left_is ∙ ap (λ n. filter (is_open (facts_of (Fed at e ∷ history))) (from_on way.number n)) (sym same_started);
      ended = more_ended ∙ sym same_started;
      session = subst (λ n. IsOnSession (slots_of (Fed at e ∷ history)) device (from_on way.number n)) (sym same_started) on;
    } in
    let P : Round → Type 0 = Holds device past (one ∷ fed) in
    subst P (sym goes) (record { device_is = refl; next = next_is; stands = stands_by none (nat_lt started planned) (length left == 0) device past (one ∷ fed) (round_at device stage left started planned new) still })

all_wait : (polls : List ℕ) → filter (waits []) polls ≡ polls
all_wait [] = refl
all_wait (poll ∷ polls) = ap (λ ps. poll ∷ ps) (all_wait polls)

given_by : (refused : Option Refusal) (reported given : Answer) → Ok given ≡ unless_refused reported refused → given ≡ reported
given_by None reported given h = cc
given_by (Some why) reported given h = absurd (cc)

-- If a device is connected, then the device has an entry in the event engine's table of devices.
slot_there : (o : Option Slot) → is_none o ≡ false → (slot : Slot) × (o ≡ Some slot)
slot_there None h = absurd (cc)
slot_there (Some slot) h = (slot, refl)

connected_round : (device : Option (List ℕ)) (past : History) (at : ℕ) (polls : List ℕ) (started planned : ℕ) (sum : Sum)
    → polls ≡ [] → started ≡ 0 → planned ≡ 0 → AreAccepted (Fed at (event.Connected device) ∷ past)
    → Holds device past (fed_one at (event.Connected device) (Ok answer.Noted) ∷ [])
    (round_at device Starting (filter (waits []) polls) started planned sum)
connected_round device past at polls started planned sum none first left accepted =
    let facts = facts_of past in
    let slots = slots_of past in
    let all = not_refused past at (event.Connected device) accepted.0.right in
    let there = slot_there (slot_of slots device) all.0 in
    let waits_none : filter (waits []) polls ≡ [] = all_wait polls ∙ none in
    let none_waits : length (filter (waits []) polls) ≡ 0 = ap length waits_none in
    record {
      device_is = refl;
      next = ap StartFrom (sym first);
      stands = record {
        number = next_poll facts;
        first = refl;
        last = omega arith;
        started = first;
        planned = left;
        within = omega arith;
        polls = waits_none;
        ended = omega (arith, none_waits);
        session = on_connection (next_poll facts) at slots device there.0 there.1;
      };
    }

-- If the poll numbers of a start of Modbus reads fit in 64 bits, then they are consecutive numbers.
plain_numbers : (first count : ℕ) → first + count ≤ 2 ^ 64 → numbers first count ≡ from_on first count
plain_numbers first zero h = refl
plain_numbers first (suc n) h =
    let here : min (first + n) (2 ^ 64 - 1) ≡ first + n = omega (arith, h) in
    let less : first + n ≤ 2 ^ 64 = omega (arith, h) in
    ap (λ ns. ns ++ min (first + n) (2 ^ 64 - 1) ∷ []) (plain_numbers first n less) ∙ ap (λ k. from_on first n ++ k ∷ []) here

first_of : (first : Option ℕ) (number started next count of : ℕ) → IsFirst first number started → number + started ≡ next
    → IsFirst (first_by first (answer.Started next count of)) number (started + count)
first_of None number started next count of h last = omega (arith, h, last)
first_of (Some first) number started next count of h last = h

fits_in : (waiting left on wait pend window sends : ℕ) → waiting ≡ left → on ≡ left → on ≤ wait → wait ≡ pend → (mine : ℕ) → pend ≡ mine
    → window ≤ 16 → (sends ≡ 0) ⊎ (mine ≤ window) → 1 ≤ sends → waiting ≤ 16
fits_in waiting left on wait pend window sends a b c d mine e f (inl none) some = absurd (omega (arith, none, some))
fits_in waiting left on wait pend window sends a b c d mine e f (inr fit) some = omega arith

within_plan : (spans from of s count : ℕ) → (spans + from ≤ of) ⊎ (spans ≡ 0) → from ≡ s → 1 ≤ count → count ≤ spans → s + count ≤ of
within_plan spans from of s count (inl left) same some most = omega arith
within_plan spans from of s count (inr none) same some most = absurd (omega arith)

started_as : (laws : Laws) (device : Option (List ℕ)) (past : History) (fed : List Answered) (at : ℕ) (polls : List ℕ) (started planned : ℕ) (sum : Sum)
    → IsUnderWay device past fed (round_at device Starting polls started planned sum)
    → AreAccepted (Fed at (start_from device started) ∷ history_with past fed) → IsPast (history_with past fed)
    → let history = history_with past fed in let c = command.StartRound (record { device = device; from = started }) in
    let given = answer.Started (next_poll (facts_of history)) (sent_count (slots_of history) (facts_of history) at c) (reads_in_all (facts_of history) c) in
    Holds device past (fed_one at (start_from device started) (Ok given) ∷ fed)
    (heard [] (answered (Ok given) (round_at device Starting polls started planned sum)))
started_as laws device past fed at polls started planned sum way accepted is_past =
    let history = history_with past fed in
    let c : StartRound = record { device = device; from = started } in
    let e : Event = start_from device started in
    let facts = facts_of history in
    let slots = slots_of history in
    let number = next_poll facts in
    let count = sent_count slots facts at (command.StartRound c) in
    let of = reads_in_all facts (command.StartRound c) in
    let given = answer.Started number count of in
    let one = fed_one at e (Ok given) in
    let s = reads_started fed in
    let can = can_be_started history at c accepted.0.right in
    let spans = spans_by facts (command.StartRound c) in
    let sends = sends_on number at can.slot.device can.before spans in
    let sent_is : sends_by number at slots facts (command.StartRound c) ≡ sends =
    ap (λ o. sends_from number at spans o) can.found ∙ ap (λ p. sends_at number at can.slot.device p spans) can.present in
    let count_is : count ≡ length sends = ap length sent_is in
    let some : 1 ≤ count = (let so = some_sent number at can.slot.device can.before spans can.ready can.some in omega (arith, so, count_is)) in
    let most : count ≤ length spans = (let so = few_sent number at can.slot.device can.before spans in omega (arith, so, count_is)) in
    let after = facts_of (Fed at e ∷ history) in
    let numbered = (laws.once history accepted.1).numbered in
    let more : length (polls_in after) ≡ length (polls_in facts) + count = polls_more at history c numbered in
    let kept : (n : ℕ) → ends_of after n ≡ ends_of facts n = λ n. ends_kept at history c numbered n in
    let limit : length (polls_in facts) + count ≤ 2 ^ 62 = can.few in
    let last : way.number + s ≡ length (polls_in facts) + 1 = way.last in
    let plain : numbers number count ≡ from_on number count =
    plain_numbers number count (omega (arith, limit)) in
    let waiting = polls ++ numbers number count in
    let new_open : filter (is_open after) (from_on number count) ≡ from_on number count =
    all_pass (is_open after) number count
    (λ n past_last. ap (λ (es : List EndedPoll). length es == 0) (kept n)
    ∙ eq-eqb (length (ends_of facts n)) 0
    (none_beyond facts (laws.fit history accepted.1) numbered n (omega (arith, past_last)))) in
    let waiting_is : waiting ≡ filter (is_open after) (from_on way.number (s + count)) =
    ap (λ ns. polls ++ ns) (plain ∙ sym new_open)
    ∙ ap (λ ps. ps ++ filter (is_open after) (from_on number count))
    (way.polls ∙ filter_agree (is_open facts) (is_open after) (λ n. sym (ap (λ (es : List EndedPoll). length es == 0) (kept n))) (from_on way.number s))
    ∙ sym (filter-append (is_open after) (from_on way.number s) (from_on number count))
    ∙ ap (λ n. filter (is_open after) (from_on way.number s ++ from_on n count)) (sym way.last)
    ∙ ap (filter (is_open after)) (sym (from_both way.number s count)) in
    let slot = slot_after number at spans e can.slot in
    let is_after = after_start number at spans c slots can.slot can.before can.found can.present in
    let same_slot : way.session.slot ≡ can.slot = (let both = sym way.session.found ∙ can.found in cc) in
    let its = ap (λ (l : Slot). map (λ poll. poll.0) (polls_on_present l.device l.present)) (sym same_slot) ∙ way.session.are in
    let found = found_after (slot_after number at spans e) (device-after number at spans e) slots device can.slot can.found in
    let on : IsOnSession (slots_of (Fed at e ∷ history)) device (from_on way.number (s + count)) =
    record {
      slot = slot;
      found = found;
      are = started_on laws.session at can.slot slot can.before sends (from_on way.number s) can.present is_after its
          ∙ ap (λ ns. from_on way.number s ++ ns) (sent_from number at can.slot.device can.before spans)
          ∙ ap (λ n. from_on way.number s ++ from_on number n) (sym count_is)
          ∙ ap (λ n. from_on way.number s ++ from_on n count) (sym way.last)
          ∙ sym (from_both way.number s count);
    } in
    let few : length waiting ≤ 16 =
    (let left = few_open after (slots_of (Fed at e ∷ history)) device slot (all_agree laws.session (Fed at e ∷ history) accepted) found in
    let these = ap (λ ns. length (filter (is_open after) ns)) on.are in
    let all = ap length waiting_is in
    let wait = few_wait slot.device slot.present (can.before ++ map (start_by at can.slot.device) sends) is_after.present in
    let timeout = ap (λ (d : Device). length (pending d.timeout (can.before ++ map (start_by at can.slot.device) sends))) is_after.device in
    let window = narrow_found slots facts device can.slot (same_devices history) (laws.lawful history is_past.accepted is_past.planned) can.found in
    fits_in (length waiting) _ _ _ _ can.slot.device.window (length sends) all these left wait _ timeout window
    (sends_fit number at can.slot.device can.before spans) (omega (arith, some, count_is))) in
    let long : length waiting ≡ length polls + count = length-append polls (numbers number count) ∙ ap (λ ns. length polls + length ns) plain ∙ ap (λ n. length polls + n) (length_from number count) in
    let room : nat_le (length polls + count) 16 ≡ true = le-leb (length polls + count) 16 (omega (arith, few, long)) in
    let stage_is : stage_after waiting ≡ Waiting =
    ap (λ b. cond b (Leaving closing.Gone) Waiting) (ne_eqb (length waiting) 0 (λ e. absurd (omega (arith, e, long, some)))) in
    let started_is : min (started + count) (2 ^ 64 - 1) ≡ started + count = (let so = way.started in omega (arith, so, last, limit)) in
    let begun_is : answered (Ok given) (round_at device Starting polls started planned sum) ≡ round_at device Waiting waiting (started + count) of sum =
    ap (λ b. cond b (begun number count of (round_at device Starting polls started planned sum)) (round_at device (Leaving closing.Failed) polls started planned sum)) room
    ∙ ap (λ x. round_at device x waiting (min (started + count) (2 ^ 64 - 1)) of sum) stage_is
    ∙ ap (λ n. round_at device Waiting waiting n of sum) started_is in
    let round_is : heard [] (answered (Ok given) (round_at device Starting polls started planned sum)) ≡ round_at device Waiting waiting (started + count) of sum =
    ap (heard []) begun_is
    ∙ ap (λ ps. going_on Waiting (nat_lt (length ps) (length waiting)) (round_at device Waiting ps (started + count) of sum)) (all_wait waiting)
    ∙ ap (λ b. going_on Waiting b (round_at device Waiting waiting (started + count) of sum)) (le-ltb (length waiting) (length waiting) (omega arith)) in
    let within : s + count ≤ of =
    (let so = way.started in within_plan (length spans) started of s count (reads_left started (option_and_then (list_of facts) device)) so some most) in
    let P : Round → Type 0 = Holds device past (one ∷ fed) in
    subst P (sym round_is)
    (record {
      device_is = refl;
      next = start_next past fed one device started refl;
      stands = record {
        number = way.number;
        first = first_of (first_poll fed) way.number s number count of way.first way.last;
        last = (let so = last in omega (arith, so, more));
        started = ap (λ n. n + count) way.started;
        planned = refl;
        within = within;
        polls = waiting_is;
        ended = (let so = way.ended in let none : endings_of past fed one ≡ 0 = refl in omega (arith, so, none, long));
        session = on;
      };
    })

start_given : (history : History) (at : ℕ) (device : Option (List ℕ)) (from : ℕ) (before after : Failures) (given : Answer)
    → IsAnswer history at (start_from device from) before after (Ok given)
    → let c = command.StartRound (record { device = device; from = from }) in
    given ≡ answer.Started (next_poll (facts_of history)) (sent_count (slots_of history) (facts_of history) at c) (reads_in_all (facts_of history) c)
start_given history at device from before after given (inl reported) = given_by (refusal_of history at (start_from device from)) _ given reported.0
start_given history at device from before after given (inr fails) = absurd fails

started_round : (laws : Laws) (device : Option (List ℕ)) (past : History) (fed : List Answered) (at : ℕ) (before after : Failures) (given : Answer) (polls : List ℕ)
    (started planned : ℕ) (sum : Sum) → IsUnderWay device past fed (round_at device Starting polls started planned sum)
    → IsAnswer (history_with past fed) at (start_from device started) before after (Ok given)
    → IsPast (Fed at (start_from device started) ∷ history_with past fed)
    → Holds device past (fed_one at (start_from device started) (Ok given) ∷ fed)
    (round_after (start_from device started) given (notes_after (history_with past fed) at (start_from device started) (Ok given))
    (round_at device Starting polls started planned sum))
started_round laws device past fed at before after given polls started planned sum way reported is_past =
    let history = history_with past fed in
    let P : Answer → Type 0 = λ a.
    Holds device past (fed_one at (start_from device started) (Ok a) ∷ fed)
    (round_after (start_from device started) a (notes_after history at (start_from device started) (Ok a)) (round_at device Starting polls started planned sum)) in
    subst P (sym (start_given history at device started before after given reported))
    (started_as laws device past fed at polls started planned sum way is_past.accepted
    (record { accepted = is_past.accepted.1; planned = is_past.planned.1 }))

-- If the event engine accepts an event from the link (the connection to the device), then its
-- answer is `Noted` (an event that is not a command was accepted).
pub noted_by : (history : History) (at : ℕ) (device : Option (List ℕ)) (e : Event) (before after : Failures) (given : Answer) → IsTaken device e
    → IsAnswer history at e before after (Ok given) → given ≡ answer.Noted
noted_by history at device (event.Connected d) before after given taken reported = absurd taken
noted_by history at device (event.Bytes d piece) before after given taken (inl reported) = given_by (refusal_of history at (event.Bytes d piece)) answer.Noted given reported.0
noted_by history at device (event.Bytes d piece) before after given taken (inr fails) = absurd fails
noted_by history at device event.Tick before after given taken (inl reported) = given_by (refusal_of history at event.Tick) answer.Noted given reported.0
noted_by history at device event.Tick before after given taken (inr fails) = absurd fails
noted_by history at device (event.Gone d cause) before after given taken (inl reported) = given_by (refusal_of history at (event.Gone d cause)) answer.Noted given reported.0
noted_by history at device (event.Gone d cause) before after given taken (inr fails) = absurd fails
noted_by history at device (event.Command c) before after given taken reported = absurd taken
noted_by history at device (event.Asked asked) before after given taken reported = absurd taken

-- True if the polling round is in the state that follows from all its events, after the next event,
-- which the event engine accepted with the answer `given`.
abbrev HoldsAfter : (device : Option (List ℕ)) → History → List Answered → (at : ℕ) → Event → Round → Answer → Type 0
HoldsAfter device past fed at e round given =
    Holds device past (fed_one at e (Ok given) ∷ fed) (round_after e given (notes_after (history_with past fed) at e (Ok given)) round)

taken_round : (laws : Laws) (device : Option (List ℕ)) (past : History) (fed : List Answered) (at : ℕ) (e : Event) (polls : List ℕ)
    (started planned : ℕ) (sum : Sum) → IsUnderWay device past fed (round_at device Waiting polls started planned sum) → IsTaken device e
    → AreAccepted (Fed at e ∷ history_with past fed) → HoldsAfter device past fed at e (round_at device Waiting polls started planned sum) answer.Noted
taken_round laws device past fed at (event.Connected d) polls started planned sum way taken accepted = absurd taken
taken_round laws device past fed at (event.Bytes d piece) polls started planned sum way taken accepted =
    let history = history_with past fed in
    settled_round laws device past fed at (event.Bytes d piece) polls started planned sum way accepted
    (record { facts = refl; notes = refl; following = λ next. refl })
    (on_piece laws.session (next_poll (facts_of history)) at d piece (slots_of history) device (from_on way.number (reads_started fed)) way.session) _
taken_round laws device past fed at event.Tick polls started planned sum way taken accepted =
    let history = history_with past fed in
    settled_round laws device past fed at event.Tick polls started planned sum way accepted
    (record { facts = refl; notes = refl; following = λ next. refl })
    (on_tick laws.session (next_poll (facts_of history)) at (slots_of history) device (from_on way.number (reads_started fed)) way.session) _
taken_round laws device past fed at (event.Gone d cause) polls started planned sum way taken accepted =
    record { device_is = refl; next = refl; stands = tt }
taken_round laws device past fed at (event.Command c) polls started planned sum way taken accepted = absurd taken
taken_round laws device past fed at (event.Asked asked) polls started planned sum way taken accepted = absurd taken

connected_given : (history : History) (at : ℕ) (device : Option (List ℕ)) (e : Event) (before after : Failures) (given : Answer) → e ≡ event.Connected device
    → IsAnswer history at e before after (Ok given) → given ≡ answer.Noted
connected_given history at device e before after given is reported =
    connected_noted history at device before after given (subst (λ x. IsAnswer history at x before after (Ok given)) is reported)

by_stage : (laws : Laws) (device : Option (List ℕ)) (past : History) (fed : List Answered) (at : ℕ) (e : Event) (before after : Failures) (given : Answer)
    (stage : Stage) (polls : List ℕ) (started planned : ℕ) (sum : Sum) → StandsAt stage device past fed (round_at device stage polls started planned sum)
    → Does device (next_at stage started) e → IsAnswer (history_with past fed) at e before after (Ok given)
    → IsPast (Fed at e ∷ history_with past fed) → HoldsAfter device past fed at e (round_at device stage polls started planned sum) given
by_stage laws device past fed at e before after given Off polls started planned sum stands does reported is_past = absurd does
by_stage laws device past fed at e before after given Joining polls started planned sum stands does reported is_past =
    let P : Event → List Answered → Answer → Type 0 = λ x xs a. HoldsAfter device past xs at x (round_at device Joining polls started planned sum) a in
    let noted : given ≡ answer.Noted = connected_given (history_with past fed) at device e before after given does reported in
    let accepted : AreAccepted (Fed at (event.Connected device) ∷ past) =
    subst (λ x. AreAccepted (Fed at x ∷ past)) does (subst (λ xs. AreAccepted (Fed at e ∷ history_with past xs)) stands.none is_past.accepted) in
    subst (λ x. P x fed given) (sym does)
    (subst (λ xs. P (event.Connected device) xs given) (sym stands.none)
    (subst (λ a. P (event.Connected device) [] a) (sym noted)
    (connected_round device past at polls started planned sum stands.polls stands.started stands.planned accepted)))
by_stage laws device past fed at e before after given Starting polls started planned sum stands does reported is_past =
    let history = history_with past fed in
    subst (λ x. HoldsAfter device past fed at x (round_at device Starting polls started planned sum) given) (sym does)
    (started_round laws device past fed at before after given polls started planned sum stands
    (subst (λ x. IsAnswer history at x before after (Ok given)) does reported) (subst (λ x. IsPast (Fed at x ∷ history)) does is_past))
by_stage laws device past fed at e before after given Waiting polls started planned sum stands does reported is_past =
    subst (HoldsAfter device past fed at e (round_at device Waiting polls started planned sum))
    (sym (noted_by (history_with past fed) at device e before after given does reported))
    (taken_round laws device past fed at e polls started planned sum stands does is_past.accepted)
by_stage laws device past fed at e before after given (Leaving cause) polls started planned sum stands does reported is_past =
    subst (λ x. HoldsAfter device past fed at x (round_at device (Leaving cause) polls started planned sum) given) (sym does)
    (record { device_is = refl; next = refl; stands = tt })

-- Suppose that the state of a polling round follows from the events that the round fed to the event
-- engine. If the engine accepts the round's next event, then the round's state after it follows
-- from all events up to and including this event.
pub holds_on : (laws : Laws) (device : Option (List ℕ)) (past : History) (fed : List Answered) (round : Round) (at : ℕ) (e : Event) (before after : Failures)
    (given : Answer) → Holds device past fed round → Does device (next_in past fed) e
    → IsAnswer (history_with past fed) at e before after (Ok given) → IsPast (Fed at e ∷ history_with past fed)
    → HoldsAfter device past fed at e round given
holds_on laws device past fed round at e before after given holds does reported is_past =
    let P : Option (List ℕ) → Type 0 = λ d.
    StandsAt round.stage d past fed round → Does d (next_of round) e → HoldsAfter d past fed at e round given in
    subst P holds.device_is
    (λ stands so. by_stage laws round.device past fed at e before after given round.stage round.polls.items round.started round.planned round.sum stands so reported is_past)
    holds.stands (subst (λ n. Does device n e) holds.next does)
