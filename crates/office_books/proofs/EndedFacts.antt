-- Lemmas: the end of a poll adds exactly its outcome to the recorded outcomes, and adds no other
-- poll. Records of readings add no outcome.
use Rattle.std.proofs.Common.{◌≡◌, ℕ, ◌==◌, Bool, true, false, cond, List, [], ◌∷◌, ◌++◌, map, refl, sym, ap, ◌∙◌, Option, Some, None, append_assoc, if◌then◌else◌}
use Rattle.std.specs.List.{filter, filter_map, flat_map, cons_option}
use Rattle.std.specs.List.Sorted.{IsPermutation}
use Rattle.std.proofs.lemmas.List.{map-append}
use Rattle.std.proofs.lemmas.List.Sorted.{IsPermutation-refl, IsPermutation-trans, IsPermutation-append_right, IsPermutation-middle}
use Rattle.energy_core.specs.declared.verdicts.Reading.{Reading}
use Rattle.energy_core.specs.declared.verdicts.Verdict.{Verdict}
use Rattle.energy_core.specs.declared.verdicts.Verdict.TheVariants.{Accepted, Held}
use Rattle.poll_core.specs.Settling as session
use Rattle.poll_core.specs.declared.outcome.Outcome.{Outcome}
use Rattle.office_events.specs.declared.facts.Poll.{Poll}
use Rattle.office_events.specs.declared.facts.Register.{Register}
use Rattle.office_events.specs.declared.facts.EndedPoll.{EndedPoll}
use Rattle.office_events.specs.declared.facts.BookedEntry.{BookedEntry}
use Rattle.office_events.specs.declared.facts.HeldReading.{HeldReading}
use Rattle.office_events.specs.declared.facts.Fact.{Fact}
use Rattle.office_events.specs.declared.facts.Fact.TheVariants as fact
use Rattle.office_events.specs.declared.questions.Installation.{Installation}
use Rattle.office_events.specs.declared.events.Event.{Event}
use Rattle.office_books.specs.Facts.{as_poll, as_ended, polls_in, ended_in, ends_of, poll_of, registers_of}
use Rattle.office_books.specs.Readings.{as_fact, judgement, with_reading, with_register, with_registers, with_reply, is_read_by, reading_of}
use Rattle.office_books.specs.Meters.{open_at}
use Rattle.office_books.specs.Sessions.{Slot}
use Rattle.office_books.specs.History.{outcome_of, with_words, with_outcome, with_outcomes, settled_by, with_settled}
use Rattle.office_books.proofs.Permutations.{same_is, exchanged}
use Rattle.office_books.proofs.EndedPolls.{pick}

-- True if a filter of the records finds neither entries of meters nor rejected readings.
pub record IsBlind {X : Type 0} (look : Fact → Option X) : Type 0 where
  pub entry : (booked : BookedEntry) → look (fact.Entry booked) ≡ None
  pub hold : (held : HeldReading) → look (fact.Hold held) ≡ None

fact_unseen : {X : Type 0} (look : Fact → Option X) → IsBlind look → (meter : List ℕ) (poll : ℕ) (r : Reading) (v : Verdict) → look (as_fact meter poll r v) ≡ None
fact_unseen look h meter poll r (Accepted rolls step) = h.entry _
fact_unseen look h meter poll r (Held cause) = h.hold _

reading_unseen : {X : Type 0} (look : Fact → Option X) → IsBlind look → (poll : ℕ) (r : Reading) (row : Option Installation) (facts : List Fact) → filter_map look (with_reading poll r row facts) ≡ filter_map look facts
reading_unseen look h poll r None facts = refl
reading_unseen look h poll r (Some row) facts =
    ap (λ o. cons_option o (filter_map look facts)) (fact_unseen look h row.opening.meter poll r (judgement row r))

register_step : {X : Type 0} (look : Fact → Option X) (b : Bool) (read facts : List Fact) → filter_map look read ≡ filter_map look facts → filter_map look (if b then read else facts) ≡ filter_map look facts
register_step look true read facts e = e
register_step look false read facts e = refl

registers_unseen : {X : Type 0} (look : Fact → Option X) → IsBlind look → (at : ℕ) (poll : Poll) (words : List ℕ) (registers : List Register) (facts : List Fact) → filter_map look (with_registers at poll words registers facts) ≡ filter_map look facts
registers_unseen look h at poll words [] facts = refl
registers_unseen look h at poll words (register ∷ registers) facts =
    registers_unseen look h at poll words registers (with_register at poll words register facts)
    ∙ register_step look (is_read_by poll.span register) (with_reading poll.number (reading_of at poll.span words register) (open_at facts register.name) facts) facts
    (reading_unseen look h poll.number (reading_of at poll.span words register) (open_at facts register.name) facts)

reply_unseen : {X : Type 0} (look : Fact → Option X) → IsBlind look → (at : ℕ) (poll : Option Poll) (words : List ℕ) (facts : List Fact) → filter_map look (with_reply at poll words facts) ≡ filter_map look facts
reply_unseen look h at None words facts = refl
reply_unseen look h at (Some poll) words facts = registers_unseen look h at poll words (registers_of facts poll.device) facts

words_unseen : {X : Type 0} (look : Fact → Option X) → IsBlind look → (at number : ℕ) (s : session.Settlement) (facts : List Fact) → filter_map look (with_words at number s facts) ≡ filter_map look facts
words_unseen look h at number (session.Answered words) facts = reply_unseen look h at (poll_of facts number) words facts
words_unseen look h at number (session.Exception code) facts = refl
words_unseen look h at number session.Silent facts = refl
words_unseen look h at number (session.Malformed malformation) facts = refl
words_unseen look h at number (session.Lost cause) facts = refl

polls_blind : IsBlind as_poll
polls_blind = record { entry = λ b. refl; hold = λ b. refl }

ended_blind : IsBlind as_ended
ended_blind = record { entry = λ b. refl; hold = λ b. refl }

-- The recorded outcomes with their poll numbers. The latest outcome comes first.
abbrev pub recorded : List Fact → List (ℕ × Outcome)
recorded facts = map (λ end. (end.poll, end.outcome)) (ended_in facts)

abbrev pub as_end : ℕ × session.Settlement → ℕ × Outcome
as_end settled = (settled.0, outcome_of settled.1)

abbrev pub end_fact : ℕ → ℕ × session.Settlement → EndedPoll
end_fact at settled = record { poll = settled.0; at = at; outcome = outcome_of settled.1 }

-- If a filter of the records finds neither readings nor outcomes of polls, then it finds nothing in
-- the records that ended polls add.
unseen-with_outcomes : {X : Type 0} (look : Fact → Option X) → IsBlind look → ((ended : EndedPoll) → look (fact.Outcome ended) ≡ None) → (at : ℕ) (settled : List (ℕ × session.Settlement)) (facts : List Fact)
    → filter_map look (with_outcomes at settled facts) ≡ filter_map look facts
unseen-with_outcomes look h none at [] facts = refl
unseen-with_outcomes look h none at (s ∷ later) facts =
    unseen-with_outcomes look h none at later (with_outcome at s facts)
    ∙ words_unseen look h at s.0 s.1 (fact.Outcome (end_fact at s) ∷ facts)
    ∙ ap (λ o. cons_option o (filter_map look facts)) (none (end_fact at s))

pub unseen-with_settled : {X : Type 0} (look : Fact → Option X) → IsBlind look → ((ended : EndedPoll) → look (fact.Outcome ended) ≡ None) → (number at : ℕ) (e : Event) (slots : List Slot) (facts : List Fact)
    → filter_map look (with_settled number at e slots facts) ≡ filter_map look facts
unseen-with_settled look h none number at e [] facts = refl
unseen-with_settled look h none number at e (slot ∷ slots) facts =
    unseen-with_settled look h none number at e slots (with_outcomes at (settled_by number at e slot) facts)
    ∙ unseen-with_outcomes look h none at (settled_by number at e slot) facts

pub ended-with_outcome : (at : ℕ) (settled : ℕ × session.Settlement) (facts : List Fact) → ended_in (with_outcome at settled facts) ≡ end_fact at settled ∷ ended_in facts
ended-with_outcome at settled facts = words_unseen as_ended ended_blind at settled.0 settled.1 (fact.Outcome (end_fact at settled) ∷ facts)

pub polls-with_outcome : (at : ℕ) (settled : ℕ × session.Settlement) (facts : List Fact) → polls_in (with_outcome at settled facts) ≡ polls_in facts
polls-with_outcome at settled facts = words_unseen as_poll polls_blind at settled.0 settled.1 (fact.Outcome (end_fact at settled) ∷ facts)

pub recorded-with_outcome : (at : ℕ) (settled : ℕ × session.Settlement) (facts : List Fact) → recorded (with_outcome at settled facts) ≡ as_end settled ∷ recorded facts
recorded-with_outcome at settled facts =
    ap (λ ends. map (λ (end : EndedPoll). (end.poll, end.outcome)) ends) (ended-with_outcome at settled facts)

pub recorded-with_outcomes : (at : ℕ) (settled : List (ℕ × session.Settlement)) (facts : List Fact) → IsPermutation (recorded (with_outcomes at settled facts)) (map as_end settled ++ recorded facts)
recorded-with_outcomes at [] facts = IsPermutation-refl (recorded facts)
recorded-with_outcomes at (s ∷ later) facts =
    IsPermutation-trans _ _ _ (recorded-with_outcomes at later (with_outcome at s facts))
    (IsPermutation-trans _ _ _ (same_is _ _ (ap (λ ends. map as_end later ++ ends) (recorded-with_outcome at s facts)))
    (IsPermutation-middle (map as_end later) (as_end s) (recorded facts)))

-- The polls that an event ends on all Modbus sessions, device by device.
abbrev pub settled_on_all : (number at : ℕ) → Event → List Slot → List (ℕ × session.Settlement)
settled_on_all number at e slots = flat_map (settled_by number at e) slots

pub polls-with_settled : (number at : ℕ) (e : Event) (slots : List Slot) (facts : List Fact) → polls_in (with_settled number at e slots facts) ≡ polls_in facts
polls-with_settled number at e slots facts = unseen-with_settled as_poll polls_blind (λ ended. refl) number at e slots facts

pub recorded-with_settled : (number at : ℕ) (e : Event) (slots : List Slot) (facts : List Fact) → IsPermutation (recorded (with_settled number at e slots facts)) (map as_end (settled_on_all number at e slots) ++ recorded facts)
recorded-with_settled number at e [] facts = IsPermutation-refl (recorded facts)
recorded-with_settled number at e (slot ∷ slots) facts =
    let here = settled_by number at e slot in
    let later = settled_on_all number at e slots in
    IsPermutation-trans _ _ _ (recorded-with_settled number at e slots (with_outcomes at here facts))
    (IsPermutation-trans _ _ _ (IsPermutation-append_right (map as_end later) (recorded (with_outcomes at here facts)) (map as_end here ++ recorded facts) (recorded-with_outcomes at here facts))
    (IsPermutation-trans _ _ _ (exchanged (map as_end later) (map as_end here) (recorded facts))
    (same_is _ _ (sym (append_assoc (map as_end here) (map as_end later) (recorded facts)) ∙ ap (λ ends. ends ++ recorded facts) (sym (map-append as_end here later))))))

-- After an outcome of a poll is recorded, it is first in the list of this poll's outcomes. The
-- lists of other polls are unchanged.
ends_step : (b : Bool) (end : EndedPoll) (ends : List EndedPoll) (os : List Outcome) → map (λ e. e.outcome) ends ≡ os
    → map (λ e. e.outcome) (cond b (end ∷ ends) ends) ≡ cons_option (if b then Some end.outcome else None) os
ends_step true end ends os h = ap (λ xs. end.outcome ∷ xs) h
ends_step false end ends os h = h

ends_by : (n : ℕ) (ends : List EndedPoll) → map (λ e. e.outcome) (filter (λ e. e.poll == n) ends) ≡ pick n (map (λ e. (e.poll, e.outcome)) ends)
ends_by n [] = refl
ends_by n (end ∷ ends) = ends_step (end.poll == n) end (filter (λ e. e.poll == n) ends) (pick n (map (λ e. (e.poll, e.outcome)) ends)) (ends_by n ends)

pub ends_are : (facts : List Fact) (n : ℕ) → map (λ end. end.outcome) (ends_of facts n) ≡ pick n (recorded facts)
ends_are facts n = ends_by n (ended_in facts)
