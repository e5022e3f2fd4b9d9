-- Proof that the store has no outcome of a poll that was not started, and at most one outcome of
-- each poll.
use Rattle.std.proofs.Common.{◌≡◌, inl, inr, ℕ, ◌<◌, ◌≤◌, ◌==◌, true, List, [], ◌∷◌, length, Option, Some, None, refl, sym, ap, ◌∙◌, arith}
use Rattle.std.specs.List.{find}
use Rattle.std.specs.Option.{is_some, option_to_list}
use Rattle.std.proofs.lemmas.Bool.{cases_eq, cond-false, ne_eqb}
use Rattle.std.proofs.lemmas.List.{length-map}
use Rattle.office_events.specs.declared.facts.EndedPoll.{EndedPoll}
use Rattle.office_events.specs.declared.facts.Fact.{Fact}
use Rattle.office_events.specs.declared.facts.Fact.TheVariants as fact
use Rattle.office_events.specs.declared.facts.Poll.{Poll}
use Rattle.office_books.specs.Facts.{ends_of, polls_in}
use Rattle.office_books.specs.History.{History, facts_of, slots_of}
use Rattle.office_books.specs.PollEndings.{AreNumbered, PollsEndOnce, outcome_in}
use Rattle.office_books.specs.PollOrder.{PollsFit}

low_number : (polls : List Poll) (n : ℕ) → AreNumbered polls → is_some (find (λ poll. poll.number == n) polls) ≡ true → n ≤ length polls
low_number [] n numbered h = absurd (cc)
low_number (poll ∷ polls) n numbered h =
    elim (cases_eq poll.number n) [
      | inl same ↦ let its = numbered.0 in omega (arith, its, same)
      | inr other ↦
          let rest : is_some (find (λ one. one.number == n) polls) ≡ true =
          sym (ap is_some (cond-false (poll.number == n) (Some poll) (find (λ (one : Poll). one.number == n) polls) (ne_eqb poll.number n other))) ∙ h in
          let low = low_number polls n numbered.1 rest in
          omega (arith, low)
    ]

pub none_beyond : (facts : List Fact) → PollsFit facts → AreNumbered (polls_in facts) → (n : ℕ) → length (polls_in facts) < n
    → length (ends_of facts n) ≡ 0
none_beyond [] fit numbered n past = refl
none_beyond (fact.Poll poll ∷ facts) fit numbered n past =
    let less : length (polls_in facts) < n = omega (arith, past) in none_beyond facts fit.1 numbered.1 n less
none_beyond (fact.Outcome ended ∷ facts) fit numbered n past =
    let low = low_number (polls_in facts) ended.poll numbered fit.0.started in
    let other : ended.poll ≡ n → ⊥ = λ e. absurd (omega (arith, e, low, past)) in
    ap length (cond-false (ended.poll == n) (ended ∷ ends_of facts n) (ends_of facts n) (ne_eqb ended.poll n other))
    ∙ none_beyond facts fit.1 numbered n past
none_beyond (fact.Hold held ∷ facts) fit numbered n past = none_beyond facts fit.1 numbered n past
none_beyond (f ∷ facts) fit numbered n past = none_beyond facts fit numbered n past

at_most_one : {X : Type 0} (o : Option X) → length (option_to_list o) ≤ 1
at_most_one None = omega arith
at_most_one (Some x) = omega arith

pub once_ended : (history : History) → PollsEndOnce history → (n : ℕ) → length (ends_of (facts_of history) n) ≤ 1
once_ended history once n =
    let few = at_most_one (outcome_in (slots_of history) n) in
    let same = sym (length-map (ends_of (facts_of history) n) (λ (end : EndedPoll). end.outcome)) ∙ ap length (once.ended n) in
    omega (arith, few, same)
