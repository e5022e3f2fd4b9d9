-- Lemmas that the timestamps and poll numbers of lawful records are within their limits. Lawful
-- means that the rules for adding records accept each record after the earlier ones.
use Rattle.std.proofs.Common.{◌≡◌, ℕ, ◌≤◌, ◌==◌, Bool, true, false, cond, List, [], ◌∷◌, refl, Option, Some, arith}
use Rattle.std.specs.Option.{is_some}
use Rattle.std.proofs.lemmas.Bool.Decides.{nat_tests}
use Rattle.std.proofs.lemmas.List.Elements.{All-nil, All-cons}
use Rattle.office_events.specs.declared.facts.Poll.{Poll}
use Rattle.office_events.specs.declared.facts.Fact.{Fact}
use Rattle.office_events.specs.declared.facts.Fact.TheVariants as fact
use Rattle.office_books.specs.Facts.{poll_limit, poll_of}
use Rattle.office_books.specs.Lawful.{AreLawful}
use Rattle.office_books.specs.Laws.{IsBounded, FactsAreBounded}

same_number : (m n : ℕ) → (m == n) ≡ true → m ≡ n
same_number m n h = grind (arith, nat_tests)

here_or_before : (p : Poll) (n : ℕ) (b : Bool) (before : Option Poll) → (p.number == n) ≡ b → p.number ≤ poll_limit
    → (is_some before ≡ true → n ≤ poll_limit) → is_some (cond b (Some p) before) ≡ true → n ≤ poll_limit
here_or_before p n true before is few later h = omega (arith, same_number p.number n is, few)
here_or_before p n false before is few later h = later h

-- If a poll with the number `n` was started, then `n` does not exceed `poll_limit`, the greatest
-- poll number that the rules for records allow.
pub started_numbers : (facts : List Fact) (n : ℕ) → AreLawful facts → is_some (poll_of facts n) ≡ true → n ≤ poll_limit
started_numbers [] n h there = absurd (let e : false ≡ true = there in cc)
started_numbers (fact.Poll p ∷ facts) n h there =
    here_or_before p n (p.number == n) (poll_of facts n) refl h.0.0.few (started_numbers facts n h.1) there
started_numbers (fact.Device d ∷ facts) n h there = started_numbers facts n h.1 there
started_numbers (fact.List l ∷ facts) n h there = started_numbers facts n h.1 there
started_numbers (fact.Register r ∷ facts) n h there = started_numbers facts n h.1 there
started_numbers (fact.Opening o ∷ facts) n h there = started_numbers facts n h.1 there
started_numbers (fact.Entry b ∷ facts) n h there = started_numbers facts n h.1 there
started_numbers (fact.Hold b ∷ facts) n h there = started_numbers facts n h.1 there
started_numbers (fact.Void v ∷ facts) n h there = started_numbers facts n h.1 there
started_numbers (fact.Outcome e ∷ facts) n h there = started_numbers facts n h.1 there
started_numbers (fact.Reply r ∷ facts) n h there = started_numbers facts n h.1 there

bounded : (f : Fact) (facts : List Fact) → AreLawful (f ∷ facts) → IsBounded f
bounded (fact.Device d) facts h = record { moment = h.0.1; poll = omega arith; request = omega arith }
bounded (fact.List l) facts h = record { moment = h.0.1; poll = omega arith; request = omega arith }
bounded (fact.Register r) facts h = record { moment = h.0.1; poll = omega arith; request = omega arith }
bounded (fact.Opening o) facts h = record { moment = h.0.1; poll = omega arith; request = omega arith }
bounded (fact.Entry b) facts h = record { moment = h.0.1; poll = omega arith; request = omega arith }
bounded (fact.Hold b) facts h =
    record { moment = h.0.1; poll = started_numbers facts b.poll h.1 h.0.0.started; request = omega arith }
bounded (fact.Void v) facts h = record { moment = h.0.1; poll = omega arith; request = omega arith }
bounded (fact.Poll p) facts h = record { moment = h.0.1; poll = h.0.0.few; request = omega arith }
bounded (fact.Outcome e) facts h =
    record { moment = h.0.1; poll = started_numbers facts e.poll h.1 h.0.0.started; request = omega arith }
bounded (fact.Reply r) facts h = record { moment = h.0.1; poll = omega arith; request = h.0.0.number }

pub facts_are_bounded : FactsAreBounded
facts_are_bounded [] h = All-nil IsBounded
facts_are_bounded (f ∷ facts) h = All-cons IsBounded f facts (bounded f facts h) (facts_are_bounded facts h.1)
