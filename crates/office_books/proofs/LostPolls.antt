-- Lemmas: a restart of the program adds the outcome "lost" for each pending poll to the records,
-- and adds no poll.
use Rattle.std.proofs.Common.{◌≡◌, ℕ, ◌==◌, Bool, true, false, cond, List, [], ◌∷◌, ◌++◌, length, map, reverse, refl, sym, ap, ◌∙◌}
use Rattle.std.specs.List.{filter}
use Rattle.std.proofs.lemmas.List.{map-append, append-nil, reverse-append, reverse-reverse}
use Rattle.std.proofs.lemmas.List.Elements.{filter-append}
use Rattle.poll_core.specs.declared.outcome.Outcome.{Outcome}
use Rattle.poll_core.specs.declared.outcome.Outcome.TheVariants.{Lost}
use Rattle.poll_core.specs.declared.outcome.LostCause.TheVariants.{Restart}
use Rattle.office_events.specs.declared.facts.Poll.{Poll}
use Rattle.office_events.specs.declared.facts.Fact.{Fact}
use Rattle.office_books.specs.Facts.{polls_in, ends_of}
use Rattle.office_books.specs.History.{with_lost, lost}
use Rattle.office_books.proofs.EndedFacts.{recorded}

filter-reverse_step : {X : Type 0} (b : Bool) (x : X) (ys : List X) → reverse ys ++ cond b (x ∷ []) [] ≡ reverse (cond b (x ∷ ys) ys)
filter-reverse_step true x ys = sym (reverse-append (x ∷ []) ys)
filter-reverse_step false x ys = append-nil (reverse ys)

pub filter-reverse : {X : Type 0} (t : X → Bool) (xs : List X) → filter t (reverse xs) ≡ reverse (filter t xs)
filter-reverse t [] = refl
filter-reverse {X = X} t (x ∷ xs) =
    ap (filter t) (reverse-append (x ∷ []) xs) ∙ filter-append t (reverse xs) (x ∷ [])
    ∙ ap (λ (ys : List X). ys ++ filter t (x ∷ [])) (filter-reverse t xs) ∙ filter-reverse_step (t x) x (filter t xs)

map-reverse : {X Y : Type 0} (f : X → Y) (xs : List X) → map f (reverse xs) ≡ reverse (map f xs)
map-reverse f [] = refl
map-reverse {Y = Y} f (x ∷ xs) =
    ap (map f) (reverse-append (x ∷ []) xs) ∙ map-append f (reverse xs) (x ∷ [])
    ∙ ap (λ (ys : List Y). ys ++ f x ∷ []) (map-reverse f xs) ∙ sym (reverse-append (f x ∷ []) (map f xs))

-- True if a poll has no recorded outcome.
abbrev pub is_pending : List Fact → Poll → Bool
is_pending facts poll = length (ends_of facts poll.number) == 0

abbrev pub left_in : List Fact → List Poll
left_in facts = filter (is_pending facts) (polls_in facts)

pub with_lost_is : (at : ℕ) (facts : List Fact) → with_lost at facts ≡ map (lost at) (left_in facts) ++ facts
with_lost_is at facts =
    ap (λ (fs : List Fact). fs ++ facts)
    (ap (λ (ps : List Poll). reverse (map (lost at) ps)) (filter-reverse (is_pending facts) (polls_in facts))
    ∙ ap (λ (fs : List Fact). reverse fs) (map-reverse (lost at) (left_in facts))
    ∙ reverse-reverse (map (lost at) (left_in facts)))

pub polls-lost : (at : ℕ) (polls : List Poll) (facts : List Fact) → polls_in (map (lost at) polls ++ facts) ≡ polls_in facts
polls-lost at [] facts = refl
polls-lost at (p ∷ polls) facts = polls-lost at polls facts

abbrev pub lost_end : ℕ → ℕ × Outcome
lost_end number = (number, Lost Restart)

pub recorded-lost : (at : ℕ) (polls : List Poll) (facts : List Fact) → recorded (map (lost at) polls ++ facts) ≡ map lost_end (map (λ poll. poll.number) polls) ++ recorded facts
recorded-lost at [] facts = refl
recorded-lost at (p ∷ polls) facts = ap (λ ends. lost_end p.number ∷ ends) (recorded-lost at polls facts)
