-- Lemmas: the number of meters and the latest timestamp of a store agree with the records after
-- each new record.
use Rattle.std.proofs.Common.{◌≡◌, ℕ, ◌+◌, ◌<◌, ◌≤◌, max, min, List, [], ◌∷◌, ◌++◌, reverse, take, length, get_or, ap, ◌∙◌, Option, Some, None, arith}
use Rattle.std.specs.List.{cons_option}
use Rattle.std.proofs.lemmas.List.{length-reverse, length-append, length-take-le, reverse-append, take_more}
use Rattle.office_books.specs.Ledgers.{with_facts}
use Rattle.office_events.specs.declared.facts.Fact.{Fact}
use Rattle.memory_books.specs.declared.figures.Figures.{Figures}
use Rattle.memory_books.specs.Figures.{AreFigures}
use Rattle.office_books.specs.Facts.{as_opening, openings_in, moment_in}

one_more : {X : Type 0} (o : Option X) (xs : List X) → length (cons_option o xs) ≡ length xs + length (cons_option o [])
one_more None xs = omega arith
one_more (Some x) xs = omega arith

at_most_one : {X : Type 0} (o : Option X) → length (cons_option o []) ≤ 1
at_most_one None = omega arith
at_most_one (Some x) = omega arith

-- A list of records installs at most as many meters as it has records.
no_more : (known : List Fact) → length (openings_in known) ≤ length known
no_more [] = omega arith
no_more (f ∷ known) =
    omega (arith, one_more (as_opening f) (openings_in known), at_most_one (as_opening f), no_more known)

-- Suppose that a store's number of meters and greatest timestamp agree with its records. If both
-- are updated for one more record, they agree with the records including this one.
pub figures_after : (old new : Figures) (f : Fact) (known : List Fact) → AreFigures old known → length known < 18446744073709551615
    → new.installations ≡ min (old.installations + length (openings_in (f ∷ []))) 18446744073709551615
    → new.latest ≡ max (moment_in f) old.latest → AreFigures new (f ∷ known)
figures_after old new f known are few counted latest = record {
  installations = omega (arith, counted, are.installations, no_more known, few, one_more (as_opening f) (openings_in known), at_most_one (as_opening f));
  latest = latest ∙ ap (max (moment_in f)) are.latest;
}

-- The first `i + 1` new records are the first `i` new records, followed by the new record at index
-- `i`.
pub with_more : (facts known : List Fact) (i : ℕ) (d : Fact) → i < length facts
    → with_facts (take (i + 1) facts) known ≡ get_or facts i d ∷ with_facts (take i facts) known
with_more facts known i d less =
    ap (λ (fs : List Fact). reverse fs ++ known) (take_more facts i d less)
    ∙ ap (λ (fs : List Fact). fs ++ known) (reverse-append (take i facts) (get_or facts i d ∷ []))

pub few_with : (facts known : List Fact) (i : ℕ) → i < length facts → length known + length facts ≤ 18446744073709551615
    → length (with_facts (take i facts) known) < 18446744073709551615
few_with facts known i less few =
    omega (arith, length-append (reverse (take i facts)) known, length-reverse (take i facts), length-take-le i facts (omega (arith, less)), few, less)
