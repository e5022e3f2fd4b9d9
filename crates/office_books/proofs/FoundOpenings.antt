-- Lemmas that a search for a meter's name finds each installed meter.
use Rattle.std.proofs.Common.{◌≡◌, ℕ, List, [], ◌∷◌, Some}
use Rattle.office_events.specs.declared.facts.Opening.{Opening}
use Rattle.office_events.specs.declared.facts.Fact.{Fact}
use Rattle.office_events.specs.declared.facts.Fact.TheVariants as fact
use Rattle.office_books.specs.Facts.{same, openings_in, opening_of, installed_at}
use Rattle.office_books.specs.Lawful.{AreLawful}
use Rattle.office_books.proofs.Lookups.{AreApart, found_by_name}

-- If the records follow the rules for adding records (`AreLawful`), then the names of their meters
-- are distinct.
pub openings_apart : (facts : List Fact) → AreLawful facts → AreApart (λ (o : Opening). o.meter) (openings_in facts)
openings_apart [] h = tt
openings_apart (fact.Device d ∷ facts) h = openings_apart facts h.1
openings_apart (fact.List l ∷ facts) h = openings_apart facts h.1
openings_apart (fact.Register r ∷ facts) h = openings_apart facts h.1
openings_apart (fact.Opening o ∷ facts) h = (h.0.0.new, openings_apart facts h.1)
openings_apart (fact.Entry b ∷ facts) h = openings_apart facts h.1
openings_apart (fact.Hold b ∷ facts) h = openings_apart facts h.1
openings_apart (fact.Void v ∷ facts) h = openings_apart facts h.1
openings_apart (fact.Poll p ∷ facts) h = openings_apart facts h.1
openings_apart (fact.Outcome e ∷ facts) h = openings_apart facts h.1
openings_apart (fact.Reply r ∷ facts) h = openings_apart facts h.1

pub found_installed : (facts : List Fact) (register : List ℕ) (o : Opening) → AreLawful facts → installed_at facts register ≡ Some o → opening_of facts o.meter ≡ Some o
found_installed facts register o h there =
    found_by_name (λ (o : Opening). o.meter) (λ (o : Opening). same o.register register) (openings_in facts) o (openings_apart facts h) there
