-- Examples of queries for the rejected readings of a meter by time span, with readings of two
-- meters.
use Rattle.std.proofs.Common.{◌≡◌, ℕ, pos, List, [], ◌∷◌, refl}
use Rattle.energy_core.specs.declared.verdicts.Cause.TheVariants as cause
use Rattle.office_events.specs.declared.facts.HeldReading.{HeldReading}
use Rattle.office_events.specs.declared.facts.Fact.{Fact}
use Rattle.office_events.specs.declared.facts.Fact.TheVariants as fact
use Rattle.office_books.specs.declared.spans.Span.TheVariants.{All, Between}
use Rattle.office_books.specs.Holds.{holds_of, holds_within}

abbrev m1 : List ℕ
m1 = 109 ∷ 49 ∷ []

abbrev m2 : List ℕ
m2 = 109 ∷ 50 ∷ []

abbrev first : HeldReading
first = record { meter = m1; poll = 1; at = 1000; raw = 7; sf = pos 0; cause = cause.TooFast }

abbrev another : HeldReading
another = record { meter = m2; poll = 2; at = 1500; raw = 9; sf = pos 1; cause = cause.TooFast }

abbrev second : HeldReading
second = record { meter = m1; poll = 3; at = 2000; raw = 8; sf = pos 0; cause = cause.TooFast }

-- The records of the examples of rejected readings, the latest first.
abbrev facts : List Fact
facts = fact.Hold second ∷ fact.Hold another ∷ fact.Hold first ∷ []

all_of_a_meter : holds_within All (holds_of facts m1) ≡ first ∷ second ∷ []
all_of_a_meter = refl

-- A time span includes a reading at its start and excludes a reading at its end.
from_the_first : holds_within (Between 1000 2000) (holds_of facts m1) ≡ first ∷ []
from_the_first = refl

past_the_first : holds_within (Between 1001 2001) (holds_of facts m1) ≡ second ∷ []
past_the_first = refl

none_of_no_meter : holds_within All (holds_of facts []) ≡ []
none_of_no_meter = refl
