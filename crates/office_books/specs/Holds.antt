-- Lists of the rejected readings of a meter.
use Rattle.std.specs.Prelude.{ℕ, List, reverse}
use Rattle.std.specs.List.{filter}
use Rattle.office_events.specs.declared.facts.Fact.{Fact}
use Rattle.office_events.specs.declared.facts.HeldReading.{HeldReading}
use Rattle.office_books.specs.Facts.{holds_in, same}
use Rattle.office_books.specs.declared.spans.Span.{Span}
use Rattle.office_books.specs.Spans.{is_within}

-- The rejected readings of the named meter, in the order in which they were recorded.
abbrev pub holds_of : List Fact → (meter : List ℕ) → List HeldReading
holds_of facts meter = reverse (filter (λ held. same held.meter meter) (holds_in facts))

-- From a list of rejected readings, those whose timestamps lie in the time span, in unchanged
-- order.
abbrev pub holds_within : Span → List HeldReading → List HeldReading
holds_within span holds = filter (λ held. is_within span held.at) holds
