use Rattle.std.proofs.Common.{◌≡◌, List, map, reverse, take}
use Rattle.std.specs.List.{filter_map}
use Rattle.office_events.specs.declared.facts.Fact.{Fact}
use Rattle.office_books.specs.Lawful.{AreLawful}
use Rattle.office_books.specs.Meters.{installation_of}
use Rattle.memory_books.specs.Tables.Lookups.{opening_at}
use Rattle.memory_books.specs.Tables.Whole.{AreWhole}
use Rattle.memory_books.proofs.tables.tables.Tables.installations_there.Given as goal

abbrev pub invariant-loop-place : goal.invariant-loop-place
invariant-loop-place l =
    (known : List Fact) → l.facts ≡ reverse known → AreLawful known → AreWhole l.self known
    → l.rows.items ≡ map (installation_of known) (filter_map (opening_at l.facts) (take l.place-index l.places))
