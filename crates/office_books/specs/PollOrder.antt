-- The rule for adding polls, outcomes and rejected readings to the earlier records.
use Rattle.std.specs.Prelude.{◌≡◌, true, List, [], ◌∷◌, is_some}
use Rattle.office_events.specs.declared.facts.Fact.{Fact}
use Rattle.office_events.specs.declared.facts.Fact.TheVariants as fact
use Rattle.office_books.specs.Facts.{poll_of}
use Rattle.office_books.specs.Lawful.{PollFits, EndFits}

-- True if poll numbers are consecutive, the devices of polls exist, only pending polls (without an
-- outcome) end, and rejected readings belong to started polls.
abbrev pub PollsFit : List Fact → Type 0
PollsFit [] = Unit {0}
PollsFit (fact.Poll poll ∷ facts) = PollFits facts poll × PollsFit facts
PollsFit (fact.Outcome ended ∷ facts) = EndFits facts ended × PollsFit facts
PollsFit (fact.Hold held ∷ facts) = (is_some (poll_of facts held.poll) ≡ true) × PollsFit facts
PollsFit (_ ∷ facts) = PollsFit facts
