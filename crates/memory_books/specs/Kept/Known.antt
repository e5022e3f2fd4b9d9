-- Definition of when a cache of lookup results agrees with the records of the store: each cached
-- result follows from the records.
use Rattle.std.specs.Prelude.{◌≡◌, ℕ, List, Some}
use Rattle.office_events.specs.declared.facts.Fact.{Fact}
use Rattle.office_events.specs.declared.questions.Installation.{Installation}
use Rattle.office_books.specs.Facts.{list_of, registers_of, installed_at}
use Rattle.office_books.specs.Meters.{installation_of}
use Rattle.memory_books.specs.Kept.Answers.{EachIs}
use Rattle.memory_books.specs.Kept.Polls.{PollsAreTrue}
use Rattle.memory_books.specs.declared.kept.known.Known.{Known}

-- True if `row` is the state of this meter that follows from the records, and no meter was
-- installed later at the same accounting register (a named energy counter).
pub record IsLatest (facts : List Fact) (meter : List ℕ) (row : Installation) : Type 0 where
  pub own : row.opening.meter ≡ meter
  pub there : installed_at facts row.opening.register ≡ Some row.opening
  pub stands : row ≡ installation_of facts row.opening

-- True if the cache agrees with the store's records `facts`. The cached point lists, accounting
-- registers (named energy counters), states of meters and polls equal those that follow from these
-- records.
pub record AreTrue (kept : Known) (facts : List Fact) : Type 0 where
  pub lists : EachIs (λ device list. list_of facts device ≡ Some list) kept.lists
  pub registers : EachIs (λ device v. v.items ≡ registers_of facts device) kept.registers
  pub standing : EachIs (IsLatest facts) kept.standing
  pub polls : PollsAreTrue kept.polls facts
