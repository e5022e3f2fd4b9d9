-- The model (abstract state) of a store for tests, which fails a chosen call and passes all other
-- calls to another store.
use Rattle.std.specs.Prelude.{List, Contains}
use Rattle.office_events.specs.declared.facts.Fact.{Fact}
use Rattle.office_books.specs.declared.failures.Failures.{Failures}
use Rattle.office_books.specs.Ledgers.{Ledger}

-- The model of a test store that has the records of the wrapped store, and its own failure counter.
abbrev pub refusing : Ledger → Failures → Ledger
refusing beneath failures = record {
  holds = beneath.holds;
  may_leave = λ left. (known : List Fact) × beneath.holds known × Contains left known;
  is_clean = beneath.is_clean;
  is_open = beneath.is_open;
  failures = failures;
  zone = beneath.zone;
}
