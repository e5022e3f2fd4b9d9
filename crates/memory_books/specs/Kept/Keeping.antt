-- The model (the abstract state that contracts refer to) of a store that caches the lookup results
-- of another store.
use Rattle.std.specs.Prelude.{◌≡◌, ◌↔◌, List}
use Rattle.office_events.specs.declared.facts.Fact.{Fact}
use Rattle.office_books.specs.Ledgers.{Ledger}
use Rattle.memory_books.specs.declared.kept.known.Known.{Known}
use Rattle.memory_books.specs.declared.kept.kept.CachedBooks.{CachedBooks}
use Rattle.memory_books.specs.Kept.Known.{AreTrue}

-- The model of a store with a cache. It is the model of the underlying store, with one more
-- property: if the underlying store returned no wrong result, the cache agrees with the records.
abbrev pub keeping : Known → Ledger → Ledger
keeping kept under = record {
  holds = λ facts. under.holds facts × (under.is_clean → AreTrue kept facts);
  may_leave = under.may_leave;
  is_clean = under.is_clean;
  is_open = under.is_open;
  failures = under.failures;
  zone = under.zone;
}

-- The underlying store of a store with a cache: the store whose lookup results are cached.
abbrev pub beneath : {B : Type 0} → CachedBooks B → B
beneath kept = kept.books

-- The model (abstract state) of a store with a cache, given the model of the store from which
-- results are cached.
abbrev pub ledger_over : {B : Type 0} → (B → Ledger) → CachedBooks B → Ledger
ledger_over ledger kept = keeping kept.known (ledger kept.books)

-- True if two stores have the same state: the same records, the same records that a crash may
-- leave, the same failure counter and time zone. Both or neither are open, and both or neither are
-- clean (every wrong result was detected).
pub record StandsAs (before after : Ledger) : Type 0 where
  pub facts : (facts : List Fact) → before.holds facts → after.holds facts
  pub left : (left : List (List Fact)) → before.may_leave left → after.may_leave left
  pub clean : before.is_clean ↔ after.is_clean
  pub is_open : before.is_open ↔ after.is_open
  pub failures : after.failures ≡ before.failures
  pub zone : after.zone ≡ before.zone
