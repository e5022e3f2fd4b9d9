-- Lemmas: lookups in a store with a cache satisfy the guarantees of a lookup (unchanged records,
-- counted failures). Such a lookup returns either a cached result or the result of the underlying
-- store.
use Rattle.std.proofs.Common.{refl, Result, Ok, List}
use Rattle.office_events.specs.declared.facts.Fact.{Fact}
use Rattle.office_books.specs.declared.faults.BooksFault.{BooksFault}
use Rattle.office_books.specs.Ledgers.{Ledger, OnlyReads}
use Rattle.memory_books.specs.declared.kept.known.Known.{Known}
use Rattle.memory_books.specs.Kept.Known.{AreTrue}
use Rattle.memory_books.specs.Kept.Keeping.{keeping}

-- Suppose that the underlying store answers a lookup, and the cached results afterwards still
-- follow from the records. Then the store with the cache satisfies the guarantees of a lookup
-- (unchanged records, counted failures).
pub asked : {T : Type 0} (old new : Ledger) (kept after : Known) (result : Result T BooksFault)
    → ((facts : List Fact) → old.holds facts → new.is_clean → AreTrue kept facts → AreTrue after facts)
    → OnlyReads old new result → OnlyReads (keeping kept old) (keeping after new) result
asked old new kept after result true_too reads = record {
  goes = record { clean = reads.goes.clean; faults = reads.goes.faults; zone = reads.goes.zone };
  keeps = record {
    facts = λ facts holds.
        (reads.keeps.facts facts holds.0, λ clean. true_too facts holds.0 clean (holds.1 (reads.goes.clean clean)));
    left = reads.keeps.left;
  };
}

pub passed_on : {T : Type 0} (old new : Ledger) (kept : Known) (result : Result T BooksFault)
    → OnlyReads old new result → OnlyReads (keeping kept old) (keeping kept new) result
passed_on old new kept result reads = asked old new kept kept result (λ facts holds clean are. are) reads

-- The guarantees of a successful lookup (unchanged records, counted failures) do not depend on its
-- result. If they hold with the result `x`, they also hold with `y`.
pub answered_with : {T S : Type 0} (old new : Ledger) (x : T) (y : S) → OnlyReads old new (Ok x) → OnlyReads old new (Ok y)
answered_with old new x y reads = record {
  goes = record { clean = reads.goes.clean; faults = reads.goes.faults; zone = reads.goes.zone };
  keeps = reads.keeps;
}

-- If the cache answers a lookup, the lookup satisfies its guarantees, because the underlying store
-- is not called and does not change.
pub unasked : {T : Type 0} (ledger : Ledger) (x : T) → OnlyReads ledger ledger (Ok x)
unasked ledger x = record {
  goes = record { clean = λ clean. clean; faults = refl; zone = refl };
  keeps = record { facts = λ facts holds. holds; left = λ left may. may };
}
