-- The lemma that a store agrees with (has the records of) a history of accepted events, if its
-- database has exactly the records of these events, also after a crash.
use Rattle.std.proofs.Common.{ℕ, zero, suc, List, [], ◌∷◌, inl, refl, arith}
use Rattle.std.specs.Prelude.{All}
use Rattle.sqlite.specs.Store.{Ghosts}
use Rattle.sqlite.specs.Held.{Held}
use Rattle.interval_core.specs.declared.zone.Zone.{Zone}
use Rattle.office_books.specs.History.{History, facts_of}
use Rattle.office_books.specs.Lawfulness.{IsPast}
use Rattle.office_books.specs.declared.failures.Failures.{Failures}
use Rattle.office_core.specs.Leaving.{MayBeLeft, BooksStand}
use Rattle.office_store.specs.Stored.{ledger_of}
use Rattle.office_store.specs.Database.{HoldsAlone}

left_alone : (past : History) → All (MayBeLeft past) (facts_of past ∷ [])
left_alone past zero d less = inl refl
left_alone past (suc k) d less = absurd (omega arith)

pub stands_alone : {S : Type 0} (g : Ghosts S) (text : List ℕ) (h : Held S) (failures : Failures) (zone : Zone) (past : History)
    → IsPast past → HoldsAlone g text h (facts_of past) → BooksStand (ledger_of g h failures zone) past
stands_alone g text h failures zone past is alone = record {
  is_past = is;
  holds = record { zone = text; holds = alone.holds };
  leaves = record {
    left = facts_of past ∷ [];
    may = record { zone = text; facts = facts_of past; holds = alone.holds; leaves = alone.leaves };
    each = left_alone past;
  };
}
