-- Lemmas: adding records to a store with a cache satisfies the guarantees of a write (the store
-- gets all new records or, on an error, none).
use Rattle.std.proofs.Common.{◌≡◌, true, false, List, [], refl, sym, subst, Result, Ok, Err}
use Rattle.office_events.specs.declared.facts.Fact.{Fact}
use Rattle.office_books.specs.Lawful.{AreLawful}
use Rattle.office_books.specs.declared.faults.BooksFault.{BooksFault}
use Rattle.office_books.specs.Ledgers.{Ledger, KeepsFacts, Books, with_facts}
use Rattle.memory_books.specs.declared.kept.known.Known.{Known}
use Rattle.memory_books.specs.Kept.Known.{AreTrue}
use Rattle.memory_books.specs.Kept.Keeping.{keeping}

-- If a call changes neither the underlying store's records nor the cache, then it does not change
-- the records of the store with the cache.
keeps : (old new : Ledger) (kept : Known) → (new.is_clean → old.is_clean) → KeepsFacts old new → KeepsFacts (keeping kept old) (keeping kept new)
keeps old new kept clean k = record {
  facts = λ known holds. (k.facts known holds.0, λ c. holds.1 (clean c));
  left = k.left;
}

pub nothing_booked : (old new : Ledger) (kept : Known) (facts : List Fact) (result : Result (Unit {0}) BooksFault) → facts ≡ []
    → Books old new facts result → Books (keeping kept old) (keeping kept new) facts result
nothing_booked old new kept facts (Ok done) none books = record {
  booked = λ known holds lawful. (
    books.booked known holds.0 lawful,
    λ clean. subst (λ (fs : List Fact). AreTrue kept (with_facts fs known)) (sym none) (holds.1 (books.goes.clean clean)),
  );
  settled = λ some known holds lawful. absurd (some none);
  refused = λ known holds. tt;
  under_way = λ known left holds lawful may. tt;
  nothing = λ is. (refl, keeps old new kept books.goes.clean (books.nothing is).1);
  goes = record { clean = books.goes.clean; faults = books.goes.faults; zone = books.goes.zone };
}
nothing_booked old new kept facts (Err why) none books =
    let wrong : false ≡ true = (books.nothing none).0 in absurd (cc)

-- States that, if the cache `kept` agrees with a store's records, then the cache `after` agrees
-- with these records and the added records `facts`.
abbrev Comes : (kept after : Known) (facts : List Fact) → Type 0
Comes kept after facts =
    (known : List Fact) → AreLawful (with_facts facts known) → AreTrue kept known → AreTrue after (with_facts facts known)

pub booked : (old new : Ledger) (kept after : Known) (given facts : List Fact) (done : Unit {0}) → (facts ≡ [] → ⊥) → given ≡ facts
    → Comes kept after given → Books old new facts (Ok done) → Books (keeping kept old) (keeping after new) facts (Ok done)
booked old new kept after given facts done some same comes books = record {
  booked = λ known holds lawful.
      (books.booked known holds.0 lawful, λ clean. subst (Comes kept after) same comes known lawful (holds.1 (books.goes.clean clean)));
  settled = λ more known holds lawful. books.settled more known holds.0 lawful;
  refused = λ known holds. tt;
  under_way = λ known left holds lawful may. tt;
  nothing = λ none. absurd (some none);
  goes = record { clean = books.goes.clean; faults = books.goes.faults; zone = books.goes.zone };
}

-- If a write to the underlying store fails and the cache is emptied, the store with the cache
-- satisfies the guarantees of a failed write (no record was added).
pub failed : (old new : Ledger) (kept after : Known) (facts : List Fact) (why : BooksFault) → (facts ≡ [] → ⊥)
    → ((known : List Fact) → AreTrue after known)
    → Books old new facts (Err why) → Books (keeping kept old) (keeping after new) facts (Err why)
failed old new kept after facts why some fresh books = record {
  booked = λ known holds lawful. tt;
  settled = λ more known holds lawful. tt;
  refused = λ known holds. (books.refused known holds.0, λ clean. fresh known);
  under_way = λ known left holds lawful may. books.under_way known left holds.0 lawful may;
  nothing = λ none. absurd (some none);
  goes = record { clean = books.goes.clean; faults = books.goes.faults; zone = books.goes.zone };
}
