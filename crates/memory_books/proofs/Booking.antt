-- Lemmas: writes to a test store satisfy the guarantees of a write (the store gets all new records
-- or, on an error, none). The test store wraps another store and fails at one chosen call.
use Rattle.std.proofs.Common.{◌≡◌, List, [], ◌∷◌, true, false, refl, sym, subst, Result, Ok, Err}
use Rattle.std.proofs.lemmas.List.Elements.{Contains-append_left, Contains-push}
use Rattle.office_events.specs.declared.facts.Fact.{Fact}
use Rattle.office_books.specs.declared.faults.BooksFault.{BooksFault}
use Rattle.office_books.specs.declared.failures.Failures.{Failures}
use Rattle.office_books.specs.Faults.{faults_after}
use Rattle.office_books.specs.Ledgers.{Ledger, KeepsFacts, Books, with_facts}
use Rattle.memory_books.specs.declared.list_books.ListBooks.{ListBooks}
use Rattle.memory_books.specs.Listed.{ledger_of}
use Rattle.memory_books.specs.Refusing.{refusing}

pub keeps : (old new : Ledger) (n m : Failures) → KeepsFacts old new → KeepsFacts (refusing old n) (refusing new m)
keeps old new n m k = record {
  facts = k.facts;
  left = λ left known. (known.0, k.facts known.0 known.1, known.2);
}

beneath : (old new : Ledger) (n : Failures) (facts : List Fact) (result : Result (Unit {0}) BooksFault) → Books old new facts result
    → Books (refusing old n) (refusing new (faults_after result n)) facts result
beneath old new n facts (Ok done) books = record {
  booked = books.booked;
  settled = λ more known holds lawful. (with_facts facts known, books.booked known holds lawful, Contains-push [] (with_facts facts known));
  refused = λ known holds. tt;
  under_way = λ known left holds lawful may. tt;
  nothing = λ none. (refl, keeps old new n n (books.nothing none).1);
  goes = record { clean = books.goes.clean; faults = refl; zone = books.goes.zone };
}
beneath old new n facts (Err fault) books = record {
  booked = λ known holds lawful. tt;
  settled = λ more known holds lawful. tt;
  refused = books.refused;
  under_way = λ known left holds lawful may.
      (may.0, books.refused may.0 may.1, Contains-append_left left (with_facts facts known ∷ []) may.0 may.2);
  nothing = λ none. let wrong : false ≡ true = (books.nothing none).0 in absurd (cc);
  goes = record { clean = books.goes.clean; faults = refl; zone = books.goes.zone };
}

-- If the test store passes a write on to the store that it wraps, then the result satisfies the
-- guarantees of a write. On an error, no record was added.
pub passed : (old between new : ListBooks) (n k m : Failures) (facts : List Fact) (done result : Result (Unit {0}) BooksFault)
    → between ≡ old → k ≡ n → result ≡ done → m ≡ faults_after done k → Books (ledger_of between) (ledger_of new) facts done
    → Books (refusing (ledger_of old) n) (refusing (ledger_of new) m) facts result
passed old between new n k m facts done result same stays is noted books =
    let B : ListBooks → Type 0 = λ b. Books (refusing (ledger_of b) n) (refusing (ledger_of new) m) facts result in
    let N : Failures → Type 0 = λ f. Books (refusing (ledger_of between) f) (refusing (ledger_of new) m) facts result in
    let R : Result (Unit {0}) BooksFault → Type 0 = λ r. Books (refusing (ledger_of between) k) (refusing (ledger_of new) m) facts r in
    let M : Failures → Type 0 = λ f. Books (refusing (ledger_of between) k) (refusing (ledger_of new) f) facts done in
    subst B same (subst N stays (subst R (sym is) (subst M (sym noted) (beneath (ledger_of between) (ledger_of new) k facts done books))))

-- If the test store fails a write before the store that it wraps receives it, then the result
-- satisfies the guarantees of a failed write (no record was added).
refused_at : (ledger : Ledger) (n : Failures) (facts : List Fact) (fault : BooksFault) → (facts ≡ [] → ⊥)
    → Books (refusing ledger n) (refusing ledger (faults_after {T = Unit {0}} (Err fault) n)) facts (Err fault)
refused_at ledger n facts fault some = record {
  booked = λ known holds lawful. tt;
  settled = λ more known holds lawful. tt;
  refused = λ known holds. holds;
  under_way = λ known left holds lawful may.
      (may.0, may.1, Contains-append_left left (with_facts facts known ∷ []) may.0 may.2);
  nothing = λ none. absurd (some none);
  goes = record { clean = λ c. c; faults = refl; zone = refl };
}

pub refused : (old new : ListBooks) (n m : Failures) (facts : List Fact) (fault : BooksFault)
    → new ≡ old → m ≡ faults_after {T = Unit {0}} (Err fault) n → (facts ≡ [] → ⊥)
    → Books (refusing (ledger_of old) n) (refusing (ledger_of new) m) facts (Err fault)
refused old new n m facts fault same noted some =
    let B : ListBooks → Type 0 = λ b. Books (refusing (ledger_of old) n) (refusing (ledger_of b) m) facts (Err fault) in
    let M : Failures → Type 0 = λ k. Books (refusing (ledger_of old) n) (refusing (ledger_of old) k) facts (Err fault) in
    subst B (sym same) (subst M (sym noted) (refused_at (ledger_of old) n facts fault some))
