-- Lemmas: lookups in a test store satisfy the guarantees of a lookup (no record changes, and
-- failures are counted). The test store wraps another store and fails at one chosen call.
use Rattle.std.proofs.Common.{◌≡◌, ◌∙◌, List, ap, sym, subst, refl, Result, Ok}
use Rattle.std.specs.Prelude.{IfOk}
use Rattle.office_events.specs.declared.facts.Fact.{Fact}
use Rattle.office_books.specs.declared.faults.BooksFault.{BooksFault}
use Rattle.office_books.specs.declared.failures.Failures.{Failures}
use Rattle.office_books.specs.Faults.{faults_after}
use Rattle.office_books.specs.Ledgers.{Ledger, Finds, OnlyReads}
use Rattle.memory_books.specs.declared.list_books.ListBooks.{ListBooks}
use Rattle.memory_books.specs.Listed.{ledger_of}
use Rattle.memory_books.specs.Refusing.{refusing}
use Rattle.memory_books.proofs.Booking.{keeps}

beneath : {T : Type 0} → (old new : Ledger) (n : Failures) (result : Result T BooksFault) → OnlyReads old new result
    → OnlyReads (refusing old n) (refusing new (faults_after result n)) result
beneath old new n result reads = record {
  goes = record { clean = reads.goes.clean; faults = refl; zone = reads.goes.zone };
  keeps = keeps old new n (faults_after result n) reads.keeps;
}

-- If the test store passes a lookup on to the store that it wraps, then the result satisfies the
-- guarantees of a lookup (no record changes, and failures are counted).
pub read_on : {T : Type 0} → (old between new : ListBooks) (n k m : Failures) (found result : Result T BooksFault)
    → between ≡ old → k ≡ n → result ≡ found → m ≡ faults_after found k → OnlyReads (ledger_of between) (ledger_of new) found
    → OnlyReads (refusing (ledger_of old) n) (refusing (ledger_of new) m) result
read_on {T} old between new n k m found result same stays is noted reads =
    let B : ListBooks → Type 0 = λ b. OnlyReads (refusing (ledger_of b) n) (refusing (ledger_of new) m) result in
    let N : Failures → Type 0 = λ f. OnlyReads (refusing (ledger_of between) f) (refusing (ledger_of new) m) result in
    let R : Result T BooksFault → Type 0 = λ r. OnlyReads (refusing (ledger_of between) k) (refusing (ledger_of new) m) r in
    let M : Failures → Type 0 = λ f. OnlyReads (refusing (ledger_of between) k) (refusing (ledger_of new) f) found in
    subst B same (subst N stays (subst R (sym is) (subst M (sym noted) (beneath (ledger_of between) (ledger_of new) k found reads))))

-- If the test store passes a lookup on to the store that it wraps and fails afterwards, then the
-- result satisfies the guarantees of a failed lookup. No record changes, and the failure is
-- counted.
pub read_first : (old between new : ListBooks) (n k m : Failures) (x : Unit {0}) (handed result : Result (Unit {0}) BooksFault)
    → Ok x ≡ handed → k ≡ faults_after handed n → new ≡ between → m ≡ faults_after result k
    → OnlyReads (ledger_of old) (ledger_of between) handed → OnlyReads (refusing (ledger_of old) n) (refusing (ledger_of new) m) result
read_first old between new n k m x handed result whole stays same noted reads =
    let B : ListBooks → Type 0 = λ b. OnlyReads (refusing (ledger_of old) n) (refusing (ledger_of b) m) result in
    let none : k ≡ n = stays ∙ ap (λ (r : Result (Unit {0}) BooksFault). faults_after r n) (sym whole) in
    subst B (sym same) (record {
      goes = record { clean = λ c. c; faults = noted ∙ ap (faults_after result) none; zone = reads.goes.zone };
      keeps = keeps (ledger_of old) (ledger_of between) n m reads.keeps;
    })

-- If the test store returns the result of the store that it wraps, then a property of the wrapped
-- store's successful result also holds for the test store's result.
pub as_found : {T : Type 0} (So : T → Type 0) (found result : Result T BooksFault) → result ≡ found → IfOk found So → IfOk result So
as_found {T} So found result is so = let P : Result T BooksFault → Type 0 = λ r. IfOk r So in subst P (sym is) so

pub finds_on : {T : Type 0} (old between new : ListBooks) (n m : Failures) (says : List Fact → T → Type 0) (found result : Result T BooksFault)
    → between ≡ old → result ≡ found → Finds (ledger_of between) (ledger_of new) found says
    → Finds (refusing (ledger_of old) n) (refusing (ledger_of new) m) result says
finds_on old between new n m says found result same is finds = λ known h clean.
    let B : ListBooks → Type 0 = λ b. (ledger_of b).holds known in
    as_found (says known) found result is (finds known (subst B (sym same) h) clean)
