-- Proofs that the store has the records that a transaction wrote to the SQL tables, as the contract
-- of `Books` (the interface of a store) requires.
use Rattle.std.proofs.Common.{◌≡◌, ℕ, List, [], true, false, refl, sym, subst, Result, Ok, Err, IsTrue}
use Rattle.sqlite.specs.Store.{Ghosts}
use Rattle.sqlite.specs.Held.{Held, state}
use Rattle.sqlite.specs.State.{HasCleanDisk}
use Rattle.interval_core.specs.declared.zone.Zone.{Zone}
use Rattle.office_events.specs.declared.facts.Fact.{Fact}
use Rattle.office_books.specs.declared.faults.BooksFault.{BooksFault}
use Rattle.office_books.specs.declared.failures.Failures.{Failures}
use Rattle.office_books.specs.Faults.{faults_after}
use Rattle.office_books.specs.Ledgers.{Books, KeepsFacts, with_facts}
use Rattle.office_books.specs.Same.{AreSame}
use Rattle.store_tables.specs.declared.faults.RowFault.{RowFault}
use Rattle.office_store.specs.Holding.{HasFacts, HoldsFacts, BooksFacts}
use Rattle.office_store.specs.Laws.Laws.{DatabasesTellTheirFacts}
use Rattle.office_store.specs.Answers.{answer_of}
use Rattle.office_store.specs.Stored.{IsStored, ledger_of}

-- If a connection's database encodes a list of records with the time zone `zone` and a list with
-- the time zone `other`, these zones are equal. The database therefore also encodes the first list
-- with `other`.
pub known_in : {S : Type 0} → DatabasesTellTheirFacts → (g : Ghosts S) (zone other : List ℕ) (h : Held S) (facts others : List Fact)
    → HoldsFacts g zone h facts → HoldsFacts g other h others → HoldsFacts g other h facts
unfolding HoldsFacts
known_in tell g zone other h facts others a b clean still =
    let has = a clean still in
    let one : zone ≡ other = (tell zone other facts others (state g h).committed has (b clean still)).1 in
    let P : List ℕ → Type 0 = λ z. HasFacts z facts (state g h).committed in
    subst P one has

same : {S : Type 0} (g : Ghosts S) (old new : Held S) (n : Failures) (zone : Zone) → new ≡ old → KeepsFacts (ledger_of g old n zone) (ledger_of g new n zone)
same {S} g old new n zone is =
    let P : Held S → Type 0 = λ h. KeepsFacts (ledger_of g old n zone) (ledger_of g h n zone) in
    subst P (sym is) (record { facts = λ content h. h; left = λ left h. h })

all_booked : {S : Type 0} → DatabasesTellTheirFacts → (g : Ghosts S) (old new : Held S) (n : Failures) (zone : Zone) (facts : List Fact) (done : Result (Unit {0}) RowFault)
    → ((text : List ℕ) → BooksFacts g text facts old new done)
    → Books (ledger_of g old n zone) (ledger_of g new (faults_after (answer_of done) n) zone) facts (answer_of done)
all_booked tell g old new n zone facts (Ok x) books = record {
  booked = λ content h lawful. record { zone = h.zone; holds = (books h.zone).booked content h.holds lawful };
  settled = λ some content h lawful. record {
    zone = h.zone;
    facts = with_facts facts content;
    holds = (books h.zone).booked content h.holds lawful;
    leaves = (books h.zone).settled some content h.holds lawful;
  };
  refused = λ content h. tt;
  under_way = λ content left h lawful may. tt;
  nothing = λ none. (refl, same g old new n zone ((books []).nothing none).0);
  goes = record { clean = (books []).clean; faults = refl; zone = refl };
}
all_booked tell g old new n zone facts (Err e) books = record {
  booked = λ content h lawful. tt;
  settled = λ some content h lawful. tt;
  refused = λ content h. record { zone = h.zone; holds = (books h.zone).refused content h.holds };
  under_way = λ content left h lawful may. record {
    zone = may.zone;
    facts = may.facts;
    holds = (books may.zone).refused may.facts may.holds;
    leaves = (books may.zone).under_way content left (known_in tell g h.zone may.zone old content may.facts h.holds may.holds) lawful may.leaves;
  };
  nothing = λ none. let wrong : false ≡ true = ((books []).nothing none).1 in absurd (cc);
  goes = record { clean = (books []).clean; faults = refl; zone = refl };
}

-- If a transaction wrote records to the tables, the store has the old records and the written
-- records after the transaction.
pub booked : {S : Type 0} → DatabasesTellTheirFacts → (g : Ghosts S) (old new : Held S) (n m : Failures) (zone : Zone) (facts given : List Fact) → given ≡ facts
    → (done : Result (Unit {0}) RowFault) (answer : Result (Unit {0}) BooksFault) → answer ≡ answer_of done → m ≡ faults_after answer n
    → ((text : List ℕ) → BooksFacts g text given old new done)
    → Books (ledger_of g old n zone) (ledger_of g new m zone) facts answer
booked tell g old new n m zone facts given these done answer is count books =
    let F : List Fact → Type 0 = λ fs. Books (ledger_of g old n zone) (ledger_of g new m zone) fs answer in
    let M : Failures → Type 0 = λ k. Books (ledger_of g old n zone) (ledger_of g new k zone) given answer in
    let P : Result (Unit {0}) BooksFault → Type 0 = λ a. Books (ledger_of g old n zone) (ledger_of g new (faults_after a n) zone) given a in
    subst F these (subst M (sym count) (subst P (sym is) (all_booked tell g old new n zone given done books)))

-- If an open connection's database encodes two lists of records, the lists are equal up to order.
pub one_books : {S : Type 0} → DatabasesTellTheirFacts → (g : Ghosts S) (h : Held S) (facts others : List Fact)
    → HasCleanDisk (state g h) → IsTrue (state g h).is_open → IsStored g h facts → IsStored g h others → AreSame facts others
unfolding HoldsFacts
one_books tell g h facts others clean still a b =
    (tell a.zone b.zone facts others (state g h).committed (a.holds clean still) (b.holds clean still)).0
