-- Lemmas: lookups in a store in memory satisfy the guarantees of a lookup (unchanged records). A
-- lookup first brings the lookup tables up to date, and stores its failure if memory runs out.
use Rattle.std.proofs.Common.{◌≡◌, List, reverse, refl, sym, ap, subst, ◌∙◌, Option, Result, Ok}
use Rattle.std.proofs.lemmas.List.{reverse-reverse}
use Rattle.office_events.specs.declared.facts.Fact.{Fact}
use Rattle.office_books.specs.Lawful.{AreLawful}
use Rattle.office_books.specs.declared.faults.BooksFault.{BooksFault}
use Rattle.office_books.specs.Faults.{faults_after}
use Rattle.office_books.specs.Ledgers.{Ledger, KeepsFacts, OnlyReads}
use Rattle.office_books.proofs.Moving.{keeps_then}
use Rattle.memory_books.specs.Tables.Whole.{HaveCome}
use Rattle.memory_books.specs.declared.list_books.ListBooks.{ListBooks}
use Rattle.memory_books.specs.declared.figures.Figures.{Figures}
use Rattle.memory_books.specs.Figures.{AreFigures}
use Rattle.memory_books.specs.Listed.{AreListed, ledger_of}
use Rattle.memory_books.specs.Looking.{failures_in}
use Rattle.memory_books.proofs.Adding.{one_still}

-- If a store in memory agrees with a list of records, the latest first, then the store's own list
-- in reverse order equals this list.
pub in_turn : (books : ListBooks) (facts known : List Fact) → facts ≡ books.facts.items → AreListed books known → reverse facts ≡ known
in_turn books facts known is listed = ap reverse (is ∙ listed.facts) ∙ reverse-reverse known

-- If a call changes only a store's lookup tables, and the new tables agree with the store's
-- records, then the store still agrees with the same records.
pub keeps_facts : (old new : ListBooks) (facts : List Fact) → new.facts.items ≡ old.facts.items → new.figures ≡ old.figures → facts ≡ old.facts.items
    → (AreLawful (reverse facts) → HaveCome old.tables facts → HaveCome new.tables facts) → KeepsFacts (ledger_of old) (ledger_of new)
keeps_facts old new facts same figures is further = record { facts = still; left = one_still old new still }
  where
    still : (known : List Fact) → AreListed old known → AreListed new known
    still known listed = record {
      lawful = listed.lawful;
      facts = same ∙ listed.facts;
      tables = subst (HaveCome new.tables) (is ∙ sym same)
          (further (subst AreLawful (sym (in_turn old facts known is listed)) listed.lawful) (subst (HaveCome old.tables) (sym is) listed.tables));
      figures = subst (λ (f : Figures). AreFigures f known) (sym figures) listed.figures;
    }

-- After the lookup tables (in-memory indexes of the records) of a store are brought up to date,
-- they have the content that follows from all records of the store.
pub all_said : (old : ListBooks) (So : List Fact → Type 0) (facts known : List Fact) → facts ≡ old.facts.items
    → (AreLawful (reverse facts) → HaveCome old.tables facts → So (reverse facts)) → AreListed old known → So known
all_said old So facts known is whole listed =
    let turned : reverse facts ≡ known = in_turn old facts known is listed in
    subst So turned (whole (subst AreLawful (sym turned) listed.lawful) (subst (HaveCome old.tables) (sym is) listed.tables))

-- If only the stored last failure (`last_failure`) of a store changes, then the store still agrees
-- with the same records.
noting : (books : ListBooks) (last : Option BooksFault) → KeepsFacts (ledger_of books) (ledger_of (record books { last_failure = last }))
noting books last = record { facts = still; left = one_still books (record books { last_failure = last }) still }
  where
    still : (known : List Fact) → AreListed books known → AreListed (record books { last_failure = last }) known
    still known listed = record { lawful = listed.lawful; facts = listed.facts; tables = listed.tables; figures = listed.figures }

-- If a lookup changes nothing in the store except the stored last failure, then it satisfies the
-- guarantees of a lookup (unchanged records).
pub only_noted : {T : Type 0} (books : ListBooks) (last : Option BooksFault) (answer : Result T BooksFault)
    → failures_in last ≡ faults_after answer (failures_in books.last_failure)
    → OnlyReads (ledger_of books) (ledger_of (record books { last_failure = last })) answer
only_noted books last answer noted = record {
  goes = record { clean = λ c. c; faults = noted; zone = refl };
  keeps = noting books last;
}

-- Suppose that a lookup brings the store's lookup tables (in-memory indexes of the records) up to
-- date, and then only stores its failure, if any. Then it satisfies the guarantees of a lookup
-- (unchanged records).
pub ready : {T : Type 0} (old mid : ListBooks) (last : Option BooksFault) (answer : Result T BooksFault) → KeepsFacts (ledger_of old) (ledger_of mid)
    → mid.zone ≡ old.zone → mid.last_failure ≡ old.last_failure → failures_in last ≡ faults_after answer (failures_in mid.last_failure)
    → OnlyReads (ledger_of old) (ledger_of (record mid { last_failure = last })) answer
ready old mid last answer keeps zone same noted = record {
  goes = record { clean = λ c. c; faults = noted ∙ ap (λ (l : Option BooksFault). faults_after answer (failures_in l)) same; zone = zone };
  keeps = keeps_then (ledger_of old) (ledger_of mid) (ledger_of (record mid { last_failure = last })) keeps (noting mid last);
}

pub reads_then : {T S : Type 0} (old between new : Ledger) (x : T) (answer : Result S BooksFault) → OnlyReads old between (Ok x) → OnlyReads between new answer
    → OnlyReads old new answer
reads_then old between new x answer first after = record {
  goes = record {
    clean = λ c. first.goes.clean (after.goes.clean c);
    faults = after.goes.faults ∙ ap (faults_after answer) first.goes.faults;
    zone = after.goes.zone ∙ first.goes.zone;
  };
  keeps = keeps_then old between new first.keeps after.keeps;
}
