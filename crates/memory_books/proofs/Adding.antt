-- Lemmas on a store in memory: its list of records, its figures (number of meters, latest
-- timestamp) and its lookup tables (indexes of the records). After records are added, they have the
-- content that follows from the earlier and the new records. A failed write changes nothing.
use Rattle.std.proofs.Common.{◌≡◌, true, false, List, [], ◌∷◌, ◌++◌, reverse, inl, inr, refl, sym, ap, subst, ◌∙◌, Result, Ok, Err}
use Rattle.std.proofs.lemmas.List.{append-nil, reverse-append, reverse-reverse}
use Rattle.std.specs.declared.alloc.AllocError.{AllocError}
use Rattle.office_events.specs.declared.facts.Fact.{Fact}
use Rattle.office_books.specs.Lawful.{AreLawful}
use Rattle.memory_books.specs.declared.tables.tables.Tables.{Tables}
use Rattle.memory_books.specs.Tables.Whole.{HaveCome}
use Rattle.memory_books.proofs.TablesLemmas.Wholes.{have_come_with}
use Rattle.office_books.specs.declared.faults.BooksFault.{BooksFault}
use Rattle.office_books.specs.Faults.{faults_after}
use Rattle.office_books.specs.Ledgers.{KeepsFacts, Books, with_facts}
use Rattle.memory_books.specs.declared.list_books.ListBooks.{ListBooks}
use Rattle.memory_books.specs.declared.figures.Figures.{Figures}
use Rattle.memory_books.specs.Figures.{AreFigures}
use Rattle.memory_books.specs.Listed.{AreListed, FiguresFollow, HasOne, ledger_of}
use Rattle.memory_books.specs.Looking.{failures_in, reported}

following : (known facts : List Fact) → reverse known ++ facts ≡ reverse (with_facts facts known)
following known facts = sym (reverse-append (reverse facts) known ∙ ap (λ (xs : List Fact). reverse known ++ xs) (reverse-reverse facts))

listed_on : (old new : ListBooks) (known facts : List Fact) → new.facts.items ≡ old.facts.items ++ facts → new.tables ≡ old.tables → FiguresFollow facts old new
    → AreListed old known → AreLawful (with_facts facts known) → AreListed new (with_facts facts known)
listed_on old new known facts is tables figures listed lawful = record {
  lawful = lawful;
  facts = is ∙ ap (λ (xs : List Fact). xs ++ facts) listed.facts ∙ following known facts;
  tables = subst (λ (t : Tables). HaveCome t new.facts.items) (sym tables)
      (subst (HaveCome old.tables) (sym is) (have_come_with old.tables old.facts.items facts listed.tables));
  figures = figures known listed.facts listed.figures;
}

listed_still : (old new : ListBooks) (known : List Fact) → new.facts.items ≡ old.facts.items → new.tables ≡ old.tables → AreFigures new.figures known
    → AreListed old known → AreListed new known
listed_still old new known same tables figures listed = record {
  lawful = listed.lawful;
  facts = same ∙ listed.facts;
  tables = subst (λ (t : Tables). HaveCome t new.facts.items) (sym tables) (subst (HaveCome old.tables) (sym same) listed.tables);
  figures = figures;
}

-- Suppose that a call preserves a store's agreement with each list of records (the store has
-- exactly these records). If the store in memory agreed with one of several lists (`left`) before
-- the call, it still agrees with one of them.
pub one_still : (old new : ListBooks) → ((known : List Fact) → AreListed old known → AreListed new known) → (left : List (List Fact)) → HasOne old left → HasOne new left
one_still old new still [] may = may
one_still old new still (known ∷ left) (inl listed) = inl (still known listed)
one_still old new still (known ∷ left) (inr may) = inr (one_still old new still left may)

one_among : (books : ListBooks) (left more : List (List Fact)) → HasOne books left → HasOne books (left ++ more)
one_among books [] more may = absurd may
one_among books (known ∷ left) more (inl listed) = inl listed
one_among books (known ∷ left) more (inr may) = inr (one_among books left more may)

-- If no records are added to a store, then its number of meters and its latest timestamp still
-- agree with the records.
figures_after_none : (old new : ListBooks) (facts known : List Fact) → facts ≡ [] → FiguresFollow facts old new → AreListed old known → AreFigures new.figures known
figures_after_none old new facts known none figures listed =
    subst (λ (fs : List Fact). AreFigures new.figures (with_facts fs known)) none (figures known listed.facts listed.figures)

-- If the new records were appended to a store's list, then the result `Ok` satisfies the guarantees
-- of a write (the store has all new records, also after a crash).
pub added : (old mid new : ListBooks) (facts : List Fact) → mid.facts.items ≡ old.facts.items ++ facts → mid.zone ≡ old.zone → mid.tables ≡ old.tables
    → FiguresFollow facts old mid → KeepsFacts (ledger_of mid) (ledger_of new) → new.zone ≡ mid.zone → new.last_failure ≡ old.last_failure
    → Books (ledger_of old) (ledger_of new) facts (Ok tt)
added old mid new facts is zone tables figures keeps still_zone none_failed = record {
  booked = λ known listed lawful. keeps.facts (with_facts facts known) (listed_on old mid known facts is tables figures listed lawful);
  settled = λ some known listed lawful. inl (keeps.facts (with_facts facts known) (listed_on old mid known facts is tables figures listed lawful));
  refused = λ known listed. tt;
  under_way = λ known left listed lawful may. tt;
  nothing = λ none.
      let same : mid.facts.items ≡ old.facts.items = is ∙ ap (λ (xs : List Fact). old.facts.items ++ xs) none ∙ append-nil old.facts.items in
      let still : (known : List Fact) → AreListed old known → AreListed mid known =
      λ known listed. listed_still old mid known same tables (figures_after_none old mid facts known none figures listed) listed in
      (refl, record { facts = λ known listed. keeps.facts known (still known listed); left = λ left may. keeps.left left (one_still old mid still left may) });
  goes = record { clean = λ c. c; faults = ap failures_in none_failed; zone = still_zone ∙ zone };
}

-- If memory runs out before the new records are appended to a store's list, then the returned error
-- satisfies the guarantees of a failed write. The store is unchanged.
pub not_added : (old new : ListBooks) (facts : List Fact) (lacks : AllocError) (result : Result (Unit {0}) BooksFault) → result ≡ reported (Err lacks)
    → new.facts.items ≡ old.facts.items → new.zone ≡ old.zone → new.tables ≡ old.tables → new.figures ≡ old.figures
    → failures_in new.last_failure ≡ faults_after result (failures_in old.last_failure) → (facts ≡ [] → false ≡ true)
    → Books (ledger_of old) (ledger_of new) facts result
not_added old new facts lacks (Ok done) is same zone tables figures noted some = absurd (cc)
not_added old new facts lacks (Err fault) is same zone tables figures noted some =
    let still : (known : List Fact) → AreListed old known → AreListed new known =
    λ known listed. listed_still old new known same tables (subst (λ (f : Figures). AreFigures f known) (sym figures) listed.figures) listed in
    record {
      booked = λ known listed lawful. tt;
      settled = λ some known listed lawful. tt;
      refused = still;
      under_way = λ known left listed lawful may. one_among new left _ (one_still old new still left may);
      nothing = λ none. absurd (let never : false ≡ true = some none in cc);
      goes = record { clean = λ c. c; faults = noted; zone = zone };
    }
