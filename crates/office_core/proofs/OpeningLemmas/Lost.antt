-- Proof that opening the program's store only adds one outcome for each pending poll: the poll is
-- lost.
use Rattle.std.proofs.Common.{◌≡◌, ◌⊎◌, ℕ, List, [], ◌∷◌, ◌++◌, map, sym, ap, subst, inr, ◌∙◌, Result, Ok, Err}
use Rattle.std.specs.Prelude.{OnOk, OnErr}
use Rattle.std.proofs.lemmas.Result.{on_err_weaker}
use Rattle.office_events.specs.declared.facts.Fact.{Fact}
use Rattle.office_events.specs.declared.facts.Poll.{Poll}
use Rattle.office_books.specs.Facts.{pending_in}
use Rattle.office_books.specs.History.{lost, with_lost}
use Rattle.office_books.specs.Lawful.{AreLawful}
use Rattle.office_books.specs.declared.faults.BooksFault.{BooksFault}
use Rattle.office_books.specs.Ledgers.{Ledger, Consults, Books, Moves, with_facts}
use Rattle.office_books.proofs.Moving.{passes, passes_then, passes_well, settles}

-- The records that an opening of the store adds: for each poll that was pending, the outcome that
-- the poll is lost.
lost_as : (at : ℕ) (facts : List Fact) (polls : List Poll) (known : List Fact) → facts ≡ map (lost at) polls → polls ≡ pending_in known
    → with_facts facts known ≡ with_lost at known
lost_as at facts polls known is found = ap (λ fs. with_facts fs known) (is ∙ ap (map (lost at)) found)

lost_settles : (old new : Ledger) (known : List Fact) (left : List (List Fact)) (facts : List Fact) (result : Result (Unit {0}) BooksFault)
    → Books old new facts result → old.holds known → AreLawful (with_facts facts known) → old.may_leave left
    → OnOk result (new.may_leave (with_facts facts known ∷ []) ⊎ ((with_facts facts known ≡ known) × new.may_leave left))
lost_settles old new known left facts (Ok done) books h lawful may = settles old new known left facts done books h lawful may
lost_settles old new known left facts (Err why) books h lawful may = tt

-- If polls are pending when the program opens its store, then the opening writes a lost outcome for
-- each of these polls, and no other record.
pub books_lost : (old between new : Ledger) (at : ℕ) (known : List Fact) (polls : List Poll) (facts : List Fact) {T : Type 0} (x : T) (result : Result (Unit {0}) BooksFault)
    → Consults old between (Ok x) → (old.holds known → between.is_clean → polls ≡ pending_in known) → facts ≡ map (lost at) polls
    → AreLawful (with_lost at known) → Books between new facts result → Moves old new known (with_lost at known) result
books_lost old between new at known polls facts x result reads found is lawful books =
    let same : old.holds known → new.is_clean → with_facts facts known ≡ with_lost at known =
    λ h c. lost_as at facts polls known is (found h (books.goes.clean c)) in
    let fits : old.holds known → new.is_clean → AreLawful (with_facts facts known) = λ h c. subst AreLawful (sym (same h c)) lawful in
    record {
      holds = λ h c. subst (λ fs. OnOk result (new.holds fs)) (same h c) (books.booked known (reads.keeps.facts known h) (fits h c));
      refused = λ h. books.refused known (reads.keeps.facts known h);
      settled = λ left h c may. subst (λ fs. OnOk result (new.may_leave (fs ∷ []) ⊎ ((fs ≡ known) × new.may_leave left))) (same h c)
          (lost_settles between new known left facts result books (reads.keeps.facts known h) (fits h c) (reads.keeps.left left may));
      under_way = λ left h c may. subst (λ fs. OnErr result (new.may_leave left ⊎ new.may_leave (left ++ fs ∷ []))) (same h c)
          (on_err_weaker result (λ done. inr done) (books.under_way known left (reads.keeps.facts known h) (fits h c) (reads.keeps.left left may)));
      goes = passes_then old between new x result reads.goes (passes between new result books.goes);
    }

-- If no poll is pending (without an outcome) when the program opens its store, then the store is
-- unchanged.
pub nothing_lost : (old new : Ledger) (at : ℕ) (known : List Fact) (polls : List Poll) {T : Type 0} (x : T) → Consults old new (Ok x)
    → (old.holds known → new.is_clean → polls ≡ pending_in known) → polls ≡ [] → Moves {T = Unit {0}} old new known (with_lost at known) (Ok tt)
nothing_lost old new at known polls x reads found none =
    let same : old.holds known → new.is_clean → known ≡ with_lost at known =
    λ h c. lost_as at [] polls known (sym (ap (map (lost at)) none)) (found h c) in
    record {
      holds = λ h c. subst new.holds (same h c) (reads.keeps.facts known h);
      refused = λ h. tt;
      settled = λ left h c may. inr (sym (same h c), reads.keeps.left left may);
      under_way = λ left h c may. tt;
      goes = passes_well old new x tt reads.goes;
    }
