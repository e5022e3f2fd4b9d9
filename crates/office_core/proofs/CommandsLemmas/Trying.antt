-- Proofs that a write of records to the store satisfies the contract `Tries`, which guarantees less
-- than `Books`, the contract of the write alone. `Tries` also covers a write that follows lookups.
use Rattle.std.proofs.Common.{◌≡◌, List, [], ◌∷◌, ◌++◌, ◌⊎◌, inl, inr, sym, subst, Result, Ok, Err}
use Rattle.office_events.specs.declared.facts.Fact.{Fact}
use Rattle.office_books.specs.Lawful.{AreLawful}
use Rattle.office_books.specs.declared.faults.BooksFault.{BooksFault}
use Rattle.office_books.specs.Ledgers.{Ledger, Books, Moves, with_facts}
use Rattle.office_books.proofs.Moving.{passes, settles}
use Rattle.office_core.specs.Commands.Effects.{Tries}

-- The guarantees of a write to the store (all records or, on an error, none) imply the weaker
-- guarantees of a write that follows lookups.
pub asked : (old new : Ledger) (facts : List Fact) (result : Result (Unit {0}) BooksFault) → Books old new facts result → Tries old new facts result
asked old new facts (Ok done) books = record {
  booked = books.booked;
  settled = λ known left h lawful may. settles old new known left facts done books h lawful may;
  refused = books.refused;
  under_way = λ known left h lawful may. tt;
  goes = passes old new (Ok done) books.goes;
}
asked old new facts (Err why) books = record {
  booked = books.booked;
  settled = λ known left h lawful may. tt;
  refused = books.refused;
  under_way = λ known left h lawful may. inr (books.under_way known left h lawful may);
  goes = passes old new (Err why) books.goes;
}

-- Suppose that a write appends records to the store, and appending them gives the list of records
-- that the definitions require. Then the write satisfies the contract `Moves` of a change to this
-- list.
pub tried : (old new : Ledger) (known later facts : List Fact) (result : Result (Unit {0}) BooksFault) → Tries old new facts result
    → (old.holds known → old.is_clean → with_facts facts known ≡ later) → AreLawful later → Moves old new known later result
tried old new known later facts (Ok done) tries right lawful =
    let is = λ (h : old.holds known) (c : new.is_clean). right h (tries.goes.clean c) in
    record {
      holds = λ h c. subst new.holds (is h c) (tries.booked known h (subst AreLawful (sym (is h c)) lawful));
      refused = λ h. tt;
      settled = λ left h c may. subst (λ (fs : List Fact). new.may_leave (fs ∷ []) ⊎ ((fs ≡ known) × new.may_leave left)) (is h c)
          (tries.settled known left h (subst AreLawful (sym (is h c)) lawful) may);
      under_way = λ left h c may. tt;
      goes = tries.goes;
    }
tried old new known later facts (Err why) tries right lawful =
    let is = λ (h : old.holds known) (c : new.is_clean). right h (tries.goes.clean c) in
    record {
      holds = λ h c. tt;
      refused = λ h. tries.refused known h;
      settled = λ left h c may. tt;
      under_way = λ left h c may. subst (λ (fs : List Fact). new.may_leave left ⊎ new.may_leave (left ++ fs ∷ [])) (is h c)
          (tries.under_way known left h (subst AreLawful (sym (is h c)) lawful) may);
      goes = tries.goes;
    }
