-- Properties of sequences of calls to a store of records: if each call has the guarantees of a call
-- (counted failures, same time zone), the sequence has them too.
use Rattle.std.proofs.Common.{◌≡◌, ◌⊎◌, List, [], ◌∷◌, inl, inr, refl, subst, ◌∙◌, Result, Ok, Err, ap}
use Rattle.office_events.specs.declared.facts.Fact.{Fact}
use Rattle.office_books.specs.Lawful.{AreLawful}
use Rattle.office_books.specs.declared.faults.BooksFault.{BooksFault}
use Rattle.office_books.specs.declared.faults.BooksFault.TheVariants.{Store, Memory}
use Rattle.office_books.specs.declared.failures.Failures.{Failures}
use Rattle.office_books.specs.Faults.{FailuresAfterCalls}
use Rattle.office_books.specs.Ledgers.{Ledger, LedgerAfterCall, LedgerAfterCalls, KeepsFacts, OnlyReads, Consults, Books, Moves, with_facts}

-- If one call to the store has the guarantees of a call (`LedgerAfterCall`: counted failures, same
-- time zone), then it also has those of a sequence of calls.
pub passes : {T : Type 0} (old new : Ledger) (result : Result T BooksFault) → LedgerAfterCall old new result → LedgerAfterCalls old new result
passes old new (Ok x) goes = record { clean = goes.clean; faults = goes.faults; zone = goes.zone }
passes old new (Err (Store fault)) goes = record { clean = goes.clean; faults = goes.faults; zone = goes.zone }
passes old new (Err Memory) goes = record { clean = goes.clean; faults = inl goes.faults; zone = goes.zone }

pub consults : {T : Type 0} (old new : Ledger) (result : Result T BooksFault) → OnlyReads old new result → Consults old new result
consults old new result reads = record { goes = passes old new result reads.goes; keeps = reads.keeps }

-- The guarantees of a successful sequence of calls to a store (counted failures, same time zone) do
-- not depend on the value that the sequence returns.
pub passes_well : {T S : Type 0} (old new : Ledger) (x : T) (y : S) → LedgerAfterCalls old new (Ok x) → LedgerAfterCalls old new (Ok y)
passes_well old new x y goes = record { clean = goes.clean; faults = goes.faults; zone = goes.zone }

pub passes_failed : {T S : Type 0} (old new : Ledger) (why : BooksFault) → LedgerAfterCalls {T = T} old new (Err why) → LedgerAfterCalls {T = S} old new (Err why)
passes_failed old new (Store fault) goes = record { clean = goes.clean; faults = goes.faults; zone = goes.zone }
passes_failed old new Memory goes = record { clean = goes.clean; faults = goes.faults; zone = goes.zone }

-- If memory runs out after successful calls to the store, then the failure counter of the store
-- does not change.
pub passes_without : {T S : Type 0} (old new : Ledger) (x : T) → LedgerAfterCalls old new (Ok x) → LedgerAfterCalls {T = S} old new (Err Memory)
passes_without old new x goes = record { clean = goes.clean; faults = inr goes.faults; zone = goes.zone }

pub passes_then : {T S : Type 0} (old between new : Ledger) (x : T) (result : Result S BooksFault)
    → LedgerAfterCalls old between (Ok x) → LedgerAfterCalls between new result → LedgerAfterCalls old new result
passes_then old between new x result first after = record {
  clean = λ c. first.clean (after.clean c);
  faults = let P : Failures → Type 0 = λ failures. FailuresAfterCalls result failures new.failures in subst P first.faults after.faults;
  zone = after.zone ∙ first.zone;
}

pub keeps_then : (old between new : Ledger) → KeepsFacts old between → KeepsFacts between new → KeepsFacts old new
keeps_then old between new first after = record {
  facts = λ known h. after.facts known (first.facts known h);
  left = λ left may. after.left left (first.left left may);
}

pub consults_then : {T S : Type 0} (old between new : Ledger) (x : T) (result : Result S BooksFault)
    → Consults old between (Ok x) → Consults between new result → Consults old new result
consults_then old between new x result first after = record {
  goes = passes_then old between new x result first.goes after.goes;
  keeps = keeps_then old between new first.keeps after.keeps;
}

-- If the lookups before a write fail, then nothing was written, and the guarantees of a failed
-- write hold (unchanged records).
pub failed_reading : {T S : Type 0} (old new : Ledger) (known later : List Fact) (why : BooksFault) → Consults {T = T} old new (Err why)
    → Moves {T = S} old new known later (Err why)
failed_reading old new known later why reads = record {
  holds = λ h c. tt;
  refused = λ h. reads.keeps.facts known h;
  settled = λ left h c may. tt;
  under_way = λ left h c may. inl (reads.keeps.left left may);
  goes = passes_failed old new why reads.goes;
}

-- If lookups precede a write, then the guarantees of the write (all records are written or, on an
-- error, none) hold for the lookups and the write together.
pub read_then : {T S : Type 0} (old between new : Ledger) (known later : List Fact) (x : T) (result : Result S BooksFault)
    → Consults old between (Ok x) → Moves between new known later result → Moves old new known later result
read_then old between new known later x result reads moves = record {
  holds = λ h c. moves.holds (reads.keeps.facts known h) c;
  refused = λ h. moves.refused (reads.keeps.facts known h);
  settled = λ left h c may. moves.settled left (reads.keeps.facts known h) c (reads.keeps.left left may);
  under_way = λ left h c may. moves.under_way left (reads.keeps.facts known h) c (reads.keeps.left left may);
  goes = passes_then old between new x result reads.goes moves.goes;
}

-- After a successful write of records, the only list that a crash can leave is the earlier records
-- followed by the written ones. A write of no records does not change what a crash may leave.
pub settled_or_none : (old new : Ledger) (known : List Fact) (left : List (List Fact)) (facts : List Fact) (x : Unit {0})
    → Books old new facts (Ok x) → old.holds known → AreLawful (with_facts facts known) → old.may_leave left
    → new.may_leave (with_facts facts known ∷ []) ⊎ ((facts ≡ []) × new.may_leave left)
settled_or_none old new known left [] x books h lawful may = inr (refl, (books.nothing refl).1.left left may)
settled_or_none old new known left (fact ∷ facts) x books h lawful may = inl (books.settled (λ none. absurd (cc)) known h lawful)

-- After a successful write, the only list that a crash can leave is the earlier records followed by
-- the written ones. If the write adds no record, a crash may leave what it could leave before.
pub settles : (old new : Ledger) (known : List Fact) (left : List (List Fact)) (facts : List Fact) (x : Unit {0})
    → Books old new facts (Ok x) → old.holds known → AreLawful (with_facts facts known) → old.may_leave left
    → new.may_leave (with_facts facts known ∷ []) ⊎ ((with_facts facts known ≡ known) × new.may_leave left)
settles old new known left facts x books h lawful may = elim (settled_or_none old new known left facts x books h lawful may) [
  | inl there ↦ inl there
  | inr none ↦ inr (ap (λ (fs : List Fact). with_facts fs known) none.0, none.1)
]

-- A call that adds records satisfies `Moves` (the guarantees of a change of the store's records) if
-- the added records follow the rules for adding records (`AreLawful`).
pub booked : (old new : Ledger) (known facts : List Fact) (result : Result (Unit {0}) BooksFault)
    → (old.holds known → AreLawful (with_facts facts known)) → Books old new facts result
    → Moves old new known (with_facts facts known) result
booked old new known facts (Ok done) lawful books = record {
  holds = λ h c. books.booked known h (lawful h);
  refused = λ h. tt;
  settled = λ left h c may. settles old new known left facts done books h (lawful h) may;
  under_way = λ left h c may. tt;
  goes = passes old new (Ok done) books.goes;
}
booked old new known facts (Err why) lawful books = record {
  holds = λ h c. tt;
  refused = λ h. books.refused known h;
  settled = λ left h c may. tt;
  under_way = λ left h c may. inr (books.under_way known left h (lawful h) may);
  goes = passes old new (Err why) books.goes;
}

-- The guarantees of a successful write (the store has all written records) do not depend on the
-- value that it returns.
pub answered : {T S : Type 0} (old new : Ledger) (known later : List Fact) (x : T) (y : S) → Moves old new known later (Ok x) → Moves old new known later (Ok y)
answered old new known later x y moves = record {
  holds = moves.holds;
  refused = λ h. tt;
  settled = moves.settled;
  under_way = λ left h c may. tt;
  goes = passes_well old new x y moves.goes;
}

pub failed : {T S : Type 0} (old new : Ledger) (known later : List Fact) (why : BooksFault) → Moves {T = T} old new known later (Err why) → Moves {T = S} old new known later (Err why)
failed old new known later why moves = record {
  holds = λ h c. tt;
  refused = moves.refused;
  settled = λ left h c may. tt;
  under_way = moves.under_way;
  goes = passes_failed old new why moves.goes;
}
