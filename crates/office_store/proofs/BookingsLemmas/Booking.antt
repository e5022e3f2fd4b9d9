-- Proofs that writing records one by one satisfies the contract for writing all of them
-- (`RecordsAll`). The transaction that writes them satisfies its contract also if it cannot begin,
-- or if a write or the commit fails.
use Rattle.std.proofs.Common.{◌≡◌, ◌≢◌, ◌==◌, Bool, true, false, ℕ, ◌+◌, ◌<◌, List, [], ◌∷◌, ◌++◌, Ok, Err, Result, IsErrAnd, take, length, get_or, sym, ap, subst, ◌∙◌}
use Rattle.std.proofs.lemmas.List.{take_more}
use Rattle.sqlite.specs.Store.{Ghosts}
use Rattle.sqlite.specs.Held.{Held, state}
use Rattle.sqlite.specs.State.{State, HasCleanDisk, KeepsCommit, Survives, IsRolledBack}
use Rattle.office_events.specs.declared.facts.Fact.{Fact}
use Rattle.store_tables.specs.declared.faults.RowFault.{RowFault}
use Rattle.store_tables.specs.Content.{Content}
use Rattle.office_store.specs.Going.{Goes, Commits}
use Rattle.office_store.specs.Holding.{BooksFacts}
use Rattle.office_store.specs.Recording.{Records, RecordsAll}
use Rattle.office_store.proofs.Committed.{untouched}
use Rattle.office_store.proofs.GoingLemmas as going
use Rattle.office_store.proofs.Following.{none_recorded, one_recorded}

-- When a transaction begins, the list of the records that it has written is empty.
pub begun : (a : State) → Goes {X = Unit {0}} {E = RowFault} a a (Ok tt) (RecordsAll [])
begun a = going.nothing_done a tt (RecordsAll []) none_recorded

-- If one more record is written in a transaction, the list of written records has this record at
-- its end.
pub came : (fs : List Fact) (i : ℕ) (f : Fact) (a b c : State) → i < length fs → f ≡ get_or fs i f → Goes {X = Unit {0}} {E = RowFault} a b (Ok tt) (RecordsAll (take i fs))
    → Goes {X = Unit {0}} {E = RowFault} b c (Ok tt) (Records f) → Goes {X = Unit {0}} {E = RowFault} a c (Ok tt) (RecordsAll (take (i + 1) fs))
came fs i f a b c lt is one two =
    let more : take (i + 1) fs ≡ take i fs ++ f ∷ [] = take_more fs i f lt ∙ ap (λ (g : Fact). take i fs ++ (g ∷ [])) (sym is) in
    subst (λ (l : List Fact). Goes {X = Unit {0}} {E = RowFault} a c (Ok tt) (RecordsAll l)) (sym more)
    (going.goes_then a b c tt (Ok tt) (RecordsAll (take i fs)) (Records f) (RecordsAll (take i fs ++ f ∷ [])) one two (λ content mid after all here. one_recorded (take i fs) f content mid after all here))

-- `Commits` is the contract of a complete transaction. If it holds for a transaction that failed
-- with one error, it also holds if the transaction returns another error.
pub commit_failed : {X Y D : Type 0} (T : RowFault → Type 0) (a b : State) (e : D) (r : Result Y RowFault) (Makes : Content → Content → Type 0) → Commits {X = X} a b (Err e) Makes → IsErrAnd r T → Commits a b r Makes
commit_failed T a b e (Ok y) Makes one is = absurd is
commit_failed T a b e (Err d) Makes one is = record { ok = λ clean content has. tt; err = one.err; survives = one.survives }

pub commit_done : {X Y D E : Type 0} (a b : State) (x : X) (y : Y) (Makes : Content → Content → Type 0) → Commits {X = X} {E = D} a b (Ok x) Makes → Commits {X = Y} {E = E} a b (Ok y) Makes
commit_done a b x y Makes one = record { ok = one.ok; err = λ clean content has. tt; survives = one.survives }

-- If a transaction is rolled back, it stores no record.
pub left_off : {S X Y D : Type 0} (g : Ghosts S) (old : Held S) (mid end : State) (Makes : Content → Content → Type 0) (T : RowFault → Type 0) (e : D) (r : Result Y RowFault)
    → Goes {X = X} (state g (record old { in_transaction = true })) mid (Err e) Makes → (HasCleanDisk end → IsRolledBack mid end) → Survives mid end (λ _. ⊥) → IsErrAnd r T → Commits (state g old) end r Makes
left_off g old mid end Makes T e (Ok y) done undone crash is = absurd is
left_off g old mid end Makes T e (Err d) done undone crash is = going.given_up g old mid end Makes e d done undone crash

-- If the check that the database is open fails, no transaction begins, and the store is unchanged.
pub not_begun : {S X : Type 0} (T : RowFault → Type 0) (g : Ghosts S) (zone : List ℕ) (old new : Held S) (fs : List Fact) (r : Result X RowFault) → (fs ≢ []) → (HasCleanDisk (state g new) → KeepsCommit (state g old) (state g new))
    → Survives (state g old) (state g new) (λ _. ⊥) → IsErrAnd r T → BooksFacts g zone fs old new r
not_begun T g zone old new fs (Ok x) some kept quiet is = absurd is
not_begun T g zone old new fs (Err e) some kept quiet is = untouched g zone old new fs e some kept quiet

pub some_facts : (fs : List Fact) (empty : Bool) → empty ≡ (length fs == 0) → empty ≡ false → fs ≢ []
some_facts fs empty size off none = let f : true ≡ false = sym (ap (λ (l : List Fact). length l == 0) none) ∙ (sym size ∙ off) in absurd (cc)
