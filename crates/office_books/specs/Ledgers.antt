-- A model of the store of records, and how calls to the store may change the model.
use Rattle.std.specs.Prelude.{◌≡◌, ◌≢◌, ◌⊎◌, List, [], ◌∷◌, ◌++◌, reverse, Result, IfOk, OnOk, OnErr, IsOk}
use Rattle.interval_core.specs.declared.zone.Zone.{Zone}
use Rattle.office_events.specs.declared.facts.Fact.{Fact}
use Rattle.office_books.specs.Lawful.{AreLawful}
use Rattle.office_books.specs.declared.faults.BooksFault.{BooksFault}
use Rattle.office_books.specs.declared.failures.Failures.{Failures}
use Rattle.office_books.specs.Faults.{FailuresAfterCalls, faults_after}

-- The model of a store at one point in time: its records, and the lists of records that a crash may
-- leave instead.
--
-- In the model of a store, `is_clean` means that every wrong result of the storage was detected.
-- The model also has the failure counter, the time zone of civil days, and whether the store is
-- open.
pub record Ledger : Type 1 where
  pub holds : List Fact → Type 0
  pub may_leave : List (List Fact) → Type 0
  pub is_clean : Type 0
  pub is_open : Type 0
  pub failures : Failures
  pub zone : Zone

-- The guarantees of each call to a store. If the call fails, the store counts the failure, and its
-- time zone stays the same. If the store is clean (every wrong result was detected) after the call,
-- then it was clean before the call.
pub record LedgerAfterCall {T : Type 0} (old new : Ledger) (result : Result T BooksFault) :
    Type 0 where
  pub clean : new.is_clean → old.is_clean
  pub faults : new.failures ≡ faults_after result old.failures
  pub zone : new.zone ≡ old.zone

-- The guarantees of a sequence of calls to a store. The failure counter follows from the result,
-- and the time zone stays the same. If the store is clean (every wrong result was detected) after
-- the calls, then it was clean before the calls.
pub record LedgerAfterCalls {T : Type 0} (old new : Ledger) (result : Result T BooksFault) :
    Type 0 where
  pub clean : new.is_clean → old.is_clean
  pub faults : FailuresAfterCalls result old.failures new.failures
  pub zone : new.zone ≡ old.zone

-- States that the store's records do not change, and that the lists of records that a crash may
-- leave do not change either.
pub record KeepsFacts (old new : Ledger) : Type 0 where
  pub facts : (known : List Fact) → old.holds known → new.holds known
  pub left : (left : List (List Fact)) → old.may_leave left → new.may_leave left

-- The guarantees of one lookup in a store. If the lookup fails, the store counts the failure. The
-- store's records and the records that a crash may leave do not change.
pub record OnlyReads {T : Type 0} (old new : Ledger) (result : Result T BooksFault) : Type 0 where
  pub goes : LedgerAfterCall old new result
  pub keeps : KeepsFacts old new

-- The guarantees of several lookups in a store. If a lookup fails, the failure counter follows from
-- the result. The store's records and the records that a crash may leave do not change.
pub record Consults {T : Type 0} (old new : Ledger) (result : Result T BooksFault) : Type 0 where
  pub goes : LedgerAfterCalls old new result
  pub keeps : KeepsFacts old new

-- States that, if the store is clean (every wrong result was detected) after a lookup, a successful
-- result is what the store's records require. States nothing otherwise.
abbrev pub Finds : {T : Type 0} → (old new : Ledger) → Result T BooksFault
    → (List Fact → T → Type 0) → Type 0
Finds old new result says = (known : List Fact) → old.holds known → new.is_clean
    → IfOk result (says known)

-- The records `known` followed by the new records `facts`. The resulting list has the latest record
-- first.
abbrev pub with_facts : (facts : List Fact) → (known : List Fact) → List Fact
with_facts facts known = reverse facts ++ known

-- The guarantees of a write of records. On `Ok` the store has all of the written records, and keeps
-- them after a crash. On an error the store has none of them, but a crash may leave all of them.
--
-- A write of no records succeeds and changes nothing.
pub record Books (old new : Ledger) (facts : List Fact) (result : Result (Unit {0}) BooksFault) :
    Type 0 where
  pub booked : (known : List Fact) → old.holds known → AreLawful (with_facts facts known)
      → OnOk result (new.holds (with_facts facts known))
  pub settled : facts ≢ [] → (known : List Fact) → old.holds known
      → AreLawful (with_facts facts known)
      → OnOk result (new.may_leave (with_facts facts known ∷ []))
  pub refused : (known : List Fact) → old.holds known → OnErr result (new.holds known)
  pub under_way : (known : List Fact) (left : List (List Fact)) → old.holds known
      → AreLawful (with_facts facts known)
      → old.may_leave left → OnErr result (new.may_leave (left ++ with_facts facts known ∷ []))
  pub nothing : facts ≡ [] → IsOk result × KeepsFacts old new
  pub goes : LedgerAfterCall old new result

-- The guarantees of calls that change the store's records from `known` to `later`. On `Ok` the
-- store has `later`, and a crash leaves `later`. If `later` equals `known`, a crash may leave the
-- same lists as before the calls.
--
-- If a change of the store's records from `known` to `later` fails, the store still has `known`,
-- and a crash may also leave `later`.
pub record Moves {T : Type 0} (old new : Ledger) (known later : List Fact)
    (result : Result T BooksFault) : Type 0 where
  pub holds : old.holds known → new.is_clean → OnOk result (new.holds later)
  pub refused : old.holds known → OnErr result (new.holds known)
  pub settled : (left : List (List Fact)) → old.holds known → new.is_clean → old.may_leave left
      → OnOk result (new.may_leave (later ∷ []) ⊎ ((later ≡ known) × new.may_leave left))
  pub under_way : (left : List (List Fact)) → old.holds known → new.is_clean → old.may_leave left
      → OnErr result (new.may_leave left ⊎ new.may_leave (left ++ later ∷ []))
  pub goes : LedgerAfterCalls old new result
