-- The effect of opening the program's event engine on its store: the records that are added, the
-- Modbus sessions, and the errors.
use Rattle.std.specs.Prelude.{◌≡◌, ◌⊎◌, ℕ, max, List, ◌∷◌, None, Some, Result, Ok, Err, IfErr}
use Rattle.std.specs.declared.alloc.Global.{Global}
use Rattle.std.specs.declared.vec.Vec.{Vec}
use Rattle.office_events.specs.declared.refusals.Refusal.{Refusal}
use Rattle.office_books.specs.Facts.{latest_in}
use Rattle.office_books.specs.History.{History, Opened, facts_of, slots_of}
use Rattle.office_books.specs.Refusals.{opening_refusal_of}
use Rattle.office_core.specs.declared.sessions.slots.Slot.{Slot}
use Rattle.office_core.specs.Sessions.Keeping.{KeepsSlots}
use Rattle.office_books.specs.Ledgers.{Ledger}
use Rattle.office_core.specs.Failing.{CountsFailures, IsNotStopped, IsOutside, IsNotForWantOfDay}
use Rattle.office_core.specs.declared.office.Office.{Office}
use Rattle.office_core.specs.Leaving.{BooksStand, Leaves, LeftByOpening}
use Rattle.office_core.specs.Standing.{books_in}

-- The effect of an opening of the store that was refused for its timestamp or that failed. The
-- store's records are unchanged. Memory outside the store is needed only if no reason to refuse the
-- opening applies.
--
-- After a refused or failed opening of the store, a crash may leave the same records as before the
-- opening. If the opening failed, a crash may also leave these records together with all records of
-- the opening.
pub record IsNotOpened (past : History) (at : ℕ) (old new : Ledger) (why : Refusal) : Type 0 where
  pub books : BooksStand new past
  pub leaves : Leaves old new (LeftByOpening {T = Unit {0}} past at (Err why))
  pub reason :
      ((opening_refusal_of (facts_of past) at ≡ Some why) × (new.failures ≡ old.failures))
      ⊎ IsOutside (opening_refusal_of (facts_of past) at ≡ None) old.failures new.failures why

-- States that, if every wrong result of the store was detected, a refused opening of the store
-- returns the store with unchanged records.
abbrev pub HandsBackUnopened : {B : Type 0} → (B → Ledger) → (books : B) → (at : ℕ) → History
    → B × Refusal → Type 0
HandsBackUnopened ledger books at past back =
    (ledger back.0).is_clean → IsNotOpened past at (ledger books) (ledger back.0) back.1

-- The records that may remain after a crash that follows an opening of the store. The crash leaves
-- the records including those of the opening. If the opening added no record, a crash may leave the
-- same records as before the opening.
abbrev pub LeavesOpening : {B : Type 0} → (B → Ledger) → (books : B) → (at : ℕ) → History
    → Office B → Type 0
LeavesOpening ledger books at past office = (ledger (books_in office)).is_clean
    → Leaves (ledger books) (ledger (books_in office)) (LeftByOpening past at (Ok office))

-- The timestamp of an opening of the store for queries only: the later of the given timestamp and
-- the latest recorded timestamp.
abbrev pub asking_moment : History → (given : ℕ) → ℕ
asking_moment past given = max given (latest_in (facts_of past))

-- The effect of a successful opening of the store at timestamp `at`. The store has the opening's
-- records, and each device has a slot for its connection.
pub record IsReopened (past : History) (at : ℕ) (old new : Ledger) (slots : List Slot) :
    Type 0 where
  pub books : BooksStand new (Opened at ∷ past)
  pub leaves : Leaves old new (LeftByOpening past at (Ok slots))
  pub keeps : KeepsSlots slots (slots_of (Opened at ∷ past))

-- States what an opening of the store by the program changes. On `Ok` the store also has the
-- records of the opening, such as the outcomes of polls that a restart ended. On an error its
-- records are unchanged.
abbrev pub Reopens : History → (at : ℕ) → (old new : Ledger) → Result (Vec Slot Global) Refusal
    → Type 0
Reopens past at old new (Ok slots) = IsReopened past at old new slots.items
Reopens past at old new (Err why) = IsNotOpened past at old new why

-- The guarantees of an opening of the store, whatever the store returned. The opening reports
-- exactly the store's failures. If the store is clean (every wrong result was detected) after the
-- opening, it was clean before. The time zone stays the same.
--
-- No opening of the store is refused as `Stopped` (the program has stopped), or because a quarter
-- hour has no civil day.
pub record Passed {T : Type 0} (old new : Ledger) (result : Result T Refusal) : Type 0 where
  pub counts : CountsFailures old.failures new.failures result
  pub clean : new.is_clean → old.is_clean
  pub zone : new.zone ≡ old.zone
  pub not_stopped : IfErr result IsNotStopped
  pub no_day : IfErr result IsNotForWantOfDay
