-- Properties of the functions of a polling round that hold for any content of the store. They
-- concern the store's time zone, and the link's counts of reads and failures.
use Rattle.std.specs.Prelude.{◌≡◌, ◌⊎◌, ◌≤◌, ℕ, ◌+◌, ◌-◌, ◌^◌, min, true, Result, Ok, Err}
use Rattle.mb_wire.specs.Links.{risen}
use Rattle.office_books.specs.Ledgers.{Ledger}
use Rattle.office_core.specs.Standing.{books_in}
use Rattle.office_core.specs.declared.office.Office.{Office}
use Rattle.office_program.specs.declared.fault.RoundFault.{RoundFault}
use Rattle.office_program.specs.declared.fault.RoundFault.TheVariants.{Refused, Link, Output, TurnsUsed}

-- True if a function's call leaves the store's time zone unchanged, and a store that is clean after
-- the call was clean before it. A store is clean if no wrong result of the store was used.
pub record Lasts {B : Type 0} (ledger : B → Ledger) (old new : Office B) : Type 0 where
  pub clean : (ledger (books_in new)).is_clean → (ledger (books_in old)).is_clean
  pub zone : (ledger (books_in new)).zone ≡ (ledger (books_in old)).zone

-- True if the count of reads of the link (the connection to the device) grew from `before` to
-- `after` by `takes` reads. The count saturates at 2^64 - 1.
abbrev pub AreTakes : (takes before after : ℕ) → Type 0
AreTakes takes before after = (count : ℕ) → before ≡ min count (2 ^ 64 - 1)
    → after ≡ min (count + takes) (2 ^ 64 - 1)

-- True if the count of reads of the link (the connection to the device) grew from `before` to
-- `after` by at most `most` reads.
abbrev pub AreAtMost : (most before after : ℕ) → Type 0
AreAtMost most before after = (takes : ℕ) × (takes ≤ most) × AreTakes takes before after

-- True if the count of the link's failures grew by one exactly when the result is a failure of the
-- link (the connection to the device).
--
-- If a write of the output failed, the count of the link's failures may have grown by one or be
-- unchanged.
abbrev pub CountsFailures : {X : Type 0} → Result X RoundFault → (before after : ℕ) → Type 0
CountsFailures (Ok x) before after = after ≡ before
CountsFailures (Err (Refused why)) before after = after ≡ before
CountsFailures (Err Link) before after = after ≡ risen true before
CountsFailures (Err Output) before after = (after ≡ before) ⊎ (after ≡ risen true before)
CountsFailures (Err TurnsUsed) before after = after ≡ before
