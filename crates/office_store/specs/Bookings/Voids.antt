-- Defines the content of the tables after a meter entry was voided (cancelled).
use Rattle.std.specs.Prelude.{◌≡◌, ℕ, false, List, Option, Some, None}
use Rattle.energy_core.specs.declared.entries.Step.{Step}
use Rattle.interval_core.specs.Share.{shares_of}
use Rattle.store_tables.specs.Content.{Content, Edits, with_row, changed_where}
use Rattle.store_tables.specs.Entries.Trees.{entries, voids}
use Rattle.store_tables.specs.Entries.Rows.{Entered, entry_columns, is_entry, rolled, voided_at, voided_columns}
use Rattle.office_store.specs.Intervals.StepShares.{BooksShares}
use Rattle.office_store.specs.Voids.Withdrawal.{TakesShares, DropsRows}
use Rattle.office_store.specs.declared.bookings.corrections.Correction.{Correction}
use Rattle.office_store.specs.declared.bookings.corrections.Rejoined.{Rejoined}
use Rattle.office_store.specs.Bookings.MeterState.{Settles}

-- The rows of `entries` after an entry was voided (cancelled): the row of the next entry, if any,
-- has a new number of counter rollovers.
abbrev pub rolled_next : (meter : List ℕ) → Option Rejoined → List Entered → List Entered
rolled_next meter None rows = rows
rolled_next meter (Some next) rows =
    changed_where (is_entry meter next.rollover.place) (rolled next.rollover.rolls) rows

-- The effect of voiding (cancelling) an entry on the counter rollovers of the next entry. If no
-- next entry exists, nothing changes.
abbrev pub RollsNext : (meter : List ℕ) → Option Rejoined → Content → Content → Type 0
RollsNext meter next = Edits entries entry_columns (rolled_next meter next)

-- The effect of subtracting from `intervals` the energy between a voided (cancelled) entry and the
-- next entry. If no next entry exists, nothing changes.
abbrev pub TakesNext : (meter : List ℕ) → Option Rejoined → Content → Content → Type 0
TakesNext meter None content after = after ≡ content
TakesNext meter (Some next) content after = TakesShares meter (shares_of next.out) content after

-- The effect of adding to `intervals` the energy between the entries before and after a voided
-- (cancelled) entry. If no next entry exists, nothing changes.
abbrev pub PutsNext : (meter : List ℕ) → Option Rejoined → Content → Content → Type 0
PutsNext meter None content after = after ≡ content
PutsNext meter (Some next) content after = BooksShares meter (shares_of next.put) content after

-- The effect of subtracting two energies from `intervals`: from a voided (cancelled) entry to the
-- next entry, if any, and from the previous entry to the voided entry.
pub record TakesSteps (meter : List ℕ) (step : Step) (joined : Option Rejoined)
    (content after : Content) : Type 0 where
  pub one : Content
  pub next : TakesNext meter joined content one
  pub out : TakesShares meter (shares_of step) one after

-- The effect of voiding (cancelling) an entry on `intervals`. The energy between the previous and
-- the next entry replaces the energy between each of them and the voided entry. Rows that start at
-- or after the meter's last entry are deleted.
pub record ExchangesRows (meter : List ℕ) (made : Correction) (content after : Content) : Type 0
  where
    pub one : Content
    pub two : Content
    pub taken : TakesSteps meter made.out made.next content one
    pub put : PutsNext meter made.next one two
    pub gone : DropsRows meter made.from two after

-- The effect of inserting a row of `voids` for a voided (cancelled) meter entry, and of setting the
-- counter rollovers of the next entry.
pub record MarksVoid (meter : List ℕ) (place moment : ℕ) (joined : Option Rejoined)
    (content after : Content) : Type 0 where
  pub one : Content
  pub void : Edits voids voided_columns (with_row (voided_at meter place moment)) content one
  pub next : RollsNext meter joined one after

-- The effect of voiding (cancelling) a meter's entry on the row of `voids`, the next entry's
-- rollovers, the energy by quarter hours, and the meter's state.
pub record EntersVoid (meter : List ℕ) (place moment : ℕ) (made : Correction)
    (content after : Content) : Type 0 where
  pub one : Content
  pub two : Content
  pub marks : MarksVoid meter place moment made.next content one
  pub energy : ExchangesRows meter made one two
  pub stands : Settles meter made.last false two after
