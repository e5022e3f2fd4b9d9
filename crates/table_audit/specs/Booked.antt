-- Defines the energy by quarter hour that follows from a meter's entries.
use Rattle.std.specs.Prelude.{◌≡◌, ℕ, List, ◌∷◌, reverse, Vec, Option, Some, None}
use Rattle.interval_core.specs.declared.shares.Share.{Share}
use Rattle.meter_journal.specs.declared.lines.Installed.{Installed}
use Rattle.meter_journal.specs.declared.lines.EntryRow.{EntryRow}
use Rattle.meter_journal.specs.Books.{steps_after}
use Rattle.meter_journal.specs.Intervals.{rows_of_steps}
use Rattle.meter_journal.specs.Journal.{entries_in}
use Rattle.meter_journal.specs.declared.audit.rows.TableRow.{TableRow}
use Rattle.meter_journal.specs.Audit.Rows.{later_rows}
use Rattle.meter_journal.specs.Audit.Fitting.{AllFit}
use Rattle.meter_journal.specs.Audit.Passing.{MayBeChecked}
use Rattle.table_audit.specs.Lawful.{IsOpenedBy}

-- States that `shares` has the energy by quarter hour that follows from a meter's entries. The
-- entries are in order, with the opening (the first entry) first. The rules for meter entries
-- accept each entry after the entries before it.
pub record IsBooked (range ceiling : ℕ) (entries : List TableRow) (shares : List Share) :
    Type 0 where
  pub opening : TableRow
  pub later : List TableRow
  pub first : entries ≡ opening ∷ later
  pub meter : Installed
  pub may : MayBeChecked meter
  pub opened : IsOpenedBy range ceiling opening meter
  pub rows : List EntryRow
  pub fit : AllFit meter rows
  pub later_are : reverse later ≡ later_rows meter rows
  pub shares_are : shares ≡ rows_of_steps (steps_after meter (entries_in rows))

-- States that a result has the energy by quarter hour that follows from a meter's entries. `None`
-- means that the rules for meter entries accept no history with these entries.
abbrev pub AreBooked : {Z : Type 0} → (range ceiling : ℕ) → List TableRow
    → Option (Vec Share Z) → Type 0
AreBooked range ceiling entries None =
    (shares : List Share) → IsBooked range ceiling entries shares → ⊥
AreBooked range ceiling entries (Some shares) = IsBooked range ceiling entries shares.items
