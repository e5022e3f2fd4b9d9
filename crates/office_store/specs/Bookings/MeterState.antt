-- Definitions about the state of a meter in the SQL tables (last entry, total energy, closed flag),
-- and about its state after one more entry.
use Rattle.std.specs.Prelude.{◌≡◌, ℕ, ◌+◌, true, Bool, List, Some, Ok, if◌then◌else◌}
use Rattle.energy_core.specs.declared.entries.Last.{Last}
use Rattle.energy_core.specs.declared.entries.Step.{Step}
use Rattle.energy_core.specs.declared.entries.Entry.{Entry}
use Rattle.energy_core.specs.Admission.{entered as entered_after}
use Rattle.interval_core.specs.Share.{shares_of}
use Rattle.store_tables.specs.Answer.{IsFound}
use Rattle.store_tables.specs.Content.{Content, HasRows, Edits, with_row, changed_where}
use Rattle.store_tables.specs.declared.meters.rows.LastRow.{LastRow}
use Rattle.store_tables.specs.Meters.Trees as meter_tree
use Rattle.store_tables.specs.Meters.Rows.{Installed, Ranged, installed_columns, ranged_columns, is_meter, is_range_of, HasRange}
use Rattle.store_tables.specs.Entries.Trees as entry_tree
use Rattle.store_tables.specs.declared.entries.rows.EntryRow.{EntryRow}
use Rattle.store_tables.specs.Entries.Rows.{entry_columns, entry_place, is_of}
use Rattle.office_store.specs.Intervals.StepShares.{BooksShares}
use Rattle.office_store.specs.Rows.{entered}
use Rattle.office_store.specs.Recording.{IsAfter}
use Rattle.office_store.specs.declared.bookings.meter_state.Standing.{Standing}
use Rattle.office_store.specs.declared.bookings.meter_entries.Advance.{Advance}
use Rattle.office_store.specs.Bookings.Places.{StandsThere}

-- True if a query found the state `standing` of a meter in the tables, and changed nothing.
pub record IsStanding (meter : List ℕ) (standing : Standing)
    (content after : Content) : Type 0 where
  pub same : after ≡ content
  pub following : IsAfter entry_tree.entries entry_columns (is_of meter) entry_place standing.place
      content
  pub last : (rows : List Installed)
      → HasRows meter_tree.installations installed_columns rows content
      → IsFound (is_meter meter) StandsThere rows (Some standing.last)
  pub range : (rows : List Ranged) → HasRows meter_tree.ranges ranged_columns rows content
      → IsFound (is_range_of meter) HasRange rows (Some standing.range)

-- The state of a meter's counter, from the columns of its last entry.
abbrev pub counter_of : LastRow → Last
counter_of last = record { at = last.moment; raw = last.raw; sf = last.sf }

-- The columns of a meter's last entry, from the counter's state and the total energy.
abbrev pub stands_at : Last → (total : ℕ) → LastRow
stands_at last total = record { moment = last.at; raw = last.raw; sf = last.sf; total = total }

-- States that, if the rules for meter entries accept a new entry, the value `Advance` has the
-- meter's new last entry and the energy since the previous entry. States nothing if the rules
-- reject the entry.
abbrev pub Advances : Standing → Entry → Advance → Type 0
Advances standing e advance =
    (last : Last) (step : Step)
    → entered_after standing.range standing.last.total (counter_of standing.last) e
    ≡ Ok (last, step)
    → (advance.last ≡ stands_at last (standing.last.total + step.mwh)) × (advance.step ≡ step)

-- A meter's row of `installations` with a new last entry. An entry that closes the meter also marks
-- the row as closed.
abbrev pub settled : LastRow → (is_closing : Bool) → Installed → Installed
settled last is_closing i =
    record i {
      row = record i.row
          { last = last; is_ended = if is_closing then true else i.row.is_ended };
    }

-- The effect of a new last entry on the meter's row in `installations`. An entry that closes the
-- meter also marks the row as closed.
abbrev pub Settles : (meter : List ℕ) → LastRow → (is_closing : Bool) → Content → Content → Type 0
Settles meter last is_closing =
    Edits meter_tree.installations installed_columns
    (changed_where (is_meter meter) (settled last is_closing))

-- The effect on the tables of storing one more entry of a meter: the entry's row, the energy since
-- the previous entry, and the meter's new state.
pub record EntersEntry (meter : List ℕ) (row : EntryRow) (advance : Advance) (is_closing : Bool)
    (content after : Content) : Type 0 where
  pub one : Content
  pub two : Content
  pub entry : Edits entry_tree.entries entry_columns (with_row (entered meter row)) content one
  pub energy : BooksShares meter (shares_of advance.step) one two
  pub stands : Settles meter advance.last is_closing two after
