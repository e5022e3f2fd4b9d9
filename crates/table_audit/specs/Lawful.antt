-- Defines when the values that an audit read for a meter are those of a history of the meter that
-- the rules for meter entries accept.
use Rattle.std.specs.Prelude.{◌≡◌, ℕ, ◌-◌, Bool, true, nat_lt, nat_le, ◌&&◌, List, [], ◌∷◌, reverse, length, Option, Some, None, slice_get}
use Rattle.std.specs.List.{list_all}
use Rattle.energy_core.specs.declared.entries.Last.{Last}
use Rattle.interval_core.specs.declared.shares.Share.{Share}
use Rattle.meter_journal.specs.declared.lines.Installed.{Installed}
use Rattle.meter_journal.specs.declared.audit.checks.Check.{Check}
use Rattle.meter_journal.specs.declared.audit.progress.Progress.{Progress}
use Rattle.meter_journal.specs.declared.audit.rows.TableRow.{TableRow}
use Rattle.meter_journal.specs.Audit.Rows.{opening_row}
use Rattle.meter_journal.specs.Audit.Fitting.{Tables, AreFine}
use Rattle.meter_journal.specs.Audit.Passing.{MayBeChecked}
use Rattle.store_tables.specs.declared.meters.rows.LastRow.{LastRow}
use Rattle.store_tables.specs.declared.meters.rows.InstallationRow.{InstallationRow}
use Rattle.table_audit.specs.declared.rows.VoidRow.{VoidRow}

-- States that `meter` has the counter range `range` and the power limit `ceiling`, and that `row`
-- is its first entry.
pub record IsOpenedBy (range ceiling : ℕ) (row : TableRow) (meter : Installed) : Type 0 where
  pub range_is : meter.range ≡ range
  pub ceiling_is : meter.ceiling ≡ ceiling
  pub opening_is : row ≡ opening_row meter.opening

-- The timestamp, raw counter value and scale factor of an opening, a meter's first entry.
abbrev pub last_shown : TableRow → Last
last_shown row = record { at = row.moment; raw = row.raw; sf = row.sf }

-- True if the indices of the entries that voids (cancellations) name are strictly increasing,
-- greater than `after`, and at most `most`. The voids of a meter must have this order.
abbrev pub rises : (after most : ℕ) → List VoidRow → Bool
rises after most [] = true
rises after most (void ∷ voids) =
    nat_lt after void.place && nat_le void.place most && rises void.place most voids

-- True if the entry that a void names, if there is one, is not later than the void's timestamp
-- `moment`.
abbrev pub is_not_before : Option TableRow → (moment : ℕ) → Bool
is_not_before None moment = true
is_not_before (Some entry) moment = nat_le entry.moment moment

-- True if a void is not earlier than the entry that it names. The entry with the index 1 is the
-- first one in the list.
abbrev pub is_timely : List TableRow → VoidRow → Bool
is_timely entries void = is_not_before (slice_get entries (void.place - 1)) void.moment

-- True if no void in a list is earlier than the entry that it names.
abbrev pub are_timely : List TableRow → List VoidRow → Bool
are_timely entries voids = list_all (is_timely entries) voids

-- The timestamp, raw counter value and scale factor of a meter's last entry, from the columns of
-- its `installations` row.
abbrev pub last_in : LastRow → Last
last_in last = record { at = last.moment; raw = last.raw; sf = last.sf }

-- Builds the tables of a meter from its entries in order of index, its interval rows and its
-- `installations` row.
abbrev pub tables_from : List TableRow → List Share → InstallationRow → Tables
tables_from entries shares row = record {
  entries = reverse entries;
  intervals = shares;
  last = last_in row.last;
  total = row.last.total;
  ended = row.is_ended;
}

-- States that the values that an audit read from a meter's table rows follow from a history that
-- the rules for meter entries accept. Each void record (cancellation) names an entry after the
-- first one, and is not earlier than this entry. No two void records name the same entry.
pub record IsLawful (range : ℕ) (row : InstallationRow) (voids : List VoidRow)
    (entries : List TableRow) (shares : List Share) : Type 0 where
  pub opening : TableRow
  pub later : List TableRow
  pub first : entries ≡ opening ∷ later
  pub meter : Installed
  pub may : MayBeChecked meter
  pub opened : IsOpenedBy range row.ceiling opening meter
  pub fine : AreFine meter (tables_from entries shares row)
  pub named : rises 1 (length entries) voids ≡ true
  pub timely : are_timely entries voids ≡ true

-- States that the last entry, total energy and closed flag in a meter's `installations` row equal
-- those that result from checking all the meter's entries.
pub record StandsThere (row : InstallationRow) (check : Check) : Type 0 where
  pub last : last_in row.last ≡ check.last
  pub total : row.last.total ≡ check.total
  pub ended : row.is_ended ≡ check.is_ended

-- States that the void records (cancellations), interval rows and `installations` row of a meter
-- agree with the result of checking all its entries.
pub record RestAgrees (progress : Progress) (row : InstallationRow) (voids : List VoidRow)
    (entries : List TableRow) (shares : List Share) : Type 0 where
  pub named : rises 1 (length entries) voids ≡ true
  pub timely : are_timely entries voids ≡ true
  pub intervals : shares ≡ progress.wanted.items
  pub stands : StandsThere row progress.check
