-- The joint report of several database files about a meter that continues from each file into the
-- next. Each file is audited separately. Lists of rows begin with the latest row, and lists of
-- files with the oldest file.
use Rattle.std.specs.Prelude.{◌≡◌, ◌+◌, ◌-◌, ◌≤◌, Bool, false, List, [], ◌∷◌, ◌++◌, map, length}
use Rattle.energy_core.specs.declared.entries.Last.{Last}
use Rattle.energy_core.specs.declared.limits.TheConstants.{MAX_TOTAL}
use Rattle.meter_journal.specs.declared.lines.Installed.{Installed}
use Rattle.meter_journal.specs.Books.{IsWellInstalled}
use Rattle.meter_journal.specs.Intervals.{with_shares}
use Rattle.meter_journal.specs.Audit.CarriedTables.{moved_reported, without_opening}
use Rattle.meter_journal.specs.Audit.Fitting.{Tables, AreFine}
use Rattle.meter_journal.specs.Audit.Laws.{AreLawful}

-- States that the meter `meter` of an old database file continues as the meter `next` of a new
-- file. The meter was open, and its range and ceiling (maximum power) are unchanged. Its opening
-- (first) entry in the new file has the state of its last valid (not voided) entry in the old file.
pub record GoesOnAs (meter : Installed) (last : Last) (ended : Bool) (next : Installed) : Type 0
  where
    pub unended : ended ≡ false
    pub range : next.range ≡ meter.range
    pub ceiling : next.ceiling ≡ meter.ceiling
    pub opening : next.opening ≡ last

-- A meter in one database file: its opening (first) entry in this file, and the rows that the
-- file's tables have for the meter.
pub record InFile : Type 0 where
  pub meter : Installed
  pub tables : Tables

-- States that, in each later database file, the meter's tables are consistent: they are those of
-- entries that the rules for meter entries accept. The meter continues in each file from the file
-- before it.
abbrev pub GoOn : InFile → (later : List InFile) → Type 0
GoOn old [] = Unit {0}
GoOn old (new ∷ later) =
    GoesOnAs old.meter old.tables.last old.tables.ended new.meter
    × AreFine new.meter new.tables × GoOn new later

-- The joint report of an old and a new database file about a meter. The entries of the new file,
-- without its opening (first entry), follow the entries of the old file. The energies add up, and a
-- quarter hour in both files has the energy of both.
abbrev pub reported_by_both : (old new : Tables) → Tables
reported_by_both old new = record {
  entries = map (moved_reported (length old.entries - 1)) (without_opening new.entries)
      ++ old.entries;
  intervals = with_shares old.intervals new.intervals;
  last = new.last;
  total = old.total + new.total;
  ended = new.ended;
}

-- The tables of a meter, joined over a database file and all later files. The total energies of the
-- files add up, and the meter counts as closed if the last file has it closed.
abbrev pub entry_from_all_rows : Tables → (later : List InFile) → Tables
entry_from_all_rows old [] = old
entry_from_all_rows old (new ∷ later) = entry_from_all_rows (reported_by_both old new.tables) later

-- Theorem: suppose that, in each database file, the meter's tables are those of entries that the
-- rules for meter entries accept. If the meter continues from file to file, with total energy
-- within the limit, the joint report is that of one lawful history.
abbrev pub FilesAreOneHistory : Type 0
FilesAreOneHistory = (first : InFile) (later : List InFile) → IsWellInstalled first.meter
    → AreFine first.meter first.tables
    → GoOn first later
    → ((entry_from_all_rows first.tables later).total ≤ MAX_TOTAL)
    → AreLawful first.meter (entry_from_all_rows first.tables later)
