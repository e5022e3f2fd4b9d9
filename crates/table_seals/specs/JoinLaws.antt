-- Theorems about successive database files. A check prints a line for each difference by which a
-- file does not continue the meters of the earlier files.
use Rattle.std.specs.Prelude.{⊤, ◌≡◌, ◌↔◌, ◌≤◌, ◌+◌, ℕ, true, List, [], ◌∷◌, ◌++◌, length, Some, Ok, string_bytes}
use Rattle.std.specs.List.{AllByRecursion, filter}
use Rattle.energy_core.specs.declared.limits.TheConstants.{MAX_TOTAL}
use Rattle.meter_journal.specs.Books.{IsWellInstalled}
use Rattle.meter_journal.specs.Audit.CarriedFiles.{GoesOnAs, InFile, entry_from_all_rows}
use Rattle.meter_journal.specs.Audit.Fitting.{Tables, AreFine}
use Rattle.meter_journal.specs.Audit.Laws.{AreLawful}
use Rattle.sqlite.specs.Order.{Row}
use Rattle.store_tables.specs.Meters.Rows.{installation_in}
use Rattle.store_tables.specs.declared.meters.rows.InstallationRow.{InstallationRow}
use Rattle.table_audit.specs.declared.rows.MeterRows.{MeterRows}
use Rattle.table_audit.specs.Fine.{IsFine}
use Rattle.table_seals.specs.declared.filed.FiledMeter.{FiledMeter}
use Rattle.table_seals.specs.Filing.{IsFiledAs}
use Rattle.table_seals.specs.Joins.{Known, known_with, joins_by, joins_of_all, is_meter, is_within}

-- States that the meter `old` of an earlier file continues as the meter `new`, which is assigned to
-- the same accounting register (a named energy counter). The meter's total energy in all files is
-- within the limit of one meter.
pub record MeterGoesOn (known : List FiledMeter) (old new : FiledMeter) : Type 0 where
  pub goes_on : GoesOnAs old.installed old.standing.last old.standing.is_ended new.installed
  pub register : string_bytes new.register ≡ string_bytes old.register
  pub within : is_within known new ≡ true

-- Theorem: a meter of an earlier file continues in the next file if and only if the check of this
-- continuation reports no difference for the meter.
abbrev pub JoinedMetersGoOn : Type 0
JoinedMetersGoOn = (known : List FiledMeter) (old new : FiledMeter)
    → (joins_by known new (Some old) ≡ []) ↔ MeterGoesOn known old new

-- The meters with the name `name`, from all files in the list.
abbrev pub named : (name : List ℕ) → List FiledMeter → List FiledMeter
named name meters = filter (is_meter name) meters

-- The sum of the total energies of all meters in the list, in mWh.
abbrev pub energy_of : List FiledMeter → ℕ
energy_of [] = 0
energy_of (meter ∷ meters) = meter.standing.total + energy_of meters

-- States that a file has at most one meter of each name, as a UNIQUE constraint of its table
-- `installations` ensures. Each meter's total energy is within the limit of one meter.
pub record IsOfMeters (file : Known) : Type 0 where
  pub apart : (name : List ℕ) → length (named name file.meters) ≤ 1
  pub totals : AllByRecursion (λ meter. meter.standing.total ≤ MAX_TOTAL) file.meters

-- States that each meter in the list continues the next meter in the list, which is from an earlier
-- file.
abbrev pub EachGoesOn : List FiledMeter → Type 0
EachGoesOn [] = ⊤
EachGoesOn (new ∷ []) = ⊤
EachGoesOn (new ∷ old ∷ older) =
    GoesOnAs old.installed old.standing.last old.standing.is_ended new.installed
    × EachGoesOn (old ∷ older)

-- States that the meters with the name `name` continue from file to file. Their total energy is
-- within the limit of one meter.
pub record IsOneMeter (name : List ℕ) (known : Known) : Type 0 where
  pub goes_on : EachGoesOn (named name known.meters)
  pub energy : energy_of (named name known.meters) ≤ MAX_TOTAL

-- The data about all database files: the name and time zone of the latest file, and the meters of
-- all files. It is computed from the data about the first file and about each later file.
abbrev pub known_with_all : Known → (later : List Known) → Known
known_with_all known [] = known
known_with_all known (next ∷ later) = known_with_all (known_with known next) later

-- Theorem: suppose that each file has at most one meter of each name, with an energy within the
-- limit of one meter. If the check that each file continues the meters of the files before it
-- reports no difference, then the meters of each name continue from file to file.
abbrev pub JoinedFilesAreOne : Type 0
JoinedFilesAreOne = (first : Known) (later : List Known) → IsOfMeters first
    → AllByRecursion IsOfMeters later
    → joins_of_all first later ≡ []
    → (name : List ℕ) → IsOneMeter name (known_with_all first later)

-- States that an audit finds no discrepancy in a meter's tables. The last entry, the total energy
-- and the closed flag in these tables equal the meter's recorded state.
pub record IsReportedBy (meter : FiledMeter) (tables : Tables) : Type 0 where
  pub well : IsWellInstalled meter.installed
  pub fine : AreFine meter.installed tables
  pub last : tables.last ≡ meter.standing.last
  pub total : tables.total ≡ meter.standing.total
  pub ended : tables.ended ≡ meter.standing.is_ended

-- Theorem: if an audit finds no discrepancy in a meter's rows, then the data that were read about
-- the meter equal the data in its tables.
abbrev pub FiledMetersAreReported : Type 0
FiledMetersAreReported = (row : Row) (rows : MeterRows) (installation : InstallationRow)
    (filed : FiledMeter) → installation_in row ≡ Ok installation
    → IsFine installation rows → IsFiledAs row rows filed
    → (tables : Tables) × IsReportedBy filed tables

abbrev pub in_file : (tables : FiledMeter → Tables) → FiledMeter → InFile
in_file tables meter = record { meter = meter.installed; tables = tables meter }

-- Pairs each meter with its tables, in a list with the oldest file first. The given list of meters
-- has the latest file first.
abbrev pub in_files : (tables : FiledMeter → Tables) → List FiledMeter → List InFile
in_files tables [] = []
in_files tables (meter ∷ older) = in_files tables older ++ in_file tables meter ∷ []

-- States that a meter's tables in all files together match one lawful journal (a history that the
-- rules for meter entries accept). This journal begins with the meter's opening (first entry) in
-- the first file.
pub record HasOneJournal (tables : FiledMeter → Tables) (meters : List FiledMeter) : Type 0 where
  pub first : InFile
  pub later : List InFile
  pub are : in_files tables meters ≡ first ∷ later
  pub lawful : AreLawful first.meter (entry_from_all_rows first.tables later)

-- Theorem: suppose that each file of a meter passes an audit and continues the file before it, and
-- that the total energy is within the limit. Then the files together match one lawful journal (a
-- history that the rules for meter entries accept).
abbrev pub JoinedFilesAreLawful : Type 0
JoinedFilesAreLawful = (tables : FiledMeter → Tables) (meter : FiledMeter)
    (older : List FiledMeter) → AllByRecursion (λ m. IsReportedBy m (tables m)) (meter ∷ older)
    → EachGoesOn (meter ∷ older)
    → energy_of (meter ∷ older) ≤ MAX_TOTAL
    → HasOneJournal tables (meter ∷ older)
