-- Defines the data read about the meters of a database file, to check whether the next file
-- continues their counts.
use Rattle.std.specs.Prelude.{⊤, ◌≡◌, ℕ, List, [], ◌∷◌, Option, Some, None, Ok, Vec, string_bytes}
use Rattle.std.specs.List.{slice_get}
use Rattle.meter_journal.specs.declared.audit.rows.TableRow.{TableRow}
use Rattle.meter_journal.specs.declared.audit.standing.Standing.{Standing}
use Rattle.sqlite.specs.declared.types.Value.TheVariants.{Text}
use Rattle.sqlite.specs.Order.{Row, column}
use Rattle.store_tables.specs.Content.{Content}
use Rattle.store_tables.specs.Meters.Rows.{installation_in}
use Rattle.store_tables.specs.declared.meters.rows.InstallationRow.{InstallationRow}
use Rattle.table_audit.specs.declared.rows.MeterRows.{MeterRows}
use Rattle.table_audit.specs.declared.rows.VoidRow.{VoidRow}
use Rattle.table_audit.specs.Lawful.{last_in, last_shown}
use Rattle.table_audit.specs.Showing.{ShowsInstallations}
use Rattle.table_seals.specs.declared.filed.FiledMeter.{FiledMeter}
use Rattle.table_seals.specs.Tables.{AreTheirs, HasRead}

-- The state of a meter in the meter's row of `installations`: the last entry, the total energy, and
-- whether the meter was closed.
abbrev pub standing_in : InstallationRow → Standing
standing_in row = record {
  last = last_in row.last;
  total = row.last.total;
  is_ended = row.is_ended;
}

-- States that `filed` has the data of a meter in `installations`: its names, range, ceiling
-- (maximum power) and state, and its opening (the first entry).
pub record IsFiledAs (row : Row) (rows : MeterRows) (filed : FiledMeter) : Type 0 where
  pub meter_is : column row 1 ≡ Text (string_bytes filed.meter)
  pub register_is : column row 2 ≡ Text (string_bytes filed.register)
  pub installation : InstallationRow
  pub installation_read : installation_in row ≡ Ok installation
  pub ceiling_is : filed.installed.ceiling ≡ installation.ceiling
  pub stands : filed.standing ≡ standing_in installation
  pub voids : List VoidRow
  pub opening : TableRow
  pub later : List TableRow
  pub read : HasRead rows filed.installed.range voids (opening ∷ later)
  pub opened : filed.installed.opening ≡ last_shown opening

-- States that a result has the data of the meter in a row of `installations`, with the name of the
-- database file. None means that a value of the meter's rows can't be parsed, for example because
-- it is out of range.
abbrev pub IsFiled : (file : List ℕ) → Row → MeterRows → Option FiledMeter → Type 0
IsFiled file row rows None = (filed : FiledMeter) → IsFiledAs row rows filed → ⊥
IsFiled file row rows (Some filed) = (filed.file.now ≡ file) × IsFiledAs row rows filed

-- States that a result has the data of the meter in a row of `installations`. If the row has no
-- meter's name, the result is None.
abbrev pub IsFiledAt : (file : List ℕ) → Row → Option MeterRows → Option FiledMeter → Type 0
IsFiledAt file row (Some rows) found = IsFiled file row rows found
IsFiledAt file row None None = ⊤
IsFiledAt file row None (Some filed) = ⊥

-- States that `found` has the data of one meter, read from its row of `installations` and from its
-- rows in the other tables.
pub record FilesRow (file : List ℕ) (content : Content) (row : Row) (found : Option FiledMeter) :
    Type 0 where
  pub rows : Option MeterRows
  pub theirs : AreTheirs content row rows
  pub is_filed : IsFiledAt file row rows found

-- States that a list has the data of the meter in each row of `installations`, in the order of the
-- rows.
abbrev pub AreFiled : (file : List ℕ) → Content → List Row → List FiledMeter → Type 0
AreFiled file content [] [] = ⊤
AreFiled file content (row ∷ rows) (filed ∷ others) =
    FilesRow file content row (Some filed) × AreFiled file content rows others
AreFiled file content [] (filed ∷ others) = ⊥
AreFiled file content (row ∷ rows) [] = ⊥

-- True if one of the rows of `installations` is that of a meter whose values can't all be parsed,
-- for example because one is out of range.
abbrev pub HasUnfiled : (file : List ℕ) → List Row → Content → Type 0
HasUnfiled file rows content =
    (i : ℕ) × (row : Row) × (slice_get rows i ≡ Some row) × FilesRow file content row None

-- States that a result has the data of the meters in all rows of `installations`. None means that a
-- value of a meter can't be parsed, for example because it is out of range.
abbrev pub FilesRows : {Z : Type 0} → (file : List ℕ) → List Row → Content
    → Option (Vec FiledMeter Z) → Type 0
FilesRows file rows content None = HasUnfiled file rows content
FilesRows file rows content (Some filed) = AreFiled file content rows filed.items

-- True if the tables have a meter whose values can't all be parsed, for example because one is out
-- of range.
pub record HasUnfiledMeter (file : List ℕ) (content : Content) : Type 0 where
  pub rows : List Row
  pub shown : ShowsInstallations content rows
  pub unfiled : HasUnfiled file rows content

-- States that `found` has the data of all meters in the tables. None means that a value of a meter
-- can't be parsed, for example because it is out of range.
pub record FilesMeters {Z : Type 0} (file : List ℕ) (content : Content)
    (found : Option (Vec FiledMeter Z)) : Type 0 where
  pub rows : List Row
  pub shown : ShowsInstallations content rows
  pub filed : FilesRows file rows content found
