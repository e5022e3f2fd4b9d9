-- Defines the report on metering records that were recovered from a damaged write-ahead log.
use Rattle.std.specs.Prelude.{◌≡◌, ℕ, true, false, List, [], ◌∷◌, ◌++◌, if◌then◌else◌, codes, decimal, string_bytes}
use Rattle.sqlite.specs.Store.{Ghosts}
use Rattle.sqlite.specs.Held.{Held, state}
use Rattle.sqlite.specs.State.{HasCleanDisk}
use Rattle.office_events.specs.declared.facts.Fact.{Fact}
use Rattle.office_books.specs.Facts.{latest_in}
use Rattle.office_store.specs.declared.books.SqlBooks.{SqlBooks}
use Rattle.table_seals.specs.declared.filed.FiledMeter.{FiledMeter}
use Rattle.stored_files.specs.BooksFound.{ledger_beneath}

module _ {S : Type 0} (g : Ghosts S) where
  -- States that `latest` is the latest timestamp of the store's records. The statement assumes that
  -- the disk returned what was written to it.
  pub record IsLatestIn (books : SqlBooks S g) (latest : ℕ) : Type 0 where
    pub asked : SqlBooks S g
    pub clean : (ledger_beneath g asked).is_clean → (ledger_beneath g books).is_clean
    pub is_latest : (facts : List Fact) → (ledger_beneath g books).holds facts
        → (ledger_beneath g asked).is_clean → latest ≡ latest_in facts

  -- States that `latest` is the latest timestamp of `facts`, the records in the database file. The
  -- statement assumes that the disk returned what was written to it.
  pub record HasLatest (old : Held S) (facts : List Fact) (latest : ℕ) : Type 0 where
    pub asked : SqlBooks S g
    pub clean : (ledger_beneath g asked).is_clean → HasCleanDisk (state g old)
    pub is_latest : (ledger_beneath g asked).is_clean → latest ≡ latest_in facts

-- Appends a line with the timestamp of a meter's last recovered entry to the text of the report on
-- recovered records.
abbrev pub with_last_entry : List ℕ → List ℕ → ℕ → List ℕ
with_last_entry text meter at =
    text ++ meter ++ codes " last entry " ++ decimal at ++ codes ", later ones may be lost\n"

-- Appends a line with the timestamp of a meter's last recovered entry to the text of the report on
-- recovered records. If the meter is closed, appends nothing.
abbrev pub with_open_meter : List ℕ → FiledMeter → List ℕ
with_open_meter text meter =
    if meter.standing.is_ended then text
    else with_last_entry text (string_bytes meter.meter) meter.standing.last.at

abbrev pub with_open_meters : List ℕ → List FiledMeter → List ℕ
with_open_meters text [] = text
with_open_meters text (meter ∷ meters) = with_open_meters (with_open_meter text meter) meters

-- Appends the report on recovered records to a text. The report has the records' latest timestamp,
-- and a line for each open meter.
abbrev pub with_recovered : List ℕ → ℕ → List FiledMeter → List ℕ
with_recovered text latest meters =
    with_open_meters (text ++ codes "latest " ++ decimal latest ++ codes "\n") meters
