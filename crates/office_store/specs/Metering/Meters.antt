-- Definitions of the answers of queries about a meter: its counter range, its first entry, and its
-- row of `installations`.
use Rattle.std.specs.Prelude.{◌≡◌, ℕ, List, length, Option, Some, None, string_bytes, unwrap_or}
use Rattle.office_events.specs.declared.facts.Opening.{Opening}
use Rattle.office_events.specs.declared.facts.Fact.{Fact}
use Rattle.office_events.specs.declared.questions.Installation.{Installation}
use Rattle.office_books.specs.Facts.{openings_in, opening_of}
use Rattle.office_books.specs.Meters.{installation_of}
use Rattle.store_tables.specs.Meters.Rows.{IsInstalled}
use Rattle.store_tables.specs.declared.meters.rows.InstallationRow.{InstallationRow}
use Rattle.store_tables.specs.declared.meters.rows.Installation as stored
use Rattle.store_tables.specs.declared.entries.rows.EntryRow.{EntryRow}
use Rattle.office_store.specs.Rows.{installed_row, opening_row}

-- True if a row of `installations` encodes an opening (the record that installs a meter), and the
-- records have this opening for its meter.
pub record IsRowOf (facts : List Fact) (opening : Opening) (found : stored.Installation) : Type 0
  where
    pub place : ℕ
    pub row : IsInstalled (installed_row facts place opening) found
    pub alone : opening_of facts opening.meter ≡ Some opening

-- True if a query found the row that encodes an opening (the record that installs a meter). If the
-- opening is None, the query must find no row.
abbrev pub FindsRow : List Fact → Option Opening → Option stored.Installation → Type 0
FindsRow facts None found = found ≡ None
FindsRow facts (Some opening) None = ⊥
FindsRow facts (Some opening) (Some row) = IsRowOf facts opening row

-- True if the answer is how many values the meter's counter has before it rolls over, or None if
-- the meter was never installed.
abbrev pub FindsRange : (meter : List ℕ) → List Fact → Option ℕ → Type 0
FindsRange meter facts None = opening_of facts meter ≡ None
FindsRange meter facts (Some range) =
    (opening : Opening) → opening_of facts meter ≡ Some opening → range ≡ opening.range

-- True if the answer is the first entry of a meter, or None if the meter was never installed.
abbrev pub FindsFirst : (meter : List ℕ) → List Fact → Option EntryRow → Type 0
FindsFirst meter facts None = opening_of facts meter ≡ None
FindsFirst meter facts (Some entry) =
    (opening : Opening) → opening_of facts meter ≡ Some opening → entry ≡ opening_row opening

-- The opening of a meter (the record that installs the meter) that rows of `installations`,
-- `ranges` and `entries` encode.
abbrev pub opening_from : stored.Installation → (range : ℕ) → EntryRow → Opening
opening_from row range first = record {
  meter = string_bytes row.meter;
  register = string_bytes row.register;
  ceiling = row.row.ceiling;
  range = range;
  at = first.moment;
  raw = first.raw;
  sf = first.sf;
}

-- The state of a meter, from its opening (the record that installs the meter) and its row in
-- `installations`.
abbrev pub standing_from : Opening → InstallationRow → Installation
standing_from opening row = record {
  opening = opening;
  last = record { at = row.last.moment; raw = row.last.raw; sf = row.last.sf };
  total = row.last.total;
  ended = row.is_ended;
}

-- True if the answer is the recorded state of the meter that the given row of `installations`
-- names.
abbrev pub IsStanding : stored.Installation → List Fact → Installation → Type 0
IsStanding row facts found = (opening : Opening) → IsRowOf facts opening row
    → found ≡ installation_of facts opening

-- True if the greatest index in `installations` is the number of installed meters. None, for an
-- empty table, counts as 0.
abbrev pub CountsOpenings : List Fact → Option ℕ → Type 0
CountsOpenings facts place = unwrap_or place 0 ≡ length (openings_in facts)
