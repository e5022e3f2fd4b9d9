-- The table of meters in the store in memory: a map that finds a meter by its name.
use Rattle.std.specs.Prelude.{◌≡◌, ℕ, false, List, Option, Some, None}
use Rattle.std.specs.BTreeMap.{get}
use Rattle.meter_journal.specs.Lists as lists
use Rattle.office_events.specs.declared.facts.Opening.{Opening}
use Rattle.office_events.specs.declared.facts.Fact.{Fact}
use Rattle.office_books.specs.Facts.{same, opening_of}
use Rattle.office_books.specs.Meters.{rows_of, installation_of}
use Rattle.memory_books.specs.declared.tables.meter.Meter.{Meter}
use Rattle.memory_books.specs.declared.tables.meters.Meters.{Meters}
use Rattle.memory_books.specs.Tables.Keys.{key_cmp, named}
use Rattle.memory_books.specs.Tables.Moving.{HasBegun}

-- The row of the meter with this name in the table of meters, or `None` if the table has no such
-- meter.
abbrev pub meter_at : Meters → List ℕ → Option Meter
meter_at meters name = get key_cmp meters.meters (named name)

-- True if the meter's installation is recorded, and the meter's state and entry rows in the table
-- are those that follow from the records.
pub record Stands (known : List Fact) (meter : Meter) (found : Option Opening) : Type 0 where
  pub opening : Opening
  pub there : found ≡ Some opening
  pub row : meter.row ≡ installation_of known opening
  pub rows : lists.latest_first meter.rows.items ≡ rows_of known opening

-- States that the table has a row for a meter if and only if the meter's installation is recorded.
-- The row's state and entries must be those that follow from the records.
abbrev pub IsMeter : List Fact → Option Meter → Option Opening → Type 0
IsMeter known None found = found ≡ None
IsMeter known (Some meter) found = Stands known meter found

-- True if the table of meters in memory has exactly the recorded meters. The state and the entries
-- of each meter are those that follow from the records.
abbrev pub AreMeters : Meters → List Fact → Type 0
AreMeters meters known =
    (name : List ℕ) → IsMeter known (meter_at meters name) (opening_of known name)

-- True if the meter with this name changed in the table as the relation `became` describes, and all
-- other meters are unchanged.
pub record Changes (meter : List ℕ) (became : Option Meter → Option Meter → Type 0)
    (old new : Meters) : Type 0 where
  pub own : became (meter_at old meter) (meter_at new meter)
  pub others : (name : List ℕ) → same meter name ≡ false → meter_at new name ≡ meter_at old name

-- The effect of an opening, the record that installs a meter, on the table of meters. The new meter
-- is added, without entries.
abbrev pub Begins : Opening → Option Meter → Option Meter → Type 0
Begins opening old new = (meter : Meter) × (new ≡ Some meter) × HasBegun opening meter

-- The effect of a record about a meter on the table of meters. If the meter is in the table, then
-- it changes as the given relation describes. Otherwise it is still not in the table.
abbrev pub IfThere : (Meter → Meter → Type 0) → Option Meter → Option Meter → Type 0
IfThere became None new = new ≡ None
IfThere became (Some old) new = (meter : Meter) × (new ≡ Some meter) × became old meter
