-- Rows of `installations` (meters) and `ranges` (how many values their counters have), their
-- columns, and the bounds that the store sets for the values in these columns.
use Rattle.std.specs.Prelude.{◌≡◌, ℕ, pos, ◌≤◌, List, [], ◌∷◌, IsTrue, Bool, bytes_eq, ◌==◌, Option, Some, None, if◌then◌else◌, Result, Ok, true, false, IsUtf8, string_bytes}
use Rattle.std.specs.Option.{option_and_then}
use Rattle.energy_core.specs.declared.limits.TheConstants.{MAX_CEILING, MAX_RANGE, MAX_SHOWN, MAX_TOTAL, MIN_RANGE}
use Rattle.sqlite.specs.declared.types.Value.{Value}
use Rattle.store_tables.specs.declared.faults.RowFault.{RowFault}
use Rattle.sqlite.specs.declared.types.Value.TheVariants.{Null, Int, Text}
use Rattle.sqlite.specs.Order.{Row, column}
use Rattle.store_tables.specs.Columns.{is_within, whole_in, within, or_damaged, and_then}
use Rattle.store_tables.specs.declared.meters.rows.LastRow.{LastRow}
use Rattle.store_tables.specs.declared.meters.rows.InstallationRow.{InstallationRow}
use Rattle.store_tables.specs.declared.meters.rows.Installation.{Installation}
use Rattle.store_tables.specs.Limits.{greatest_place, latest_moment}

-- The greatest ceiling of a meter, in W. The ceiling is the greatest power that can flow through
-- the meter.
abbrev pub greatest_ceiling : ℕ
greatest_ceiling = MAX_CEILING

-- The greatest total energy of a meter, in mWh.
abbrev pub greatest_total : ℕ
greatest_total = MAX_TOTAL

-- The number in the column `ended` of `installations`: 1 if the meter was closed, otherwise 0.
abbrev pub ended_number : Bool → ℕ
ended_number false = 0
ended_number true = 1

-- A row of `installations`: a meter with the accounting register (named counter of a device) at
-- which it is installed.
pub record Installed : Type 0 where
  pub meter : List ℕ
  pub register : List ℕ
  pub row : InstallationRow

abbrev pub meter_at : (meter register : List ℕ) → InstallationRow → Installed
meter_at meter register row = record { meter = meter; register = register; row = row }

-- The columns of a meter in the table `installations`. The first value is the rowid, and the column
-- of the integer key is NULL.
abbrev pub installed_columns : Installed → Row
installed_columns i =
    Int (pos i.row.place) ∷ Null ∷ Text i.meter ∷ Text i.register ∷ Int (pos i.row.ceiling)
    ∷ Int (pos (ended_number i.row.is_ended)) ∷ Int (pos i.row.last.moment)
    ∷ Int (pos i.row.last.raw)
    ∷ Int i.row.last.sf ∷ Int (pos i.row.last.total) ∷ []

-- The columns that a SELECT from `installations` returns for a meter.
abbrev pub installed_shown : Installed → Row
installed_shown i =
    Int (pos i.row.place) ∷ Text i.meter ∷ Text i.register ∷ Int (pos i.row.ceiling)
    ∷ Int (pos (ended_number i.row.is_ended)) ∷ Int (pos i.row.last.moment)
    ∷ Int (pos i.row.last.raw)
    ∷ Int i.row.last.sf ∷ Int (pos i.row.last.total) ∷ []

-- True if a row of `installations` belongs to the meter `meter`.
abbrev pub is_meter : (meter : List ℕ) → Installed → Bool
is_meter meter i = bytes_eq i.meter meter

-- True if a row of `installations` has a meter at the accounting register `register`, a named
-- counter.
abbrev pub is_at : (register : List ℕ) → Installed → Bool
is_at register i = bytes_eq i.register register

-- The index of a row of `installations`, in the order of installation.
abbrev pub installed_place : Installed → ℕ
installed_place i = i.row.place

-- A row of `installations` after an UPDATE replaced the meter's last entry and total energy.
abbrev pub moved : LastRow → Installed → Installed
moved last i = record i { row = record i.row { last = last } }

-- A row of `installations` after an UPDATE marked the meter as closed.
abbrev pub ended : Installed → Installed
ended i = record i { row = record i.row { is_ended = true } }

-- True if every value of a meter's last entry, and the meter's total energy, is in the range that
-- the store permits for its column.
pub record IsSoundLast (last : LastRow) : Type 0 where
  pub moment : last.moment ≤ latest_moment
  pub raw : last.raw ≤ MAX_SHOWN
  pub sf : IsTrue (is_within 3 last.sf)
  pub total : last.total ≤ greatest_total

-- True if every number in a row of `installations` is in the range that the store permits for its
-- column. Names are not checked.
pub record IsSoundInstallation (row : InstallationRow) : Type 0 where
  pub place : (1 ≤ row.place) × (row.place ≤ greatest_place)
  pub ceiling : (1 ≤ row.ceiling) × (row.ceiling ≤ greatest_ceiling)
  pub last : IsSoundLast row.last

-- True if every number in a row of `installations` is in the range that the store permits for its
-- column, and the row's names are UTF-8.
pub record IsSoundInstalled (i : Installed) : Type 0 where
  pub row : IsSoundInstallation i.row
  pub meter : IsUtf8 i.meter
  pub register : IsUtf8 i.register

-- True if the row that a query returned has the names and numbers of the stored row of
-- `installations`.
pub record IsInstalled (i : Installed) (a : Installation) : Type 0 where
  pub meter : string_bytes a.meter ≡ i.meter
  pub register : string_bytes a.register ≡ i.register
  pub row : a.row ≡ i.row

-- The Boolean that a number encodes: 0 is false, 1 is true, and any other number is invalid.
abbrev pub flag_of : ℕ → Option Bool
flag_of n = if n == 0 then Some false else if n == 1 then Some true else None

-- The Boolean that a column encodes as 0 or 1, or None for any other value.
abbrev pub flag_in : Value → Option Bool
flag_in v = option_and_then flag_of (whole_in 0 1 v)

-- The last entry and the total energy of a meter in a result row, or `Damaged` if a value is out of
-- its range. The store permits a range for each column.
abbrev pub last_in : Row → Result LastRow RowFault
last_in row =
    and_then (or_damaged (whole_in 0 latest_moment (column row 5))) (λ moment.
    and_then (or_damaged (whole_in 0 MAX_SHOWN (column row 6))) (λ raw.
    and_then (or_damaged (within 3 (column row 7))) (λ sf.
    and_then (or_damaged (whole_in 0 greatest_total (column row 8))) (λ total.
    Ok (record { moment = moment; raw = raw; sf = sf; total = total })))))

-- The numbers of a meter in a result row of `installations`, or `Damaged` if a number is out of the
-- range that the store permits for its column.
abbrev pub installation_in : Row → Result InstallationRow RowFault
installation_in row =
    and_then (or_damaged (whole_in 1 greatest_place (column row 0))) (λ place.
    and_then (or_damaged (whole_in 1 greatest_ceiling (column row 3))) (λ ceiling.
    and_then (or_damaged (flag_in (column row 4))) (λ is_ended.
    and_then (last_in row) (λ last.
    Ok (record { place = place; ceiling = ceiling; is_ended = is_ended; last = last })))))

-- The column that the query for the last row of `installations` returns: the row's index.
abbrev pub installed_place_shown : Installed → Row
installed_place_shown i = Int (pos i.row.place) ∷ []

-- True if `place`, the index that a query returned, is the index of the given row of
-- `installations`.
abbrev pub HasInstalledPlace : Installed → ℕ → Type 0
HasInstalledPlace i place = place ≡ i.row.place

-- Definitions of the rows of `ranges`: how many values each meter's counter has before it rolls
-- over.

-- The range of a meter's counter: how many values the counter has before it rolls over.
pub record Ranged : Type 0 where
  pub meter : List ℕ
  pub range : ℕ

-- The columns of a row of `ranges`: the meter, and how many values its counter has.
abbrev pub ranged_columns : Ranged → Row
ranged_columns r = Text r.meter ∷ Int (pos r.range) ∷ []

-- The column that the query on `ranges` returns: how many values a meter's counter has.
abbrev pub range_shown : Ranged → Row
range_shown r = Int (pos r.range) ∷ []

-- True if a row of `ranges` belongs to the meter `meter`.
abbrev pub is_range_of : (meter : List ℕ) → Ranged → Bool
is_range_of meter r = bytes_eq r.meter meter

-- True if the store accepts a counter that has this number of values before it rolls over.
abbrev pub IsRange : ℕ → Type 0
IsRange range = (MIN_RANGE ≤ range) × (range ≤ MAX_RANGE)

-- True if the store accepts the counter's range in a row of `ranges`.
abbrev pub IsSoundRanged : Ranged → Type 0
IsSoundRanged r = IsRange r.range

-- True if a query returned the number in a row of `ranges`: how many values the meter's counter
-- has.
abbrev pub HasRange : Ranged → ℕ → Type 0
HasRange r range = range ≡ r.range
