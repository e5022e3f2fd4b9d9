-- Rows of `entries` (readings and corrections of meters) and `voids` (cancelled entries), their
-- columns, and the ranges that the store permits for the values in these columns.
use Rattle.std.specs.Prelude.{◌≡◌, ℕ, pos, ◌≤◌, List, [], ◌∷◌, IsTrue, Bool, bytes_eq, ◌&&◌, ◌==◌, Option, Some, None, if◌then◌else◌, Result, Ok}
use Rattle.std.specs.Option.{option_and_then}
use Rattle.energy_core.specs.declared.limits.TheConstants.{MAX_SHOWN}
use Rattle.sqlite.specs.declared.types.Value.{Value}
use Rattle.store_tables.specs.declared.faults.RowFault.{RowFault}
use Rattle.sqlite.specs.declared.types.Value.TheVariants.{Int, Text}
use Rattle.sqlite.specs.Order.{Row, column}
use Rattle.store_tables.specs.Columns.{is_within, whole_in, within, or_damaged, and_then}
use Rattle.store_tables.specs.declared.entries.rows.EntryRow.{EntryRow}
use Rattle.store_tables.specs.declared.entries.rows.EntryKind.{EntryKind}
use Rattle.store_tables.specs.declared.entries.rows.EntryKind.TheVariants.{Opening, Reading, Manual, Closing, Reset, Rescale}
use Rattle.store_tables.specs.Limits.{greatest_place, latest_moment, IsPlace}

-- The number that the column `kind` of `entries` stores for each kind of entry.
abbrev pub kind_number : EntryKind → ℕ
kind_number Opening = 1
kind_number Reading = 2
kind_number Manual = 3
kind_number Closing = 4
kind_number Reset = 5
kind_number Rescale = 6

-- The kind of a meter's entry that a number in the column `kind` encodes, or None for any other
-- number.
abbrev pub kind_of : ℕ → Option EntryKind
kind_of n =
    if n == 1 then Some Opening else
    if n == 2 then Some Reading else
    if n == 3 then Some Manual else
    if n == 4 then Some Closing else
    if n == 5 then Some Reset else
    if n == 6 then Some Rescale else None

-- An entry (a reading or a change) of a meter, with the meter's name, as a row of the table
-- `entries`.
pub record Entered : Type 0 where
  pub meter : List ℕ
  pub entry : EntryRow

-- The columns of a meter's entry in the table `entries`.
abbrev pub entry_columns : Entered → Row
entry_columns e =
    Text e.meter ∷ Int (pos e.entry.place) ∷ Int (pos (kind_number e.entry.kind))
    ∷ Int (pos e.entry.moment)
    ∷ Int (pos e.entry.raw) ∷ Int (pos e.entry.rolls) ∷ Int (pos e.entry.after) ∷ Int e.entry.sf
    ∷ []

-- True if an entry belongs to the meter `meter` and has the index `place`.
abbrev pub is_entry : (meter : List ℕ) → (place : ℕ) → Entered → Bool
is_entry meter place e = bytes_eq e.meter meter && (e.entry.place == place)

-- True if an entry belongs to the meter `meter`.
abbrev pub is_of : (meter : List ℕ) → Entered → Bool
is_of meter e = bytes_eq e.meter meter

-- A meter's entry with its number of counter rollovers set to `rolls`.
abbrev pub rolled : (rolls : ℕ) → Entered → Entered
rolled rolls e = record e { entry = record e.entry { rolls = rolls } }

-- True if every value of a meter's entry is within the bounds that the store sets for its column.
pub record IsSoundEntry (e : EntryRow) : Type 0 where
  pub place : (1 ≤ e.place) × (e.place ≤ greatest_place)
  pub moment : e.moment ≤ latest_moment
  pub raw : e.raw ≤ MAX_SHOWN
  pub rolls : e.rolls ≤ 255
  pub after : e.after ≤ MAX_SHOWN
  pub sf : IsTrue (is_within 3 e.sf)

-- The columns that a SELECT from `entries` returns for an entry.
abbrev pub entry_shown : Entered → Row
entry_shown e =
    Int (pos e.entry.place) ∷ Int (pos (kind_number e.entry.kind)) ∷ Int (pos e.entry.moment)
    ∷ Int (pos e.entry.raw)
    ∷ Int (pos e.entry.rolls) ∷ Int (pos e.entry.after) ∷ Int e.entry.sf ∷ []

-- True if the entry that a query returned equals the stored entry.
abbrev pub IsRow : Entered → EntryRow → Type 0
IsRow e row = row ≡ e.entry

-- True if every value of a stored meter entry is within the bounds that the store sets for its
-- column.
abbrev pub IsSoundEntered : Entered → Type 0
IsSoundEntered e = IsSoundEntry e.entry

-- The column that the query for a meter's last entry returns: the entry's index.
abbrev pub place_shown : Entered → Row
place_shown e = Int (pos e.entry.place) ∷ []

-- The kind of entry whose number is in a column, or None for any other value.
abbrev pub kind_in : Value → Option EntryKind
kind_in v = option_and_then kind_of (whole_in 1 6 v)

-- The meter entry that a result row encodes, or `Damaged` if a column's value is out of the range
-- that the store permits.
abbrev pub entry_in : Row → Result EntryRow RowFault
entry_in row =
    and_then (or_damaged (whole_in 1 greatest_place (column row 0))) (λ place.
    and_then (or_damaged (kind_in (column row 1))) (λ kind.
    and_then (or_damaged (whole_in 0 latest_moment (column row 2))) (λ moment.
    and_then (or_damaged (whole_in 0 MAX_SHOWN (column row 3))) (λ raw.
    and_then (or_damaged (whole_in 0 255 (column row 4))) (λ rolls.
    and_then (or_damaged (whole_in 0 MAX_SHOWN (column row 5))) (λ after.
    and_then (or_damaged (within 3 (column row 6))) (λ sf.
    Ok (record {
      place = place;
      kind = kind;
      moment = moment;
      raw = raw;
      rolls = rolls;
      after = after;
      sf = sf;
    }))))))))

-- The index of an entry in the sequence of its meter's entries.
abbrev pub entry_place : Entered → ℕ
entry_place e = e.entry.place

-- Definitions of the rows of `voids`, which cancel entries of meters: their columns, what queries
-- return of them, and the bounds of their indices.

-- A void: a row of `voids` that cancels one entry of a meter, with the time of the cancellation.
pub record Voided : Type 0 where
  pub meter : List ℕ
  pub place : ℕ
  pub moment : ℕ

abbrev pub voided_at : (meter : List ℕ) → (place moment : ℕ) → Voided
voided_at meter place moment = record { meter = meter; place = place; moment = moment }

-- The columns of a row of `voids`: the meter, the index of the cancelled entry, and the time.
abbrev pub voided_columns : Voided → Row
voided_columns v = Text v.meter ∷ Int (pos v.place) ∷ Int (pos v.moment) ∷ []

-- The column that a SELECT from `voids` returns: the index of the cancelled entry.
abbrev pub voided_shown : Voided → Row
voided_shown v = Int (pos v.place) ∷ []

-- True if a row of `voids` cancels an entry of the meter `meter`.
abbrev pub is_void_of : (meter : List ℕ) → Voided → Bool
is_void_of meter v = bytes_eq v.meter meter

-- The index of the entry that a row of `voids` cancels.
abbrev pub voided_place : Voided → ℕ
voided_place v = v.place

-- True if the index of a cancelled entry is within the bounds of row indices: 1 to 2^62.
abbrev pub IsSoundVoided : Voided → Type 0
IsSoundVoided v = IsPlace v.place

-- True if the index that a query returned is the index of the entry that a row of `voids` cancels.
abbrev pub HasPlace : Voided → ℕ → Type 0
HasPlace v place = place ≡ v.place
