-- Definitions of how rows of `holds`, the table of rejected readings, are read, and which of its
-- rows a stream returns.
use Rattle.std.specs.Prelude.{◌≡◌, ◌≤◌, ℕ, ℤ, pos, negsuc, nat_le, nat_lt, List, [], ◌∷◌, map, Bool, bytes_eq, ◌&&◌, ◌==◌, IsTrue, Option, Some, None, if◌then◌else◌, Result, Ok}
use Rattle.std.specs.List.{AllByRecursion}
use Rattle.sqlite.specs.declared.types.Value.{Value}
use Rattle.sqlite.specs.declared.types.Value.TheVariants.{Null, Int, Real, Text, Blob}
use Rattle.sqlite.specs.Order.{Row, column}
use Rattle.energy_core.specs.Verdict.{cause_number}
use Rattle.energy_core.specs.declared.verdicts.Cause.{Cause}
use Rattle.energy_core.specs.declared.verdicts.Cause.TheVariants as cause
use Rattle.office_events.specs.declared.facts.HeldReading.{HeldReading}
use Rattle.store_tables.specs.declared.faults.RowFault.{RowFault}
use Rattle.store_tables.specs.Limits.{greatest_place, IsPlace, latest_moment}
use Rattle.store_tables.specs.Columns.{whole_in, or_damaged, and_then}
use Rattle.store_tables.specs.Content.{Content, HasRows}
use Rattle.store_tables.specs.Answer.{AreFound, FirstFirst}
use Rattle.store_tables.specs.Polls.Trees.{holds}
use Rattle.store_tables.specs.Polls.Rows.{Held, hold_columns, hold_place}

-- The cause of a rejected reading that a numeric code in the table `holds` encodes, or None for any
-- other number.
abbrev pub cause_of : ℕ → Option Cause
cause_of n =
    if n == 1 then Some cause.NotAccumulated else
    if n == 2 then Some cause.ScaleChanged else
    if n == 3 then Some cause.NotLater else
    if n == 4 then Some cause.SpanTooLong else
    if n == 5 then Some cause.GapTooLong else
    if n == 6 then Some cause.TooFast else
    if n == 7 then Some cause.TotalFull else
    if n == 8 then Some cause.NotBelowRange else None

-- True if an integer is in the range of a signed 16-bit integer.
abbrev pub has_sixteen_bits : ℤ → Bool
has_sixteen_bits (pos n) = nat_le n 32767
has_sixteen_bits (negsuc n) = nat_le n 32767

-- The integer in a column, or None if the column has no signed 16-bit integer. A rejected reading
-- can have any scale factor of 16 bits.
abbrev pub sixteen_in : Value → Option ℤ
sixteen_in (Int n) = if has_sixteen_bits n then Some n else None
sixteen_in Null = None
sixteen_in (Real x) = None
sixteen_in (Text t) = None
sixteen_in (Blob b) = None

-- The greatest value of a 32-bit energy counter.
abbrev pub greatest_raw : ℕ
greatest_raw = 4294967295

-- The columns that a SELECT from `holds` returns for a rejected reading.
abbrev pub reading_shown : Held → Row
reading_shown h =
    Int (pos h.row.poll) ∷ Int (pos h.row.moment) ∷ Int (pos h.row.raw) ∷ Int h.row.sf
    ∷ Int (pos (cause_number h.row.cause))
    ∷ []

-- The rejected reading of the meter `meter` that a row of `holds` encodes.
abbrev pub reading_of : (meter : List ℕ) → Held → HeldReading
reading_of meter h = record {
  meter = meter;
  poll = h.row.poll;
  at = h.row.moment;
  raw = h.row.raw;
  sf = h.row.sf;
  cause = h.row.cause;
}

-- True if every value of a rejected reading is in the range that its column in the table `holds`
-- allows.
pub record IsSoundReading (reading : HeldReading) : Type 0 where
  pub poll : IsPlace reading.poll
  pub at : reading.at ≤ latest_moment
  pub raw : reading.raw ≤ greatest_raw
  pub sf : IsTrue (has_sixteen_bits reading.sf)

-- True if every value of the rejected reading in a row of `holds` is in the range that its column
-- allows.
abbrev pub HasSoundReading : Held → Type 0
HasSoundReading h = IsSoundReading (reading_of h.meter h)

-- The rejected reading of the meter `meter` in a result row, or `Damaged` if a column is out of its
-- range.
abbrev pub reading_in : (meter : List ℕ) → Row → Result HeldReading RowFault
reading_in meter row =
    and_then (or_damaged (whole_in 1 greatest_place (column row 0))) (λ poll.
    and_then (or_damaged (whole_in 0 latest_moment (column row 1))) (λ at.
    and_then (or_damaged (whole_in 0 greatest_raw (column row 2))) (λ raw.
    and_then (or_damaged (sixteen_in (column row 3))) (λ sf.
    and_then (or_damaged (whole_in 1 8 (column row 4))) (λ number.
    and_then (or_damaged (cause_of number)) (λ cause.
    Ok (record { meter = meter; poll = poll; at = at; raw = raw; sf = sf; cause = cause })))))))

-- True if a list has exactly the rows of `holds`, the table of rejected readings.
abbrev pub HaveHolds : List Held → Content → Type 0
HaveHolds = HasRows holds hold_columns

-- True if a rejected reading is a reading of the meter `meter`.
abbrev pub is_of : (meter : List ℕ) → Held → Bool
is_of meter h = bytes_eq h.meter meter

-- True if a list has the rejected readings of a meter, in the order in which they were recorded.
abbrev pub AreReadingsOf : (meter : List ℕ) → List Held → List HeldReading → Type 0
AreReadingsOf meter rows all =
    (found : List Held) × AreFound (is_of meter) (FirstFirst hold_place) rows found
    × (all ≡ map (reading_of meter) found)

-- True if every value of every row of `holds` (the table of rejected readings) is in the range that
-- its column allows.
abbrev pub AreSoundHolds : List Held → Type 0
AreSoundHolds = AllByRecursion HasSoundReading

-- Definitions on a meter's rows of `holds` (rejected readings) with timestamps in a range.

-- True if the timestamp of a rejected reading is at least `from` and less than `till`.
abbrev pub is_between : (from till : ℕ) → Held → Bool
is_between from till h = nat_le from h.row.moment && nat_lt h.row.moment till

-- True if a list has the rejected readings of a meter in the order of their recording. Only
-- readings with timestamps of at least `from` and less than `till` are in the list.
abbrev pub AreReadingsBetween : (meter : List ℕ) → (from till : ℕ) → List Held → List HeldReading
    → Type 0
AreReadingsBetween meter from till rows all =
    (found : List Held)
    × AreFound (λ h. is_of meter h && is_between from till h) (FirstFirst hold_place) rows found
    × (all ≡ map (reading_of meter) found)
