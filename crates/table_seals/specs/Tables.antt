-- Defines the values of a meter's rows that a seal (digests of earlier records) covers.
use Rattle.std.specs.Prelude.{◌≡◌, ℕ, ◌==◌, ◌&&◌, nat_lt, Bool, List, [], ◌∷◌, Option, Some, None, Ok, string_bytes, IsUtf8}
use Rattle.std.specs.List.{list_all, list_any}
use Rattle.energy_core.specs.declared.limits.TheConstants.{MAX_CEILING}
use Rattle.meter_journal.specs.declared.audit.rows.TableRow.{TableRow}
use Rattle.sqlite.specs.declared.types.Value.TheVariants.{Text}
use Rattle.sqlite.specs.Order.{Row, column}
use Rattle.store_tables.specs.Columns.{whole_in, or_damaged}
use Rattle.store_tables.specs.Content.{Content}
use Rattle.store_tables.specs.Limits.{greatest_place}
use Rattle.table_audit.specs.declared.rows.MeterRows.{MeterRows}
use Rattle.table_audit.specs.declared.rows.VoidRow.{VoidRow}
use Rattle.table_audit.specs.Reading.{entry_in, void_in, range_in, all_in}
use Rattle.table_audit.specs.Showing.{AreRowsOf}
use Rattle.table_seals.specs.declared.tables.ReadRows.{ReadRows}
use Rattle.table_seals.specs.declared.tables.Terms.{Terms}

-- States that the row of `installations` has the given index, name, accounting register (an energy
-- counter) and maximum power of a meter.
pub record HasTerms (row : Row) (place : ℕ) (meter register : List ℕ) (ceiling : ℕ) : Type 0 where
  pub place_is : or_damaged (whole_in 1 greatest_place (column row 0)) ≡ Ok place
  pub meter_is : column row 1 ≡ Text meter
  pub register_is : column row 2 ≡ Text register
  pub ceiling_is : or_damaged (whole_in 1 MAX_CEILING (column row 3)) ≡ Ok ceiling
  pub meter_text : IsUtf8 meter
  pub register_text : IsUtf8 register

-- States that a result has the terms (index, name, register, maximum power) of an `installations`
-- row. None means that a name is not a text, or that a number is out of its range.
abbrev pub TermsAreRead : Row → Option Terms → Type 0
TermsAreRead row None = (place : ℕ) (meter register : List ℕ) (ceiling : ℕ)
    → HasTerms row place meter register ceiling → ⊥
TermsAreRead row (Some terms) =
    HasTerms row terms.place (string_bytes terms.meter) (string_bytes terms.register) terms.ceiling

-- States that the tables have exactly the rows `rows` for the meter that a row of `installations`
-- names. If `rows` is None, this row has no UTF-8 text in the column of the meter's name.
abbrev pub AreTheirs : Content → Row → Option MeterRows → Type 0
AreTheirs content row None = (name : List ℕ) → IsUtf8 name → column row 1 ≡ Text name → ⊥
AreTheirs content row (Some rows) =
    (name : List ℕ) × (column row 1 ≡ Text name) × AreRowsOf name content rows

-- States that the rows of a meter are valid, with exactly one counter range, `range`, and exactly
-- the given void (cancellation) records and entries.
pub record HasRead (rows : MeterRows) (range : ℕ) (voids : List VoidRow)
    (entries : List TableRow) : Type 0 where
  pub range_read : all_in range_in rows.ranges.items ≡ Ok (range ∷ [])
  pub voids_read : all_in void_in rows.voids.items ≡ Ok voids
  pub entries_read : all_in (entry_in voids) rows.entries.items ≡ Ok entries

-- States that an attempt to parse a meter's table rows has the correct result. `None` means that a
-- row has a value out of its range, or that the meter does not have exactly one counter range.
abbrev pub RowsAreRead : MeterRows → Option ReadRows → Type 0
RowsAreRead rows None = (range : ℕ) (voids : List VoidRow) (entries : List TableRow)
    → HasRead rows range voids entries → ⊥
RowsAreRead rows (Some read) = HasRead rows read.range read.voids.items read.entries.items

-- True if a list has a void record with the same index and the same time as `void`.
abbrev pub is_void_among : List VoidRow → (void : VoidRow) → Bool
is_void_among voids void =
    list_any (λ other. (other.place == void.place) && (other.moment == void.moment)) voids

-- Whether a text is a word, which means that all bytes are greater than 32. A word has no space and
-- no line end.
abbrev pub is_word : List ℕ → Bool
is_word text = list_all (λ byte. nat_lt 32 byte) text
