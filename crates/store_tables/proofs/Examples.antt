-- Examples of accounting registers (named counters) whose counter and scale fit in one read of 125
-- Modbus registers, and of registers that just don't fit.
use Rattle.std.proofs.Common.{◌≡◌, ℕ, true, false, pos, negsuc, List, [], ◌∷◌, Ok, Err, codes, refl}
use Rattle.mb_wire.specs.declared.span.ReadFunction.TheVariants.{HoldingRegisters}
use Rattle.sqlite.specs.declared.types.Value.TheVariants.{Int, Text}
use Rattle.sqlite.specs.Order.{Row}
use Rattle.store_tables.specs.declared.faults.RowFault.TheVariants.{Damaged}
use Rattle.store_tables.specs.declared.devices.rows.RegisterScale.TheVariants.{Fixed, At}
use Rattle.store_tables.specs.Devices.Rows.{registers_spanned, fits_a_read, register_in}

-- Examples of a scale factor after the counter, before the counter, or in one of the counter's two
-- Modbus registers.
following : registers_spanned 40094 (At 40096) ≡ 3
following = refl

before : registers_spanned 40094 (At 40093) ≡ 3
before = refl

fixed : registers_spanned 65534 (Fixed (negsuc 2)) ≡ 2
fixed = refl

-- Examples of a counter and its scale that span 125 or 126 Modbus registers, with the scale after
-- or before the counter.
last_of_rows : fits_a_read 0 (At 124) ≡ true
last_of_rows = refl

too_far_after : fits_a_read 0 (At 125) ≡ false
too_far_after = refl

last_before : fits_a_read 123 (At 0) ≡ true
last_before = refl

too_far_before : fits_a_read 124 (At 0) ≡ false
too_far_before = refl

row : (address : ℕ) → (scale : ℕ) → Row
row address scale = Int (pos 1) ∷ Text (codes "r1") ∷ Text (codes "d1") ∷ Int (pos 3) ∷ Int (pos address) ∷ Int (pos 1) ∷ Int (pos scale) ∷ []

-- Examples of rows of the table `registers`. If a counter and its scale span 125 Modbus registers,
-- the reader returns the row. If they span 126, the reader reports `Damaged`.
reached : register_in (row 0 124) ≡ Ok (record { place = 1; function = HoldingRegisters; address = 0; scale = At 124 })
unfolding row
reached = refl

not_reached : register_in (row 0 125) ≡ Err Damaged
unfolding row
not_reached = refl
