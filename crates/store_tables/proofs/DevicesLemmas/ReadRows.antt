-- Proofs that the functions that read result rows of the tables `devices`, `points` and `registers`
-- return the values in these rows.
use Rattle.std.proofs.Common.{◌≡◌, ◌==◌, inl, inr, ℕ, ℤ, Bool, true, false, if◌then◌else◌, Option, Some, None, Ok, refl, subst}
use Rattle.std.proofs.lemmas.Bool.{cases_Bool}
use Rattle.sqlite.specs.declared.types.Value.{Value}
use Rattle.sqlite.specs.Order.{Row, column}
use Rattle.store_tables.specs.Columns.{whole_in, within, function_in}
use Rattle.store_tables.specs.Limits.{greatest_place}
use Rattle.store_tables.proofs.ReadLemmas.{has_read, whole_bounds, within_bounds, ok_is}
use Rattle.store_tables.specs.declared.devices.rows.DeviceRow.{DeviceRow}
use Rattle.store_tables.specs.declared.devices.rows.PointRow.{PointRow}
use Rattle.store_tables.specs.declared.devices.rows.RegisterRow.{RegisterRow}
use Rattle.store_tables.specs.declared.devices.rows.RegisterScale.{RegisterScale}
use Rattle.store_tables.specs.declared.devices.rows.RegisterScale.TheVariants.{Fixed, At}
use Rattle.store_tables.specs.Devices.Rows.{IsSoundDevice, device_in, point_in, IsSoundPoint, IsSoundRegister, IsSoundScale, register_in, scale_of, fixed_by, at_by, fits_a_read, reached_from}

-- Lemmas: if a result row can be read, all numbers that the reader returns are in the ranges that
-- the store permits for their columns.

pub sound_device : (row : Row) (a : DeviceRow) → device_in row ≡ Ok a → IsSoundDevice a
sound_device row a is =
    let place = has_read (whole_in 1 greatest_place (column row 0)) _ a is in
    let unit = has_read (whole_in 0 255 (column row 2)) _ a place.rest in
    let timeout = has_read (whole_in 1 60 (column row 3)) _ a unit.rest in
    let window = has_read (whole_in 1 16 (column row 4)) _ a timeout.rest in
    let same : record { place = place.value; unit = unit.value; timeout = timeout.value; window = window.value } ≡ a = ok_is window.rest in
    subst IsSoundDevice same (record {
      place = whole_bounds 1 greatest_place (column row 0) place.value place.is;
      unit = (whole_bounds 0 255 (column row 2) unit.value unit.is).1;
      timeout = whole_bounds 1 60 (column row 3) timeout.value timeout.is;
      window = whole_bounds 1 16 (column row 4) window.value window.is;
    })

pub sound_point : (row : Row) (a : PointRow) → point_in row ≡ Ok a → IsSoundPoint a
sound_point row a is =
    let place = has_read (whole_in 1 greatest_place (column row 0)) _ a is in
    let function = has_read (function_in (column row 2)) _ a place.rest in
    let area = has_read (whole_in 0 255 (column row 3)) _ a function.rest in
    let address = has_read (whole_in 0 65535 (column row 4)) _ a area.rest in
    let same : record { place = place.value; function = function.value; area = area.value; address = address.value } ≡ a = ok_is address.rest in
    subst IsSoundPoint same (record {
      place = whole_bounds 1 greatest_place (column row 0) place.value place.is;
      area = (whole_bounds 0 255 (column row 3) area.value area.is).1;
      address = (whole_bounds 0 65535 (column row 4) address.value address.is).1;
    })

fixed_sound : (o : Option ℤ) (v : Value) (s : RegisterScale) → within 3 v ≡ o → fixed_by o ≡ Some s → IsSoundScale s
fixed_sound None v s is e = absurd (let f = e in cc)
fixed_sound (Some sf) v s is e = let same : Fixed sf ≡ s = cc in subst IsSoundScale same (within_bounds 3 v sf is)

at_sound : (o : Option ℕ) (v : Value) (s : RegisterScale) → whole_in 0 65535 v ≡ o → at_by o ≡ Some s → IsSoundScale s
at_sound None v s is e = absurd (let f = e in cc)
at_sound (Some address) v s is e = let same : At address ≡ s = cc in subst IsSoundScale same (whole_bounds 0 65535 v address is).1

scale_sound : (kind : ℕ) (v : Value) (s : RegisterScale) → scale_of kind v ≡ Some s → IsSoundScale s
scale_sound kind v s is = elim (cases_Bool (kind == 0)) [
  | inl fixed ↦ fixed_sound (within 3 v) v s refl (rw fixed at is)
  | inr reported ↦ at_sound (whole_in 0 65535 v) v s refl (rw reported at is)
]

-- True if a reader returned the scale `s`, and one Modbus read covers this scale and the counter at
-- `address`.
pub record IsReached (address : ℕ) (reported : Option RegisterScale) (s : RegisterScale) : Type 0 where
  pub scale : reported ≡ Some s
  pub span : fits_a_read address s ≡ true

reached_if : (address : ℕ) (t s : RegisterScale) (b : Bool) → fits_a_read address t ≡ b → (if b then Some t else None) ≡ Some s → IsReached address (Some t) s
reached_if address t s true fits e = let same : t ≡ s = cc in subst (IsReached address (Some t)) same (record { scale = refl; span = fits })
reached_if address t s false fits e = absurd (let f = e in cc)

reached : (address : ℕ) (reported : Option RegisterScale) (s : RegisterScale) → reached_from address reported ≡ Some s → IsReached address reported s
reached address None s e = absurd (let f = e in cc)
reached address (Some t) s e = reached_if address t s (fits_a_read address t) refl e

pub sound_register : (row : Row) (a : RegisterRow) → register_in row ≡ Ok a → IsSoundRegister a
sound_register row a is =
    let place = has_read (whole_in 1 greatest_place (column row 0)) _ a is in
    let function = has_read (function_in (column row 3)) _ a place.rest in
    let address = has_read (whole_in 0 65534 (column row 4)) _ a function.rest in
    let kind = has_read (whole_in 0 1 (column row 5)) _ a address.rest in
    let scale = has_read (reached_from address.value (scale_of kind.value (column row 6))) _ a kind.rest in
    let found = reached address.value (scale_of kind.value (column row 6)) scale.value scale.is in
    let same : record { place = place.value; function = function.value; address = address.value; scale = scale.value } ≡ a = ok_is scale.rest in
    subst IsSoundRegister same (record {
      place = whole_bounds 1 greatest_place (column row 0) place.value place.is;
      address = (whole_bounds 0 65534 (column row 4) address.value address.is).1;
      scale = scale_sound kind.value (column row 6) scale.value found.scale;
      span = found.span;
    })
