-- Proofs that the functions that read result rows of the tables `installations` and `ranges` return
-- the values in these rows.
use Rattle.std.proofs.Common.{◌≡◌, ℕ, Ok, Result, refl, subst}
use Rattle.sqlite.specs.Order.{Row, column}
use Rattle.store_tables.specs.declared.faults.RowFault.{RowFault}
use Rattle.store_tables.specs.Asking.{ReadsRow}
use Rattle.store_tables.specs.Columns.{whole_in, within, or_damaged}
use Rattle.store_tables.proofs.ReadLemmas.{ok_is, reads_number, then_read, has_read, whole_bounds, within_bounds}
use Rattle.store_tables.specs.declared.meters.rows.LastRow.{LastRow}
use Rattle.store_tables.specs.declared.meters.rows.InstallationRow.{InstallationRow}
use Rattle.store_tables.specs.Limits.{greatest_place, latest_moment}
use Rattle.store_tables.specs.Meters.Rows.{installed_place_shown, installed_place, HasInstalledPlace, range_shown, HasRange, IsSoundRanged, flag_in, installation_in, last_in, greatest_ceiling, greatest_total, IsSoundLast, IsSoundInstallation, IsSoundInstalled}

sound_last : (row : Row) (a : LastRow) → last_in row ≡ Ok a → IsSoundLast a
sound_last row a is =
    let moment = has_read (whole_in 0 latest_moment (column row 5)) _ a is in
    let raw = has_read (whole_in 0 4294967295 (column row 6)) _ a moment.rest in
    let sf = has_read (within 3 (column row 7)) _ a raw.rest in
    let total = has_read (whole_in 0 greatest_total (column row 8)) _ a sf.rest in
    let same : record { moment = moment.value; raw = raw.value; sf = sf.value; total = total.value } ≡ a = ok_is total.rest in
    subst IsSoundLast same (record {
      moment = (whole_bounds 0 latest_moment (column row 5) moment.value moment.is).1;
      raw = (whole_bounds 0 4294967295 (column row 6) raw.value raw.is).1;
      sf = within_bounds 3 (column row 7) sf.value sf.is;
      total = (whole_bounds 0 greatest_total (column row 8) total.value total.is).1;
    })

pub sound_installation : (row : Row) (a : InstallationRow) → installation_in row ≡ Ok a → IsSoundInstallation a
sound_installation row a is =
    let place = has_read (whole_in 1 greatest_place (column row 0)) _ a is in
    let ceiling = has_read (whole_in 1 greatest_ceiling (column row 3)) _ a place.rest in
    let is_ended = has_read (flag_in (column row 4)) _ a ceiling.rest in
    let last = then_read (last_in row) _ a is_ended.rest in
    let same : record { place = place.value; ceiling = ceiling.value; is_ended = is_ended.value; last = last.0 } ≡ a = ok_is last.2 in
    subst IsSoundInstallation same (record {
      place = whole_bounds 1 greatest_place (column row 0) place.value place.is;
      ceiling = whole_bounds 1 greatest_ceiling (column row 3) ceiling.value ceiling.is;
      last = sound_last row last.0 last.1;
    })

-- Lemmas: reading a meter's index from `installations`, or the range of a meter's counter from
-- `ranges`, returns the stored number.

pub reads_installed_place : (row : Row) (r : Result ℕ RowFault) → r ≡ or_damaged (whole_in 1 greatest_place (column row 0)) → ReadsRow row installed_place_shown HasInstalledPlace IsSoundInstalled r
reads_installed_place = reads_number 1 greatest_place installed_place_shown installed_place IsSoundInstalled (λ i. refl) (λ i is. is.row.place)

pub reads_range : (row : Row) (r : Result ℕ RowFault) → r ≡ or_damaged (whole_in 65536 4294967296 (column row 0)) → ReadsRow row range_shown HasRange IsSoundRanged r
reads_range = reads_number 65536 4294967296 range_shown (λ x. x.range) IsSoundRanged (λ x. refl) (λ x is. is)
