-- Proofs that the functions that read result rows of the tables `entries` and `voids` return the
-- values in these rows.
use Rattle.std.proofs.Common.{◌≡◌, ℕ, pos, zero-le, Some, Ok, Err, Result, IfOk, refl, sym, ap, subst, ◌∙◌}
use Rattle.sqlite.specs.declared.types.Value.TheVariants.{Int}
use Rattle.sqlite.specs.Order.{Row, column}
use Rattle.store_tables.specs.declared.faults.RowFault.{RowFault}
use Rattle.store_tables.specs.Asking.{ReadsRow}
use Rattle.store_tables.specs.Columns.{whole_in, within, or_damaged}
use Rattle.store_tables.proofs.ReadLemmas.{ok_is, reads_number, IsFair, fair_some, fair_whole, fair_within, reads_row, has_read, whole_bounds, within_bounds}
use Rattle.store_tables.specs.declared.entries.rows.EntryKind.{EntryKind}
use Rattle.store_tables.specs.declared.entries.rows.EntryKind.TheVariants.{Opening, Reading, Manual, Closing, Reset, Rescale}
use Rattle.store_tables.specs.declared.entries.rows.EntryRow.{EntryRow}
use Rattle.store_tables.specs.Limits.{greatest_place, latest_moment}
use Rattle.store_tables.specs.Entries.Latest.{entry_moment, entry_moment_shown, HasEntryMoment, void_moment, void_moment_shown, HasVoidMoment, IsTimelyVoid}
use Rattle.store_tables.specs.Entries.Rows.{voided_shown, voided_place, HasPlace, IsSoundVoided, Entered, entry_in, entry_shown, kind_in, kind_number, IsRow, IsSoundEntry, IsSoundEntered}

kind_back : (k : EntryKind) → kind_in (Int (pos (kind_number k))) ≡ Some k
kind_back Opening = refl
kind_back Reading = refl
kind_back Manual = refl
kind_back Closing = refl
kind_back Reset = refl
kind_back Rescale = refl

entry_fair : (e : Entered) → IsFair (IsSoundEntered e) (IsRow e) (entry_in (entry_shown e))
entry_fair e =
    let S = IsSoundEntered e in
    let P = IsRow e in
    fair_whole S P _ 1 _ e.entry.place (λ is. is.place)
    (fair_some S P _ _ e.entry.kind (kind_back e.entry.kind)
    (fair_whole S P _ 0 _ e.entry.moment (λ is. (zero-le, is.moment))
    (fair_whole S P _ 0 _ e.entry.raw (λ is. (zero-le, is.raw))
    (fair_whole S P _ 0 _ e.entry.rolls (λ is. (zero-le, is.rolls))
    (fair_whole S P _ 0 _ e.entry.after (λ is. (zero-le, is.after))
    (fair_within S P _ 3 e.entry.sf (λ is. is.sf)
    (record { read = refl; fault = tt })))))))

pub reads_entry : (row : Row) (r : Result EntryRow RowFault) → r ≡ entry_in row → ReadsRow row entry_shown IsRow IsSoundEntered r
reads_entry row r is = reads_row row entry_shown IsRow IsSoundEntered r (λ e shown. subst (IsFair (IsSoundEntered e) (IsRow e)) (sym (is ∙ ap entry_in shown)) (entry_fair e))

pub sound_entry : (row : Row) (r : Result EntryRow RowFault) → r ≡ entry_in row → IfOk r IsSoundEntry
sound_entry row (Err f) is = tt
sound_entry row (Ok e) is =
    let place = has_read (whole_in 1 greatest_place (column row 0)) _ e (sym is) in
    let kind = has_read (kind_in (column row 1)) _ e place.rest in
    let moment = has_read (whole_in 0 latest_moment (column row 2)) _ e kind.rest in
    let raw = has_read (whole_in 0 4294967295 (column row 3)) _ e moment.rest in
    let rolls = has_read (whole_in 0 255 (column row 4)) _ e raw.rest in
    let after = has_read (whole_in 0 4294967295 (column row 5)) _ e rolls.rest in
    let sf = has_read (within 3 (column row 6)) _ e after.rest in
    let same : record { place = place.value; kind = kind.value; moment = moment.value; raw = raw.value; rolls = rolls.value; after = after.value; sf = sf.value } ≡ e = ok_is sf.rest in
    subst IsSoundEntry same (record {
      place = whole_bounds 1 greatest_place (column row 0) place.value place.is;
      moment = (whole_bounds 0 latest_moment (column row 2) moment.value moment.is).1;
      raw = (whole_bounds 0 4294967295 (column row 3) raw.value raw.is).1;
      rolls = (whole_bounds 0 255 (column row 4) rolls.value rolls.is).1;
      after = (whole_bounds 0 4294967295 (column row 5) after.value after.is).1;
      sf = within_bounds 3 (column row 6) sf.value sf.is;
    })

-- Lemmas: reading the index of a meter entry from the table `entries` or `voids` returns the stored
-- index.

pub reads_void : (row : Row) (r : Result ℕ RowFault) → r ≡ or_damaged (whole_in 1 greatest_place (column row 0)) → ReadsRow row voided_shown HasPlace IsSoundVoided r
reads_void = reads_number 1 greatest_place voided_shown voided_place IsSoundVoided (λ v. refl) (λ v is. is)

-- Lemmas: reading a timestamp from the table `entries` or `voids` returns the stored timestamp.

pub reads_entry_moment : (row : Row) (r : Result ℕ RowFault) → r ≡ or_damaged (whole_in 0 latest_moment (column row 0)) → ReadsRow row entry_moment_shown HasEntryMoment IsSoundEntered r
reads_entry_moment = reads_number 0 latest_moment entry_moment_shown entry_moment IsSoundEntered (λ e. refl) (λ e is. (zero-le, is.moment))

pub reads_void_moment : (row : Row) (r : Result ℕ RowFault) → r ≡ or_damaged (whole_in 0 latest_moment (column row 0)) → ReadsRow row void_moment_shown HasVoidMoment IsTimelyVoid r
reads_void_moment = reads_number 0 latest_moment void_moment_shown void_moment IsTimelyVoid (λ v. refl) (λ v is. (zero-le, is))
