-- Worked examples of checked table rows and compared interval rows (energies by quarter hour),
-- computed from the definitions.
use Rattle.std.proofs.Common.{◌≡◌, ℕ, ℤ, pos, Bool, true, false, [], ◌∷◌, Some, None, Ok, Err, refl}
use Rattle.energy_core.specs.declared.entries.Last.{Last}
use Rattle.energy_core.specs.declared.entries.Entry.{Entry}
use Rattle.energy_core.specs.declared.entries.Entry.TheVariants as entry
use Rattle.energy_core.specs.declared.admission.TermFault.TheVariants as term
use Rattle.energy_core.specs.declared.verdicts.Cause.TheVariants as cause
use Rattle.energy_core.specs.Value.{unit_of}
use Rattle.interval_core.specs.declared.shares.Share.{Share}
use Rattle.meter_journal.specs.declared.lines.Installed.{Installed}
use Rattle.meter_journal.specs.declared.lines.EntryKind.{EntryKind}
use Rattle.meter_journal.specs.declared.lines.EntryKind.TheVariants as kind
use Rattle.meter_journal.specs.declared.lines.EntryRow.{EntryRow}
use Rattle.meter_journal.specs.declared.audit.checks.Check.{Check}
use Rattle.meter_journal.specs.declared.audit.faults.RowFault.TheVariants as fault
use Rattle.meter_journal.specs.declared.audit.intervals.IntervalFault.TheVariants as interval
use Rattle.meter_journal.specs.declared.audit.rows.RowKind.{RowKind}
use Rattle.meter_journal.specs.declared.audit.rows.RowKind.TheVariants as row_kind
use Rattle.meter_journal.specs.declared.audit.rows.TableRow.{TableRow}
use Rattle.meter_journal.specs.Audit.Rows.{opening_row}
use Rattle.meter_journal.specs.Audit.Fitting.{AreFine}
use Rattle.meter_journal.specs.Audit.Passing.{begun, passed}
use Rattle.meter_journal.specs.Audit.Comparing.{next_fault}

-- A meter with a 32-bit counter and a ceiling (maximum power) of 100 kW. The meter showed 5000
-- counts at 1000 s.
abbrev house : Installed
house = record { range = 4294967296; ceiling = 100000; opening = record { at = 1000; raw = 5000; sf = pos 0 } }

abbrev reported : (place : ℕ) → RowKind → (moment raw rolls after : ℕ) → ℤ → Bool → TableRow
reported place k moment raw rolls after sf v = record {
  place = place;
  kind = k;
  moment = moment;
  raw = raw;
  rolls = rolls;
  after = after;
  sf = sf;
  is_voided = v;
}

abbrev share : (start mwh : ℕ) → Share
share start mwh = record { start = start; mwh = mwh }

abbrev last : (at raw : ℕ) → ℤ → Last
last at raw sf = record { at = at; raw = raw; sf = sf }

abbrev check_as : (place : ℕ) → Last → (total : ℕ) → (ended stands : Bool) → Check
check_as place l total ended stands =
    record { place = place; last = l; total = total; is_ended = ended; stands = stands }

abbrev check : (place : ℕ) → Last → (total : ℕ) → (ended : Bool) → Check
check place l total ended = check_as place l total ended true

-- The table row of a meter's first reading, which is 200 Wh above its opening (the first count of
-- the meter).
abbrev first : TableRow
first = reported 2 row_kind.Reading 1900 5200 0 0 (pos 0) false

after_first : passed house (begun house) first
    ≡ Ok (check 2 (last 1900 5200 (pos 0)) 200000 false, Some (record { from = 1000; till = 1900; mwh = 200000 }))
unfolding unit_of
after_first = refl

abbrev row : (place : ℕ) → EntryKind → Entry → Bool → EntryRow
row place k e stands = record { place = place; kind = k; entry = e; stands = stands }

fine_tables : AreFine house (record {
  entries = first ∷ opening_row house.opening ∷ [];
  intervals = share 900 177777 ∷ share 1800 22223 ∷ [];
  last = last 1900 5200 (pos 0);
  total = 200000;
  ended = false;
})
unfolding unit_of
fine_tables = record {
  rows = row 2 kind.Reading (entry.Step 1900 5200 0) true ∷ [];
  fit = (
    record {
      place = refl;
      unended = refl;
      entry = record { step = 200000; accepted = refl };
      voided_after = λ off. absurd (let f : true ≡ false = off in cc);
    },
    tt,
  );
  are = refl;
}

-- Examples of a first reading that is voided (cancelled), and of the reading after it.
-- `voided_first` is the table row of the voided reading.
abbrev voided_first : TableRow
voided_first = reported 2 row_kind.Reading 1900 5200 0 0 (pos 0) true

after_voided : passed house (begun house) voided_first ≡ Ok (check_as 2 (last 1000 5000 (pos 0)) 0 false false, None)
unfolding unit_of
after_voided = refl

-- The check of a meter's table rows applies the rules of a valid reading to a voided (cancelled)
-- reading only if the row before the reading is valid.
voided_too_fast : passed house (begun house) (reported 2 row_kind.Reading 1900 50000 0 0 (pos 0) true) ≡ Err (fault.Held cause.TooFast)
unfolding unit_of
voided_too_fast = refl

voided_after_a_voided : passed house (check_as 2 (last 1000 5000 (pos 0)) 0 false false) (reported 3 row_kind.Reading 1900 50000 0 0 (pos 0) true)
    ≡ Ok (check_as 3 (last 1000 5000 (pos 0)) 0 false false, None)
voided_after_a_voided = refl

-- A closing (the last entry of a meter) passes the check of a meter's table rows, and no row may
-- follow it.
closed : passed house (begun house) (reported 2 row_kind.Closing 1900 5200 0 0 (pos 0) false)
    ≡ Ok (check 2 (last 1900 5200 (pos 0)) 200000 true, Some (record { from = 1000; till = 1900; mwh = 200000 }))
unfolding unit_of
closed = refl

after_a_closing : passed house (check 2 (last 1900 5200 (pos 0)) 200000 true) (reported 3 row_kind.Reading 2800 5300 0 0 (pos 0) false)
    ≡ Err fault.AfterClosing
after_a_closing = refl

-- A rescale entry may change the counter's scale factor, and a reset entry may not.
rescaled : passed house (begun house) (reported 2 row_kind.Rescale 2000 5000 0 500 (pos 1) false)
    ≡ Ok (check 2 (last 2000 500 (pos 1)) 0 false, Some (record { from = 1000; till = 2000; mwh = 0 }))
unfolding unit_of
rescaled = refl

reset_to_a_scale : passed house (begun house) (reported 2 row_kind.Reset 2000 5000 0 500 (pos 1) false) ≡ Err (fault.Scale (pos 0))
reset_to_a_scale = refl

-- Examples of table rows that the check of a meter's rows refuses, one for each fault that no
-- earlier example has.
a_gap : passed house (begun house) (reported 3 row_kind.Reading 1900 5200 0 0 (pos 0) false) ≡ Err (fault.Place 2)
a_gap = refl

opened_again : passed house (begun house) (reported 2 row_kind.Opening 1900 5200 0 0 (pos 0) false) ≡ Err fault.OpenedAgain
opened_again = refl

a_closing_is_voided : passed house (begun house) (reported 2 row_kind.Closing 1900 5200 0 0 (pos 0) true) ≡ Err fault.CannotBeVoided
a_closing_is_voided = refl

a_reading_has_an_after : passed house (begun house) (reported 2 row_kind.Reading 1900 5200 0 7 (pos 0) false) ≡ Err fault.Unused
a_reading_has_an_after = refl

a_rollover_too_many : passed house (begun house) (reported 2 row_kind.Reading 1900 5200 1 0 (pos 0) false) ≡ Err (fault.Rolls 0)
unfolding unit_of
a_rollover_too_many = refl

too_fast : passed house (begun house) (reported 2 row_kind.Reading 1900 50000 0 0 (pos 0) false) ≡ Err (fault.Held cause.TooFast)
unfolding unit_of
too_fast = refl

by_hand_it_may_be : passed house (begun house) (reported 2 row_kind.Manual 1900 50000 0 0 (pos 0) false)
    ≡ Ok (check 2 (last 1900 50000 (pos 0)) 45000000 false, Some (record { from = 1000; till = 1900; mwh = 45000000 }))
unfolding unit_of
by_hand_it_may_be = refl

it_went_back : passed house (begun house) (reported 2 row_kind.Manual 1900 4999 0 0 (pos 0) false) ≡ Err (fault.Refused term.NegativeStep)
it_went_back = refl

-- Examples of differences between lists of interval rows (energies by quarter hour), and of equal
-- lists.
one_is_changed : next_fault (share 900 177777 ∷ share 1800 22223 ∷ []) (share 900 177778 ∷ share 1800 22223 ∷ [])
    ≡ Some (interval.Differs 900 177778 177777)
one_is_changed = refl

one_is_gone : next_fault (share 900 177777 ∷ share 1800 22223 ∷ []) (share 1800 22223 ∷ []) ≡ Some (interval.Missing 900 177777)
one_is_gone = refl

one_too_many : next_fault [] (share 2700 1 ∷ []) ≡ Some (interval.Unwanted 2700 1)
one_too_many = refl
