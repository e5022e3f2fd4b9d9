-- Worked examples of statements (billing reports) of meters, computed from the definitions.
use Rattle.std.proofs.Common.{◌≡◌, ℕ, ℤ, true, false, List, [], ◌∷◌, Some, None, refl, arith}
use Rattle.std.specs.Prelude.{pos, negsuc, codes}
use Rattle.std.specs.Cmp.{int_ranks}
use Rattle.std.specs.Fmt.{digits}
use Rattle.std.specs.Ordering.{int_cmp}
use Rattle.jiff_core.specs.declared.civil.date.Date.{Date}
use Rattle.jiff_core.proofs.SignedLemmas.{signed_arith}
use Rattle.jiff.specs.Words.{epoch_day}
use Rattle.energy_core.specs.Value.{unit_of}
use Rattle.energy_core.specs.declared.entries.Entry.TheVariants as step
use Rattle.energy_core.specs.declared.entries.Last.{Last}
use Rattle.energy_core.specs.declared.verdicts.Cause.{Cause}
use Rattle.energy_core.specs.declared.verdicts.Cause.TheVariants as cause
use Rattle.interval_core.specs.declared.zone.Zone.{Zone}
use Rattle.meter_journal.specs.declared.lines.EntryKind.{EntryKind}
use Rattle.meter_journal.specs.declared.lines.EntryKind.TheVariants as kind
use Rattle.office_books.specs.declared.entries.MeterEntry.{MeterEntry}
use Rattle.office_books.specs.declared.entries.MeterEntry.TheVariants as entry
use Rattle.office_events.specs.declared.facts.HeldReading.{HeldReading}
use Rattle.office_events.specs.declared.questions.Installation.{Installation}
use Rattle.energy_report.specs.declared.form.EnergyUnit.{EnergyUnit}
use Rattle.energy_report.specs.declared.form.EnergyUnit.TheVariants.{KilowattHours, MilliwattHours}
use Rattle.energy_report.specs.declared.form.Format.{Format}
use Rattle.energy_report.specs.declared.form.Format.TheVariants.{Text, Csv, Json}
use Rattle.energy_report.specs.declared.form.StatementForm.{StatementForm}
use Rattle.energy_report.specs.declared.held_counts.RejectedCounts.{RejectedCounts}
use Rattle.energy_report.specs.declared.meter_statement.MeterStatement.{MeterStatement}
use Rattle.energy_report.specs.declared.tallies.EntryTally.{EntryTally}
use Rattle.interval_core.specs.Ranges.{all_days, ends_after}
use Rattle.energy_report.specs.Held.{held_within, none_held}
use Rattle.energy_report.specs.Statements.{energy_within, tally_of, was_installed, worth_of}
use Rattle.energy_report.specs.StatementTexts.{held_some, held_text, statement_text}
use Rattle.energy_report.proofs.RangeLemmas.{not_lt}

-- An example meter that counts Wh, with a voided (cancelled) reading by hand, a reset and a reading
-- by hand.

abbrev opened : MeterEntry
opened = entry.Opening (record { at = 1000; raw = 0; sf = pos 0 })

abbrev at_place : (place : ℕ) → EntryKind → (moment raw : ℕ) → MeterEntry
at_place place k moment raw = entry.Later (record { place = place; kind = k; entry = step.Step moment raw 0; stands = true }) (pos 0)

abbrev voided : MeterEntry
voided = entry.Later (record { place = 3; kind = kind.Manual; entry = step.Step 3000 6 0; stands = false }) (pos 0)

abbrev reset : MeterEntry
reset = entry.Later (record { place = 4; kind = kind.Reset; entry = step.Change 4000 7 0 (pos 0); stands = true }) (pos 0)

abbrev entries : List MeterEntry
entries = opened ∷ at_place 2 kind.Reading 2000 5 ∷ voided ∷ reset ∷ at_place 5 kind.Manual 5000 2 ∷ []

abbrev tally : EntryTally
tally = record {
  first = Some (record { at = 1000; raw = 0; sf = pos 0 });
  last = Some (record { at = 5000; raw = 2; sf = pos 0 });
  by_hand = 1;
  resets = 1;
  rescales = 0;
  voids = 1;
  openings = 1;
  closings = 0;
}

all_entries : (zone : Zone) → tally_of zone all_days entries ≡ tally
all_entries zone = refl

-- After a reset, the last counter value in the tally (first and last entry, corrections) of a
-- meter's entries is the value to which the counter was set.
set_anew : (zone : Zone) → (tally_of zone all_days (opened ∷ reset ∷ [])).last ≡ Some (record { at = 4000; raw = 0; sf = pos 0 })
set_anew zone = refl

-- The opening (first entry) and the closing of a meter count once each. Neither is a reading by
-- hand or another correction.
opened_and_closed : (zone : Zone) → tally_of zone all_days (opened ∷ at_place 2 kind.Reading 2000 5 ∷ at_place 3 kind.Closing 3000 6 ∷ [])
    ≡ record {
      first = Some (record { at = 1000; raw = 0; sf = pos 0 });
      last = Some (record { at = 3000; raw = 6; sf = pos 0 });
      by_hand = 0;
      resets = 0;
      rescales = 0;
      voids = 0;
      openings = 1;
      closings = 1;
    }
opened_and_closed zone = refl

abbrev nothing_tallied : EntryTally
nothing_tallied = record { first = None; last = None; by_hand = 0; resets = 0; rescales = 0; voids = 0; openings = 0; closings = 0 }

-- An entry later than the last timestamp with a civil day is in no range of days.

past_the_last_moment : (zone : Zone) → tally_of zone all_days (at_place 2 kind.Manual 4102444801 5 ∷ []) ≡ nothing_tallied
past_the_last_moment zone = refl

opened_past_the_last_moment : (zone : Zone)
    → tally_of zone all_days (entry.Opening (record { at = 4102444801; raw = 0; sf = pos 0 }) ∷ at_place 2 kind.Closing 4102444802 5 ∷ []) ≡ nothing_tallied
opened_past_the_last_moment zone = refl

-- No meter was installed on a day of a range that ends on its first day.
on_no_day : (zone : Zone) (day : Date) (row : Installation) → was_installed zone (record { from = Some day; till = Some day }) row ≡ false
on_no_day zone day row =
    let empty : ends_after (Some day) day ≡ false =
    not_lt (int_cmp (epoch_day day) (epoch_day day)) (epoch_day day) (epoch_day day) (int_ranks (epoch_day day) (epoch_day day)) (omega (arith, signed_arith)) in
    rw (empty) refl

-- Example of the energy of three quarter hours: 5 Wh, then 2 Wh up to the reset, and 2 Wh after it.
all_rows : (zone : Zone) → energy_within zone all_days (record { start = 900; mwh = 5000 } ∷ record { start = 1800; mwh = 2000 } ∷ record { start = 4500; mwh = 2000 } ∷ []) ≡ 9000
all_rows zone = refl

-- Examples of the energy that the counter value 5 shows: in units of 1 Wh, 1 mWh and 1 kWh, and at
-- a scale factor out of range.

abbrev stood : ℤ → Last
stood sf = record { at = 0; raw = 5; sf = sf }

five_wh : worth_of (stood (pos 0)) ≡ 5000
unfolding unit_of
five_wh = refl

five_mwh : worth_of (stood (negsuc 2)) ≡ 5
unfolding unit_of
five_mwh = refl

five_kwh : worth_of (stood (pos 3)) ≡ 5000000
unfolding unit_of
five_kwh = refl

no_such_scale : worth_of (stood (pos 4)) ≡ 0
no_such_scale = refl

-- Examples of counts of rejected readings. Three readings were rejected because their scale factor
-- had changed. One was rejected after a gap so long that the counter could have advanced by its
-- full range.

abbrev held_at : (moment : ℕ) → Cause → HeldReading
held_at moment why = record { meter = codes "m1"; poll = 1; at = moment; raw = 5; sf = pos 0; cause = why }

abbrev holds : List HeldReading
holds = held_at 1500 cause.ScaleChanged ∷ held_at 2500 cause.GapTooLong ∷ held_at 3500 cause.ScaleChanged
    ∷ held_at 4500 cause.ScaleChanged ∷ held_at 4102444801 cause.NotAccumulated ∷ []

abbrev some_held : RejectedCounts
some_held = record {
  not_accumulated = 0;
  scale_changed = 3;
  not_later = 0;
  span_too_long = 0;
  gap_too_long = 1;
  too_fast = 0;
  total_full = 0;
  not_below_range = 0;
}

all_holds : (zone : Zone) → held_within zone all_days holds ≡ some_held
all_holds zone = refl

no_holds : (zone : Zone) → held_within zone all_days [] ≡ none_held
no_holds zone = refl

-- Example counts of rejected readings. The first cause has the largest possible count, and the
-- count of each other cause equals the numeric code of the cause.
abbrev all_held : RejectedCounts
all_held = record {
  not_accumulated = 18446744073709551615;
  scale_changed = 2;
  not_later = 3;
  span_too_long = 4;
  gap_too_long = 5;
  too_fast = 6;
  total_full = 7;
  not_below_range = 8;
}

each_cause : held_text Text all_held ≡ codes "1=18446744073709551615,2=2,3=3,4=4,5=5,6=6,7=7,8=8"
unfolding digits held_some
each_cause = refl

-- Examples of the texts of the statements (billing reports) of two meters: one with entries in the
-- range of days, and one without.

abbrev m1 : MeterStatement
m1 = record { meter = codes "m1"; entries = tally; mwh = 9000; held = some_held }

abbrev m2 : MeterStatement
m2 = record {
  meter = codes "m2";
  entries = nothing_tallied;
  mwh = 0;
  held = none_held;
}

abbrev form : EnergyUnit → Format → StatementForm
form unit format = record { range = all_days; unit = unit; format = format }

as_text : statement_text (form MilliwattHours Text) (m1 ∷ m2 ∷ [])
    ≡ codes "m1 1000 0 5000 2000 9000 1 1 0 1 2=3,5=1 1 0\nm2 - - - - 0 0 0 0 0 0 0 0\nend 2\n"
unfolding digits held_some unit_of
as_text = refl

as_table : statement_text (form KilowattHours Csv) (m1 ∷ m2 ∷ [])
    ≡ codes "meter,first,first_kwh,last,last_kwh,energy_kwh,by_hand,resets,rescales,voids,held,openings,closings\r\nm1,1000,0.000000,5000,0.002000,0.009000,1,1,0,1,2=3;5=1,1,0\r\nm2,,,,,0.000000,0,0,0,0,0,0,0\r\n"
unfolding digits held_some unit_of
as_table = refl

as_objects : statement_text (form MilliwattHours Json) (m1 ∷ m2 ∷ [])
    ≡ codes "[{\"meter\":\"m1\",\"first\":1000,\"first_mwh\":\"0\",\"last\":5000,\"last_mwh\":\"2000\",\"energy_mwh\":\"9000\",\"by_hand\":1,\"resets\":1,\"rescales\":0,\"voids\":1,\"openings\":1,\"closings\":0,\"held\":{\"2\":3,\"5\":1}},\n{\"meter\":\"m2\",\"first\":null,\"first_mwh\":null,\"last\":null,\"last_mwh\":null,\"energy_mwh\":\"0\",\"by_hand\":0,\"resets\":0,\"rescales\":0,\"voids\":0,\"openings\":0,\"closings\":0,\"held\":{}}]\n"
unfolding digits held_some unit_of
as_objects = refl

no_meter : statement_text (form MilliwattHours Json) [] ≡ codes "[]\n"
no_meter = refl
