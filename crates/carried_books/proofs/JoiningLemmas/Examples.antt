-- A worked example of a meter in two database files. The meter was read in an old file, and
-- continues in a new file, where it was read by hand.
use Rattle.std.proofs.Common.{◌≡◌, ℕ, pos, List, [], ◌∷◌, Some, inl, inr, refl, arith}
use Rattle.std.specs.Prelude.{codes}
use Rattle.energy_core.specs.Value.{unit_of}
use Rattle.energy_core.specs.declared.entries.Entry.TheVariants as entry
use Rattle.energy_report.specs.Held.{none_held}
use Rattle.interval_core.specs.Ranges.{all_days}
use Rattle.interval_core.specs.declared.zone.Zone.{Zone}
use Rattle.mb_wire.specs.declared.span.ReadFunction.TheVariants.{InputRegisters}
use Rattle.meter_journal.specs.declared.lines.EntryKind.TheVariants as kind
use Rattle.office_events.specs.declared.facts.Device.{Device}
use Rattle.office_events.specs.declared.facts.Fact.{Fact}
use Rattle.office_events.specs.declared.facts.Fact.TheVariants as fact
use Rattle.office_events.specs.declared.facts.Opening.{Opening}
use Rattle.office_events.specs.declared.facts.Register.{Register}
use Rattle.office_events.specs.declared.facts.ScaleSource.TheVariants as source
use Rattle.office_books.specs.Meters.{installation_of}
use Rattle.carried_books.specs.Joining.Statements.{AreMetersOver, MeterOver, both_of, meter_in, statement_over}

abbrev main : List ℕ
main = codes "main"

abbrev device : Device
device = record { name = codes "roof"; unit = 17; timeout = 5; window = 2 }

abbrev register : Register
register = record { name = main; device = codes "roof"; function = InputRegisters; address = 40; scale = source.Register 42 }

abbrev opening : (at raw : ℕ) → Opening
opening at raw = record { meter = codes "m1"; register = main; ceiling = 100000; range = 65536; at = at; raw = raw; sf = pos 0 }

-- In the example of a meter in two database files, the records of the old file. The meter was
-- opened at timestamp 1000, and showed 10 Wh at 1900.
abbrev old : List Fact
old =
    fact.Entry (record { meter = codes "m1"; kind = kind.Reading; entry = entry.Step 1900 10 0 })
    ∷ fact.Opening (opening 1000 0)
    ∷ fact.Register register
    ∷ fact.Device device
    ∷ []

-- In the example of a meter in two database files, the records of the new file. The meter was
-- opened at timestamp 1900 with 10 Wh, and showed 25 Wh at 2800, read by hand.
abbrev new : List Fact
new =
    fact.Entry (record { meter = codes "m1"; kind = kind.Manual; entry = entry.Step 2800 25 0 })
    ∷ fact.Opening (opening 1900 10)
    ∷ fact.Register register
    ∷ fact.Device device
    ∷ []

abbrev in_old : MeterOver
in_old = meter_in old (installation_of old (opening 1000 0))

abbrev in_new : MeterOver
in_new = meter_in new (installation_of new (opening 1900 10))

-- In the example of a meter in two database files, the old and the new file join, which means that
-- together they have one history of the meter.
one_meter : AreMetersOver main (new ∷ old ∷ []) (both_of in_old in_new ∷ [])
unfolding unit_of
one_meter = record {
  recorded = (λ is. refl, (λ is. refl, tt));
  joined = (
    in_old ∷ [],
    inr (record { earlier = λ k d less. absurd (omega (arith, less)); after_is = refl }),
    (
      both_of in_old in_new ∷ [],
      inl (record {
        before = [];
        one = in_old;
        known_is = refl;
        goes = record { name = refl; goes = record { unended = refl; range = refl; ceiling = refl; opening = refl } };
        after_is = refl;
      }),
      refl,
    ),
  );
}

-- The statement (report) of the meter begins with its opening (first entry) in the old file, and
-- ends with the reading by hand in the new file. The opening in the new file repeats the last entry
-- of the old file, and is not counted.
stated : (zone : Zone) → statement_over zone all_days (both_of in_old in_new) ≡ record {
  meter = codes "m1";
  entries = record {
    first = Some (record { at = 1000; raw = 0; sf = pos 0 });
    last = Some (record { at = 2800; raw = 25; sf = pos 0 });
    by_hand = 1;
    resets = 0;
    rescales = 0;
    voids = 0;
    openings = 1;
    closings = 0;
  };
  mwh = 25000;
  held = none_held;
}
unfolding unit_of
stated zone = refl
