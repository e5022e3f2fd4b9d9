-- Lemmas that a meter's recorded energy follows from the meter's readings, rollovers, resets and
-- changes of scale.
use Rattle.std.proofs.Common.{◌≡◌, ℕ, ◌+◌, ◌*◌, List, [], ◌∷◌, get_or, refl, arith}
use Rattle.std.specs.Prelude.{ℤ, pos, ◌+ℤ◌, ◌-ℤ◌}
use Rattle.std.proofs.lemmas.Int.{ints}
use Rattle.std.proofs.lemmas.List.Elements.{Contains-get_or}
use Rattle.energy_core.specs.declared.entries.Last.{Last}
use Rattle.energy_core.specs.declared.entries.Entry.{Entry}
use Rattle.energy_core.specs.declared.entries.Entry.TheVariants as entry
use Rattle.energy_core.specs.Value.{unit_of, value_of}
use Rattle.energy_core.specs.Account.{last_of, recorded, set_anew}
use Rattle.interval_core.specs.Account.{energy_of}
use Rattle.office_events.specs.declared.facts.Opening.{Opening}
use Rattle.office_events.specs.declared.facts.Fact.{Fact}
use Rattle.office_books.specs.Facts.{openings_in}
use Rattle.office_books.specs.Intervals.{rows_of_opening}
use Rattle.office_books.specs.Meters.{opened, entries_of, installation_of}
use Rattle.office_books.specs.History.{History, facts_of}
use Rattle.office_books.specs.Laws.{IsKept}
use Rattle.office_books.specs.Lawfulness.{AreTrue}
use Rattle.office_core.specs.Headline.{full_ranges, differences, AddsUp, HeadlineHolds}

rolled : (x r s f : ℕ) (d : ℤ) → pos r -ℤ pos s ≡ pos f +ℤ d → pos (x + r) -ℤ pos s ≡ pos (x + f) +ℤ d
rolled x r s f d h = omega (arith, ints)

changed : (before after r s f : ℕ) (d : ℤ) → pos r -ℤ pos s ≡ pos f +ℤ d
    → pos (before + r) -ℤ pos (after + s) ≡ pos f +ℤ (pos before -ℤ pos after +ℤ d)
changed before after r s f d h = omega (arith, ints)

-- The energy that a meter's entries record, minus the values to which these entries set the
-- counter, equals the sum of two terms. The terms are the full ranges of the rollovers, and the
-- differences (old value minus new value) at resets and changes of scale.
recorded_is : (range : ℕ) (first : Last) (es : List Entry)
    → pos (recorded range first es) -ℤ pos (set_anew es) ≡ pos (full_ranges range first es) +ℤ differences first es
recorded_is range first [] = refl
recorded_is range first (entry.Step at raw rolls ∷ es) =
    rolled (rolls * range * unit_of (last_of first es).sf) _ _ _ _ (recorded_is range first es)
recorded_is range first (entry.Change at before after sf ∷ es) =
    changed (before * unit_of (last_of first es).sf) (after * unit_of sf) _ _ _ _ (recorded_is range first es)

balanced : (booked total last first r s f : ℕ) (d : ℤ) → booked ≡ total → total + first + s ≡ last + r → pos r -ℤ pos s ≡ pos f +ℤ d
    → pos booked ≡ pos last -ℤ pos first +ℤ pos f +ℤ d
balanced booked total last first r s f d is sum split = omega (arith, ints)

adds_up : (facts : List Fact) (meter : Opening) → IsKept facts meter → AddsUp facts meter
adds_up facts meter kept =
    balanced (energy_of (rows_of_opening facts meter)) (installation_of facts meter).total (value_of (last_of (opened meter) (entries_of facts meter)))
    (value_of (opened meter)) (recorded meter.range (opened meter) (entries_of facts meter)) (set_anew (entries_of facts meter)) _ _
    kept.sum kept.energy (recorded_is meter.range (opened meter) (entries_of facts meter))

pub headline : (history : History) → AreTrue history → HeadlineHolds history
headline history true = record {
  polls = true.polls;
  meters = λ k d less.
      let facts = facts_of history in
      let meter = get_or (openings_in facts) k d in
      adds_up facts meter (true.kept meter (Contains-get_or (openings_in facts) k d less));
}
