-- The lemma that adding up the energies of interval rows (quarter hours) one by one gives the
-- energy of the rows in the range of days.
use Rattle.std.proofs.Common.{◌≡◌, ℕ, ◌+◌, ◌-◌, ◌≤◌, ◌^◌, Bool, true, false, cond, List, [], ◌∷◌, sym, ◌∙◌, ap, subst, add_assoc, add-zero, arith}
use Rattle.std.specs.Prelude.{filter, min}
use Rattle.std.specs.List.{sum_by}
use Rattle.std.proofs.Math.Nat.{min-eq_left, min-le_right}
use Rattle.std.proofs.lemmas.List.Sums.{sum_by-cons}
use Rattle.interval_core.specs.declared.shares.Share.{Share}
use Rattle.interval_core.specs.declared.zone.Zone.{Zone}
use Rattle.office_books.specs.Rows.{TakesAll}
use Rattle.energy_report.specs.declared.energy_within.EnergyWithin.{EnergyWithin}
use Rattle.interval_core.specs.declared.day_range.DayRange.{DayRange}
use Rattle.energy_report.specs.Energies.{AddsShare, IsFresh}
use Rattle.interval_core.specs.Ranges.{has_moment}
use Rattle.energy_report.specs.Statements.{energy_within}
use Rattle.energy_report.proofs.SnocLemmas.{capped}

abbrev most : ℕ
most = 2 ^ 128 - 1

abbrev has : Zone → DayRange → Share → Bool
has zone range row = has_moment zone range row.start

abbrev sum_of : Zone → DayRange → List Share → ℕ
sum_of zone range rows = sum_by (λ row. row.mwh) (filter (has zone range) rows)

chosen : (b : Bool) (row : Share) (rows : List Share)
    → sum_by (λ r. r.mwh) (cond b (row ∷ rows) rows) ≡ cond b row.mwh 0 + sum_by (λ r. r.mwh) rows
chosen true row rows = sum_by-cons (λ r. r.mwh) row rows
chosen false row rows = omega arith

within : (zone : Zone) (range : DayRange) (rows : List Share) (from to : EnergyWithin) → from.zone ≡ zone → from.range ≡ range → from.mwh ≤ most
    → TakesAll AddsShare from rows to → to.mwh ≡ min (from.mwh + sum_of zone range rows) most
within zone range [] from to z r fits took =
    ap (λ (s : EnergyWithin). s.mwh) took ∙ sym (min-eq_left fits) ∙ ap (λ n. min n most) (sym (add-zero from.mwh))
within zone range (row ∷ rows) from to z r fits took =
    let next = took.0 in
    let here : next.mwh ≡ min (from.mwh + cond (has zone range row) row.mwh 0) most =
    took.1.mwh ∙ ap (λ zone. min (from.mwh + cond (has zone from.range row) row.mwh 0) most) z
    ∙ ap (λ range. min (from.mwh + cond (has zone range row) row.mwh 0) most) r in
    let few : next.mwh ≤ most =
    subst (λ n. n ≤ most) (sym here) (min-le_right (from.mwh + cond (has zone range row) row.mwh 0) most) in
    within zone range rows next to (took.1.zone ∙ z) (took.1.range ∙ r) few took.2
    ∙ ap (λ n. min (n + sum_of zone range rows) most) here
    ∙ capped most (from.mwh + cond (has zone range row) row.mwh 0) (sum_of zone range rows)
    ∙ ap (λ n. min n most) (add_assoc from.mwh (cond (has zone range row) row.mwh 0) (sum_of zone range rows)
    ∙ ap (λ n. from.mwh + n) (sym (chosen (has zone range row) row (filter (has zone range) rows))))

-- After an `EnergyWithin` accumulator receives interval rows (energies of quarter hours), its sum
-- is the energy of those rows that start in its range of days.
pub added_up : (zone : Zone) (range : DayRange) (rows : List Share) (from to : EnergyWithin) → IsFresh zone range from
    → TakesAll AddsShare from rows to → to.mwh ≡ energy_within zone range rows
added_up zone range rows from to fresh took =
    within zone range rows from to fresh.zone_is fresh.range_is (subst (λ n. n ≤ most) (sym fresh.none) (omega arith)) took
    ∙ ap (λ n. min (n + sum_of zone range rows) most) fresh.none
    ∙ ap (λ n. min n most) (let e : 0 + sum_of zone range rows ≡ sum_of zone range rows = omega arith in e)
