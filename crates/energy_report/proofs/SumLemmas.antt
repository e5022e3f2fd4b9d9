-- Lemmas: the counts and energies of a report's rows add up to those of the report's days.
use Rattle.std.proofs.Common.{◌≡◌, ℕ, ◌+◌, Bool, true, false, cond, List, [], ◌∷◌, refl, sym, ◌∙◌, ap, add_assoc}
use Rattle.std.specs.Prelude.{sum_by}
use Rattle.std.proofs.lemmas.List.Sums.{sum_by-cons}
use Rattle.interval_core.specs.declared.totals.DayTotal.{DayTotal}
use Rattle.energy_report.specs.declared.form.Period.{Period}
use Rattle.energy_report.specs.declared.row.Row.{Row}
use Rattle.energy_report.specs.Periods.{is_same}
use Rattle.energy_report.specs.Rows.{before, joined, row_of, rows_by}

-- True if the value of a function for two merged report rows is the sum of its values for the two
-- rows. This is so for the number of quarter hours and for the energy.
abbrev pub Adds : (Row → ℕ) → Type 0
Adds f = (row next : Row) → f (joined row next) ≡ f row + f next

either_way : (f : Row → ℕ) → Adds f → (b : Bool) (row next : Row) (rows : List Row)
    → sum_by f (cond b (joined row next ∷ rows) (row ∷ next ∷ rows)) ≡ f row + sum_by f (next ∷ rows)
either_way f adds true row next rows =
    sum_by-cons f (joined row next) rows ∙ ap (λ n. n + sum_by f rows) (adds row next)
    ∙ add_assoc (f row) (f next) (sum_by f rows) ∙ ap (λ n. f row + n) (sym (sum_by-cons f next rows))
either_way f adds false row next rows = sum_by-cons f row (next ∷ rows)

pub sum-before : (f : Row → ℕ) → Adds f → (p : Period) (row : Row) (rows : List Row)
    → sum_by f (before p row rows) ≡ f row + sum_by f rows
sum-before f adds p row [] = sum_by-cons f row []
sum-before f adds p row (next ∷ rows) = either_way f adds (is_same p row.first next.first) row next rows

pub sums : (f : Row → ℕ) (g : DayTotal → ℕ) → Adds f → ((total : DayTotal) → f (row_of total) ≡ g total)
    → (p : Period) (days : List DayTotal) → sum_by f (rows_by p days) ≡ sum_by g days
sums f g adds alike p [] = refl
sums f g adds alike p (total ∷ days) =
    sum-before f adds p (row_of total) (rows_by p days)
    ∙ ap (λ n. n + sum_by f (rows_by p days)) (alike total)
    ∙ ap (λ n. g total + n) (sums f g adds alike p days) ∙ sym (sum_by-cons g total days)
