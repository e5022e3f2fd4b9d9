use Rattle.std.proofs.Common.{rules, ◌≡◌, ◌++◌, ◌∷◌, [], List, map, true, false, sym, ap, ◌∙◌}
use Rattle.interval_core.specs.declared.totals.DayTotal.{DayTotal}
use Rattle.energy_report.specs.declared.form.Period.TheVariants.{Month}
use Rattle.energy_report.specs.declared.row.Row.{Row}
use Rattle.energy_report.specs.Periods.{is_same}
use Rattle.energy_report.specs.Rows.{joined, row_of, rows_by, shown}
use Rattle.energy_report.proofs.SnocLemmas.{rows-push}
use Rattle.table_seals.proofs.MonthSums.{begun, merged, opened}
use Rattle.table_seals.proofs.months.add_day.Goals as goal

pub returns-in_default : goal.returns-in_default
returns-in_default c = λ days old.
    let day : DayTotal = c.args.day.now in
    let none : c.args.rows.now.items ≡ [] = search rules in
    let now : c.push.new.self.items ≡ shown (row_of day) ∷ [] = search rules in
    now ∙ sym (opened (rows_by Month days) day (sym old ∙ none)) ∙ sym (ap (map shown) (rows-push Month days day))

pub returns-then-has_both : goal.returns-then-has_both
returns-then-has_both c = λ days old.
    let day : DayTotal = c.args.day.now in
    let done : List Row = c.pop.new.self.items in
    let was : c.args.rows.now.items ≡ done ++ c.in-Some.last ∷ [] = search rules in
    let same : is_same Month c.in-Some.last.first day.day ≡ true = search rules in
    let now : c.push-then-has_both.new.self.items ≡ done ++ shown (joined c.in-Some.last (row_of day)) ∷ [] = search rules in
    now ∙ sym (merged (rows_by Month days) done c.in-Some.last day (sym old ∙ was) same) ∙ sym (ap (map shown) (rows-push Month days day))

pub returns : goal.returns
returns c = λ days old.
    let day : DayTotal = c.args.day.now in
    let done : List Row = c.pop.new.self.items in
    let was : c.args.rows.now.items ≡ done ++ c.in-Some.last ∷ [] = search rules in
    let other : is_same Month c.in-Some.last.first day.day ≡ false = search rules in
    let now : c.push-3.new.self.items ≡ (done ++ c.in-Some.last ∷ []) ++ shown (row_of day) ∷ [] = search rules in
    now ∙ sym (begun (rows_by Month days) done c.in-Some.last day (sym old ∙ was) other) ∙ sym (ap (map shown) (rows-push Month days day))
