use Rattle.std.proofs.Common.{refl}
use Rattle.interval_core.specs.Ranges.{days_in}
use Rattle.energy_report.proofs.SumLemmas.{sums}
use Rattle.energy_report.proofs.laws.rows_add_up.Goals as goal

pub returns : goal.returns
returns c = λ form days. (
  sums (λ row. row.mwh) (λ total. total.mwh) (λ row next. refl) (λ total. refl) form.period (days_in form.range days),
  sums (λ row. row.count) (λ total. total.count) (λ row next. refl) (λ total. refl) form.period (days_in form.range days),
)
