use Rattle.energy_report.proofs.PeriodLemmas.{day_of_parts}
use Rattle.energy_report.proofs.form.Period.last_day.Goals as goal
