use Rattle.std.proofs.Common.{◌≡◌, map, take}
use Rattle.energy_report.specs.declared.form.Period.TheVariants.{Month}
use Rattle.energy_report.specs.Rows.{rows_by, shown}
use Rattle.table_seals.proofs.months.month_rows.Given as goal

abbrev pub invariant-loop-day : goal.invariant-loop-day
invariant-loop-day l = l.rows.items ≡ map shown (rows_by Month (take l.day-index l.days))
