use Rattle.std.proofs.Common.{◌≡◌, None, rules}
use Rattle.energy_report.proofs.DayLemmas.{no_ones, no_tens}
use Rattle.energy_report.proofs.spelled_day.pair_of.Goals as goal

pub returns-in_err-tens : goal.returns-in_err-tens
returns-in_err-tens c =
    let none : c.from_residual.result ≡ None = search rules in
    rw none (no_tens c.args.tens c.args.ones c.in_err-tens.ensures)

pub returns-in_err-ones : goal.returns-in_err-ones
returns-in_err-ones c =
    let none : c.from_residual-in_err-ones.result ≡ None = search rules in
    rw none (no_ones c.args.tens c.args.ones c.in_err-ones.ensures)
