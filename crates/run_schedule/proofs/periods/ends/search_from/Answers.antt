use Rattle.std.proofs.Common.{◌≡◌, arith}
use Rattle.std.specs.Prelude.{pos}
use Rattle.jiff_core.proofs.DateLemmas.{epoch_day_range}
use Rattle.jiff_core.proofs.SignedLemmas.{signed_arith}
use Rattle.jiff.specs.Words.{epoch_day}
use Rattle.run_schedule.proofs.PeriodLemmas.{as_natural, not_past}
use Rattle.run_schedule.proofs.periods.ends.search_from.Goals as goal

pub returns-in-Ok-clause-early : goal.returns-in-Ok-clause-early
returns-in-Ok-clause-early c =
    let bound = epoch_day_range c.args.last in
    let is = c.earliest_after.ensures in
    let begins : c.earliest_after.result ≡ pos c.in-Ok.begins =
    as_natural c.earliest_after.result c.in-Ok.begins (omega (arith, signed_arith, bound.0, bound.1, is), omega (arith, signed_arith, bound.0, bound.1, is))
    c.in-Ok.ensures.0 c.in-Ok.ensures.1 in
    λ zone at later below. not_past zone (epoch_day c.args.last) at (omega (arith, signed_arith, begins, is, c.max.ensures, later, below))
