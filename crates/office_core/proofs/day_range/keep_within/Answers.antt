use Rattle.std.proofs.Common.{rules}
use Rattle.std.proofs.lemmas.Fn.{filter_same}
use Rattle.interval_core.specs.Ranges.{is_in}
use Rattle.interval_core.specs.declared.totals.DayTotal.{DayTotal}
use Rattle.office_core.proofs.day_range.keep_within.Goals as goal

pub returns : goal.returns
returns c = filter_same _ (λ (total : DayTotal). is_in c.args.range.now total.day) _ (λ x b f r. (search rules, search rules)) _ _ c.retain.ensures.filtered
