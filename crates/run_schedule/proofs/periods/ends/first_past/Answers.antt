use Rattle.std.proofs.Common.{ℕ, ◌<◌, arith}
use Rattle.std.specs.Prelude.{◌≤ℤ◌}
use borrow.Author.Count.{below_more}
use Rattle.jiff.specs.Words.{epoch_day}
use Rattle.interval_core.specs.Zone.{day_at}
use Rattle.run_schedule.proofs.periods.ends.first_past.Goals as goal

pub loop-at-init : goal.loop-at-init
loop-at-init c = record {
  later = c.search_from-at.ensures.later;
  none = λ at below later. c.search_from-at.ensures.early c.args.zone.now at later below;
}

pub loop-at-preserved : goal.loop-at-preserved
loop-at-preserved c = record {
  later = omega (arith, c.loop-at.invariant.later);
  none = below_more (λ (at : ℕ). c.args.moment < at → day_at c.args.zone.now at ≤ℤ epoch_day c.args.last) c.loop-at.at c.loop-at.invariant.none
      (λ later. c.is_past.ensures.not_later c.if-is_past.false);
}

pub returns-then-is_past : goal.returns-then-is_past
returns-then-is_past c = record {
  later = c.loop-at.invariant.later;
  bound = omega arith;
  past = c.is_past.ensures.later c.if-is_past.true;
  first = λ at later below. c.loop-at.invariant.none at below later;
}

pub returns : goal.returns
returns c = λ at later bound. c.loop-at.invariant.none at (omega (arith, bound)) later
