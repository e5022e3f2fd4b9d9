use Rattle.std.proofs.Common.{◌<◌, arith}
use Rattle.run_schedule.proofs.periods.courses.course_at.Goals as goal

pub returns-in-Ok : goal.returns-in-Ok
returns-in-Ok c = record {
  on_a_day = λ within. (c.in-Ok.day, c.in-Ok.ensures.day, c.course_on.ensures);
  after_all_days = λ after. absurd (omega (arith, after, c.if-now-gt-LAST_MOMENT.false));
}
