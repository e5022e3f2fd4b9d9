use Rattle.run_schedule.proofs.LedLemmas.{reported_by_other}
use Rattle.run_schedule.proofs.periods.led.name_by_length.Goals as goal

pub returns-in-None : goal.returns-in-None
returns-in-None c =
    reported_by_other c.args.file.now c.args.length c.args.name.now c.period_of_file-in-None.result c.in-None.ensures
    (rw c.other_length.ensures at c.period_of_file-in-None.ensures)
