use Rattle.std.proofs.Common.{◌<◌, arith}
use Rattle.run_schedule.proofs.FolderLemmas.{not_earlier}
use Rattle.run_schedule.proofs.periods.folders.earlier_period.Goals as goal

pub returns-else-number_in : goal.returns-else-number_in
returns-else-number_in c =
    not_earlier c.args.file.now c.args.length c.args.current.now c.args.name.now c.in-Some.text.now c.in-Some.ensures
    (λ before. omega (arith, before, c.if-number_in.false, c.number_in.ensures, c.number_in-in-Some.ensures))
