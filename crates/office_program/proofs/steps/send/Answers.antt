use Rattle.office_program.proofs.Wires.{part_given}
use Rattle.office_program.proofs.steps.send.Goals as goal

pub returns-in-Err-clause-given : goal.returns-in-Err-clause-given
returns-in-Err-clause-given g c = part_given _ _ c.args.frames.now c.in-Err.ensures.given
