use Rattle.office_program.specs.Entering.Lines.{reporting_of}
use Rattle.office_program.proofs.EnteringLemmas.Repeats.{inputs_act_once as lemma}
use Rattle.office_program.proofs.entering.laws.inputs_act_once.Goals as goal

pub returns : goal.returns
returns g c = lemma (reporting_of g.F.NamedFiles c.args.files.now)
