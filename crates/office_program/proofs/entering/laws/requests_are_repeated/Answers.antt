use Rattle.office_program.proofs.EnteringLemmas.Repeats.{requests_are_repeated as lemma}
use Rattle.office_program.proofs.entering.laws.requests_are_repeated.Goals as goal

pub returns : goal.returns
returns c = lemma
