use Rattle.command_words.proofs.Refusals.{refusal_due}
use Rattle.command_words.proofs.words.command_of.Goals as goal

pub returns-in-Err-clause-fault : goal.returns-in-Err-clause-fault
returns-in-Err-clause-fault c = refusal_due c.args.words.now c.in-Err.error.kind c.refusal.result c.in-Err.ensures.fails c.refusal.ensures
