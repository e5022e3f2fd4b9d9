use Rattle.table_seals.proofs.PollsStaying.{polls_stay as lemma}
use Rattle.table_seals.proofs.laws.polls_stay.Goals as goal

pub returns : goal.returns
returns c = lemma
