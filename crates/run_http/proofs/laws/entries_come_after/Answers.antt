use Rattle.run_http.proofs.Copies.StayingRows.{entries_come_after as lemma}
use Rattle.run_http.proofs.laws.entries_come_after.Goals as goal

pub returns : goal.returns
returns c = lemma
