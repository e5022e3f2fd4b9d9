use Rattle.run_http.proofs.ReplyLemmas.Pieces.{text_stays as lemma}
use Rattle.run_http.proofs.pieces.text_stays.Goals as goal

pub returns : goal.returns
returns c = lemma c.shares_add_up.ensures
