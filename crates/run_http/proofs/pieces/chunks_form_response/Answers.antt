use Rattle.run_http.proofs.ReplyLemmas.Pieces.{chunks_form_response as lemma}
use Rattle.run_http.proofs.pieces.chunks_form_response.Goals as goal

pub returns : goal.returns
returns c = lemma c.shares_add_up.ensures
