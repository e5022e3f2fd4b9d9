use Rattle.run_http.proofs.Copies.StayingRows.{rows_before_stay as lemma}
use Rattle.run_http.proofs.laws.rows_before_stay.Goals as goal

pub returns : goal.returns
returns c = lemma c.shares_add_up.ensures
