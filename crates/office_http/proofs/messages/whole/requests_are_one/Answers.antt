use Rattle.office_http.proofs.MessagesLemmas.WholeLemmas.Unique.{one_request}
use Rattle.office_http.proofs.messages.whole.requests_are_one.Goals as goal

pub returns : goal.returns
returns c = one_request
