use Rattle.office_http.proofs.MessagesLemmas.HeadLemmas.Naming.{same_test}
use Rattle.office_http.proofs.messages.head.headers.same_name.Goals as goal

pub returns : goal.returns
returns c = same_test c.eq_ignore_ascii_case.result _ _ c.eq_ignore_ascii_case.ensures.test
