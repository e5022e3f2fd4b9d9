use Rattle.office_http.proofs.One.{one_reply}
use Rattle.office_http.proofs.laws.replies_are_one.Goals as goal

pub returns : goal.returns
returns c = one_reply c.bodies_give_one_command.ensures
