use Rattle.office_http.proofs.MessagesLemmas.FewRows.{reported_few}
use Rattle.office_http.proofs.messages.commands.given.put_list.Goals as goal

pub returns-in-Err-Faults-clause-few : goal.returns-in-Err-Faults-clause-few
returns-in-Err-Faults-clause-few c =
    let is = rw c.in-Err-Faults.field-0-is at c.in-Err-Faults.ensures.faults in
    rw c.in-Err-Faults.field-0-is (reported_few _ _ is)
