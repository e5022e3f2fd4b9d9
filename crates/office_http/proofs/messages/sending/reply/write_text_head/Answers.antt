use Rattle.office_http.proofs.MessagesLemmas.SendingLemmas.Giving.{Puts-then}
use Rattle.office_http.proofs.messages.sending.reply.write_text_head.Goals as goal

pub returns : goal.returns
returns g c = Puts-then c.write_status.ensures c.write_bytes.ensures
