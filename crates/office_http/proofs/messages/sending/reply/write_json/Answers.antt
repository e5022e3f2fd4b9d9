use Rattle.office_http.proofs.MessagesLemmas.SendingLemmas.Giving.{Puts-then}
use Rattle.office_http.proofs.messages.sending.reply.write_json.Goals as goal

pub returns : goal.returns
returns g c = Puts-then (Puts-then (Puts-then (Puts-then c.write_status.ensures c.write_bytes.ensures) c.write_number.ensures) c.write_bytes-2.ensures) c.write_bytes-3.ensures
