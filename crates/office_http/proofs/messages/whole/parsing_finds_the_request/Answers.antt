use Rattle.office_http.proofs.MessagesLemmas.WholeLemmas.Unique.{request_of_whole}
use Rattle.office_http.proofs.messages.whole.parsing_finds_the_request.Goals as goal

pub returns : goal.returns
returns c = request_of_whole c.args.router.now c.args.bytes.now c.args.head.now c.requires
