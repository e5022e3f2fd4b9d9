use Rattle.office_http.proofs.MessagesLemmas.WholeLemmas.Unique.{start_one}
use Rattle.office_http.proofs.messages.whole.parses_agree.Goals as goal

pub returns-clause-start : goal.returns-clause-start
returns-clause-start c = (start_one c.args.bytes.now c.args.one.now c.args.other.now c.requires.one c.requires.other).0

pub returns-clause-len : goal.returns-clause-len
returns-clause-len c = (start_one c.args.bytes.now c.args.one.now c.args.other.now c.requires.one c.requires.other).1
