use Rattle.file_commands.proofs.Audited.{apart_more}
use Rattle.file_commands.proofs.audits.+twice.Goals as goal

pub returns-else-is_in : goal.returns-else-is_in
returns-else-is_in t c = apart_more c.args.paths.now _ c.is_in.result c.twice.result c.in-len1-up.len_at_least c.is_in.ensures c.if-is_in.false c.twice.ensures
