use Rattle.std.proofs.Common.{◌∙◌}
use Rattle.table_seals.proofs.Opened.{setup_opened}
use Rattle.table_seals.proofs.Words.{line_reads}
use Rattle.table_seals.proofs.parsing.setup_line.Goals as goal

pub returns-clause-reads : goal.returns-clause-reads
returns-clause-reads c =
    λ line rest fit is.
    line_reads c.args.text.now line rest c.split_once.result c.split_once.ensures.cases fit.one_line (is ∙ setup_opened line rest)
