use Rattle.store_tables.proofs.MetersLemmas.ReadRows.{reads_range}
use Rattle.store_tables.proofs.meters.columns.read_range.Goals as goal

pub returns-clause-read : goal.returns-clause-read
returns-clause-read c = reads_range c.args.row.now c.whole.result c.whole.ensures.read
