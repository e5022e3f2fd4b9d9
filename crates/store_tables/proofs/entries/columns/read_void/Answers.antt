use Rattle.store_tables.proofs.EntriesLemmas.ReadRows.{reads_void}
use Rattle.store_tables.proofs.entries.columns.read_void.Goals as goal

pub returns-clause-read : goal.returns-clause-read
returns-clause-read c = reads_void c.args.row.now c.whole.result c.whole.ensures.read

pub returns-clause-sound : goal.returns-clause-sound
returns-clause-sound c = c.whole.ensures.bounds
