use Rattle.store_tables.proofs.EntriesLemmas.ReadRows.{reads_entry, sound_entry}
use Rattle.store_tables.proofs.entries.columns.read_entry.Goals as goal

pub returns-clause-read : goal.returns-clause-read
returns-clause-read c = reads_entry c.args.row.now c.entry.result c.entry.ensures

pub returns-clause-sound : goal.returns-clause-sound
returns-clause-sound c = sound_entry c.args.row.now c.entry.result c.entry.ensures
