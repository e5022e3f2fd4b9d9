use Rattle.std.proofs.Common.{sym}
use Rattle.store_tables.proofs.MetersLemmas.ReadRows.{sound_installation}
use Rattle.store_tables.proofs.meters.columns.read_installation.Goals as goal

pub returns-clause-sound : goal.returns-clause-sound
returns-clause-sound c = sound_installation c.args.row.now c.in_ok-numbers.numbers (sym c.in_ok-numbers.ensures)
