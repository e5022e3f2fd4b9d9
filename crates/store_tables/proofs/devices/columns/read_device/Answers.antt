use Rattle.std.proofs.Common.{sym}
use Rattle.store_tables.proofs.DevicesLemmas.ReadRows.{sound_device}
use Rattle.store_tables.proofs.devices.columns.read_device.Goals as goal

pub returns-clause-sound : goal.returns-clause-sound
returns-clause-sound c = sound_device c.args.row.now c.in_ok-numbers.numbers (sym c.in_ok-numbers.ensures)
