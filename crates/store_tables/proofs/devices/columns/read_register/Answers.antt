use Rattle.std.proofs.Common.{sym}
use Rattle.store_tables.proofs.DevicesLemmas.ReadRows.{sound_register}
use Rattle.store_tables.proofs.devices.columns.read_register.Goals as goal

pub returns-clause-sound : goal.returns-clause-sound
returns-clause-sound c = sound_register c.args.row.now c.in_ok-numbers.numbers (sym c.in_ok-numbers.ensures)
