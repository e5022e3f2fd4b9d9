use Rattle.std.proofs.Common.{sym}
use Rattle.store_tables.proofs.PollsLemmas.ReadRows.{sound_poll}
use Rattle.store_tables.proofs.polls.columns.read_poll.Goals as goal

pub returns-clause-sound : goal.returns-clause-sound
returns-clause-sound c = sound_poll c.args.row.now c.in_ok-numbers.numbers (sym c.in_ok-numbers.ensures)
