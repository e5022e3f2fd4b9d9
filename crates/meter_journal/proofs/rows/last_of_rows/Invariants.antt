use Rattle.std.proofs.Common.{◌≡◌, take}
use Rattle.energy_core.specs.Account.{last_of}
use Rattle.meter_journal.specs.Journal.{entries_in}
use Rattle.meter_journal.specs.Lists.{latest_first}
use Rattle.meter_journal.proofs.rows.last_of_rows.Given as goal

abbrev pub invariant-loop-row : goal.invariant-loop-row
invariant-loop-row l = l.last ≡ last_of l.opening (entries_in (latest_first (take l.row-index l.rows)))
