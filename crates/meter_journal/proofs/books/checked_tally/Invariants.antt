use Rattle.std.proofs.Common.{take}
use Rattle.energy_core.specs.Account.{IsAccount}
use Rattle.meter_journal.specs.Journal.{entries_in}
use Rattle.meter_journal.specs.Lists.{latest_first}
use Rattle.meter_journal.proofs.books.checked_tally.Given as goal

abbrev pub invariant-loop-row : goal.invariant-loop-row
invariant-loop-row l =
    IsAccount l.meter.range l.meter.opening (entries_in (latest_first (take l.row-index l.rows))) l.tally.last l.tally.total
