use Rattle.std.proofs.Common.{◌≤◌, take}
use Rattle.std.specs.Option.{option_to_list}
use Rattle.energy_core.specs.Account.{IsAccount}
use Rattle.interval_core.specs.Account.{energy_of}
use Rattle.meter_journal.specs.Books.{steps_after}
use Rattle.meter_journal.specs.Intervals.{rows_of_steps}
use Rattle.meter_journal.specs.Journal.{entries_in}
use Rattle.meter_journal.specs.Lists.{latest_first}
use Rattle.memory_books.specs.Tables.IntervalRows.{TookBut, TakesWithin}
use Rattle.memory_books.proofs.tables.interval_rows.pass_rows.Given as goal

abbrev pub invariant-loop-row : goal.invariant-loop-row
invariant-loop-row g l = record {
  account : IsAccount l.meter.range l.meter.opening (entries_in (latest_first (take l.row-index l.rows))) l.tally.last l.tally.total;
  took : TookBut (TakesWithin g.K.RowSink.takes l.span) l.fn.sink l.sink l.waits (rows_of_steps (steps_after l.meter (entries_in (latest_first (take l.row-index l.rows)))));
  energy : energy_of (option_to_list l.waits) ≤ l.tally.total;
}
