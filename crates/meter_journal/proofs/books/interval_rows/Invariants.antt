use Rattle.std.proofs.Common.{◌≡◌, take}
use Rattle.meter_journal.specs.Books.{last_after, total_after, steps_after}
use Rattle.meter_journal.specs.Intervals.{rows_of_steps}
use Rattle.meter_journal.specs.Journal.{entries_in}
use Rattle.meter_journal.specs.Lists.{latest_first}
use Rattle.meter_journal.proofs.books.interval_rows.Given as goal

abbrev pub invariant-loop-row : goal.invariant-loop-row
invariant-loop-row l = record {
  last : l.tally.last ≡ last_after l.meter (entries_in (latest_first (take l.row-index l.rows)));
  total : l.tally.total ≡ total_after l.meter (entries_in (latest_first (take l.row-index l.rows)));
  shares : l.shares.items ≡ rows_of_steps (steps_after l.meter (entries_in (latest_first (take l.row-index l.rows))));
}
