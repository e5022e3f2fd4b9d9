use Rattle.std.proofs.Common.{◌≡◌, take}
use Rattle.meter_journal.specs.Books.{last_after, total_after}
use Rattle.meter_journal.specs.Journal.{entries_in}
use Rattle.meter_journal.specs.Lists.{latest_first}
use Rattle.meter_journal.proofs.books.tally_after.Given as goal

abbrev pub invariant-loop-row : goal.invariant-loop-row
invariant-loop-row l = record {
  last : l.tally.last ≡ last_after l.meter (entries_in (latest_first (take l.row-index l.rows)));
  total : l.tally.total ≡ total_after l.meter (entries_in (latest_first (take l.row-index l.rows)));
}
