use Rattle.std.proofs.Common.{◌≡◌, reverse, take}
use Rattle.meter_journal.specs.Lists.{latest_first}
use Rattle.office_books.specs.Entries.{first_from, listed_rows, scale_after}
use Rattle.office_books.proofs.entries.list_entries.Given as goal

abbrev pub invariant-loop-row : goal.invariant-loop-row
invariant-loop-row l = record {
  listed : l.listed.items ≡ first_from l.from l.most (reverse (listed_rows l.opening (latest_first (take l.row-index l.rows))));
  scale : l.scale ≡ scale_after l.opening (latest_first (take l.row-index l.rows));
}
