use Rattle.std.proofs.Common.{◌≤◌, ◌+◌, drop}
use Rattle.store_tables.specs.Limits.{greatest_place}
use Rattle.table_seals.proofs.PollRows.{RowsSoFar}
use Rattle.table_seals.proofs.poll_texts.write_rows.Given as goal

abbrev pub invariant-loop-row : goal.invariant-loop-row
invariant-loop-row l = record {
  so_far : RowsSoFar l.last l.hidden l.first l.next l.polls l.outcomes (drop l.row-index l.polls) l.left l.initial.text.items l.text.items
      l.initial.pending.items l.pending.items;
  bound : l.next ≤ greatest_place + 1;
}
