use Rattle.std.proofs.Common.{◌+◌, ◌≤◌}
use Rattle.std.specs.Option.{option_to_list}
use Rattle.interval_core.specs.Account.{energy_of}
use Rattle.interval_core.specs.Share.{shares_of}
use Rattle.memory_books.specs.Tables.IntervalRows.{TakesWithin}
use Rattle.memory_books.proofs.TablesLemmas.Waiting.{GoesBy}
use Rattle.memory_books.proofs.tables.interval_rows.pass_step.Given as goal

abbrev pub invariant-loop-share : goal.invariant-loop-share
invariant-loop-share g l = record {
  can : (goal.iterator-loop-share g).can_next l.shares;
  finite : (goal.iterator-loop-share g).is_finite l.shares;
  goes : GoesBy (TakesWithin g.K.RowSink.takes l.span) l.fn.sink l.sink l.fn.waits l.waits (shares_of l.step) l.shares;
  within : energy_of (option_to_list l.waits) + energy_of l.shares ≤ energy_of (option_to_list l.fn.waits) + l.step.mwh;
}
