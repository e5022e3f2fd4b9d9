use Rattle.std.proofs.Common.{◌≡◌, List, ◌++◌, Ok}
use Rattle.std.specs.List.{AllByRecursion}
use Rattle.sqlite.specs.declared.error.Error.{Error}
use Rattle.sqlite.specs.Held.{state}
use Rattle.interval_core.specs.declared.shares.Share.{Share}
use Rattle.interval_core.specs.Share.{shares_of}
use Rattle.store_tables.specs.Steps.{Steps}
use Rattle.office_store.specs.Intervals.Rows.{IsSoundShare}
use Rattle.office_store.specs.Voids.Withdrawal.{TakesShares}
use Rattle.office_store.proofs.voids.withdrawal.take_step.Given as goal

abbrev pub invariant-loop-share : goal.invariant-loop-share
invariant-loop-share g l = record {
  can : (goal.iterator-loop-share g).can_next l.shares;
  finite : (goal.iterator-loop-share g).is_finite l.shares;
  reference : l.tx.conn.ghost_name ≡ l.fn.tx.conn.ghost_name;
  sound : AllByRecursion IsSoundShare l.shares;
  front : List Share;
  whole : front ++ l.shares ≡ shares_of l.step;
  taken : Steps {X = Unit {0}} {E = Error} (state g.S.Store l.fn.tx.conn.now) (state g.S.Store l.tx.conn.now) (Ok tt) (TakesShares l.meter front);
}
