use Rattle.std.proofs.Common.{◌≡◌, ◌+◌, ◌*◌, ◌^◌, ◌≤◌}
use Rattle.interval_core.specs.Share.{shares_of}
use Rattle.interval_core.specs.Account.{energy_of}
use Rattle.meter_journal.proofs.Joining.{joined_all}
use Rattle.meter_journal.proofs.intervals.append_shares.Given as goal

abbrev pub invariant-loop-share : goal.invariant-loop-share
invariant-loop-share l = record {
  can : (goal.iterator-loop-share).can_next l.shares;
  finite : (goal.iterator-loop-share).is_finite l.shares;
  joined : joined_all l.rows.items l.shares ≡ joined_all l.fn.rows.items (shares_of l.step);
  within : energy_of l.rows.items + energy_of l.shares ≤ 4 * 10 ^ 18;
}
