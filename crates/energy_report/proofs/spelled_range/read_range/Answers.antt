use Rattle.std.proofs.Common.{◌≡◌, true, rules}
use Rattle.interval_core.specs.Ranges.{is_backward}
use Rattle.energy_report.proofs.spelled_range.read_range.Goals as goal

pub returns-then-is_backward : goal.returns-then-is_backward
returns-then-is_backward c =
    let backward : is_backward (record { from = c.in-Ok.from; till = c.in-Ok-read_end.till }) ≡ true = search rules in
    record {
      range = record { from = c.in-Ok.from; till = c.in-Ok-read_end.till };
      from = c.in-Ok.ensures;
      till = c.in-Ok-read_end.ensures;
      backward = backward;
    }
