use Rattle.std.proofs.Common.{◌≡◌, ◌+◌, ◌++◌, length}
use Rattle.office_program.specs.DeviceRounds.Polls as specs
use Rattle.office_program.proofs.device_rounds.polls.add.Given as goal

abbrev pub invariant-loop-k : goal.invariant-loop-k
invariant-loop-k l =
    record {
      numbers : l.polls.items ≡ l.initial.polls.items ++ specs.numbers l.first l.k;
      count : length l.polls.items ≡ length l.initial.polls.items + l.k;
    }
