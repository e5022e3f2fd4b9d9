use Rattle.std.proofs.Common.{◌≡◌, ◌≤◌, length, take}
use Rattle.std.specs.List.{filter}
use Rattle.office_program.specs.DeviceRounds.Polls as specs
use Rattle.office_program.proofs.device_rounds.polls.waiting_after.Given as goal

abbrev pub invariant-loop-poll : goal.invariant-loop-poll
invariant-loop-poll l =
    record {
      filtered : l.left.items ≡ filter (specs.waits l.notes) (take l.poll-index l.poll-items);
      few : length l.left.items ≤ l.poll-index;
    }
