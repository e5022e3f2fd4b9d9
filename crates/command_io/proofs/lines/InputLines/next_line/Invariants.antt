use Rattle.std.proofs.Common.{◌≡◌, ◌+◌, ◌<◌, ◌^◌, length}
use Rattle.command_io.specs.Lines.{speaking_from}
use Rattle.command_io.proofs.lines.InputLines.next_line.Given as goal

abbrev pub invariant-loop-text : goal.invariant-loop-text
invariant-loop-text l = record {
  rest : l.fn.self ≡ speaking_from l.self-inside.number l.self-inside.lines;
  numbered : l.self-inside.number + length l.self-inside.lines < 2 ^ 64;
}

abbrev pub decreases-loop-text : goal.decreases-loop-text
decreases-loop-text l = length l.self-inside.lines
