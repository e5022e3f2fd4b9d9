use Rattle.std.proofs.Common.{take}
use Rattle.std.specs.Io.KnownBytes.{Appends}
use Rattle.sunspec_text.specs.Lists.PlanText.{read_lines}
use Rattle.sunspec_text.proofs.lists.plan_printout.print_reads.Given as goal

abbrev pub invariant-loop-index : goal.invariant-loop-index
invariant-loop-index g l = Appends (g.W.Write.contents l.fn.output) (g.W.Write.contents l.output) (read_lines 1 (take l.index l.reads))
