use Rattle.std.proofs.Common.{◌≡◌, ◌⊎◌, true}
use Rattle.std.specs.Io.KnownBytes.{Keeps}
use Rattle.command_io.proofs.printer.NotedWriter.write_some.Given as goal

abbrev pub invariant-loop-time : goal.invariant-loop-time
invariant-loop-time g l = record {
  kept : Keeps (g.W.Write.contents l.fn.self.output) (g.W.Write.contents l.self.output);
  failed : (l._time ≡ 0) ⊎ (l.self.failed ≡ true);
}
