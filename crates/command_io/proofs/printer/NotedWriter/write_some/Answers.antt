use Rattle.command_io.proofs.Held.{kept_then}
use Rattle.command_io.proofs.printer.NotedWriter.write_some.Goals as goal

pub returns-in-Ok-clause-bytes : goal.returns-in-Ok-clause-bytes
returns-in-Ok-clause-bytes g c = kept_then _ _ _ _ c.loop-time.invariant.kept c.in-Ok.ensures.bytes
