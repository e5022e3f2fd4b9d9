use Rattle.std.specs.Io.KnownBytes.{Keeps}
use Rattle.command_io.specs.Holding.{contents_of}
use Rattle.command_io.proofs.buffer.BufferedWrite.flush.Given as goal

abbrev pub invariant-loop : goal.invariant-loop
invariant-loop g l = Keeps (contents_of g.W.Write.contents l.initial.self) (contents_of g.W.Write.contents l.self)
