use Rattle.std.proofs.Common.{length}
use Rattle.command_io.proofs.printer.+write_rest.Given as goal

abbrev pub decreases-write_rest : goal.decreases-write_rest
decreases-write_rest g l = length l.bytes.now
