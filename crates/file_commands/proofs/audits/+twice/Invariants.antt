use Rattle.std.proofs.Common.{length}
use Rattle.file_commands.proofs.audits.+twice.Given as goal

abbrev pub decreases-twice : goal.decreases-twice
decreases-twice l = length l.paths.now
