use Rattle.std.proofs.Common.{length}
use Rattle.file_commands.proofs.audits.+audit_paths.Given as goal

abbrev pub decreases-audit_paths : goal.decreases-audit_paths
decreases-audit_paths g l = length l.paths.now
