use Rattle.std.proofs.Common.{length}
use Rattle.file_commands.proofs.joined_reports.+join_paths.Given as goal

abbrev pub decreases-join_paths : goal.decreases-join_paths
decreases-join_paths g l = length l.paths.now
