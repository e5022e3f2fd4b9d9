use Rattle.std.proofs.Common.{length}
use Rattle.table_audit.proofs.schema.program_tables.+check_tables.Given as goal

abbrev pub decreases-check_tables : goal.decreases-check_tables
decreases-check_tables l = length l.tables.now
