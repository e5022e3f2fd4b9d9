use Rattle.std.proofs.Common.{◌<◌, length}
use Rattle.table_audit.proofs.SchemaNames.{surplus_named}
use Rattle.table_audit.proofs.schema.program_tables.+check_tables.Goals as goal

pub returns-else-is_empty-clause-named : goal.returns-else-is_empty-clause-named
returns-else-is_empty-clause-named t c = surplus_named c.args.tables.now c.args.forms.now c.in-empty.len_below
