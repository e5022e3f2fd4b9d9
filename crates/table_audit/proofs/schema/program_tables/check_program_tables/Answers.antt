use Rattle.table_audit.proofs.schema.program_tables.check_program_tables.Goals as goal
use Rattle.std.specs.Fmt.{digits}

pub returns-clause-same : goal.returns-clause-same
unfolding digits
returns-clause-same c = c.check_tables.ensures.same

pub returns-clause-other : goal.returns-clause-other
unfolding digits
returns-clause-other c = c.check_tables.ensures.other

pub returns-clause-named : goal.returns-clause-named
unfolding digits
returns-clause-named c = c.check_tables.ensures.named
