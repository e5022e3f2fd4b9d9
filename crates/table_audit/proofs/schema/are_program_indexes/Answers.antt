use Rattle.table_audit.proofs.schema.are_program_indexes.Goals as goal
use Rattle.std.specs.Fmt.{digits}

pub returns : goal.returns
unfolding digits
returns c = c.are_indexes.ensures
