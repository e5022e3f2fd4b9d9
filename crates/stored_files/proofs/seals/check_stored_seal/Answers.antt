use Rattle.std.proofs.Common.{Option, subst}
use Rattle.table_seals.specs.Checking.{ReportsIfZone}
use Rattle.table_seals.specs.Sealed.{sealed_tables_of}
use Rattle.table_seals.specs.declared.checks.Checked.{Checked}
use Rattle.stored_files.proofs.seals.check_stored_seal.Goals as goal

pub returns-in-Ok-None-clause-unmarked : goal.returns-in-Ok-None-clause-unmarked
returns-in-Ok-None-clause-unmarked g c clean content holds is =
    let found : ReportsIfZone (sealed_tables_of c.in-Ok.seal) content c.in-Ok-None.field-0 =
    c.in-Ok-None.ensures.answer content (c.in_ok-check_ours.ensures.ours content holds) clean in
    subst (λ (o : Option Checked). ReportsIfZone (sealed_tables_of c.in-Ok.seal) content o) c.in-Ok-None.field-0-is found
