use Rattle.std.proofs.Common.{map, take, Ok}
use Rattle.table_audit.specs.Looking.{Finds}
use Rattle.table_seals.specs.Checking.{checks_of}
use Rattle.table_seals.specs.Installed.{ReportsNamesAt}
use Rattle.table_seals.specs.Sealed.{sealed_of}
use Rattle.table_seals.proofs.checking.check_each.Given as goal

abbrev pub invariant-loop-seal : goal.invariant-loop-seal
invariant-loop-seal g l =
    Finds g.S.Store l.fn.conn l.conn (Ok l.checked)
    (λ content checked. ReportsNamesAt l.known l.zone (map sealed_of (take l.seal-index l.seals)) content (checks_of checked))
