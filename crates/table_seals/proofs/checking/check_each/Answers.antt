use Rattle.std.proofs.Common.{◌+◌, List, map, take, Ok, Err, subst, arith}
use Rattle.std.proofs.lemmas.List.{take_all}
use Rattle.table_audit.proofs.Looking.{finds_then, passed_on, made}
use Rattle.table_seals.specs.declared.seals.MeterSeal.{MeterSeal}
use Rattle.table_seals.specs.Checking.{checks_of}
use Rattle.table_seals.specs.Installed.{ReportsNamesAt}
use Rattle.table_seals.specs.Sealed.{sealed_of}
use Rattle.table_seals.proofs.Rows.{next_reported}
use Rattle.table_seals.proofs.checking.check_each.Goals as goal

pub loop-seal-preserved : goal.loop-seal-preserved
loop-seal-preserved g c =
    made g.S.Store c.args.conn.now c.check_and_report.new.conn c.in_ok-check_and_report.field-0 c.check_and_report.new.checked _ _
    (finds_then g.S.Store c.args.conn.now c.loop-seal.conn c.check_and_report.new.conn c.loop-seal.checked (Ok c.in_ok-check_and_report.field-0) _ _
    (λ content _. ReportsNamesAt c.args.known.now c.args.zone.now (map sealed_of (take (c.loop-seal.seal-index + 1) c.args.seals.now)) content (checks_of c.check_and_report.new.checked))
    c.loop-seal.invariant c.in_ok-check_and_report.ensures
    (λ content _ before one installed are. next_reported c.args.zone.now installed content c.args.seals.now c.loop-seal.seal-index c.seal-item.result
    (checks_of c.loop-seal.checked) (checks_of c.check_and_report.new.checked) (omega arith) c.seal-item.is
    (before installed are) (one installed are)))
    (λ content reported. reported)

pub returns-in_err-check_and_report : goal.returns-in_err-check_and_report
returns-in_err-check_and_report g c =
    passed_on g.S.Store c.args.conn.now c.check_and_report.new.conn c.in_err-check_and_report.field-0.0 c.from_residual.result _ _
    (finds_then g.S.Store c.args.conn.now c.loop-seal.conn c.check_and_report.new.conn c.loop-seal.checked (Err c.in_err-check_and_report.field-0.0) _ _
    (λ content _. Unit {0})
    c.loop-seal.invariant c.in_err-check_and_report.ensures (λ content _ before one. tt))
    c.from_residual.ensures.1

pub returns : goal.returns
returns g c =
    made g.S.Store c.args.conn.now c.loop-seal.conn c.loop-seal.checked _ _
    (λ content checked. ReportsNamesAt c.args.known.now c.args.zone.now (map sealed_of c.args.seals.now) content (checks_of checked))
    c.loop-seal.invariant
    (λ content reported.
    subst (λ (ss : List MeterSeal). ReportsNamesAt c.args.known.now c.args.zone.now (map sealed_of ss) content (checks_of c.loop-seal.checked))
    (take_all c.loop-seal.seal-index c.args.seals.now (omega arith)) reported)
