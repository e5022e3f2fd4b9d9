use Rattle.std.proofs.Common.{codes, [], refl}
use Rattle.store_tables.proofs.Failures.{not_run_fails, passed, probe_whole}
use Rattle.store_tables.specs.Failing.{IsStoreError}
use Rattle.sqlite.specs.Held.{state}
use Rattle.store_tables.proofs.StepLemmas.{not_run_kept}
use Rattle.store_tables.proofs.probe.check_open.Goals as goal

pub returns-in_err-_plan-clause-kept : goal.returns-in_err-_plan-clause-kept
returns-in_err-_plan-clause-kept g c clean =
    not_run_kept (state g.S.Store c.args.conn.now) (state g.S.Store c.prepare.new.self) (codes "SELECT 1") [] c.in_err-_plan.field-0.0 (c.in_err-_plan.ensures.err clean [])

pub returns-in_err-_plan-clause-fails : goal.returns-in_err-_plan-clause-fails
returns-in_err-_plan-clause-fails g c clean =
    passed (IsStoreError (state g.S.Store c.args.conn.now) (state g.S.Store c.prepare.new.self)) c.in_err-_plan.field-0.0 c.from_residual.result c.from_residual.ensures.1
    (not_run_fails (codes "SELECT 1") [] 0 (state g.S.Store c.args.conn.now) (state g.S.Store c.prepare.new.self) c.in_err-_plan.field-0.0 (probe_whole _) refl (c.in_err-_plan.ensures.err clean []))
