use Rattle.std.proofs.Common.{rules, ◌≡◌, ◌+◌, false, Ok, Err, arith}
use Rattle.table_audit.specs.Polls.{ReportsRun, ReportsRuns}
use Rattle.table_audit.proofs.Looking.{known, finds_then, passed_on, made}
use Rattle.table_audit.proofs.PollRuns.{IsSoFar, none_yet, one_more, up_to_stop, all_runs, runs_reach, runs_few}
use Rattle.table_audit.proofs.polls.audit_runs.Goals as goal

pub loop-run-init : goal.loop-run-init
loop-run-init g c = record {
  finds = known g.S.Store c.args.conn.now c.args.last _ (λ content. none_yet c.args.last c.args.findings.now content c.requires.few (omega arith));
  few = c.requires.few;
}

pub audit_run-requires-clause-mode : goal.audit_run-requires-clause-mode
audit_run-requires-clause-mode g c = c.loop-run.invariant.finds.looks.mode c.requires.mode

pub audit_run-requires-clause-run : goal.audit_run-requires-clause-run
audit_run-requires-clause-run g c = let few = runs_few c.args.last c.div_ceil-runs.result c.div_ceil-runs.ensures in omega (arith, few)

pub loop-run-preserved : goal.loop-run-preserved
loop-run-preserved g c = record {
  finds = made g.S.Store c.args.conn.now c.audit_run.new.conn c.in_ok-goes_on.goes_on c.args.last _
      (λ content _. IsSoFar c.args.last (c.loop-run.run + 1) c.audit_run.new.since c.args.findings.now c.audit_run.new.findings content)
      (finds_then g.S.Store c.args.conn.now c.loop-run.conn c.audit_run.new.conn c.args.last (Ok c.in_ok-goes_on.goes_on) _ _
      (λ content b. IsSoFar c.args.last c.loop-run.run c.loop-run.since c.args.findings.now c.loop-run.findings content
      × ReportsRun c.loop-run.run c.args.last c.loop-run.since c.audit_run.new.since c.loop-run.findings c.audit_run.new.findings content b)
      c.loop-run.invariant.finds c.in_ok-goes_on.ensures.finds (λ content b before one. (before, one)))
      (λ content h. one_more c.args.last c.loop-run.run c.loop-run.since c.audit_run.new.since c.args.findings.now c.loop-run.findings c.audit_run.new.findings content c.in_ok-goes_on.goes_on h.0 h.1);
  few = c.in_ok-goes_on.ensures.few;
}

pub returns-in_err-goes_on-clause-finds : goal.returns-in_err-goes_on-clause-finds
returns-in_err-goes_on-clause-finds g c =
    passed_on g.S.Store c.args.conn.now c.audit_run.new.conn c.in_err-goes_on.field-0.0 c.from_residual.result _ _
    (finds_then g.S.Store c.args.conn.now c.loop-run.conn c.audit_run.new.conn c.args.last (Err c.in_err-goes_on.field-0.0) _ _
    (λ content b. ReportsRun c.loop-run.run c.args.last c.loop-run.since c.audit_run.new.since c.loop-run.findings c.audit_run.new.findings content b)
    c.loop-run.invariant.finds c.in_err-goes_on.ensures.finds (λ content b before one. one))
    c.from_residual.ensures.1

pub returns-then-not-goes_on-clause-finds : goal.returns-then-not-goes_on-clause-finds
returns-then-not-goes_on-clause-finds g c =
    let stopped : c.in_ok-goes_on.goes_on ≡ false = search rules in
    made g.S.Store c.args.conn.now c.audit_run.new.conn c.in_ok-goes_on.goes_on _ _
    (λ content _. ReportsRuns c.args.last c.args.findings.now c.audit_run.new.findings content)
    (finds_then g.S.Store c.args.conn.now c.loop-run.conn c.audit_run.new.conn c.args.last (Ok c.in_ok-goes_on.goes_on) _ _
    (λ content b. IsSoFar c.args.last c.loop-run.run c.loop-run.since c.args.findings.now c.loop-run.findings content
    × ReportsRun c.loop-run.run c.args.last c.loop-run.since c.audit_run.new.since c.loop-run.findings c.audit_run.new.findings content b)
    c.loop-run.invariant.finds c.in_ok-goes_on.ensures.finds (λ content b before one. (before, one)))
    (λ content h. up_to_stop c.args.last c.loop-run.run c.loop-run.since c.audit_run.new.since c.args.findings.now c.loop-run.findings c.audit_run.new.findings content c.in_ok-goes_on.goes_on h.0 h.1 stopped)

pub returns-clause-finds : goal.returns-clause-finds
returns-clause-finds g c =
    let reach = runs_reach c.args.last c.div_ceil-runs.result c.div_ceil-runs.ensures in
    made g.S.Store c.args.conn.now c.loop-run.conn c.args.last _ _ (λ content _. ReportsRuns c.args.last c.args.findings.now c.loop-run.findings content)
    c.loop-run.invariant.finds
    (λ content before. all_runs c.args.last c.loop-run.run c.loop-run.since c.args.findings.now c.loop-run.findings content before (omega (arith, reach)))
