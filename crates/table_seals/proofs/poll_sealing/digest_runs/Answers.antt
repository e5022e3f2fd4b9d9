use Rattle.std.proofs.Common.{rules, ◌≡◌, ◌+◌, ◌-◌, [], Ok, Err, Some, None, refl, arith}
use Rattle.table_seals.specs.declared.seals.PollSeal.{PollSeal}
use Rattle.table_audit.proofs.Looking.{known, finds_then, passed_on, made}
use Rattle.table_seals.specs.PollSealing.{LooksAtRun, DigestsRuns}
use Rattle.table_seals.proofs.PollRuns.{RunsSoFar, no_runs_yet, run_unread, run_added, all_digested, runs_reach, runs_few}
use Rattle.table_seals.proofs.poll_sealing.digest_runs.Goals as goal

pub loop-run-init : goal.loop-run-init
loop-run-init g c =
    let none : c.new-pending.result.items ≡ [] = search rules in
    record {
      finds = known g.S.Store c.args.conn.now 1 _ (λ content. no_runs_yet c.args.last c.args.hidden.now c.new-hasher.result c.new-pending.result.items content c.new-hasher.ensures none);
      low = omega arith;
      bound = omega arith;
    }

pub look_run-requires-clause-mode : goal.look_run-requires-clause-mode
look_run-requires-clause-mode g c = c.loop-run.invariant.finds.looks.mode c.requires.mode

pub look_run-requires-clause-run : goal.look_run-requires-clause-run
look_run-requires-clause-run g c = let few = runs_few c.args.greatest c.div_ceil-runs.result c.div_ceil-runs.ensures in omega (arith, few)

pub loop-run-preserved : goal.loop-run-preserved
loop-run-preserved g c =
    let bound = c.in_ok-found.ensures.bound in
    record {
      finds = made g.S.Store c.args.conn.now c.look_run.new.conn c.in_ok-found.found c.in-Some.number _
          (λ content _. RunsSoFar c.args.last c.args.hidden.now (c.loop-run.run + 1) c.in-Some.number c.look_run.new.hasher c.look_run.new.pending.items content)
          (finds_then g.S.Store c.args.conn.now c.loop-run.conn c.look_run.new.conn c.loop-run.next (Ok c.in_ok-found.found) _ _
          (λ content found. RunsSoFar c.args.last c.args.hidden.now c.loop-run.run c.loop-run.next c.loop-run.hasher c.loop-run.pending.items content
          × LooksAtRun c.loop-run.run c.args.last c.args.hidden.now c.loop-run.next c.loop-run.hasher c.look_run.new.hasher c.loop-run.pending.items c.look_run.new.pending.items content found)
          c.loop-run.invariant.finds c.in_ok-found.ensures.finds (λ content found before one. (before, one)))
          (λ content both. run_added c.args.last c.args.hidden.now c.loop-run.run c.loop-run.next c.loop-run.hasher c.look_run.new.hasher c.loop-run.pending.items
          c.look_run.new.pending.items content c.in-Some.number c.in_ok-found.found c.in-Some.is both.0 both.1);
      low = search rules;
      bound = search rules;
    }

pub returns-in_err-found-clause-finds : goal.returns-in_err-found-clause-finds
returns-in_err-found-clause-finds g c =
    passed_on g.S.Store c.args.conn.now c.look_run.new.conn c.in_err-found.field-0.0 c.from_residual.result _ _
    (finds_then g.S.Store c.args.conn.now c.loop-run.conn c.look_run.new.conn c.loop-run.next (Err c.in_err-found.field-0.0) _ _
    (λ content _. Unit {0})
    c.loop-run.invariant.finds c.in_err-found.ensures.finds (λ content _ before one. tt))
    c.from_residual.ensures.1

pub returns-in-None-clause-finds : goal.returns-in-None-clause-finds
returns-in-None-clause-finds g c =
    made g.S.Store c.args.conn.now c.look_run.new.conn c.in_ok-found.found None _ (DigestsRuns c.args.greatest c.args.last c.args.hidden.now)
    (finds_then g.S.Store c.args.conn.now c.loop-run.conn c.look_run.new.conn c.loop-run.next (Ok c.in_ok-found.found) _ _
    (λ content found. RunsSoFar c.args.last c.args.hidden.now c.loop-run.run c.loop-run.next c.loop-run.hasher c.loop-run.pending.items content
    × LooksAtRun c.loop-run.run c.args.last c.args.hidden.now c.loop-run.next c.loop-run.hasher c.look_run.new.hasher c.loop-run.pending.items c.look_run.new.pending.items content found)
    c.loop-run.invariant.finds c.in_ok-found.ensures.finds (λ content found before one. (before, one)))
    (λ content both. run_unread c.args.last c.args.hidden.now c.loop-run.run c.loop-run.next c.loop-run.hasher c.look_run.new.hasher c.loop-run.pending.items
    c.look_run.new.pending.items content c.args.greatest c.in_ok-found.found c.in-None.is both.0 both.1)

pub returns-clause-finds : goal.returns-clause-finds
returns-clause-finds g c =
    let reach = runs_reach c.args.greatest c.div_ceil-runs.result c.div_ceil-runs.ensures in
    let low = c.loop-run.invariant.low in
    let found : PollSeal = record { count = c.loop-run.next - 1; digest = c.finalize.result; pending = c.loop-run.pending } in
    made g.S.Store c.args.conn.now c.loop-run.conn c.loop-run.next (Some found) _ (DigestsRuns c.args.greatest c.args.last c.args.hidden.now)
    c.loop-run.invariant.finds
    (λ content before. all_digested c.args.greatest c.args.last c.args.hidden.now c.loop-run.run c.loop-run.next c.loop-run.hasher c.loop-run.pending.items content found
    (omega (arith, reach)) (omega (arith, low)) c.finalize.ensures refl before)
