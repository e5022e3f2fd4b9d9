use Rattle.std.proofs.Common.{◌-◌, ◌+◌, ◌∙◌, arith}
use Rattle.sqlite.specs.Held.{state}
use Rattle.store_tables.specs.Entries.Rows.{voided_columns}
use Rattle.store_tables.specs.Entries.Trees.{voids}
use Rattle.office_store.specs.Voids.Places.{IsBefore}
use Rattle.office_store.proofs.VoidsLemmas.Walking.{walk_failed, went_down, stands_before, opening_before}
use Rattle.office_store.proofs.voids.neighbours.place_before.Goals as goal

pub returns-in_err-is_voided-clause-does : goal.returns-in_err-is_voided-clause-does
returns-in_err-is_voided-clause-does g c =
    walk_failed c.args.meter.now _ (state g.S.Store c.args.tx.now.conn.now) (state g.S.Store c.loop-passed.tx.conn.now) (state g.S.Store c.is_voided.new.tx.conn.now) c.in_err-is_voided.field-0.0 c.from_residual.result
    (c.args.place - c.loop-passed.passed) c.args.place _ (IsBefore c.args.meter.now c.args.place) voids voided_columns c.loop-passed.invariant.2 c.in_err-is_voided.ensures.does c.from_residual.ensures.1

pub returns-then-not-branch-clause-does : goal.returns-then-not-branch-clause-does
returns-then-not-branch-clause-does g c =
    stands_before c.args.meter.now c.args.place (c.args.place - c.loop-passed.passed) (state g.S.Store c.args.tx.now.conn.now) (state g.S.Store c.loop-passed.tx.conn.now) (state g.S.Store c.is_voided.new.tx.conn.now)
    c.in_ok-is_voided.field-0 c.if-not-branch.true (omega arith) (omega arith) c.loop-passed.invariant.2 c.in_ok-is_voided.ensures.does

pub loop-passed-preserved : goal.loop-passed-preserved
loop-passed-preserved g c = (
  c.is_voided.ensures.same_reference ∙ c.loop-passed.invariant.0,
  omega arith,
  went_down c.args.meter.now (c.args.place - (c.loop-passed.passed + 1)) c.args.place (c.args.place - c.loop-passed.passed) (state g.S.Store c.args.tx.now.conn.now) (state g.S.Store c.loop-passed.tx.conn.now) (state g.S.Store c.is_voided.new.tx.conn.now)
      c.in_ok-is_voided.field-0 c.if-not-branch.false (omega arith) c.loop-passed.invariant.2 c.in_ok-is_voided.ensures.does,
)

pub returns-clause-does : goal.returns-clause-does
returns-clause-does g c =
    opening_before c.args.meter.now c.args.place (c.args.place - c.loop-passed.passed) (state g.S.Store c.args.tx.now.conn.now) (state g.S.Store c.loop-passed.tx.conn.now) c.requires.following (omega arith) c.loop-passed.invariant.2
