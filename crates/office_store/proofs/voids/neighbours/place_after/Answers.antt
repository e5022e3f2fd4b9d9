use Rattle.std.proofs.Common.{◌+◌, ◌∙◌, arith, refl}
use Rattle.sqlite.specs.Held.{state}
use Rattle.store_tables.specs.Entries.Rows.{voided_columns}
use Rattle.store_tables.specs.Entries.Trees.{voids}
use Rattle.office_store.specs.Voids.Places.{IsAfter}
use Rattle.office_store.proofs.VoidsLemmas.Walking.{walk_failed, went_up, stands_after}
use Rattle.office_store.proofs.voids.neighbours.place_after.Goals as goal

pub returns-in_err-is_voided-clause-does : goal.returns-in_err-is_voided-clause-does
returns-in_err-is_voided-clause-does g c =
    walk_failed c.args.meter.now _ (state g.S.Store c.args.tx.now.conn.now) (state g.S.Store c.loop-next.tx.conn.now) (state g.S.Store c.is_voided.new.tx.conn.now) c.in_err-is_voided.field-0.0 c.from_residual.result
    c.args.place c.loop-next.next _ (IsAfter c.args.meter.now c.args.place) voids voided_columns c.loop-next.invariant.2 c.in_err-is_voided.ensures.does c.from_residual.ensures.1

pub returns-then-not-branch-clause-does : goal.returns-then-not-branch-clause-does
returns-then-not-branch-clause-does g c =
    stands_after c.args.meter.now c.args.place c.loop-next.next (state g.S.Store c.args.tx.now.conn.now) (state g.S.Store c.loop-next.tx.conn.now) (state g.S.Store c.is_voided.new.tx.conn.now)
    c.in_ok-is_voided.field-0 c.if-not-branch.true c.loop-next.invariant.1 c.loop-next.invariant.2 c.in_ok-is_voided.ensures.does

pub loop-next-preserved : goal.loop-next-preserved
loop-next-preserved g c = (
  c.is_voided.ensures.same_reference ∙ c.loop-next.invariant.0,
  omega (arith, c.loop-next.invariant.1),
  went_up c.args.meter.now c.args.place (c.loop-next.next + 1) c.loop-next.next (state g.S.Store c.args.tx.now.conn.now) (state g.S.Store c.loop-next.tx.conn.now) (state g.S.Store c.is_voided.new.tx.conn.now)
      c.in_ok-is_voided.field-0 c.if-not-branch.false refl c.loop-next.invariant.2 c.in_ok-is_voided.ensures.does,
)
