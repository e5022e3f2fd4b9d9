use Rattle.std.proofs.Common.{◌∙◌, refl}
use Rattle.sqlite.specs.Held.{state}
use Rattle.store_tables.proofs.Ranges.{begun, given, range_is}
use Rattle.store_tables.proofs.upgrade.give_ranges.Goals as goal

pub loop-row-init : goal.loop-row-init
loop-row-init g c = (refl, begun (state g.S.Store c.args.tx.now.conn.now))

pub loop-row-preserved : goal.loop-row-preserved
loop-row-preserved g c = (
  c.insert_range.ensures.same_reference ∙ c.loop-row.invariant.0,
  given c.args.meters.now c.loop-row.row-index c.row-item.result c.row-item.result _ (state g.S.Store c.args.tx.now.conn.now) (state g.S.Store c.loop-row.tx.conn.now) (state g.S.Store c.insert_range.new.tx.conn.now)
      c.in_ok-insert_range.field-0 c.loop-row-test.true c.row-item.is (range_is c.row-item.result _ c.in_ok-meter.ensures) c.loop-row.invariant.1
      (rw (c.as_str.ensures.value) at c.in_ok-insert_range.ensures.does),
)
