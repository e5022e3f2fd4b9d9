use Rattle.std.proofs.Common.{◌∙◌, refl}
use Rattle.sqlite.specs.Held.{state}
use Rattle.store_tables.proofs.DevicesLemmas.Replaced.{begun, came}
use Rattle.store_tables.proofs.devices.points.insert_points.Goals as goal

pub loop-point-init : goal.loop-point-init
loop-point-init g c = (refl, begun c.args.device.now (state g.S.Store c.args.tx.now.conn.now))

pub loop-point-preserved : goal.loop-point-preserved
loop-point-preserved g c = (
  c.insert_point.ensures.same_reference ∙ c.loop-point.invariant.0,
  came c.args.device.now c.args.points.now c.loop-point.point-index c.point-item.result c.point-item.result (state g.S.Store c.args.tx.now.conn.now) (state g.S.Store c.loop-point.tx.conn.now) (state g.S.Store c.insert_point.new.tx.conn.now)
      c.in_ok-insert_point.field-0 c.loop-point-test.true c.point-item.is c.loop-point.invariant.1
      (rw (c.as_str.ensures.value, c.as_str-in-loop-point.ensures.value, c.as_str-in-loop-point-2.ensures.value) at c.in_ok-insert_point.ensures.does),
)
