use Rattle.std.proofs.Common.{◌≡◌, take, Ok}
use Rattle.sqlite.specs.declared.error.Error.{Error}
use Rattle.sqlite.specs.Held.{state}
use Rattle.store_tables.specs.Steps.{Steps}
use Rattle.store_tables.proofs.DevicesLemmas.Replaced.{Came}
use Rattle.store_tables.proofs.devices.points.insert_points.Given as goal

abbrev pub invariant-loop-point : goal.invariant-loop-point
invariant-loop-point g l =
    (l.tx.conn.ghost_name ≡ l.fn.tx.conn.ghost_name)
    × Steps {X = Unit {0}} {E = Error} (state g.S.Store l.fn.tx.conn.now) (state g.S.Store l.tx.conn.now) (Ok tt) (Came l.device (take l.point-index l.points))
