use Rattle.std.proofs.Common.{◌≡◌, ◌<◌, Ok}
use Rattle.sqlite.specs.Held.{state}
use Rattle.store_tables.specs.declared.faults.RowFault.{RowFault}
use Rattle.office_store.specs.Going.{Goes}
use Rattle.office_store.proofs.VoidsLemmas.Walking.{Passed}
use Rattle.office_store.proofs.voids.neighbours.place_after.Given as goal

abbrev pub invariant-loop-next : goal.invariant-loop-next
invariant-loop-next g l =
    (l.tx.conn.ghost_name ≡ l.fn.tx.conn.ghost_name)
    × (l.place < l.next)
    × Goes {X = Unit {0}} {E = RowFault} (state g.S.Store l.fn.tx.conn.now) (state g.S.Store l.tx.conn.now) (Ok tt) (Passed l.meter l.place l.next)
