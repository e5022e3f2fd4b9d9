use Rattle.std.proofs.Common.{◌≡◌, ◌≤◌, ◌-◌, Ok}
use Rattle.sqlite.specs.Held.{state}
use Rattle.store_tables.specs.declared.faults.RowFault.{RowFault}
use Rattle.office_store.specs.Going.{Goes}
use Rattle.office_store.proofs.VoidsLemmas.Walking.{Passed}
use Rattle.office_store.proofs.voids.neighbours.place_before.Given as goal

abbrev pub invariant-loop-passed : goal.invariant-loop-passed
invariant-loop-passed g l =
    (l.tx.conn.ghost_name ≡ l.fn.tx.conn.ghost_name)
    × (1 ≤ l.passed)
    × Goes {X = Unit {0}} {E = RowFault} (state g.S.Store l.fn.tx.conn.now) (state g.S.Store l.tx.conn.now) (Ok tt) (Passed l.meter (l.place - l.passed) l.place)
