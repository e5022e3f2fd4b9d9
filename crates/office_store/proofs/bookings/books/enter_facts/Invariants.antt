use Rattle.std.proofs.Common.{◌≡◌, take, Ok}
use Rattle.sqlite.specs.Held.{state}
use Rattle.store_tables.specs.declared.faults.RowFault.{RowFault}
use Rattle.office_store.specs.Going.{Goes}
use Rattle.office_store.specs.Recording.{RecordsAll}
use Rattle.office_store.proofs.bookings.books.enter_facts.Given as goal

abbrev pub invariant-loop-fact : goal.invariant-loop-fact
invariant-loop-fact g l =
    (l.tx.conn.ghost_name ≡ l.fn.tx.conn.ghost_name)
    × Goes {X = Unit {0}} {E = RowFault} (state g.S.Store l.fn.tx.conn.now) (state g.S.Store l.tx.conn.now) (Ok tt) (RecordsAll (take l.fact-index l.facts))
