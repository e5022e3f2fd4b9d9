use Rattle.std.proofs.Common.{Ok}
use Rattle.sqlite.specs.declared.error.Error.{Error}
use Rattle.sqlite.specs.Held.{state}
use Rattle.store_tables.specs.Content.{Edits, with_row}
use Rattle.store_tables.specs.Entries.Trees.{voids}
use Rattle.store_tables.specs.Entries.Rows.{voided_at, voided_columns}
use Rattle.office_store.proofs.GoingLemmas.{goes_then, of_steps}
use Rattle.office_store.specs.Bookings.Voids.{RollsNext, MarksVoid}
use Rattle.office_store.proofs.bookings.voids.mark_void.Goals as goal

pub returns-clause-does : goal.returns-clause-does
returns-clause-does g c =
    let a = state g.S.Store c.args.tx.now.conn.now in
    let b = state g.S.Store c.insert_void.new.tx.conn.now in
    let meter = c.args.meter.now in
    let next = c.args.next.now in
    let P = Edits voids voided_columns (with_row (voided_at meter c.args.place c.args.moment)) in
    goes_then {D = Error} a b (state g.S.Store c.roll_next.new.tx.conn.now) c.in_ok-insert_void.field-0 c.roll_next.result P (RollsNext meter next) (MarksVoid meter c.args.place c.args.moment next)
    (of_steps a b (Ok c.in_ok-insert_void.field-0) P c.in_ok-insert_void.ensures.does) c.roll_next.ensures.does
    (λ before mid after p q. record { one = mid; void = p; next = q })
