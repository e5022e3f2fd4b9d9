use Rattle.std.proofs.Common.{Bool, Ok, subst, sym, true, false}
use Rattle.sqlite.specs.declared.error.Error.{Error}
use Rattle.sqlite.specs.Held.{state}
use Rattle.store_tables.specs.declared.faults.RowFault.{RowFault}
use Rattle.store_tables.specs.Content.{Edits, changed_where}
use Rattle.store_tables.specs.Meters.Trees as meter_tree
use Rattle.store_tables.specs.Meters.Rows.{installed_columns, is_meter, moved, ended}
use Rattle.office_store.specs.Going.{Goes}
use Rattle.office_store.proofs.GoingLemmas.{of_steps}
use Rattle.office_store.specs.Bookings.MeterState.{Settles}
use Rattle.office_store.proofs.BookingsLemmas.Leaving.{completed, completed_alone}
use Rattle.office_store.proofs.BookingsLemmas.Moves.{settles_closed}
use Rattle.office_store.proofs.bookings.meter_entries.settle.Goals as goal

pub returns-then-not-is_closing-clause-does : goal.returns-then-not-is_closing-clause-does
returns-then-not-is_closing-clause-does g c =
    let a = state g.S.Store c.args.tx.now.conn.now in
    let b = state g.S.Store c.update_last.new.tx.conn.now in
    let meter = c.args.meter.now in
    subst (λ (closing : Bool). Goes {X = Unit {0}} {E = RowFault} a b (Ok tt) (Settles meter c.args.last closing)) (sym c.if-not-is_closing.true)
    (completed_alone a b c.in_ok-update_last.field-0 (Edits meter_tree.installations installed_columns (changed_where (is_meter meter) (moved c.args.last))) (Settles meter c.args.last false)
    c.in_ok-update_last.ensures.does (λ content after edits. edits))

pub returns-clause-does : goal.returns-clause-does
returns-clause-does g c =
    let a = state g.S.Store c.args.tx.now.conn.now in
    let b = state g.S.Store c.update_last.new.tx.conn.now in
    let d = state g.S.Store c.close_installation.new.tx.conn.now in
    let meter = c.args.meter.now in
    let P = Edits meter_tree.installations installed_columns (changed_where (is_meter meter) (moved c.args.last)) in
    let Q = Edits meter_tree.installations installed_columns (changed_where (is_meter meter) ended) in
    subst (λ (closing : Bool). Goes {X = Unit {0}} {E = RowFault} a d (Ok tt) (Settles meter c.args.last closing)) (sym c.if-not-is_closing.false)
    (completed {D = Error} a b d c.in_ok-update_last.field-0 c.in_ok-close_installation.field-0 P Q (Settles meter c.args.last true)
    (of_steps a b (Ok c.in_ok-update_last.field-0) P c.in_ok-update_last.ensures.does) c.in_ok-close_installation.ensures.does
    (λ content mid after p q. settles_closed meter c.args.last content mid after p q))
