use Rattle.std.proofs.Common.{Ok}
use Rattle.sqlite.specs.Held.{state}
use Rattle.store_tables.specs.declared.faults.RowFault.{RowFault}
use Rattle.office_store.proofs.GoingLemmas.{goes_then}
use Rattle.office_store.specs.Voids.Withdrawal.{DropsRows}
use Rattle.office_store.specs.Bookings.Voids.{TakesSteps, PutsNext, ExchangesRows}
use Rattle.office_store.proofs.BookingsLemmas.Leaving.{Then, broken, stopped, completed}
use Rattle.office_store.proofs.bookings.voids.exchange_rows.Goals as goal

pub returns-in_err-write_next-clause-does : goal.returns-in_err-write_next-clause-does
returns-in_err-write_next-clause-does g c =
    let made = c.args.made.now in
    broken {D = RowFault} _ (state g.S.Store c.args.tx.now.conn.now) (state g.S.Store c.take_steps.new.tx.conn.now) (state g.S.Store c.write_next.new.tx.conn.now) c.in_ok-take_steps.field-0 c.in_err-write_next.field-0.0 c.from_residual-in_err-write_next.result
    (TakesSteps c.args.meter.now made.out made.next) (PutsNext c.args.meter.now made.next) _ c.in_ok-take_steps.ensures.does c.in_err-write_next.ensures.does c.from_residual-in_err-write_next.ensures.1

pub returns-in_err-drop_rows_from-clause-does : goal.returns-in_err-drop_rows_from-clause-does
returns-in_err-drop_rows_from-clause-does g c =
    let made = c.args.made.now in
    let meter = c.args.meter.now in
    let a = state g.S.Store c.args.tx.now.conn.now in
    let b = state g.S.Store c.take_steps.new.tx.conn.now in
    let d = state g.S.Store c.write_next.new.tx.conn.now in
    let P = TakesSteps meter made.out made.next in
    let Q = PutsNext meter made.next in
    stopped {D = RowFault} _ a d (state g.S.Store c.drop_rows_from.new.tx.conn.now) c.in_ok-write_next.field-0 c.in_err-drop_rows_from.field-0.0 c.from_residual-in_err-drop_rows_from.result (Then P Q) (DropsRows meter made.from) _
    (goes_then {D = RowFault} a b d c.in_ok-take_steps.field-0 (Ok c.in_ok-write_next.field-0) P Q (Then P Q) c.in_ok-take_steps.ensures.does c.in_ok-write_next.ensures.does (λ before mid after p q. (mid, p, q)))
    c.in_err-drop_rows_from.ensures.does c.from_residual-in_err-drop_rows_from.ensures.1

pub returns-clause-does : goal.returns-clause-does
returns-clause-does g c =
    let made = c.args.made.now in
    let meter = c.args.meter.now in
    let a = state g.S.Store c.args.tx.now.conn.now in
    let b = state g.S.Store c.take_steps.new.tx.conn.now in
    let d = state g.S.Store c.write_next.new.tx.conn.now in
    let P = TakesSteps meter made.out made.next in
    let Q = PutsNext meter made.next in
    completed {D = RowFault} a d (state g.S.Store c.drop_rows_from.new.tx.conn.now) c.in_ok-write_next.field-0 c.in_ok-drop_rows_from.field-0 (Then P Q) (DropsRows meter made.from) (ExchangesRows meter made)
    (goes_then {D = RowFault} a b d c.in_ok-take_steps.field-0 (Ok c.in_ok-write_next.field-0) P Q (Then P Q) c.in_ok-take_steps.ensures.does c.in_ok-write_next.ensures.does (λ before mid after p q. (mid, p, q)))
    c.in_ok-drop_rows_from.ensures.does (λ before mid after p q. record { one = p.0; two = mid; taken = p.1; put = p.2; gone = q })
