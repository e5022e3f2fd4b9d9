use Rattle.std.proofs.Common.{Ok, false}
use Rattle.sqlite.specs.Held.{state}
use Rattle.store_tables.specs.declared.faults.RowFault.{RowFault}
use Rattle.office_store.proofs.GoingLemmas.{goes_then}
use Rattle.office_store.specs.Bookings.MeterState.{Settles}
use Rattle.office_store.specs.Bookings.Voids.{MarksVoid, ExchangesRows, EntersVoid}
use Rattle.office_store.proofs.BookingsLemmas.Leaving.{Then, broken}
use Rattle.office_store.proofs.bookings.voids.book_void.Goals as goal

pub returns-in_err-exchange_rows-clause-does : goal.returns-in_err-exchange_rows-clause-does
returns-in_err-exchange_rows-clause-does g c =
    let made = c.args.made.now in
    broken {D = RowFault} _ (state g.S.Store c.args.tx.now.conn.now) (state g.S.Store c.mark_void.new.tx.conn.now) (state g.S.Store c.exchange_rows.new.tx.conn.now) c.in_ok-mark_void.field-0 c.in_err-exchange_rows.field-0.0 c.from_residual-in_err-exchange_rows.result
    (MarksVoid c.args.meter.now c.args.place c.args.moment made.next) (ExchangesRows c.args.meter.now made) _ c.in_ok-mark_void.ensures.does c.in_err-exchange_rows.ensures.does c.from_residual-in_err-exchange_rows.ensures.1

pub returns-clause-does : goal.returns-clause-does
returns-clause-does g c =
    let made = c.args.made.now in
    let meter = c.args.meter.now in
    let a = state g.S.Store c.args.tx.now.conn.now in
    let b = state g.S.Store c.mark_void.new.tx.conn.now in
    let d = state g.S.Store c.exchange_rows.new.tx.conn.now in
    let P = MarksVoid meter c.args.place c.args.moment made.next in
    let Q = ExchangesRows meter made in
    goes_then {D = RowFault} a d (state g.S.Store c.settle.new.tx.conn.now) c.in_ok-exchange_rows.field-0 c.settle.result (Then P Q) (Settles meter made.last false) (EntersVoid meter c.args.place c.args.moment made)
    (goes_then {D = RowFault} a b d c.in_ok-mark_void.field-0 (Ok c.in_ok-exchange_rows.field-0) P Q (Then P Q) c.in_ok-mark_void.ensures.does c.in_ok-exchange_rows.ensures.does (λ before mid after p q. (mid, p, q)))
    c.settle.ensures.does (λ before mid after p s. record { one = p.0; two = mid; marks = p.1; energy = p.2; stands = s })
