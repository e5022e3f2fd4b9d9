use Rattle.std.proofs.Common.{Ok}
use Rattle.sqlite.specs.Held.{state}
use Rattle.interval_core.specs.Share.{shares_of}
use Rattle.office_store.specs.Intervals.StepShares.{BooksShares}
use Rattle.office_store.proofs.GoingLemmas.{goes_then, of_steps}
use Rattle.sqlite.specs.declared.error.Error.{Error}
use Rattle.office_store.specs.Bookings.MeterState.{EntersEntry, Settles}
use Rattle.office_store.proofs.BookingsLemmas.Installing.{AddsEntry}
use Rattle.office_store.proofs.BookingsLemmas.Leaving.{Then, stopped, went_on}
use Rattle.office_store.proofs.bookings.meter_entries.book_entry.Goals as goal

pub returns-in_err-book_step-clause-does : goal.returns-in_err-book_step-clause-does
returns-in_err-book_step-clause-does g c =
    let a = state g.S.Store c.args.tx.now.conn.now in
    let b = state g.S.Store c.insert_entry.new.tx.conn.now in
    let P = AddsEntry c.args.meter.now c.args.row in
    let Q = BooksShares c.args.meter.now (shares_of c.args.advance.now.step) in
    stopped {D = Error} _ a b (state g.S.Store c.book_step.new.tx.conn.now) c.in_ok-insert_entry.field-0 c.in_err-book_step.field-0.0 c.from_residual-in_err-book_step.result P Q _
    (of_steps a b (Ok c.in_ok-insert_entry.field-0) P c.in_ok-insert_entry.ensures.does) c.in_err-book_step.ensures.does c.from_residual-in_err-book_step.ensures.1

pub returns-clause-does : goal.returns-clause-does
returns-clause-does g c =
    let a = state g.S.Store c.args.tx.now.conn.now in
    let b = state g.S.Store c.insert_entry.new.tx.conn.now in
    let d = state g.S.Store c.book_step.new.tx.conn.now in
    let meter = c.args.meter.now in
    let advance = c.args.advance.now in
    let P = AddsEntry meter c.args.row in
    let Q = BooksShares meter (shares_of advance.step) in
    goes_then {D = Error} a d (state g.S.Store c.settle.new.tx.conn.now) c.in_ok-book_step.field-0 c.settle.result (Then P Q) (Settles meter advance.last c.args.is_closing)
    (EntersEntry meter c.args.row advance c.args.is_closing)
    (went_on {D = Error} a b d c.in_ok-insert_entry.field-0 c.in_ok-book_step.field-0 P Q (of_steps a b (Ok c.in_ok-insert_entry.field-0) P c.in_ok-insert_entry.ensures.does) c.in_ok-book_step.ensures.does)
    c.settle.ensures.does (λ before mid after p s. record { one = p.0; two = mid; entry = p.1; energy = p.2; stands = s })
