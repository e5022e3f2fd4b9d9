use Rattle.sqlite.specs.Held.{state}
use Rattle.office_events.specs.declared.facts.Fact.TheVariants as fact
use Rattle.office_store.specs.Recording.{Records}
use Rattle.office_store.proofs.BookingsLemmas.Leaving.{stopped, completed}
use Rattle.office_store.proofs.BookingsLemmas.Entering.{AddsRegister, IsNextRegister, register_entered}
use Rattle.office_store.proofs.bookings.registers.enter_register.Goals as goal

pub returns-in_err-insert_register-clause-does : goal.returns-in_err-insert_register-clause-does
returns-in_err-insert_register-clause-does g c =
    stopped _ (state g.S.Store c.args.tx.now.conn.now) (state g.S.Store c.next_register.new.tx.conn.now) (state g.S.Store c.insert_register.new.tx.conn.now) c.in_ok-place.place c.in_err-insert_register.field-0.0
    c.from_residual-in_err-insert_register.result (IsNextRegister c.in_ok-place.place) (AddsRegister c.in_ok-name.name.now c.in_ok-device.device.now c.register_row-row.result) (Records (fact.Register c.args.register.now)) c.in_ok-place.ensures.does c.in_err-insert_register.ensures.does c.from_residual-in_err-insert_register.ensures.1

pub returns-clause-does : goal.returns-clause-does
returns-clause-does g c =
    completed (state g.S.Store c.args.tx.now.conn.now) (state g.S.Store c.next_register.new.tx.conn.now) (state g.S.Store c.insert_register.new.tx.conn.now) c.in_ok-place.place c.in_ok-insert_register.field-0
    (IsNextRegister c.in_ok-place.place) (AddsRegister c.in_ok-name.name.now c.in_ok-device.device.now c.register_row-row.result) (Records (fact.Register c.args.register.now)) c.in_ok-place.ensures.does c.in_ok-insert_register.ensures.does
    (register_entered c.args.register.now c.in_ok-place.place c.in_ok-name.name.now c.in_ok-device.device.now c.register_row-row.result c.in_ok-name.ensures.text c.in_ok-device.ensures.text c.register_row-row.ensures.row)
