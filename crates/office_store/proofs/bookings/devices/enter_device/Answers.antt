use Rattle.sqlite.specs.Held.{state}
use Rattle.office_events.specs.declared.facts.Fact.TheVariants as fact
use Rattle.office_store.specs.Recording.{Records}
use Rattle.office_store.proofs.BookingsLemmas.Leaving.{stopped, completed}
use Rattle.office_store.proofs.BookingsLemmas.Entering.{AddsDevice, IsNextDevice, device_entered}
use Rattle.office_store.proofs.bookings.devices.enter_device.Goals as goal

pub returns-in_err-insert_device-clause-does : goal.returns-in_err-insert_device-clause-does
returns-in_err-insert_device-clause-does g c =
    stopped _ (state g.S.Store c.args.tx.now.conn.now) (state g.S.Store c.next_device.new.tx.conn.now) (state g.S.Store c.insert_device.new.tx.conn.now) c.in_ok-place.place c.in_err-insert_device.field-0.0
    c.from_residual-in_err-insert_device.result (IsNextDevice c.in_ok-place.place) (AddsDevice c.in_ok-name.name.now c.device_row-row.result) (Records (fact.Device c.args.device.now)) c.in_ok-place.ensures.does c.in_err-insert_device.ensures.does c.from_residual-in_err-insert_device.ensures.1

pub returns-clause-does : goal.returns-clause-does
returns-clause-does g c =
    completed (state g.S.Store c.args.tx.now.conn.now) (state g.S.Store c.next_device.new.tx.conn.now) (state g.S.Store c.insert_device.new.tx.conn.now) c.in_ok-place.place c.in_ok-insert_device.field-0
    (IsNextDevice c.in_ok-place.place) (AddsDevice c.in_ok-name.name.now c.device_row-row.result) (Records (fact.Device c.args.device.now)) c.in_ok-place.ensures.does c.in_ok-insert_device.ensures.does
    (device_entered c.args.device.now c.in_ok-place.place c.in_ok-name.name.now c.device_row-row.result c.in_ok-name.ensures.text c.device_row-row.ensures.row)
