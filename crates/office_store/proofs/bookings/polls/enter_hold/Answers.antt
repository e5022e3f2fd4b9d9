use Rattle.sqlite.specs.Held.{state}
use Rattle.office_events.specs.declared.facts.Fact.TheVariants as fact
use Rattle.office_store.specs.Recording.{Records}
use Rattle.office_store.proofs.BookingsLemmas.Leaving.{stopped, completed}
use Rattle.office_store.proofs.BookingsLemmas.Entering.{AddsHold, IsNextHold, hold_entered}
use Rattle.office_store.proofs.bookings.polls.enter_hold.Goals as goal

pub returns-in_err-insert_rejected-clause-does : goal.returns-in_err-insert_rejected-clause-does
returns-in_err-insert_rejected-clause-does g c =
    stopped _ (state g.S.Store c.args.tx.now.conn.now) (state g.S.Store c.next_hold.new.tx.conn.now) (state g.S.Store c.insert_rejected.new.tx.conn.now) c.in_ok-place.place c.in_err-insert_rejected.field-0.0
    c.from_residual-in_err-insert_rejected.result (IsNextHold c.in_ok-place.place) (AddsHold c.in_ok-meter.meter.now c.hold_row.result) (Records (fact.Hold c.args.held.now)) c.in_ok-place.ensures.does c.in_err-insert_rejected.ensures.does c.from_residual-in_err-insert_rejected.ensures.1

pub returns-clause-does : goal.returns-clause-does
returns-clause-does g c =
    completed (state g.S.Store c.args.tx.now.conn.now) (state g.S.Store c.next_hold.new.tx.conn.now) (state g.S.Store c.insert_rejected.new.tx.conn.now) c.in_ok-place.place c.in_ok-insert_rejected.field-0
    (IsNextHold c.in_ok-place.place) (AddsHold c.in_ok-meter.meter.now c.hold_row.result) (Records (fact.Hold c.args.held.now)) c.in_ok-place.ensures.does c.in_ok-insert_rejected.ensures.does
    (hold_entered c.holds_change_nothing.ensures c.args.held.now c.in_ok-place.place c.in_ok-meter.meter.now c.hold_row.result c.in_ok-meter.ensures.text c.hold_row.ensures)
