use Rattle.sqlite.specs.Held.{state}
use Rattle.office_events.specs.declared.facts.Fact.TheVariants as fact
use Rattle.office_store.specs.Recording.{Records}
use Rattle.office_store.proofs.GoingLemmas.{goes_then}
use Rattle.office_store.specs.Bookings.MeterState.{IsStanding, EntersEntry}
use Rattle.office_store.proofs.BookingsLemmas.Leaving.{turned_down}
use Rattle.office_store.proofs.BookingsLemmas.Moves.{entry_booked}
use Rattle.office_store.proofs.bookings.meter_entries.enter_entry.Goals as goal

pub returns-in_err-advance-clause-does : goal.returns-in_err-advance-clause-does
returns-in_err-advance-clause-does g c =
    turned_down _ (state g.S.Store c.args.tx.now.conn.now) (state g.S.Store c.standing_of.new.tx.conn.now) c.in_ok-standing.standing c.from_residual-in_err-advance.result
    (IsStanding c.in_ok-meter.meter.now c.in_ok-standing.standing) (Records (fact.Entry c.args.booked.now)) c.in_ok-standing.ensures.does c.from_residual-in_err-advance.ensures.1

pub returns-clause-does : goal.returns-clause-does
returns-clause-does g c =
    let meter = c.in_ok-meter.meter.now in
    let standing = c.in_ok-standing.standing in
    let advance = c.in_ok-advance.advance in
    let row = c.entry_row-row.result in
    let closing = c.is_closing.result in
    goes_then (state g.S.Store c.args.tx.now.conn.now) (state g.S.Store c.standing_of.new.tx.conn.now) (state g.S.Store c.book_entry.new.tx.conn.now) standing c.book_entry.result
    (IsStanding meter standing) (EntersEntry meter row advance closing) (Records (fact.Entry c.args.booked.now)) c.in_ok-standing.ensures.does c.book_entry.ensures.does
    (entry_booked c.entries_move_on.ensures c.other_meters_stay.ensures c.meters_are_kept.ensures c.installations_are_in_range.ensures c.voids_leave_no_trace.ensures
    c.args.booked.now meter standing advance row closing c.in_ok-meter.ensures.text c.in_ok-advance.ensures.advances c.entry_row-row.ensures.row c.is_closing.ensures)
