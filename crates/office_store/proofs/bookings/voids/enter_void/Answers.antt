use Rattle.std.proofs.Common.{arith}
use Rattle.sqlite.specs.Held.{state}
use Rattle.office_events.specs.declared.facts.Fact.TheVariants as fact
use Rattle.office_store.specs.Recording.{Records}
use Rattle.office_store.proofs.GoingLemmas.{goes_then}
use Rattle.office_store.specs.Bookings.Surroundings.{IsAround}
use Rattle.office_store.specs.Bookings.Voids.{EntersVoid}
use Rattle.office_store.proofs.BookingsLemmas.Leaving.{turned_down}
use Rattle.office_store.proofs.BookingsLemmas.VoidRecorded.{void_entered}
use Rattle.office_store.proofs.bookings.voids.enter_void.Goals as goal

pub returns-in_err-made-clause-does : goal.returns-in_err-made-clause-does
returns-in_err-made-clause-does g c =
    turned_down _ (state g.S.Store c.args.tx.now.conn.now) (state g.S.Store c.surroundings_of.new.tx.conn.now) c.in_ok-found.found c.from_residual-in_err-made.result
    (IsAround c.in_ok-meter.meter.now c.args.voided.now.place c.in_ok-found.found) (Records (fact.Void c.args.voided.now)) c.in_ok-found.ensures.does c.from_residual-in_err-made.ensures.1

pub returns-clause-does : goal.returns-clause-does
returns-clause-does g c =
    let meter = c.in_ok-meter.meter.now in
    let found = c.in_ok-found.found in
    let made = c.in_ok-made.made in
    goes_then (state g.S.Store c.args.tx.now.conn.now) (state g.S.Store c.surroundings_of.new.tx.conn.now) (state g.S.Store c.book_void.new.tx.conn.now) found c.book_void.result
    (IsAround meter c.args.voided.now.place found) (EntersVoid meter c.args.voided.now.place c.args.voided.now.at made) (Records (fact.Void c.args.voided.now)) c.in_ok-found.ensures.does c.book_void.ensures.does
    (void_entered c.other_meters_stay.ensures c.meters_are_kept.ensures c.installations_are_in_range.ensures c.rows_are_kept.ensures c.rows_lie_within.ensures c.shares_add_up.ensures c.voids_change_two_rows.ensures
    c.args.voided.now meter found made (omega arith) c.in_ok-meter.ensures.text c.in_ok-made.ensures.corrects)
