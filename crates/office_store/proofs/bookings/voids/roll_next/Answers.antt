use Rattle.sqlite.specs.Held.{state}
use Rattle.office_store.proofs.BookingsLemmas.Voiding.{none_rolled, one_rolled}
use Rattle.office_store.proofs.bookings.voids.roll_next.Goals as goal

pub returns-in_default-clause-does : goal.returns-in_default-clause-does
returns-in_default-clause-does g c = none_rolled c.args.meter.now c.args.next.now (state g.S.Store c.args.tx.now.conn.now) c.in_default.is

pub returns-clause-does : goal.returns-clause-does
returns-clause-does g c =
    one_rolled c.args.meter.now c.args.next.now (state g.S.Store c.args.tx.now.conn.now) (state g.S.Store c.set_rollovers.new.tx.conn.now) c.in_ok-set_rollovers.field-0 c.in-Some.joined c.in-Some.is c.in_ok-set_rollovers.ensures.does
