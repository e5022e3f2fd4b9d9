use Rattle.sqlite.specs.Held.{state}
use Rattle.office_store.proofs.BookingsLemmas.Finding.{found_there}
use Rattle.office_store.proofs.bookings.surroundings.entry_there.Goals as goal

pub returns-in-Some-clause-does : goal.returns-in-Some-clause-does
returns-in-Some-clause-does g c =
    found_there c.args.meter.now c.args.place (state g.S.Store c.args.tx.now.conn.now) (state g.S.Store c.entry_at.new.tx.conn.now) c.in_ok-entry_at.field-0 c.in-Some.entry c.in-Some.is c.in_ok-entry_at.ensures.does
