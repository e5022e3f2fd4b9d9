use Rattle.sqlite.specs.Held.{state}
use Rattle.office_store.proofs.BookingsLemmas.Finding.{found_after}
use Rattle.office_store.proofs.bookings.surroundings.entry_after.Goals as goal

pub returns-clause-does : goal.returns-clause-does
returns-clause-does g c =
    found_after c.args.meter.now c.args.place c.in_ok-next.next (state g.S.Store c.args.tx.now.conn.now) (state g.S.Store c.place_after.new.tx.conn.now) (state g.S.Store c.entry_at.new.tx.conn.now)
    c.entry_at.result c.in_ok-next.ensures.does c.entry_at.ensures.does
