use Rattle.sqlite.specs.Held.{state}
use Rattle.office_store.proofs.BookingsLemmas.Finding.{found_before}
use Rattle.office_store.proofs.bookings.surroundings.entry_before.Goals as goal

pub returns-clause-does : goal.returns-clause-does
returns-clause-does g c =
    found_before c.args.meter.now c.args.place c.in_ok-before.before (state g.S.Store c.args.tx.now.conn.now) (state g.S.Store c.place_before.new.tx.conn.now) (state g.S.Store c.entry_there.new.tx.conn.now)
    c.entry_there.result c.in_ok-before.ensures.does c.entry_there.ensures.does
