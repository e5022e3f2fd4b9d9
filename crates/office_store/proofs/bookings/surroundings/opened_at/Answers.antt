use Rattle.sqlite.specs.Held.{state}
use Rattle.store_tables.specs.declared.faults.RowFault.{RowFault}
use Rattle.office_store.proofs.GoingLemmas.{reported_less}
use Rattle.std.proofs.Common.{refl}
use Rattle.office_store.specs.Bookings.Surroundings.{FindsEntry, OpenedAt}
use Rattle.office_store.proofs.bookings.surroundings.opened_at.Goals as goal

pub returns-clause-does : goal.returns-clause-does
returns-clause-does g c =
    let meter = c.args.meter.now in
    let opening = c.in_ok-opening.opening in
    reported_less {D = RowFault} (state g.S.Store c.args.tx.now.conn.now) (state g.S.Store c.entry_there.new.tx.conn.now) opening opening.moment (FindsEntry meter 1 opening) (OpenedAt meter opening.moment)
    (λ content after finds. record { opening = opening; moment = refl; finds = finds }) c.in_ok-opening.ensures.does
