use Rattle.std.proofs.Common.{ap, map, ◌∙◌}
use Rattle.sqlite.specs.Held.{state}
use Rattle.office_events.specs.declared.facts.Fact.TheVariants as fact
use Rattle.store_tables.specs.Devices.Rows.{listed_at}
use Rattle.office_store.specs.Rows.{placed_on, listed}
use Rattle.office_store.specs.Recording.{Records}
use Rattle.office_store.proofs.BookingsLemmas.Leaving.{completed_alone}
use Rattle.office_store.proofs.BookingsLemmas.Entering.{PutsList, list_entered}
use Rattle.office_store.proofs.bookings.lists.enter_list.Goals as goal

pub returns-clause-does : goal.returns-clause-does
returns-clause-does g c =
    completed_alone (state g.S.Store c.args.tx.now.conn.now) (state g.S.Store c.replace_points.new.tx.conn.now) c.in_ok-replace_points.field-0
    (PutsList c.in_ok-device.device.now c.deref.result.now) (Records (fact.List c.args.put.now)) c.in_ok-replace_points.ensures.does
    (list_entered c.args.put.now c.in_ok-device.device.now c.deref.result.now c.in_ok-device.ensures.text
    (λ d. ap (map (listed_at d)) c.deref.ensures.value ∙ c.in_ok-points.ensures.listed d ∙ ap (placed_on (listed d) 0) c.points.ensures.points))
