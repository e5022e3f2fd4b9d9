use Rattle.sqlite.specs.Held.{state}
use Rattle.office_events.specs.declared.facts.Fact.TheVariants as fact
use Rattle.office_store.specs.Recording.{Records}
use Rattle.office_store.proofs.BookingsLemmas.Leaving.{completed_alone}
use Rattle.office_store.proofs.BookingsLemmas.Entering.{AddsPoll, poll_entered}
use Rattle.office_store.proofs.bookings.polls.enter_poll.Goals as goal

pub returns-clause-does : goal.returns-clause-does
returns-clause-does g c =
    completed_alone (state g.S.Store c.args.tx.now.conn.now) (state g.S.Store c.insert_poll.new.tx.conn.now) c.in_ok-insert_poll.field-0
    (AddsPoll c.in_ok-device.device.now c.poll_row.result) (Records (fact.Poll c.args.poll.now)) c.in_ok-insert_poll.ensures.does
    (poll_entered c.args.poll.now c.in_ok-device.device.now c.poll_row.result c.in_ok-device.ensures.text c.poll_row.ensures.row)
