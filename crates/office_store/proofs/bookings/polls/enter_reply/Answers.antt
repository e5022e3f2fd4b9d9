use Rattle.sqlite.specs.Held.{state}
use Rattle.office_events.specs.declared.facts.Fact.TheVariants as fact
use Rattle.office_store.specs.Recording.{Records}
use Rattle.office_store.proofs.BookingsLemmas.Leaving.{completed_alone}
use Rattle.office_store.proofs.BookingsLemmas.Entering.{AddsReply, reply_entered}
use Rattle.office_store.proofs.bookings.polls.enter_reply.Goals as goal

pub returns-clause-does : goal.returns-clause-does
returns-clause-does g c =
    completed_alone (state g.S.Store c.args.tx.now.conn.now) (state g.S.Store c.insert_kept_request.new.tx.conn.now) c.in_ok-insert_kept_request.field-0
    (AddsReply c.in_ok-caller.caller.now c.args.reply.now.number c.as_slice.result.now c.args.reply.now.kind c.args.reply.now.at) (Records (fact.Reply c.args.reply.now)) c.in_ok-insert_kept_request.ensures.does
    (reply_entered c.args.reply.now c.in_ok-caller.caller.now c.as_slice.result.now c.in_ok-caller.ensures.text c.as_slice.ensures)
