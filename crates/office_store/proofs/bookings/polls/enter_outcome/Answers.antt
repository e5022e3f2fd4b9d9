use Rattle.sqlite.specs.Held.{state}
use Rattle.office_events.specs.declared.facts.Fact.TheVariants as fact
use Rattle.office_store.specs.Recording.{Records}
use Rattle.office_store.proofs.BookingsLemmas.Leaving.{completed_alone}
use Rattle.office_store.proofs.BookingsLemmas.Entering.{AddsOutcome, outcome_entered}
use Rattle.office_store.proofs.bookings.polls.enter_outcome.Goals as goal

pub returns-clause-does : goal.returns-clause-does
returns-clause-does g c =
    completed_alone (state g.S.Store c.args.tx.now.conn.now) (state g.S.Store c.insert_outcome.new.tx.conn.now) c.in_ok-insert_outcome.field-0
    (AddsOutcome c.outcome_row.result) (Records (fact.Outcome c.args.ended.now)) c.in_ok-insert_outcome.ensures.does
    (outcome_entered c.args.ended.now c.outcome_row.result c.outcome_row.ensures)
