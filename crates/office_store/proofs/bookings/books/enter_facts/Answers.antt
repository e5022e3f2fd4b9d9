use Rattle.std.proofs.Common.{◌∙◌, refl, take}
use Rattle.sqlite.specs.Held.{state}
use Rattle.office_store.specs.Recording.{Records, RecordsAll}
use Rattle.office_store.proofs.BookingsLemmas.Leaving.{broken}
use Rattle.office_store.proofs.BookingsLemmas.Booking.{begun, came}
use Rattle.office_store.proofs.bookings.books.enter_facts.Goals as goal

pub loop-fact-init : goal.loop-fact-init
loop-fact-init g c = (refl, begun (state g.S.Store c.args.tx.now.conn.now))

pub loop-fact-preserved : goal.loop-fact-preserved
loop-fact-preserved g c = (
  c.enter_fact.ensures.same_reference ∙ c.loop-fact.invariant.0,
  came c.args.facts.now c.loop-fact.fact-index c.fact-item.result (state g.S.Store c.args.tx.now.conn.now) (state g.S.Store c.loop-fact.tx.conn.now) (state g.S.Store c.enter_fact.new.tx.conn.now)
      c.loop-fact-test.true c.fact-item.is c.loop-fact.invariant.1 c.in_ok-enter_fact.ensures.does,
)

pub returns-in_err-enter_fact-clause-does : goal.returns-in_err-enter_fact-clause-does
returns-in_err-enter_fact-clause-does g c =
    broken _ (state g.S.Store c.args.tx.now.conn.now) (state g.S.Store c.loop-fact.tx.conn.now) (state g.S.Store c.enter_fact.new.tx.conn.now) tt c.in_err-enter_fact.field-0.0 c.from_residual.result
    (RecordsAll (take c.loop-fact.fact-index c.args.facts.now)) (Records c.fact-item.result) (RecordsAll c.args.facts.now) c.loop-fact.invariant.1 c.in_err-enter_fact.ensures.does c.from_residual.ensures.1
