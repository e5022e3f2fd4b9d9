use Rattle.sqlite.specs.Held.{state}
use Rattle.interval_core.specs.Share.{shares_of}
use Rattle.store_tables.specs.declared.faults.RowFault.{RowFault}
use Rattle.office_store.specs.Voids.Withdrawal.{TakesShares}
use Rattle.office_store.specs.Bookings.Voids.{TakesNext, TakesSteps}
use Rattle.office_store.proofs.BookingsLemmas.Leaving.{stopped, completed}
use Rattle.office_store.proofs.bookings.voids.take_steps.Goals as goal

pub returns-in_err-take_step-clause-does : goal.returns-in_err-take_step-clause-does
returns-in_err-take_step-clause-does g c =
    stopped {D = RowFault} _ (state g.S.Store c.args.tx.now.conn.now) (state g.S.Store c.take_next.new.tx.conn.now) (state g.S.Store c.take_step.new.tx.conn.now) c.in_ok-take_next.field-0 c.in_err-take_step.field-0.0 c.from_residual-in_err-take_step.result
    (TakesNext c.args.meter.now c.args.next.now) (TakesShares c.args.meter.now (shares_of c.args.out.now)) _ c.in_ok-take_next.ensures.does c.in_err-take_step.ensures.does c.from_residual-in_err-take_step.ensures.1

pub returns-clause-does : goal.returns-clause-does
returns-clause-does g c =
    let meter = c.args.meter.now in
    completed {D = RowFault} (state g.S.Store c.args.tx.now.conn.now) (state g.S.Store c.take_next.new.tx.conn.now) (state g.S.Store c.take_step.new.tx.conn.now) c.in_ok-take_next.field-0 c.in_ok-take_step.field-0
    (TakesNext meter c.args.next.now) (TakesShares meter (shares_of c.args.out.now)) (TakesSteps meter c.args.out.now c.args.next.now) c.in_ok-take_next.ensures.does c.in_ok-take_step.ensures.does
    (λ before mid after p q. record { one = mid; next = p; out = q })
