use Rattle.std.proofs.Common.{◌≡◌, arith, refl, ◌∙◌, sym, ap}
use Rattle.std.specs.Prelude.{Some}
use Rattle.office_core.specs.Taking.{failures_of}
use Rattle.office_program.specs.Driver.Going.{scene}
use Rattle.office_program.specs.Driver.Turns.{as_wished, first_request, wished}
use Rattle.office_program.proofs.DriverLemmas.Steps.{comes_none, comes_one, settled_far, settled_none}
use Rattle.office_program.proofs.driver.turns.settle.Goals as goal

pub loop-step-init : goal.loop-step-init
loop-step-init g c = record {
  comes = comes_none g.B.Books.ledger g.V.Observer.sees c.args.at
      (scene c.args.office.now (failures_of g.B.Books.ledger c.args.office.now) c.args.rounds.now c.args.observer.now);
  lasts = record { clean = λ clean. clean; zone = refl };
}

pub loop-step-preserved : goal.loop-step-preserved
loop-step-preserved g c =
    let so_far = c.loop-step.invariant in
    let one = c.feed_one.ensures in
    let requested_event : first_request c.loop-step.rounds ≡ Some (wished (Some c.in-Some.place) c.in-Some.event) =
    sym c.first_request.ensures ∙ ap as_wished c.in-Some.is in
    record {
      comes = comes_one g.B.Books.ledger g.V.Observer.sees c.args.at c.loop-step._step (wished (Some c.in-Some.place) c.in-Some.event)
          (scene c.args.office.now (failures_of g.B.Books.ledger c.args.office.now) c.args.rounds.now c.args.observer.now)
          (scene c.loop-step.office (failures_of g.B.Books.ledger c.loop-step.office) c.loop-step.rounds c.loop-step.observer)
          (scene c.feed_one.new.office (failures_of g.B.Books.ledger c.feed_one.new.office) c.feed_one.new.rounds c.feed_one.new.observer)
          so_far.comes requested_event one.feeds one.lasts.clean;
      lasts = record { clean = λ clean. so_far.lasts.clean (one.lasts.clean clean); zone = one.lasts.zone ∙ so_far.lasts.zone };
    }

pub returns-in_default-clause-settles : goal.returns-in_default-clause-settles
returns-in_default-clause-settles g c =
    settled_none g.B.Books.ledger g.V.Observer.sees c.args.at c.loop-step._step
    (scene c.args.office.now (failures_of g.B.Books.ledger c.args.office.now) c.args.rounds.now c.args.observer.now)
    (scene c.loop-step.office (failures_of g.B.Books.ledger c.loop-step.office) c.loop-step.rounds c.loop-step.observer)
    c.loop-step.invariant.comes (sym c.first_request.ensures ∙ ap as_wished c.in_default.is)

pub returns-in_default-clause-lasts : goal.returns-in_default-clause-lasts
returns-in_default-clause-lasts g c = c.loop-step.invariant.lasts

pub returns-clause-settles : goal.returns-clause-settles
returns-clause-settles g c =
    settled_far g.B.Books.ledger g.V.Observer.sees c.args.at c.loop-step._step
    (scene c.args.office.now (failures_of g.B.Books.ledger c.args.office.now) c.args.rounds.now c.args.observer.now)
    (scene c.loop-step.office (failures_of g.B.Books.ledger c.loop-step.office) c.loop-step.rounds c.loop-step.observer)
    c.loop-step.invariant.comes (omega arith)

pub returns-clause-lasts : goal.returns-clause-lasts
returns-clause-lasts g c = c.loop-step.invariant.lasts
