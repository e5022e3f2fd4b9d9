use Rattle.std.proofs.Common.{◌∷◌, sym, ◌∙◌, ap}
use Rattle.office_program.specs.Between.{wire_of}
use Rattle.office_program.specs.Polling.{settled}
use Rattle.office_program.proofs.Stages.{next_as, nothing_left, rests, wanted}
use Rattle.office_program.proofs.steps.feed_requested.Goals as goal

pub returns-in-Some-clause-steps : goal.returns-in-Some-clause-steps
returns-in-Some-clause-steps g c = λ now device past begun from fed going wired is clean.
    let w = wire_of g.L.Link c.args.link.now in
    let e = c.in-Some.event in
    let wants = wanted device past fed c.args.progress.now.round e going.holds (sym c.in-Some.ensures) in
    let so = c.feed_and_send.ensures.steps device past begun from fed going (nothing_left fed e from w wants.piece wired.taken) wired.given wants.does clean in (
      so.0 ∷ fed,
      next_as g.B.Books.ledger device past begun _ from (wire_of g.L.Link c.feed_and_send.new.link) c.feed_and_send.new.office (so.0 ∷ fed) c.feed_and_send.new.progress c.feed_and_send.result _ (λ done. settled now)
          (λ done. wants.after so.0 so.1 ∙ ap settled is) so.2,
    )

pub returns-in-None-clause-steps : goal.returns-in-None-clause-steps
returns-in-None-clause-steps g c = λ now device past begun from fed going wired is clean.
    (fed, (going, wired, rests device past fed c.args.progress.now.round now going.holds (sym c.in-None.ensures) is))
