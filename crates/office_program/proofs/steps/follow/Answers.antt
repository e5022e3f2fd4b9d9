use Rattle.office_program.proofs.Stages.{over_as}
use Rattle.office_program.proofs.steps.follow.Goals as goal

pub returns-in-Ok-clause-steps : goal.returns-in-Ok-clause-steps
returns-in-Ok-clause-steps g c = λ now anew device past begun from fed going wired is clean.
    let so = c.in-Ok.ensures.steps now device past begun from fed going wired is clean in (
      so.0,
      (
        so.1.0,
        so.1.1,
        over_as device past so.0 c.feed_requested.new.progress.round now c.is_over.result so.1.0.holds so.1.2 anew c.is_over.ensures,
      ),
    )

pub returns-in-Err-clause-steps : goal.returns-in-Err-clause-steps
returns-in-Err-clause-steps g c = λ now anew device past begun from fed going wired is clean.
    c.in-Err.ensures.steps now device past begun from fed going wired is clean
