use Rattle.std.proofs.Common.{◌∷◌, refl}
use Rattle.office_program.specs.Course.{next_in}
use Rattle.office_program.proofs.Nexts.{not_anew}
use Rattle.office_program.proofs.Stages.{does_take, of_device}
use Rattle.office_program.proofs.steps.feed_taken.Goals as goal

pub returns-in-Ok-clause-steps : goal.returns-in-Ok-clause-steps
returns-in-Ok-clause-steps g c = λ device past begun from fed going taken given is kind clean.
    let e = c.args.event.now in
    let same = c.args.progress.now.round.device in
    let so = c.in-Ok.ensures.steps device past begun from fed going taken given
    (does_take device same _ e is going.holds.device_is kind) (c.follow.ensures.lasts.clean clean) in
    c.follow.ensures.steps (next_in past (so.0 ∷ fed)) (not_anew past fed so.0 device e so.1 (of_device device same e going.holds.device_is kind))
    device past begun from (so.0 ∷ fed) so.2.0 so.2.1 refl clean

pub returns-in-Err-clause-steps : goal.returns-in-Err-clause-steps
returns-in-Err-clause-steps g c = λ device past begun from fed going taken given is kind clean.
    let e = c.args.event.now in
    let so = c.in-Err.ensures.steps device past begun from fed going taken given
    (does_take device c.args.progress.now.round.device _ e is going.holds.device_is kind) clean in
    (so.0 ∷ fed, so.2)
