use Rattle.std.proofs.Common.{◌≡◌, Some, ap, ◌∙◌}
use Rattle.office_events.specs.declared.events.Event.TheVariants as event
use Rattle.office_program.specs.DeviceRounds.Rounds.{wish_of}
use Rattle.office_program.proofs.round.connect.Goals as goal

pub returns-in-Some-clause-connects : goal.returns-in-Some-clause-connects
returns-in-Some-clause-connects g c =
    let old = c.args.progress.now in
    let wish : Some c.in-Some.connected ≡ Some (event.Connected old.round.device) = c.in-Some.ensures ∙ ap wish_of c.requires in
    c.feed_next.ensures.connects c.requires (cc)

pub returns-in-None-clause-connects : goal.returns-in-None-clause-connects
returns-in-None-clause-connects g c =
    let wish = c.in-None.ensures ∙ ap wish_of c.requires in absurd (cc)
