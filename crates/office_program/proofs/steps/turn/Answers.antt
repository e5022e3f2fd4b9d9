use Rattle.office_program.specs.Between.{wire_of}
use Rattle.office_program.proofs.Stages.{kept_wire, not_taken, taken_wire}
use Rattle.office_program.proofs.steps.turn.Goals as goal

pub returns-in-Ok-clause-steps : goal.returns-in-Ok-clause-steps
returns-in-Ok-clause-steps g c = λ device past begun from fed going wired is clean.
    let old = wire_of g.L.Link c.args.link.now in
    let new = wire_of g.L.Link c.take_event.new.link in
    let w = taken_wire past from old new fed c.in-Ok.event wired c.in-Ok.ensures.taken c.in-Ok.ensures.given in
    c.feed_taken.ensures.steps device past begun from fed going w.0 w.1 is c.in-Ok.ensures.kind clean

pub returns-in-Err-clause-steps : goal.returns-in-Err-clause-steps
returns-in-Err-clause-steps g c = λ device past begun from fed going wired is clean.
    let old = wire_of g.L.Link c.args.link.now in
    let new = wire_of g.L.Link c.take_event.new.link in
    let w = kept_wire past from old new fed wired c.in-Err.ensures.taken c.in-Err.ensures.given in
    (fed, not_taken g.B.Books.ledger device past begun _ from new _ fed c.args.progress.now c.args.progress.now.round.device c.in-Err.fault _ _ _ c.in-Err.ensures.brings going w.0 w.1)
