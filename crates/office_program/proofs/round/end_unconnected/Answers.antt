use Rattle.office_program.specs.Between.{desk_of}
use Rattle.office_program.proofs.Wholes.{unprinted_as}
use Rattle.office_program.proofs.round.end_unconnected.Goals as goal

pub returns-in-Output-clause-ends : goal.returns-in-Output-clause-ends
returns-in-Output-clause-ends g c = λ device past begun wire h clean.
    let was = desk_of g.B.Books g.C.Clock g.W.Write c.args.office.now c.args.clock.now c.args.output.now in
    let now =
    desk_of g.B.Books g.C.Clock g.W.Write c.close-in-Output.new.office c.close-in-Output.new.clock c.close-in-Output.new.output in
    unprinted_as g.B.Books.ledger device past begun was now wire c.args.office.now c.close-in-Output.new.office c.args.progress.now c.args.fault
    c.close-in-Output.result c.in-Output.is h (λ fed broken. c.close-in-Output.ensures.closes device past begun fed broken clean)
