use Rattle.office_program.specs.Between.{wire_of}
use Rattle.office_program.proofs.Stages.{sent, wired_broken}
use Rattle.office_program.proofs.steps.feed_and_send.Goals as goal

pub returns-in-Ok-clause-steps : goal.returns-in-Ok-clause-steps
returns-in-Ok-clause-steps g c = λ device past begun from fed going taken given does clean.
    let e = c.args.event.now in
    let reported = c.in-Ok.ensures.reports device past begun fed going does clean in (
      reported.0,
      reported.1,
      sent g.B.Books.ledger device past begun from (wire_of g.L.Link c.args.link.now) (wire_of g.L.Link c.send.new.link) _ c.feed_next.new.office fed reported.0
          c.feed_next.new.progress e c.send.result c.outgoing.result.now taken given reported.1 reported.2.going reported.2.reported c.outgoing.ensures c.send.ensures.remaining
          c.send.ensures.given c.send.ensures.kind,
    )

pub returns-in-Err-clause-steps : goal.returns-in-Err-clause-steps
returns-in-Err-clause-steps g c = λ device past begun from fed going taken given does clean.
    let e = c.args.event.now in
    let reported = c.in-Err.ensures.reports device past begun fed going does clean in (
      reported.0,
      reported.1,
      (reported.2.0, wired_broken past from (wire_of g.L.Link c.args.link.now) fed reported.0 e c.in-Err.fault taken given reported.1 reported.2.1),
    )
