use Rattle.mb_wire.specs.Spans.{span_view}
use Rattle.sun_chain.specs.Scanning.Lines.{request_under}
use Rattle.sun_chain.proofs.ScanLemmas.Gives.{got_kept}
use Rattle.sun_chain.proofs.scans.client.Client.try_once.Goals as goal

pub returns-in-Ok-clause-asks : goal.returns-in-Ok-clause-asks
returns-in-Ok-clause-asks g c =
    got_kept c.hear.result (g.L.Link.given c.args.link.now) (g.L.Link.given c.give_request.new.link) (g.L.Link.given c.hear.new.link)
    (request_under c.args.self.now.unit (span_view c.args.span) c.args.self.now.next) c.in-Ok.ensures.given c.hear.ensures.given
