use Rattle.std.proofs.Common.{List, ℕ, ap, subst, ◌∙◌}
use Rattle.mb_wire.specs.Reader.{spelling}
use Rattle.mb_wire.specs.Requests.{request_bytes}
use Rattle.sun_points.specs.Writing.{GotText}
use Rattle.sun_chain.proofs.ScanLemmas.Gives.{got_of}
use Rattle.sun_chain.proofs.scans.asking.give_request.Goals as goal

pub returns-clause-given : goal.returns-clause-given
returns-clause-given g c =
    subst (λ (text : List ℕ). GotText c.give_all.result text (g.L.Link.given c.args.link.now) (g.L.Link.given c.give_all.new.link))
    (c.write_frame-count.ensures.written
    ∙ ap (spelling c.args.attempt.id c.args.attempt.unit) (c.encode_request-size.ensures.written ∙ ap request_bytes c.request-request.ensures))
    (got_of c.give_all.result _ _ _ c.give_all.ensures.given)
