use Rattle.std.proofs.Common.{rules, ◌≡◌, ◌++◌, Err, subst, sym}
use Rattle.mb_wire.proofs.Giving.{Gives-both, GivesPart-before}
use Rattle.mb_wire.specs.Links.{Gives}
use Rattle.mb_device.proofs.sender.give_both.Goals as goal

pub returns-in_err-give_all-clause-given : goal.returns-in_err-give_all-clause-given
returns-in_err-give_all-clause-given g c =
    let is : c.from_residual.result ≡ Err c.in_err-give_all.field-0.0 = search rules in
    subst (λ r. Gives r (g.L.Link.given c.args.link.now) (g.L.Link.given c.give_all.new.link) (c.args.first.now ++ c.args.next.now)) (sym is)
    (GivesPart-before _ _ _ c.args.next.now c.in_err-give_all.ensures.given)

pub returns-clause-given : goal.returns-clause-given
returns-clause-given g c = Gives-both c.give_all-2.result _ _ _ c.args.first.now c.args.next.now c.in_ok-give_all.ensures.given c.give_all-2.ensures.given
