use Rattle.std.proofs.Common.{rules, ◌≡◌, ◌++◌, Some, subst, sym}
use Rattle.mb_wire.proofs.Giving.{Gives-both}
use Rattle.mb_wire.specs.Links.{Gives}
use Rattle.mb_device.specs.Tricks.{sent_of}
use Rattle.mb_device.specs.declared.trick.Trick.TheVariants as play
use Rattle.mb_device.proofs.sender.give_by.Goals as goal

pub returns-in_ok-give_all-in-Some-Twice-clause-given :
    goal.returns-in_ok-give_all-in-Some-Twice-clause-given
returns-in_ok-give_all-in-Some-Twice-clause-given g c =
    let is : c.args.trick ≡ Some play.Twice = search rules in
    subst (λ t. Gives c.give_both.result (g.L.Link.given c.args.link.now) (g.L.Link.given c.give_both.new.link) (sent_of t c.args.frame.now c.args.later.now)) (sym is)
    (Gives-both c.give_both.result _ _ _ c.args.frame.now (c.args.frame.now ++ c.args.later.now) c.in_ok-give_all-in-Some-Twice.ensures.given c.give_both.ensures.given)
