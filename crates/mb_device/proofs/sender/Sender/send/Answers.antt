use Rattle.std.proofs.Common.{take, subst, sym, ap, ◌∙◌}
use Rattle.mb_device.proofs.Putting.{goes_on, sends}
use Rattle.mb_wire.specs.Links.{Gives}
use Rattle.mb_device.specs.Tricks.{answer_of, following, sent_of, spelled_by}
use Rattle.mb_device.proofs.sender.Sender.send.Goals as goal

pub returns-clause-given : goal.returns-clause-given
returns-clause-given g c =
    let answer = answer_of c.args.tid c.args.unit c.args.pdu.now in
    let trick = c.find_trick-trick.result in
    let later = take c.self.inside.len c.self.inside.later in
    let next = sends c.args.self.now c.self.inside.is_cut c.self.inside.tricks.now c.self.inside.next later answer (sym c.self.view_is) c.requires.going in
    subst (Gives c.give_by-given.result (g.L.Link.given c.args.link.now) (g.L.Link.given c.give_by-given.new.link))
    (ap (λ f. sent_of trick f later) c.write_by-end.ensures.written ∙ ap (λ t. sent_of t (spelled_by t answer) later) c.find_trick-trick.ensures ∙ sym next)
    c.give_by-given.ensures.given

pub returns-clause-after : goal.returns-clause-after
returns-clause-after g c =
    let answer = answer_of c.args.tid c.args.unit c.args.pdu.now in
    let trick = c.find_trick-trick.result in
    let later = take c.self.inside.len c.self.inside.later in
    let next = goes_on c.args.self.now c.self.inside.is_cut c.self.inside.tricks.now c.self.inside.next later answer (sym c.self.view_is) c.requires.going in
    c.advance_frame.ensures
    ∙ ap (λ f. following trick f c.args.self.now) c.write_by-end.ensures.written
    ∙ ap (λ t. following t (spelled_by t answer) c.args.self.now) c.find_trick-trick.ensures
    ∙ sym next
