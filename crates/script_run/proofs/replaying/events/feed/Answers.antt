use Rattle.std.proofs.Common.{◌∙◌, ap}
use Rattle.std.specs.Prelude.{Ok}
use Rattle.office_books.specs.Notes.{notes_after}
use Rattle.script_text.specs.AnswerText.{accepted_text}
use Rattle.script_text.proofs.Got.{got_this}
use Rattle.script_run.proofs.ReplayingLemmas.Replies.{replied}
use Rattle.script_run.proofs.replaying.events.feed.Goals as goal

pub returns-in-Ok : goal.returns-in-Ok
returns-in-Ok g c = λ past stands.
    let answer = c.in-Ok.answer in
    let reported = c.in-Ok.ensures.reported past stands tt in
    replied past c.args.at c.args.event.now c.args.office.now c.feed.new.self (Ok answer) c.write_accepted.result _ _
    (c.in-Ok.ensures.answers past stands tt) c.in-Ok.ensures.ends (c.in-Ok.ensures.quiet past stands) (c.in-Ok.ensures.stands past stands tt)
    (got_this c.write_accepted.result _ _ _ _
    (ap (λ notes. accepted_text answer notes c.outgoing.result.now) (c.notes.ensures ∙ reported.notes)
    ∙ ap (λ frames. accepted_text answer (notes_after past c.args.at c.args.event.now (Ok answer)) frames) (c.outgoing.ensures ∙ reported.outgoing))
    c.write_accepted.ensures)

pub returns-in-Err : goal.returns-in-Err
returns-in-Err g c = λ past stands.
    replied past c.args.at c.args.event.now c.args.office.now c.feed.new.self _ c.write_refusal.result _ _
    (c.in-Err.ensures.answers past stands tt) c.in-Err.ensures.ends (c.in-Err.ensures.quiet past stands) (c.in-Err.ensures.stands past stands tt)
    c.write_refusal.ensures
