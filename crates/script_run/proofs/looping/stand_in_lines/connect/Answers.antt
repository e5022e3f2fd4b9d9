use Rattle.std.proofs.Common.{inl, ◌∙◌, ap, refl}
use Rattle.std.proofs.KnownBytes.{Appends-nil}
use Rattle.std.specs.Prelude.{Ok, Err}
use Rattle.office_events.specs.declared.events.Event.TheVariants as event
use Rattle.office_books.specs.Notes.{notes_after}
use Rattle.script_run.specs.Replaying.Events.{EventPrints}
use Rattle.script_text.specs.AnswerText.{accepted_text, refused_line}
use Rattle.script_run.proofs.LoopingLemmas.Breaking.{breaks}
use Rattle.script_run.proofs.LoopingLemmas.Carrying.{writing}
use Rattle.script_run.proofs.LoopingLemmas.Feeding.{was_printed, was_replied}
use Rattle.script_run.proofs.looping.stand_in_lines.connect.Goals as goal

pub returns-in-Ok : goal.returns-in-Ok
returns-in-Ok g c =
    let e = event.Connected c.args.device.now in
    let answer = c.in-Ok.answer in
    writing c.write_accepted.result (accepted_text answer c.notes.result.now c.outgoing.result.now) c.args.office.now c.feed.new.self
    (g.W.Write.contents c.args.output.now) (g.W.Write.contents c.write_accepted.new.output)
    (λ now printed next. EventPrints now c.args.at e printed next) c.write_accepted.ensures
    (λ past stands.
    let reported = c.in-Ok.ensures.reported past stands tt in
    was_printed past c.args.at e (Ok answer) c.args.office.now c.feed.new.self (accepted_text answer c.notes.result.now c.outgoing.result.now)
    (was_replied past c.args.at e (Ok answer) c.args.office.now c.feed.new.self (c.in-Ok.ensures.answers past stands tt) c.in-Ok.ensures.ends
    (c.in-Ok.ensures.quiet past stands) (c.in-Ok.ensures.stands past stands tt))
    (ap (λ notes. accepted_text answer notes c.outgoing.result.now) (c.notes.ensures ∙ reported.notes)
    ∙ ap (λ frames. accepted_text answer (notes_after past c.args.at e (Ok answer)) frames) (c.outgoing.ensures ∙ reported.outgoing)))

pub returns : goal.returns
returns g c =
    let e = event.Connected c.args.device.now in
    let why = c.in-Err.why in
    writing c.write_refusal.result (refused_line why) c.args.office.now c.feed.new.self
    (g.W.Write.contents c.args.output.now) (g.W.Write.contents c.write_refusal.new.output)
    (λ now printed next. EventPrints now c.args.at e printed next) c.write_refusal.ensures
    (λ past stands.
    was_printed past c.args.at e (Err why) c.args.office.now c.feed.new.self (refused_line why)
    (was_replied past c.args.at e (Err why) c.args.office.now c.feed.new.self (c.in-Err.ensures.answers past stands tt) c.in-Err.ensures.ends
    (c.in-Err.ensures.quiet past stands) (c.in-Err.ensures.stands past stands tt))
    refl)

pub returns-in_err-connect-in-Ok : goal.returns-in_err-connect-in-Ok
returns-in_err-connect-in-Ok g c =
    breaks c.from_residual.result (λ done now printed next. EventPrints now c.args.at (event.Connected c.args.device.now) printed next) c.args.office.now _ _ _
    c.from_residual.ensures.0 (λ past stands. inl (Appends-nil _))

pub returns-in_err-connect-in-Ok-2 : goal.returns-in_err-connect-in-Ok-2
returns-in_err-connect-in-Ok-2 g c =
    breaks c.from_residual-in_err-connect-in-Ok-2.result (λ done now printed next. EventPrints now c.args.at (event.Connected c.args.device.now) printed next)
    c.args.office.now _ _ _ c.from_residual-in_err-connect-in-Ok-2.ensures.0 (λ past stands. inl (Appends-nil _))
