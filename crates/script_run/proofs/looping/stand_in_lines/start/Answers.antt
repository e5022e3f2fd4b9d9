use Rattle.std.proofs.Common.{List, ℕ, ◌∙◌, ap, subst}
use Rattle.std.specs.Io.KnownBytes.{Appends}
use Rattle.sun_points.specs.Writing.{GotPart}
use Rattle.std.specs.Prelude.{Ok, Err}
use Rattle.office_books.specs.Notes.{notes_after}
use Rattle.script_text.specs.AnswerText.{accepted_text, refused_line}
use Rattle.script_run.specs.Looping.Lines.{StartsPrint}
use Rattle.script_run.specs.Looping.Standings.{loop_state}
use Rattle.script_run.proofs.LoopingLemmas.Breaking.{breaks_out}
use Rattle.script_run.proofs.LoopingLemmas.Carrying.{writing_out}
use Rattle.script_run.proofs.LoopingLemmas.Feeding.{not_started, start_begun, started, was_replied}
use Rattle.script_run.proofs.looping.stand_in_lines.start.Goals as goal

pub returns-in_ok-write_accepted-in-Ok : goal.returns-in_ok-write_accepted-in-Ok
returns-in_ok-write_accepted-in-Ok g c = λ connected.
    let e = c.args.event.now in
    let answer = c.in-Ok.answer in
    let old = g.W.Write.contents c.args.output.now in
    let mid = g.W.Write.contents c.write_accepted.new.output in
    started c.args.at c.args.device.now e answer c.args.office.now c.feed.new.self c.feed_responses.new.office c.args.bank.now c.send.new.bank connected
    old mid (g.W.Write.contents c.feed_responses.new.output) c.feed_responses.result
    (λ past stands.
    let reported = c.in-Ok.ensures.reported past stands tt in (
      was_replied past c.args.at e (Ok answer) c.args.office.now c.feed.new.self (c.in-Ok.ensures.answers past stands tt) c.in-Ok.ensures.ends
          (c.in-Ok.ensures.quiet past stands) (c.in-Ok.ensures.stands past stands tt),
      subst (λ (text : List ℕ). Appends old mid text)
          (ap (λ notes. accepted_text answer notes c.outgoing.result.now) (c.notes.ensures ∙ reported.notes)
          ∙ ap (λ frames. accepted_text answer (notes_after past c.args.at e (Ok answer)) frames) (c.outgoing.ensures ∙ reported.outgoing))
          c.in_ok-write_accepted-in-Ok.ensures,
    ))
    c.send.ensures c.feed_responses.ensures

pub returns-in-Err : goal.returns-in-Err
returns-in-Err g c = λ connected.
    let e = c.args.event.now in
    let why = c.in-Err.why in
    let old = g.W.Write.contents c.args.output.now in
    let new = g.W.Write.contents c.write_refusal.new.output in
    writing_out c.write_refusal.result (refused_line why) (loop_state c.args.office.now c.args.bank.now connected old)
    (loop_state c.feed.new.self c.args.bank.now connected new) (λ now printed next. StartsPrint c.args.at c.args.device.now e now printed next)
    c.write_refusal.ensures
    (λ past stands.
    not_started past c.args.at c.args.device.now e why c.args.office.now c.feed.new.self c.args.bank.now connected old new
    (was_replied past c.args.at e (Err why) c.args.office.now c.feed.new.self (c.in-Err.ensures.answers past stands tt) c.in-Err.ensures.ends
    (c.in-Err.ensures.quiet past stands) (c.in-Err.ensures.stands past stands tt)))

pub returns-in_err-write_accepted-in-Ok : goal.returns-in_err-write_accepted-in-Ok
returns-in_err-write_accepted-in-Ok g c = λ connected.
    let e = c.args.event.now in
    let answer = c.in-Ok.answer in
    let old = g.W.Write.contents c.args.output.now in
    let mid = g.W.Write.contents c.write_accepted.new.output in
    breaks_out c.from_residual.result (λ done now printed next. StartsPrint c.args.at c.args.device.now e now printed next)
    (loop_state c.args.office.now c.args.bank.now connected old) (loop_state c.feed.new.self c.args.bank.now connected mid) c.from_residual.ensures.0
    (λ past stands.
    let reported = c.in-Ok.ensures.reported past stands tt in
    start_begun c.args.at c.args.device.now e answer past c.args.office.now c.feed.new.self c.args.bank.now connected old mid
    (was_replied past c.args.at e (Ok answer) c.args.office.now c.feed.new.self (c.in-Ok.ensures.answers past stands tt) c.in-Ok.ensures.ends
    (c.in-Ok.ensures.quiet past stands) (c.in-Ok.ensures.stands past stands tt))
    (subst (λ (text : List ℕ). GotPart text old mid)
    (ap (λ notes. accepted_text answer notes c.outgoing.result.now) (c.notes.ensures ∙ reported.notes)
    ∙ ap (λ frames. accepted_text answer (notes_after past c.args.at e (Ok answer)) frames) (c.outgoing.ensures ∙ reported.outgoing))
    c.in_err-write_accepted-in-Ok.ensures))
