use Rattle.std.proofs.Common.{◌∙◌, ap, refl}
use Rattle.std.specs.List.{flat_map}
use Rattle.std.specs.Prelude.{Ok, Err, true, false}
use Rattle.script_text.specs.AnswerText.{note_line}
use Rattle.script_run.proofs.LoopingLemmas.Feeding.{was_begun, was_fed, was_replied}
use Rattle.script_run.proofs.looping.answers.feed.Goals as goal

pub returns-in-Ok-write_notes : goal.returns-in-Ok-write_notes
returns-in-Ok-write_notes g c = λ past stands.
    let reported = c.in-Ok.ensures.reported past stands tt in
    let replied = was_replied past c.args.at c.args.event.now (Ok c.in-Ok.field-0) c.args.office.now c.feed.new.self
    (c.in-Ok.ensures.answers past stands tt) c.in-Ok.ensures.ends (c.in-Ok.ensures.quiet past stands) (c.in-Ok.ensures.stands past stands tt) in
    was_fed past c.args.at c.args.event.now (Ok c.in-Ok.field-0) c.args.office.now c.feed.new.self true _ _ _ replied refl
    (ap (flat_map note_line) (c.notes.ensures ∙ reported.notes)) c.in-Ok-write_notes.ensures

pub returns-in-Ok-write_refusal : goal.returns-in-Ok-write_refusal
returns-in-Ok-write_refusal g c = λ past stands.
    let replied = was_replied past c.args.at c.args.event.now (Err c.in-Err.why) c.args.office.now c.feed.new.self
    (c.in-Err.ensures.answers past stands tt) c.in-Err.ensures.ends (c.in-Err.ensures.quiet past stands) (c.in-Err.ensures.stands past stands tt) in
    was_fed past c.args.at c.args.event.now (Err c.in-Err.why) c.args.office.now c.feed.new.self false _ _ _ replied refl
    refl c.in-Ok-write_refusal.ensures

pub returns-in-Err-write_notes : goal.returns-in-Err-write_notes
returns-in-Err-write_notes g c = λ past stands.
    let reported = c.in-Ok.ensures.reported past stands tt in
    let replied = was_replied past c.args.at c.args.event.now (Ok c.in-Ok.field-0) c.args.office.now c.feed.new.self
    (c.in-Ok.ensures.answers past stands tt) c.in-Ok.ensures.ends (c.in-Ok.ensures.quiet past stands) (c.in-Ok.ensures.stands past stands tt) in
    was_begun past c.args.at c.args.event.now (Ok c.in-Ok.field-0) c.args.office.now c.feed.new.self true _ _ _ replied refl
    (ap (flat_map note_line) (c.notes.ensures ∙ reported.notes)) c.in-Err-write_notes.ensures

pub returns-in-Err-write_refusal : goal.returns-in-Err-write_refusal
returns-in-Err-write_refusal g c = λ past stands.
    let replied = was_replied past c.args.at c.args.event.now (Err c.in-Err.why) c.args.office.now c.feed.new.self
    (c.in-Err.ensures.answers past stands tt) c.in-Err.ensures.ends (c.in-Err.ensures.quiet past stands) (c.in-Err.ensures.stands past stands tt) in
    was_begun past c.args.at c.args.event.now (Err c.in-Err.why) c.args.office.now c.feed.new.self false _ _ _ replied refl
    refl c.in-Err-write_refusal.ensures
