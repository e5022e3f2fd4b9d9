use Rattle.std.proofs.Common.{refl}
use Rattle.std.specs.List.{flat_map}
use Rattle.script_text.specs.AnswerText.{answer_line, note_line}
use Rattle.script_text.proofs.Got.{got_both, got_first}
use Rattle.script_text.proofs.accepted_events.write_accepted.Goals as goal

pub returns-in_err-write_notes : goal.returns-in_err-write_notes
returns-in_err-write_notes g c =
    got_first c.from_residual.result _ _ (flat_map note_line c.args.notes.now) (answer_line c.args.answer.now c.args.frames.now) _ c.from_residual.ensures.0 c.in_err-write_notes.ensures refl

pub returns : goal.returns
returns g c =
    got_both c.write_answer.result _ _ _ (flat_map note_line c.args.notes.now) (answer_line c.args.answer.now c.args.frames.now) _ c.in_ok-write_notes.ensures c.write_answer.ensures refl
