use Rattle.std.proofs.Common.{ap, ◌∙◌}
use Rattle.office_core.specs.Standing.{notes_in}
use Rattle.script_text.specs.AnswerText.{accepted_text}
use Rattle.script_text.proofs.Got.{got_this}
use Rattle.office_program.proofs.entering.asking.print_reply.Goals as goal

pub returns-in-Ok : goal.returns-in-Ok
returns-in-Ok g c =
    let answer = c.in-Ok.answer in
    rw c.in-Ok.is
    (got_this c.write_accepted.result _ _ _ _
    (ap (λ notes. accepted_text answer notes c.outgoing.result.now) c.notes.ensures
    ∙ ap (λ frames. accepted_text answer (notes_in c.args.office.now) frames) c.outgoing.ensures)
    c.write_accepted.ensures)
