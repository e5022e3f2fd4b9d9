use Rattle.std.proofs.Common.{List, ℕ, ap, ◌∙◌, refl, subst}
use Rattle.sun_points.specs.Writing.{GotPart}
use Rattle.script_text.specs.AnswerText.{accepted_text}
use Rattle.script_text.proofs.Got.{appends_this}
use Rattle.office_core.specs.Standing.{notes_in}
use Rattle.office_program.proofs.fed_events.print.Goals as goal

pub returns-in-Ok-clause-prints : goal.returns-in-Ok-clause-prints
returns-in-Ok-clause-prints g c = (
  refl,
  appends_this _ _ _ _
      (ap (λ notes. accepted_text c.args.answer notes c.outgoing.result.now) c.notes.ensures
      ∙ ap (λ frames. accepted_text c.args.answer (notes_in c.args.office.now) frames) c.outgoing.ensures)
      c.in-Ok.ensures,
)

pub returns-in-Err-clause-prints : goal.returns-in-Err-clause-prints
returns-in-Err-clause-prints g c =
    let P : List ℕ → Type 0 = λ text. GotPart text (g.W.Write.contents c.args.output.now) (g.W.Write.contents c.write_accepted.new.output) in
    subst P
    (ap (λ notes. accepted_text c.args.answer notes c.outgoing.result.now) c.notes.ensures
    ∙ ap (λ frames. accepted_text c.args.answer (notes_in c.args.office.now) frames) c.outgoing.ensures)
    c.in-Err.ensures
