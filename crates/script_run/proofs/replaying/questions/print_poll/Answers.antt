use Rattle.office_books.specs.History.{facts_of}
use Rattle.office_books.specs.Readings.{poll_row_of}
use Rattle.script_text.specs.AnswerText.{poll_line}
use Rattle.script_run.proofs.ReplayingLemmas.Reported.{row_reported}
use Rattle.script_run.proofs.replaying.questions.print_poll.Goals as goal

pub returns-in-Ok : goal.returns-in-Ok
returns-in-Ok g c = λ past stands.
    row_reported (λ now. poll_row_of (facts_of now.past) c.args.number) poll_line past _ _ _ c.write_poll.result _ _
    (c.in-Ok.ensures.found past stands tt) c.in-Ok.ensures.asks stands c.write_poll.ensures

pub returns-in-Err : goal.returns-in-Err
returns-in-Err g c = λ past stands.
    row_reported (λ now. poll_row_of (facts_of now.past) c.args.number) poll_line past _ _ _ c.write_refusal.result _ _
    (c.in-Err.ensures.found past stands tt) c.in-Err.ensures.asks stands c.write_refusal.ensures
