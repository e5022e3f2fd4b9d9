use Rattle.std.proofs.Common.{List, ℕ}
use Rattle.std.specs.Option.{option_and_then}
use Rattle.office_books.specs.History.{facts_of}
use Rattle.office_books.specs.Meters.{meter_of}
use Rattle.script_text.specs.AnswerText.{meter_line}
use Rattle.script_run.proofs.ReplayingLemmas.Reported.{row_reported}
use Rattle.script_run.proofs.replaying.questions.append_meter_lines.Goals as goal

pub returns-in-Ok : goal.returns-in-Ok
returns-in-Ok g c = λ past stands.
    row_reported (λ now. option_and_then (meter_of (facts_of now.past)) c.args.name.now) meter_line past _ _ _ c.write_meter.result _ _
    (c.in-Ok.ensures.found past stands tt) c.in-Ok.ensures.asks stands c.write_meter.ensures

pub returns-in-Err : goal.returns-in-Err
returns-in-Err g c = λ past stands.
    row_reported (λ now. option_and_then (meter_of (facts_of now.past)) c.args.name.now) meter_line past _ _ _ c.write_refusal.result _ _
    (c.in-Err.ensures.found past stands tt) c.in-Err.ensures.asks stands c.write_refusal.ensures
