use Rattle.std.proofs.Common.{[], ◌∷◌, ◌∙◌, refl}
use Rattle.office_books.specs.History.{Opened}
use Rattle.script_run.proofs.ReplayingLemmas.Replies.{same_stage}
use Rattle.script_run.proofs.ReplayingLemmas.Scripts.{empty_books, refused_for_memory}
use Rattle.script_run.proofs.LoopingLemmas.Loops.{not_opened, text_from}
use Rattle.script_run.proofs.looping.text_run.run_opened.Goals as goal

pub returns-in-Ok : goal.returns-in-Ok
returns-in-Ok g c =
    text_from c.run_lines.result c.args.zone (Opened 0 ∷ []) c.args.text.now c.in-Ok.office c.args.bank
    (g.W.Write.contents c.args.output.now) (g.W.Write.contents c.run_lines.new.output) c.requires
    (same_stage _ _ _ _ _ c.in-Ok.ensures.fresh.goes (c.in-Ok.ensures.passed.zone ∙ c.new.ensures.zone))
    (c.in-Ok.ensures.opened [] (empty_books c.new.result c.new.ensures.empty) tt) c.run_lines.ensures

pub returns-in-Err : goal.returns-in-Err
returns-in-Err g c =
    not_opened c.print_refused.result c.in-Err.why c.args.zone c.args.text.now (g.W.Write.contents c.args.output.now)
    (g.W.Write.contents c.print_refused.new.output)
    (refused_for_memory c.in-Err.why _ _ refl refl c.in-Err.ensures.passed.not_stopped
    (c.in-Err.ensures.refused [] (empty_books c.new.result c.new.ensures.empty) tt))
    c.print_refused.ensures
