use Rattle.std.proofs.Common.{◌≡◌, List, ℕ, Option, ap, subst}
use Rattle.command_io.specs.Input.{EndsUnread}
use Rattle.script_run.specs.Looping.TextRun.{InputRuns, TextRuns}
use Rattle.script_run.proofs.ReplayingLemmas.Scripts.{if_some}
use Rattle.script_run.proofs.LoopingLemmas.Loops.{text_ran, unread_ran}
use Rattle.script_run.proofs.looping.text_run.loop_text.Goals as goal

pub returns-in-Ok : goal.returns-in-Ok
returns-in-Ok g c =
    let zone = c.args.zone in
    let text = c.in-Ok.text.items in
    let status = c.run_text.result in
    let old = g.W.Write.contents c.args.output.now in
    let from = g.W.Write.contents c.read_input.new.output in
    let new = g.W.Write.contents c.run_text.new.output in
    let Of : List ℕ → Type 0 = λ t. TextRuns zone t status from new in
    let Held : Option (List ℕ) → Type 0 = λ o. TextRuns zone text status o new in
    let runs : TextRuns zone text status old new =
    subst Held (ap g.W.Write.contents c.in-Ok.ensures.silent) (subst Of c.deref.ensures.value c.run_text.ensures) in
    if_some (g.R.Read.remaining c.args.input.now) (λ all. text ≡ all) (λ all. InputRuns zone all status old new) c.in-Ok.ensures.whole
    (λ all is. text_ran zone text all status old new is c.in-Ok.ensures.fits runs)

pub returns-in-Err : goal.returns-in-Err
returns-in-Err g c =
    let status = c.in-Err.status in
    let old = g.W.Write.contents c.args.output.now in
    let new = g.W.Write.contents c.read_input.new.output in
    if_some (g.R.Read.remaining c.args.input.now) (λ all. EndsUnread all status old new) (λ all. InputRuns c.args.zone all status old new)
    c.in-Err.ensures.unread (λ all unread. unread_ran c.args.zone all status old new unread)
