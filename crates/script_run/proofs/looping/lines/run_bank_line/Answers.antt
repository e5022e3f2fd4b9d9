use Rattle.std.proofs.Common.{inr, refl, ap, rules}
use Rattle.script_run.specs.Looping.Lines.{BankPrints, MayNotStand, maps_with, taken_text}
use Rattle.script_run.specs.Looping.Standings.{LoopStage, loop_state, stage_on}
use Rattle.script_run.specs.Replaying.TextRun.{stage_of}
use Rattle.script_run.proofs.LoopingLemmas.Breaking.{breaks_line}
use Rattle.script_run.proofs.looping.lines.run_bank_line.Goals as goal

pub returns-in_err-print_acceptance : goal.returns-in_err-print_acceptance
returns-in_err-print_acceptance g c =
    let said = c.args.said.now in
    let run = c.args.run.now in
    let text = taken_text c.apply_bank_line-taken.result in
    breaks_line c.from_residual.result (BankPrints said) (MayNotStand run.connected said) _ _ c.from_residual.ensures.0
    (λ past stands.
    let now = stage_on past (loop_state run.office run.bank run.connected (g.W.Write.contents c.args.output.now)) in
    let next : LoopStage = record { script = stage_of past run.office; maps = maps_with run.bank said; connected = run.connected } in
    let prints : BankPrints said now text next = record {
      stands = c.is_allowed.ensures.yes c.if-not-is_allowed.false;
      text = ap taken_text c.apply_bank_line-taken.ensures.taken;
      script = refl;
      maps = refl;
      connected = refl;
    } in
    inr (text, (next, prints), c.in_err-print_acceptance.ensures))
