use Rattle.std.proofs.Common.{inl, inr, refl, rules}
use Rattle.mb_wire.specs.Spans.{IsSpan}
use Rattle.office_events.specs.declared.refusals.Refusal.TheVariants.{Limit}
use Rattle.script_text.specs.AnswerText.{refused_line}
use Rattle.script_run.specs.Replaying.Events.{IsSpanOf, start_event}
use Rattle.script_run.specs.Looping.Lines.{ReadPrints, StartsPrint}
use Rattle.script_run.specs.Looping.Standings.{loop_state, stage_on}
use Rattle.script_run.proofs.LoopingLemmas.Breaking.{begins_as, breaks_line}
use Rattle.script_run.proofs.LoopingLemmas.Carrying.{out_as}
use Rattle.script_run.proofs.looping.lines.run_start.Goals as goal

pub returns-in_ok-start-in-Some : goal.returns-in_ok-start-in-Some
returns-in_ok-start-in-Some g c = λ past stands.
    let given = c.args.given.now in
    let span = c.in-Some.span in
    let is : IsSpanOf given span = record { function = c.in-Some.ensures.function; address = c.in-Some.ensures.address; count = c.in-Some.ensures.count } in
    out_as (StartsPrint c.args.at given.device (start_event given span)) (ReadPrints c.args.at given) past _ _
    (λ now printed next prints. inl (span, is, prints))
    (c.in_ok-start-in-Some.ensures c.args.run.now.connected past stands)

pub returns-in_err-start-in-Some : goal.returns-in_err-start-in-Some
returns-in_err-start-in-Some g c =
    let given = c.args.given.now in
    let span = c.in-Some.span in
    let is : IsSpanOf given span = record { function = c.in-Some.ensures.function; address = c.in-Some.ensures.address; count = c.in-Some.ensures.count } in
    breaks_line c.from_residual.result (ReadPrints c.args.at given) ⊥ _ _ c.from_residual.ensures.0
    (λ past stands.
    begins_as _ _ _ _ (λ printed broken. (broken.1, inl (span, is, broken.2)))
    (c.in_err-start-in-Some.ensures c.args.run.now.connected past stands))

pub returns-in_err-write_refusal-in-None : goal.returns-in_err-write_refusal-in-None
returns-in_err-write_refusal-in-None g c =
    let given = c.args.given.now in
    let run = c.args.run.now in
    let none : IsSpan given.function given.address given.count → ⊥ = λ is. search rules in
    breaks_line c.from_residual-in_err-write_refusal-in-None.result (ReadPrints c.args.at given) ⊥ _ _ c.from_residual-in_err-write_refusal-in-None.ensures.0
    (λ past stands.
    let now = stage_on past (loop_state run.office run.bank run.connected (g.W.Write.contents c.args.output.now)) in
    let prints : ReadPrints c.args.at given now (refused_line Limit) now =
    inr (none, record { text = refl; same = refl }, record { maps = refl; connected = refl }) in
    inr (refused_line Limit, (now, prints), c.in_err-write_refusal-in-None.ensures))
