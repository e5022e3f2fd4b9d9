use Rattle.std.proofs.Common.{refl, arith}
use Rattle.command_io.proofs.Printing.{input_prints, unread_prints}
use Rattle.sunspec_text.specs.Lists.ListText.{ListPrints, TextPrints}
use Rattle.sunspec_text.proofs.lists.list_printout.plan_text.Goals as goal

pub returns-in-Ok : goal.returns-in-Ok
returns-in-Ok g c =
    input_prints g.P.Printer (g.R.Read.remaining c.args.input.now) c.deref.result.now c.in-Ok.text.items TextPrints ListPrints c.print_said.result
    _ _ _ c.deref.ensures.value c.in-Ok.ensures.whole c.in-Ok.ensures.fits c.in-Ok.ensures.silent
    (λ all printed meant short prints. record { long = λ long. absurd (omega (arith, short, long)); text = λ fits. prints })
    c.print_said.ensures

pub returns-in-Err : goal.returns-in-Err
returns-in-Err g c =
    unread_prints g.P.Printer (g.R.Read.remaining c.args.input.now) ListPrints c.in-Err.status _ _ c.in-Err.ensures.unread c.in-Err.ensures.failed
    (λ all long. record { long = λ longer. (refl, refl); text = λ fits. absurd (omega (arith, long, fits)) })
