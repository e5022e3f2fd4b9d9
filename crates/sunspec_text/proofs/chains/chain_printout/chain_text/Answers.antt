use Rattle.std.proofs.Common.{List, ℕ, refl, arith}
use Rattle.command_io.proofs.Printing.{input_prints, unread_prints}
use Rattle.command_io.specs.Lines.{speaking_lines}
use Rattle.command_io.specs.declared.status.ExitStatus.{ExitStatus}
use Rattle.sunspec_text.specs.Chains.ChainText.{ChainPrints, LinesPrint}
use Rattle.sunspec_text.specs.Chains.ImageLines.{nothing_read, words_reported}
use Rattle.sunspec_text.proofs.chains.chain_printout.chain_text.Goals as goal

abbrev text_prints : List ℕ → List ℕ → ExitStatus → Type 0
text_prints text printed status = LinesPrint (words_reported nothing_read (speaking_lines text)) printed status

pub returns-in-Ok : goal.returns-in-Ok
returns-in-Ok g c =
    input_prints g.P.Printer (g.R.Read.remaining c.args.input.now) c.deref.result.now c.in-Ok.text.items text_prints ChainPrints c.print_said.result
    _ _ _ c.deref.ensures.value c.in-Ok.ensures.whole c.in-Ok.ensures.fits c.in-Ok.ensures.silent
    (λ all printed meant short prints. record { long = λ long. absurd (omega (arith, short, long)); lines = λ fits. prints })
    c.print_said.ensures

pub returns-in-Err : goal.returns-in-Err
returns-in-Err g c =
    unread_prints g.P.Printer (g.R.Read.remaining c.args.input.now) ChainPrints c.in-Err.status _ _ c.in-Err.ensures.unread c.in-Err.ensures.failed
    (λ all long. record { long = λ longer. (refl, refl); lines = λ fits. absurd (omega (arith, long, fits)) })
