use Rattle.command_io.proofs.Printing.{made_prints}
use Rattle.command_io.specs.Lines.{speaking_lines}
use Rattle.sunspec_text.specs.Chains.ChainText.{LinesPrint}
use Rattle.sunspec_text.specs.Chains.ImageLines.{nothing_read, words_reported}
use Rattle.sunspec_text.proofs.chains.chain_printout.print_said.Goals as goal

pub returns : goal.returns
returns g c =
    made_prints g.P.Printer (LinesPrint (words_reported nothing_read (speaking_lines c.args.text.now))) c.new-lines.result.items c.print_lines-meant.new.output.items c.deref.result.now c.print_lines-meant.result c.print_end.result _ _ c.new-lines.ensures.items
    c.deref.ensures.value c.print_lines-meant.ensures c.print_end.ensures
