use Rattle.command_io.proofs.Printing.{made_prints}
use Rattle.sunspec_text.specs.Lists.ListText.{TextPrints}
use Rattle.sunspec_text.proofs.lists.list_printout.print_said.Goals as goal

pub returns : goal.returns
returns g c =
    made_prints g.P.Printer (TextPrints c.args.text.now) c.new-lines.result.items c.print_text-meant.new.output.items c.deref.result.now c.print_text-meant.result c.print_end.result _ _ c.new-lines.ensures.items
    c.deref.ensures.value c.print_text-meant.ensures c.print_end.ensures
