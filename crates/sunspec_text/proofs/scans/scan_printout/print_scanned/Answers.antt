use Rattle.command_io.proofs.Printing.{made_prints}
use Rattle.sun_chain.specs.Image.{word_in}
use Rattle.sunspec_text.specs.Scans.ScanText.{FormPrints}
use Rattle.sunspec_text.proofs.scans.scan_printout.print_scanned.Goals as goal

pub returns : goal.returns
returns g c =
    made_prints g.P.Printer (FormPrints c.args.form (word_in c.args.image.now)) c.new-lines.result.items c.print_form-meant.new.output.items c.deref.result.now c.print_form-meant.result c.print_end.result _ _ c.new-lines.ensures.items
    c.deref.ensures.value c.print_form-meant.ensures c.print_end.ensures
