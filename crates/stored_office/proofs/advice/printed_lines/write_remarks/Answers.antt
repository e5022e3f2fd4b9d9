use Rattle.std.proofs.Common.{List, subst}
use Rattle.command_io.specs.Lines.{Line}
use Rattle.stored_office.specs.Advice.PrintedLines.{Explains}
use Rattle.stored_office.proofs.advice.printed_lines.write_remarks.Goals as goal

pub loop-line-init : goal.loop-line-init
loop-line-init c = λ whole h.
    let P : List Line → Type 0 = λ lines. Explains c.args.device.now lines c.args.text.now.items whole in
    subst P c.new-lines.ensures h
