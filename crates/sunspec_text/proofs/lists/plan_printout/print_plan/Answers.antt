use Rattle.command_io.proofs.Printing.{made_prints}
use Rattle.sunspec_text.specs.Lists.PlanText.{PrintsPlan}
use Rattle.sunspec_text.proofs.lists.plan_printout.print_plan.Goals as goal

pub returns : goal.returns
returns g c =
    made_prints g.P.Printer (PrintsPlan c.args.list.now) c.new-lines.result.items c.plan_lines-meant.new.output.items c.deref.result.now c.plan_lines-meant.result c.print_end.result _ _ c.new-lines.ensures.items
    c.deref.ensures.value c.plan_lines-meant.ensures c.print_end.ensures
