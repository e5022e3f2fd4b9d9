use Rattle.std.proofs.Common.{refl}
use Rattle.sunspec_text.specs.Lists.PlanText.{read_head, registers_text}
use Rattle.script_text.proofs.Got.{appends_before}
use Rattle.sunspec_text.proofs.lists.plan_printout.print_span.Goals as goal

pub returns : goal.returns
returns g c =
    appends_before c.print_registers.result _ _ _ (read_head c.args.number c.args.function) (registers_text c.args.read.now) _
    c.in_ok-print_head.ensures c.print_registers.ensures refl
