use Rattle.std.proofs.Common.{ℕ, subst}
use Rattle.std.specs.Prelude.{OnOk}
use Rattle.std.specs.Io.KnownBytes.{Appends}
use Rattle.sunspec_text.specs.Lists.PlanText.{span_line}
use Rattle.sunspec_text.proofs.lists.plan_printout.print_read.Goals as goal

pub returns : goal.returns
returns g c =
    subst
    (λ (function : ℕ). OnOk c.print_span.result (Appends (g.W.Write.contents c.args.output.now) (g.W.Write.contents c.print_span.new.output) (span_line c.args.number function c.args.read.now)))
    c.code-function.ensures c.print_span.ensures
