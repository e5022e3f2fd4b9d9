use Rattle.std.proofs.Common.{◌+◌, ◌++◌, take, ap, ◌∙◌, arith}
use Rattle.read_plan.specs.declared.planned_reads.PlannedRead.{PlannedRead}
use Rattle.sunspec_text.specs.Lists.PlanText.{read_line, read_lines}
use Rattle.script_text.proofs.Got.{appends_both}
use Rattle.sunspec_text.proofs.ListsLemmas.PlanLines.{reads_next}
use Rattle.sunspec_text.proofs.lists.plan_printout.print_reads.Goals as goal

pub loop-index-preserved : goal.loop-index-preserved
loop-index-preserved g c =
    appends_both _ _ _ (read_lines 1 (take c.loop-index.index c.args.reads.now)) (read_line (c.loop-index.index + 1) c.index-reads-index.result) _
    c.loop-index.invariant c.in_ok-print_read.ensures
    (ap (λ (read : PlannedRead). read_lines 1 (take c.loop-index.index c.args.reads.now) ++ read_line (c.loop-index.index + 1) read) c.index-reads-index.is
    ∙ reads_next c.args.reads.now c.loop-index.index c.index-reads-index.result (omega arith))
