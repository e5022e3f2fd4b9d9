use Rattle.std.proofs.Common.{refl}
use Rattle.std.proofs.lemmas.Result.{IfOk-weaker}
use Rattle.read_plan.specs.declared.planned_reads.PlannedRead.{PlannedRead}
use Rattle.office_books.proofs.Planning.{asked_of}
use Rattle.office_books.proofs.plans.reads_from.Goals as goal

pub returns : goal.returns
returns c =
    IfOk-weaker c.spans_of.result _ _
    (λ spans got.
    asked_of (λ (r : PlannedRead). r.span) c.reads-reads.result.now c.args.list.now.reads _ c.args.from c.args.most c.min.result c.min-2.result spans.items
    c.reads-reads.ensures.reads c.min.ensures refl c.min-2.ensures got)
    c.spans_of.ensures
