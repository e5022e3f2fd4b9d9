use Rattle.std.proofs.Common.{◌<◌, length, get_or, refl}
use Rattle.std.proofs.lemmas.List.{get_or_default}
use Rattle.std.proofs.lemmas.List.Elements.{all_zip_more}
use Rattle.read_plan.specs.declared.run.Run.{Run}
use Rattle.read_plan.specs.Beginnings.{ReadsFrom}
use Rattle.read_plan.proofs.PlanLemmas.{anything}
use Rattle.read_plan.proofs.reads.reads_from.Goals as goal

pub loop-begin-preserved : goal.loop-begin-preserved
loop-begin-preserved c =
    let begins = c.args.begins.now in
    let n = c.loop-begin.begin-index in
    let x = get_or begins n anything in
    let within : n < length begins = c.loop-begin-test.true in
    let read : Run = record x { end = c.end_within_reach-end.result } in
    rw c.in_ok-push.ensures.items
    (all_zip_more (ReadsFrom c.args.items.now) begins c.loop-begin.reads.items n x read within (get_or_default begins n anything x within) c.loop-begin.invariant
    (record { same_area = record { function = refl; area = refl }; first = refl; end = c.end_within_reach-end.ensures }))
