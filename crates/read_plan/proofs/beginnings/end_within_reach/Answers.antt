use Rattle.std.proofs.Common.{◌+◌, rules, refl}
use Rattle.std.proofs.lemmas.List.Sorted.{IsPartitionPoint-from_clause}
use Rattle.read_plan.specs.declared.run.Run.{Run}
use Rattle.read_plan.specs.Beginnings.{ends_by}
use Rattle.read_plan.proofs.EndLemmas.{ends-partitioned, greatest-end}
use Rattle.read_plan.proofs.PlanLemmas.{anything}
use Rattle.read_plan.proofs.beginnings.end_within_reach.Goals as goal

pub overflow_sub-result : goal.overflow_sub-result
overflow_sub-result c =
    let items = c.args.items.now in
    let begin = c.args.begin.now in
    let limit : Run = record begin { end = begin.first + 125 } in
    let point = IsPartitionPoint-from_clause (λ r. ends_by r limit) items c.partition_point-count.result c.partition_point-count.ensures.partitioned
    (ends-partitioned items limit c.requires.ordered) (λ a r q k. search rules) in
    (greatest-end items begin limit c.partition_point-count.result c.requires.ordered (record { function = refl; area = refl }) refl c.requires.among c.requires.few c.partition_point-count.ensures.bound point).0

pub returns : goal.returns
returns c =
    let items = c.args.items.now in
    let begin = c.args.begin.now in
    let limit : Run = record begin { end = begin.first + 125 } in
    let point = IsPartitionPoint-from_clause (λ r. ends_by r limit) items c.partition_point-count.result c.partition_point-count.ensures.partitioned
    (ends-partitioned items limit c.requires.ordered) (λ a r q k. search rules) in
    (greatest-end items begin limit c.partition_point-count.result c.requires.ordered (record { function = refl; area = refl }) refl c.requires.among c.requires.few c.partition_point-count.ensures.bound point).1 anything
