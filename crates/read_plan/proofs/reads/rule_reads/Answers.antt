use Rattle.std.proofs.Common.{◌<◌}
use Rattle.std.proofs.lemmas.List.Sorted.{All-permutation}
use Rattle.std.proofs.lemmas.Result.{IfOk-weaker}
use Rattle.std.specs.List.{AllZip}
use Rattle.read_plan.specs.Beginnings.{ReadsFrom}
use Rattle.read_plan.specs.Plans.{FollowsRule, IsReadable}
use Rattle.read_plan.proofs.RuleLemmas.{beginnings-among, beginnings-keep, rule-of-sorted}
use Rattle.read_plan.proofs.reads.rule_reads.Goals as goal

pub beginnings-requires-clause-ordered : goal.beginnings-requires-clause-ordered
beginnings-requires-clause-ordered c = rw c.deref.ensures.value c.in_ok-in_order.ensures.ordered

pub beginnings-requires-clause-readable : goal.beginnings-requires-clause-readable
beginnings-requires-clause-readable c = rw c.deref.ensures.value (All-permutation IsReadable c.args.items.now c.in_ok-in_order.in_order.items c.in_ok-in_order.ensures.same c.requires.readable)

pub reads_from-requires-clause-ordered : goal.reads_from-requires-clause-ordered
reads_from-requires-clause-ordered c = rw c.deref-2.ensures.value c.in_ok-by_ends.ensures.ordered

pub reads_from-requires-clause-among : goal.reads_from-requires-clause-among
reads_from-requires-clause-among c =
    rw (c.deref-2.ensures.value, c.deref-3.ensures.value)
    (beginnings-among c.args.items.now c.in_ok-in_order.in_order.items c.in_ok-by_ends.by_ends.items c.in_ok-begins.begins.items c.in_ok-in_order.ensures.same c.in_ok-by_ends.ensures.same
    (rw c.deref.ensures.value at c.in_ok-begins.ensures))

pub reads_from-requires-clause-readable : goal.reads_from-requires-clause-readable
reads_from-requires-clause-readable c =
    rw c.deref-3.ensures.value
    (beginnings-keep IsReadable c.args.items.now c.in_ok-in_order.in_order.items c.in_ok-begins.begins.items c.in_ok-in_order.ensures.same
    (rw c.deref.ensures.value at c.in_ok-begins.ensures) c.requires.readable)

pub reads_from-requires-clause-inside : goal.reads_from-requires-clause-inside
reads_from-requires-clause-inside c =
    rw c.deref-3.ensures.value
    (beginnings-keep (λ r. r.first < 65536) c.args.items.now c.in_ok-in_order.in_order.items c.in_ok-begins.begins.items c.in_ok-in_order.ensures.same
    (rw c.deref.ensures.value at c.in_ok-begins.ensures) c.requires.inside)

pub returns : goal.returns
returns c =
    let zipped = rw (c.deref-2.ensures.value, c.deref-3.ensures.value) at c.reads_from.ensures in
    IfOk-weaker c.reads_from.result (λ v. AllZip (ReadsFrom c.in_ok-by_ends.by_ends.items) c.in_ok-begins.begins.items v.items) (λ v. FollowsRule c.args.items.now v.items)
    (λ v z. rule-of-sorted c.args.items.now c.in_ok-in_order.in_order.items c.in_ok-by_ends.by_ends.items c.in_ok-begins.begins.items v.items
    c.in_ok-in_order.ensures.same c.in_ok-by_ends.ensures.same c.requires.readable (rw c.deref.ensures.value at c.in_ok-begins.ensures) z) zipped
