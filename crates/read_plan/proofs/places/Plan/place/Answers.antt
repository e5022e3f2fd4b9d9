use Rattle.std.proofs.Common.{◌≡◌, ◌∙◌, ◌+◌, ◌-◌, ◌<◌, length, get_or, not, rules, arith, ap, subst}
use Rattle.std.proofs.lemmas.List.{get_or_default}
use Rattle.std.proofs.lemmas.List.Sorted.{IsPartitionPoint-from_clause}
use Rattle.read_plan.specs.declared.planned_reads.PlannedRead.{PlannedRead}
use Rattle.read_plan.specs.declared.run.Run.{Run}
use Rattle.read_plan.specs.Beginnings.{ends_by}
use Rattle.read_plan.specs.PlannedReads.{IsFirstHolding, Planned, read_run, read_runs}
use Rattle.read_plan.proofs.PlaceLemmas.{PlaceFacts, place-facts, plan-partitioned}
use Rattle.read_plan.proofs.places.Plan.place.Goals as goal

pub index-requires-2 : goal.index-requires-2
index-requires-2 c =
    let plan : Planned = record { starts = c.self.inside.starts.items; items = c.self.inside.items.items; reads = c.self.inside.reads.items } in
    let x = c.index.result.now in
    let count = c.partition_point-read.result in
    let within : c.args.point < length plan.items = omega (arith, c.requires, ap (λ (p : Planned). length p.items) c.self.view_is) in
    let partitioned = rw c.deref.ensures.value at c.partition_point-read.ensures.partitioned in
    let stop = IsPartitionPoint-from_clause (λ read. not (ends_by x (read_run read))) plan.reads count partitioned (plan-partitioned plan c.self.invariant x) (λ a r q k. search rules) in
    let facts : PlaceFacts plan c.args.point count x = place-facts plan c.args.point count x c.self.invariant within c.index.ensures stop in
    omega (arith, facts.read_within, c.self.inside.reads.ok.0)

pub index-requires-3 : goal.index-requires-3
index-requires-3 c =
    let within : c.args.point < length c.self.inside.items.items = omega (arith, c.requires, ap (λ (p : Planned). length p.items) c.self.view_is) in
    omega (arith, within, c.self.invariant.each, c.self.inside.starts.ok.0)

pub overflow_sub-result : goal.overflow_sub-result
overflow_sub-result c =
    let plan : Planned = record { starts = c.self.inside.starts.items; items = c.self.inside.items.items; reads = c.self.inside.reads.items } in
    let x = c.index.result.now in
    let count = c.partition_point-read.result in
    let within : c.args.point < length plan.items = omega (arith, c.requires, ap (λ (p : Planned). length p.items) c.self.view_is) in
    let partitioned = rw c.deref.ensures.value at c.partition_point-read.ensures.partitioned in
    let stop = IsPartitionPoint-from_clause (λ read. not (ends_by x (read_run read))) plan.reads count partitioned (plan-partitioned plan c.self.invariant x) (λ a r q k. search rules) in
    let facts : PlaceFacts plan c.args.point count x = place-facts plan c.args.point count x c.self.invariant within c.index.ensures stop in
    let read : c.index-2.result.now ≡ get_or plan.reads count c.index-2.result.now = c.index-2.ensures in
    let before = facts.before c.index-2.result.now in
    let address = ap (λ (r : PlannedRead). r.span.address) read in
    let start : c.index-3.result.now ≡ get_or plan.starts c.args.point 0 = c.index-3.ensures ∙ get_or_default plan.starts c.args.point c.index-3.result.now 0 facts.point_within in
    omega (arith, before, address, start)

pub returns-clause-first : goal.returns-clause-first
returns-clause-first c d =
    let plan : Planned = record { starts = c.self.inside.starts.items; items = c.self.inside.items.items; reads = c.self.inside.reads.items } in
    let x = c.index.result.now in
    let count = c.partition_point-read.result in
    let within : c.args.point < length plan.items = omega (arith, c.requires, ap (λ (p : Planned). length p.items) c.self.view_is) in
    let partitioned = rw c.deref.ensures.value at c.partition_point-read.ensures.partitioned in
    let stop = IsPartitionPoint-from_clause (λ read. not (ends_by x (read_run read))) plan.reads count partitioned (plan-partitioned plan c.self.invariant x) (λ a r q k. search rules) in
    let facts : PlaceFacts plan c.args.point count x = place-facts plan c.args.point count x c.self.invariant within c.index.ensures stop in
    let item : x ≡ get_or plan.items c.args.point d = c.index.ensures ∙ get_or_default plan.items c.args.point x d within in
    let here : IsFirstHolding (read_runs plan.reads) (get_or plan.items c.args.point d) count = subst (λ (r : Run). IsFirstHolding (read_runs plan.reads) r count) item facts.first in
    subst (λ (p : Planned). IsFirstHolding (read_runs p.reads) (get_or p.items c.args.point d) count) c.self.view_is here

pub returns-clause-offset : goal.returns-clause-offset
returns-clause-offset c d =
    let plan : Planned = record { starts = c.self.inside.starts.items; items = c.self.inside.items.items; reads = c.self.inside.reads.items } in
    let x = c.index.result.now in
    let count = c.partition_point-read.result in
    let within : c.args.point < length plan.items = omega (arith, c.requires, ap (λ (p : Planned). length p.items) c.self.view_is) in
    let partitioned = rw c.deref.ensures.value at c.partition_point-read.ensures.partitioned in
    let stop = IsPartitionPoint-from_clause (λ read. not (ends_by x (read_run read))) plan.reads count partitioned (plan-partitioned plan c.self.invariant x) (λ a r q k. search rules) in
    let facts : PlaceFacts plan c.args.point count x = place-facts plan c.args.point count x c.self.invariant within c.index.ensures stop in
    let read : c.index-2.result.now ≡ get_or plan.reads count d = c.index-2.ensures ∙ get_or_default plan.reads count c.index-2.result.now d facts.read_within in
    let address = ap (λ (r : PlannedRead). r.span.address) read in
    let before = facts.before d in
    let start : c.index-3.result.now ≡ get_or plan.starts c.args.point 0 = c.index-3.ensures ∙ get_or_default plan.starts c.args.point c.index-3.result.now 0 facts.point_within in
    let offset = c.index-3.result.now - c.index-2.result.now.span.address in
    let here : (get_or plan.reads count d).span.address + offset ≡ get_or plan.starts c.args.point 0 = omega (arith, before, address, start) in
    subst (λ (p : Planned). (get_or p.reads count d).span.address + offset ≡ get_or p.starts c.args.point 0) c.self.view_is here
