use Rattle.std.proofs.Common.{◌≡◌, ◌∙◌, length, arith, ap}
use Rattle.std.proofs.lemmas.List.{length-map}
use Rattle.read_plan.specs.Items.{item_of, items_of, runs_of}
use Rattle.read_plan.specs.PlannedReads.{read_run, read_runs}
use Rattle.read_plan.proofs.ItemLemmas.{items-begun, items-in-areas, items-inside, items-low, items-readable, starts-each}
use Rattle.read_plan.proofs.LawfulLemmas.{reads-inside, rule-lawful}
use Rattle.read_plan.proofs.PlanLemmas.{fewest}
use Rattle.read_plan.proofs.planner.plan.Goals as goal

pub rule_reads-requires-clause-readable : goal.rule_reads-requires-clause-readable
rule_reads-requires-clause-readable c = rw (c.deref.ensures.value, c.in_ok-items.ensures, c.points-points.ensures.points) (items-readable c.args.list.now c.points-points.ensures.lawful)

pub rule_reads-requires-clause-inside : goal.rule_reads-requires-clause-inside
rule_reads-requires-clause-inside c = rw (c.deref.ensures.value, c.in_ok-items.ensures, c.points-points.ensures.points) (items-low c.args.list.now c.points-points.ensures.lawful)

pub of_runs-requires-clause-readable : goal.of_runs-requires-clause-readable
of_runs-requires-clause-readable c =
    let points = c.args.list.now in
    let lawful = c.points-points.ensures.lawful in
    let rule = rw (c.deref.ensures.value, c.in_ok-items.ensures, c.points-points.ensures.points) at c.in_ok-runs.ensures in
    rw c.deref-2.ensures.value
    (rule-lawful (runs_of points) (items_of points) c.in_ok-runs.runs.items rule (items-readable points lawful) (items-in-areas points lawful)).readable

pub of_runs-requires-clause-inside : goal.of_runs-requires-clause-inside
of_runs-requires-clause-inside c =
    let points = c.args.list.now in
    let lawful = c.points-points.ensures.lawful in
    let rule = rw (c.deref.ensures.value, c.in_ok-items.ensures, c.points-points.ensures.points) at c.in_ok-runs.ensures in
    rw c.deref-2.ensures.value
    (reads-inside (runs_of points) (items_of points) c.in_ok-runs.runs.items rule (items-readable points lawful) (items-inside points lawful))

pub new-requires : goal.new-requires
new-requires c =
    let points = c.args.list.now in
    let lawful = c.points-points.ensures.lawful in
    let rule = rw (c.deref.ensures.value, c.in_ok-items.ensures, c.points-points.ensures.points) at c.in_ok-runs.ensures in
    let same : read_runs c.in_ok-reads.reads.items ≡ c.in_ok-runs.runs.items = c.in_ok-reads.ensures ∙ c.deref-2.ensures.value in
    let items = rw c.points-points.ensures.points at c.in_ok-items.ensures in
    let starts = rw c.points-points.ensures.points at c.in_ok-starts.ensures in
    record {
      each = rw (items, starts) (starts-each points lawful);
      begun = rw (items, starts) (items-begun points lawful);
      readable = rw items (items-readable points lawful);
      inside = rw items (items-inside points lawful);
      rule = rw (items, same) rule;
    }

pub returns-clause-placed : goal.returns-clause-placed
returns-clause-placed c = rw (c.new.ensures.items, c.in_ok-items.ensures, c.points-points.ensures.points) (length-map c.args.list.now (item_of c.args.list.now))

pub returns-clause-lawful : goal.returns-clause-lawful
returns-clause-lawful c =
    let points = c.args.list.now in
    let lawful = c.points-points.ensures.lawful in
    let rule = rw (c.deref.ensures.value, c.in_ok-items.ensures, c.points-points.ensures.points) at c.in_ok-runs.ensures in
    let same : read_runs c.in_ok-reads.reads.items ≡ c.in_ok-runs.runs.items = c.in_ok-reads.ensures ∙ c.deref-2.ensures.value in
    rw (c.new.ensures.reads, same) (rule-lawful (runs_of points) (items_of points) c.in_ok-runs.runs.items rule (items-readable points lawful) (items-in-areas points lawful))

pub returns-clause-fewest : goal.returns-clause-fewest
returns-clause-fewest c other h =
    let points = c.args.list.now in
    let rule = rw (c.deref.ensures.value, c.in_ok-items.ensures, c.points-points.ensures.points) at c.in_ok-runs.ensures in
    let same : read_runs c.in_ok-reads.reads.items ≡ c.in_ok-runs.runs.items = c.in_ok-reads.ensures ∙ c.deref-2.ensures.value in
    let least = fewest (runs_of points) (items_of points) c.in_ok-runs.runs.items other rule h in
    let count = length-map c.in_ok-reads.reads.items read_run in
    let size = ap length same in
    rw c.new.ensures.reads (omega (arith, least, count, size))
