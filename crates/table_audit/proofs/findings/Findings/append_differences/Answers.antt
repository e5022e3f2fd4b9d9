use Rattle.std.proofs.Common.{length, refl, ◌∙◌, arith}
use Rattle.table_audit.proofs.Named.{none_kept, kept_more, kept_length, more_counted, all_kept}
use Rattle.table_audit.proofs.findings.Findings.append_differences.Goals as goal

pub loop-difference-init : goal.loop-difference-init
loop-difference-init c = record {
  first = none_kept c.args.meter.now c.args.found.now c.args.self.now c.requires.few;
  more = omega (arith, c.requires.few);
  counts = refl;
  few = c.requires.few;
}

pub loop-difference-preserved : goal.loop-difference-preserved
loop-difference-preserved c = record {
  first = kept_more c.args.meter.now c.args.found.now c.loop-difference.difference-index _ c.in_ok-finding.finding
      c.args.self.now c.loop-difference.self c.push.new.self (omega arith) c.loop-difference.invariant.first
      c.in_ok-finding.ensures.meter (c.in_ok-finding.ensures.difference ∙ c.difference-item.is) c.in_ok-push.ensures.kept;
  more = more_counted c.args.self.now.more c.loop-difference.self.more c.push.new.self.more (length c.args.self.now.first.items)
      (length c.loop-difference.self.first.items) c.loop-difference.difference-index c.loop-difference.invariant.more
      (kept_length c.args.meter.now c.args.found.now c.loop-difference.difference-index c.args.self.now c.loop-difference.self (omega arith)
      c.loop-difference.invariant.first)
      c.in_ok-push.ensures.more;
  counts = c.in_ok-push.ensures.counts ∙ c.loop-difference.invariant.counts;
  few = c.in_ok-push.ensures.few;
}

pub returns-clause-first : goal.returns-clause-first
returns-clause-first c =
    all_kept c.args.meter.now c.args.found.now c.loop-difference.difference-index c.args.self.now c.loop-difference.self _ (omega arith)
    c.loop-difference.invariant.first refl
