use Rattle.std.proofs.Common.{◌∙◌, arith}
use Rattle.table_audit.specs.declared.differences.TheConstants.{MOST}
use Rattle.table_audit.proofs.Named.{none_reported_yet, reported_more, reported_all, with_none}
use Rattle.table_audit.proofs.findings.Findings.append_all.Goals as goal

pub loop-difference-init : goal.loop-difference-init
loop-difference-init c = record { reported = none_reported_yet c.args.self.now c.requires.few (omega arith); few = c.requires.few }

pub loop-difference-preserved : goal.loop-difference-preserved
loop-difference-preserved c = record {
  reported = reported_more c.args.found.now c.loop-difference.difference-index c.alone-finding.result.difference _ c.args.self.now c.loop-difference.self c.push.new.self
      (omega arith) c.loop-difference.invariant.reported (c.alone-finding.ensures.difference ∙ c.difference-item.is)
      (c.in_ok-push.ensures.kept ∙ with_none MOST c.loop-difference.self.first.items c.alone-finding.result c.alone-finding.ensures.meter) c.in_ok-push.ensures.more c.in_ok-push.ensures.counts;
  few = c.in_ok-push.ensures.few;
}

pub returns-clause-reported : goal.returns-clause-reported
returns-clause-reported c = reported_all c.args.found.now c.loop-difference.difference-index c.args.self.now c.loop-difference.self (omega arith) c.loop-difference.invariant.reported
