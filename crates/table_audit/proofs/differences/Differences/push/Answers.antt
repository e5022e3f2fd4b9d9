use Rattle.std.proofs.Common.{◌∙◌, arith}
use Rattle.table_audit.specs.declared.differences.TheConstants.{MOST}
use Rattle.table_audit.proofs.Named.{kept_below, kept_full}
use Rattle.table_audit.proofs.differences.Differences.push.Goals as goal

pub returns-in_ok-push-clause-kept : goal.returns-in_ok-push-clause-kept
returns-in_ok-push-clause-kept c = c.in_ok-push.ensures.items ∙ kept_below MOST c.args.self.now.first.items c.args.difference (omega arith)

pub returns-in_ok-push-clause-more : goal.returns-in_ok-push-clause-more
returns-in_ok-push-clause-more c = omega arith

pub returns-else-len-lt-MOST-clause-kept : goal.returns-else-len-lt-MOST-clause-kept
returns-else-len-lt-MOST-clause-kept c = kept_full MOST c.args.self.now.first.items c.args.difference (omega arith) (omega arith)
