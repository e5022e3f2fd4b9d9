use Rattle.std.proofs.Common.{sym, subst, arith}
use Rattle.meter_journal.specs.Audit.Comparing.{IsFirst}
use Rattle.meter_journal.proofs.AuditLemmas.Comparing.{missing_at, between_at, unwanted_end}
use Rattle.meter_journal.proofs.audit.intervals.first_difference.Goals as goal

pub returns-then-same-found-clause-first : goal.returns-then-same-found-clause-first
returns-then-same-found-clause-first c =
    subst (IsFirst c.args.wanted.now c.args.found.now) (sym c.difference_at.ensures)
    (missing_at c.args.wanted.now c.args.found.now c.loop-same.same _ c.loop-same.invariant.same (omega arith) (omega arith))

pub returns-in-Some-clause-first : goal.returns-in-Some-clause-first
returns-in-Some-clause-first c =
    subst (IsFirst c.args.wanted.now c.args.found.now) (sym c.difference_at-in-Some.ensures)
    (between_at c.args.wanted.now c.args.found.now c.loop-same.same _ _ c.in-Some.fault c.loop-same.invariant.same (omega arith) (omega arith)
    (sym c.in-Some.ensures))

pub returns-then-wanted-found-clause-first : goal.returns-then-wanted-found-clause-first
returns-then-wanted-found-clause-first c =
    subst (IsFirst c.args.wanted.now c.args.found.now) (sym c.difference_at-then-wanted-found.ensures)
    (unwanted_end c.args.wanted.now c.args.found.now c.loop-same.same _ c.loop-same.invariant.same (omega arith) (omega arith) (omega arith))
