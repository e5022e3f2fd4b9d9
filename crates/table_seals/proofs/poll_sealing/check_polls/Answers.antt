use Rattle.std.proofs.Common.{rules, ◌≡◌, ℕ, List, subst}
use Rattle.table_audit.proofs.Looking.{made, passed_on}
use Rattle.table_seals.specs.PollSealing.{ReportsPolls, DigestsPolls}
use Rattle.table_seals.specs.Sealed.{sealed_polls_of}
use Rattle.table_seals.proofs.PollFound.{reports_kept}
use Rattle.table_seals.proofs.poll_sealing.check_polls.Goals as goal

pub returns-in_err-found : goal.returns-in_err-found
returns-in_err-found g c =
    passed_on g.S.Store c.args.conn.now c.digest_polls.new.conn c.in_err-found.field-0.0 c.from_residual.result _ _
    c.in_err-found.ensures.finds c.from_residual.ensures.1

pub returns : goal.returns
returns g c =
    let same : c.as_slice.result.now ≡ c.args.seal.now.pending.items = search rules in
    made g.S.Store c.args.conn.now c.digest_polls.new.conn c.in_ok-found.found c.differ.result _ (ReportsPolls (sealed_polls_of c.args.seal.now))
    c.in_ok-found.ensures.finds
    (λ content h. reports_kept content c.in_ok-found.found (sealed_polls_of c.args.seal.now) c.differ.result c.differ.ensures
    (subst (λ (xs : List ℕ). DigestsPolls c.args.seal.now.count xs content c.in_ok-found.found) same h))
