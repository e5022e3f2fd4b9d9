use Rattle.std.proofs.Common.{Some, None}
use Rattle.office_store.proofs.FindingLemmas.Found.{answered, become, unread}
use Rattle.office_store.proofs.FindingLemmas.Facts.{no_poll, this_poll, poll_fault}
use Rattle.office_store.proofs.finding.poll_rows.poll_of.Goals as goal

pub returns-in-None : goal.returns-in-None
returns-in-None g c =
    answered g.S.Store c.args.conn.now c.row_at.new.conn None None _ _ _ _ (become g.S.Store c.args.conn.now c.row_at.new.conn _ None _ _ c.in-None.is c.in_ok-row_at.ensures.finds)
    (λ facts h. no_poll facts c.args.number h)

pub returns-in_err-poll_from-in-Some : goal.returns-in_err-poll_from-in-Some
returns-in_err-poll_from-in-Some g c =
    unread g.S.Store c.args.conn.now c.row_at.new.conn (Some c.in-Some.row) c.in_err-poll_from-in-Some.field-0.0 c.from_residual-in_err-poll_from-in-Some.result _ _ _ _
    (become g.S.Store c.args.conn.now c.row_at.new.conn _ (Some c.in-Some.row) _ _ c.in-Some.is c.in_ok-row_at.ensures.finds)
    (λ facts h. poll_fault facts c.args.number c.in-Some.row c.in_err-poll_from-in-Some.field-0.0 c.in_err-poll_from-in-Some.ensures.fault h)
    c.from_residual-in_err-poll_from-in-Some.ensures.1

pub returns-in_ok-poll_from-in-Some : goal.returns-in_ok-poll_from-in-Some
returns-in_ok-poll_from-in-Some g c =
    answered g.S.Store c.args.conn.now c.row_at.new.conn (Some c.in-Some.row) (Some c.in_ok-poll_from-in-Some.field-0) _ _ _ _
    (become g.S.Store c.args.conn.now c.row_at.new.conn _ (Some c.in-Some.row) _ _ c.in-Some.is c.in_ok-row_at.ensures.finds)
    (λ facts h. this_poll facts c.args.number c.in-Some.row c.in_ok-poll_from-in-Some.field-0 c.in_ok-poll_from-in-Some.ensures.numbers h)
