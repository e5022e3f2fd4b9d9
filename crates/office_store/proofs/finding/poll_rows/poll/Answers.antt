use Rattle.std.proofs.Common.{[], Some, None, Ok, Err}
use Rattle.office_store.proofs.FindingLemmas.Looking.{seen_alone}
use Rattle.office_store.proofs.FindingLemmas.Found.{answered, become, passed_on, finds_then}
use Rattle.office_store.proofs.FindingLemmas.Facts.{no_poll_past, poll_with_end}
use Rattle.office_store.proofs.finding.poll_rows.poll.Goals as goal

pub returns-then-number-gt-GREATEST_PLACE : goal.returns-then-number-gt-GREATEST_PLACE
returns-then-number-gt-GREATEST_PLACE g c =
    seen_alone g.S.Store c.args.conn.now c.check_open.new.conn (record { mode = c.in_ok-check_open.ensures.autocommit; opened = c.in_ok-check_open.ensures.opened; kept = c.in_ok-check_open.ensures.kept; survives = c.in_ok-check_open.ensures.survives })
    None _ _ (λ facts lawful. no_poll_past facts c.args.number lawful c.if-number-gt-GREATEST_PLACE.true)

pub end_of-requires-clause-idle : goal.end_of-requires-clause-idle
end_of-requires-clause-idle g c = (c.poll_of.ensures.looks []).mode c.requires

pub returns-in_err-ended-in-Some : goal.returns-in_err-ended-in-Some
returns-in_err-ended-in-Some g c =
    passed_on g.S.Store c.args.conn.now c.end_of.new.conn c.in_err-ended-in-Some.field-0.0 c.from_residual-in_err-ended-in-Some.result _ _ _ _
    (finds_then g.S.Store c.args.conn.now c.poll_of.new.conn c.end_of.new.conn c.in_ok-poll_of.field-0 (Err c.in_err-ended-in-Some.field-0.0) _ _ _ _ c.in_ok-poll_of.ensures c.in_err-ended-in-Some.ensures)
    (λ facts sound. sound.1) c.from_residual-in_err-ended-in-Some.ensures.1

pub returns-in_ok-ended-in-Some : goal.returns-in_ok-ended-in-Some
returns-in_ok-ended-in-Some g c =
    answered g.S.Store c.args.conn.now c.end_of.new.conn c.in_ok-ended-in-Some.ended _ _ _ _ _
    (finds_then g.S.Store c.args.conn.now c.poll_of.new.conn c.end_of.new.conn (Some c.in-Some.poll) (Ok c.in_ok-ended-in-Some.ended) _ _ _ _
    (become g.S.Store c.args.conn.now c.poll_of.new.conn _ (Some c.in-Some.poll) _ _ c.in-Some.is c.in_ok-poll_of.ensures) c.in_ok-ended-in-Some.ensures)
    (λ facts h. poll_with_end facts c.args.number c.in-Some.poll c.in_ok-ended-in-Some.ended h.0 h.1)
