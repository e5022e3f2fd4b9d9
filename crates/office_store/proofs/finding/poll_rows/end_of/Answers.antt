use Rattle.std.proofs.Common.{Some, None, Ok, Err, map, ap, ◌∙◌}
use Rattle.office_books.specs.Facts.{ended_in}
use Rattle.office_store.specs.Rows.{outcome_row}
use Rattle.store_tables.specs.Polls.Trees.{outcomes}
use Rattle.store_tables.specs.Polls.Rows.{outcome_columns, IsSoundOutcome}
use Rattle.office_store.proofs.FindingLemmas.Looking.{looked_up}
use Rattle.office_store.proofs.FindingLemmas.Found.{answered, become, passed_on}
use Rattle.office_store.proofs.FindingLemmas.Facts.{no_end, this_end}
use Rattle.office_store.proofs.finding.poll_rows.end_of.Goals as goal

pub returns-in_err-outcome_of : goal.returns-in_err-outcome_of
returns-in_err-outcome_of g c =
    passed_on g.S.Store c.args.conn.now c.outcome_of.new.conn c.in_err-outcome_of.field-0.0 c.from_residual-in_err-outcome_of.result _ _ _ _
    (looked_up g.S.Store c.args.conn.now c.check_open.new.conn (record { mode = c.in_ok-check_open.ensures.autocommit; opened = c.in_ok-check_open.ensures.opened; kept = c.in_ok-check_open.ensures.kept; survives = c.in_ok-check_open.ensures.survives })
    c.outcome_of.new.conn outcomes outcome_columns IsSoundOutcome (Err c.in_err-outcome_of.field-0.0) _ c.in_err-outcome_of.ensures.finds (λ facts. map outcome_row (ended_in facts)) (λ zone facts content are. are.outcomes))
    (λ facts sound. sound) c.from_residual-in_err-outcome_of.ensures.1

pub returns-in-None : goal.returns-in-None
returns-in-None g c =
    answered g.S.Store c.args.conn.now c.outcome_of.new.conn None None _ _ _ _
    (become g.S.Store c.args.conn.now c.outcome_of.new.conn _ None _ _ c.in-None.is
    (looked_up g.S.Store c.args.conn.now c.check_open.new.conn (record { mode = c.in_ok-check_open.ensures.autocommit; opened = c.in_ok-check_open.ensures.opened; kept = c.in_ok-check_open.ensures.kept; survives = c.in_ok-check_open.ensures.survives })
    c.outcome_of.new.conn outcomes outcome_columns IsSoundOutcome (Ok c.in_ok-outcome_of.field-0) _ c.in_ok-outcome_of.ensures.finds (λ facts. map outcome_row (ended_in facts)) (λ zone facts content are. are.outcomes)))
    (λ facts h. no_end facts c.args.number h)

pub returns-in-Some : goal.returns-in-Some
returns-in-Some g c =
    answered g.S.Store c.args.conn.now c.outcome_of.new.conn (Some c.in-Some.row) (Some c.ended.result) _ _ _ _
    (become g.S.Store c.args.conn.now c.outcome_of.new.conn _ (Some c.in-Some.row) _ _ c.in-Some.is
    (looked_up g.S.Store c.args.conn.now c.check_open.new.conn (record { mode = c.in_ok-check_open.ensures.autocommit; opened = c.in_ok-check_open.ensures.opened; kept = c.in_ok-check_open.ensures.kept; survives = c.in_ok-check_open.ensures.survives })
    c.outcome_of.new.conn outcomes outcome_columns IsSoundOutcome (Ok c.in_ok-outcome_of.field-0) _ c.in_ok-outcome_of.ensures.finds (λ facts. map outcome_row (ended_in facts)) (λ zone facts content are. are.outcomes)))
    (λ facts h. ap Some c.ended.ensures ∙ this_end facts c.args.number c.in-Some.row h)
