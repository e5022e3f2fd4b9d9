use Rattle.office_store.proofs.FindingLemmas.Looking.{asked, not_asked}
use Rattle.office_store.proofs.FindingLemmas.Lists.{points_shown}
use Rattle.office_store.proofs.finding.point_rows.rows_of.Goals as goal

pub returns-in_err-point_rows : goal.returns-in_err-point_rows
returns-in_err-point_rows g c =
    not_asked g.S.Store c.args.conn.now c.check_open.new.conn (record { mode = c.in_ok-check_open.ensures.autocommit; opened = c.in_ok-check_open.ensures.opened; kept = c.in_ok-check_open.ensures.kept; survives = c.in_ok-check_open.ensures.survives })
    c.point_rows.new.conn c.in_err-point_rows.ensures.asks c.in_err-point_rows.field-0.0 c.from_residual-in_err-point_rows.result _ _
    (λ clean content has zone facts are. c.in_err-point_rows.ensures.shows clean content has are.points.rows are.points.there) c.from_residual-in_err-point_rows.ensures.1

pub returns : goal.returns
returns g c =
    asked g.S.Store c.args.conn.now c.check_open.new.conn (record { mode = c.in_ok-check_open.ensures.autocommit; opened = c.in_ok-check_open.ensures.opened; kept = c.in_ok-check_open.ensures.kept; survives = c.in_ok-check_open.ensures.survives })
    c.point_rows.new.conn c.in_ok-point_rows.ensures.asks c.in_ok-point_rows.field-0 _ _
    (λ clean content has zone facts are.
    (are.lawful, points_shown facts c.args.device.now content c.in_ok-point_rows.field-0.items are.points (c.in_ok-point_rows.ensures.shows clean content has are.points.rows are.points.there)))
