use Rattle.office_books.specs.Facts.{devices_in}
use Rattle.office_store.specs.Rows.{placed, added}
use Rattle.office_store.proofs.FindingLemmas.Facts.{devices_shown}
use Rattle.office_store.proofs.FindingLemmas.Looking.{asked, not_asked}
use Rattle.office_store.proofs.finding.device_rows.rows.Goals as goal

pub returns-in_err-device_rows : goal.returns-in_err-device_rows
returns-in_err-device_rows g c =
    not_asked g.S.Store c.args.conn.now c.check_open.new.conn (record { mode = c.in_ok-check_open.ensures.autocommit; opened = c.in_ok-check_open.ensures.opened; kept = c.in_ok-check_open.ensures.kept; survives = c.in_ok-check_open.ensures.survives })
    c.device_rows.new.conn c.in_err-device_rows.ensures.asks c.in_err-device_rows.field-0.0 c.from_residual-in_err-device_rows.result _ _
    (λ clean content has zone facts are. c.in_err-device_rows.ensures.shows clean content has (placed added (devices_in facts)) are.devices) c.from_residual-in_err-device_rows.ensures.1

pub returns : goal.returns
returns g c =
    asked g.S.Store c.args.conn.now c.check_open.new.conn (record { mode = c.in_ok-check_open.ensures.autocommit; opened = c.in_ok-check_open.ensures.opened; kept = c.in_ok-check_open.ensures.kept; survives = c.in_ok-check_open.ensures.survives })
    c.device_rows.new.conn c.in_ok-device_rows.ensures.asks c.in_ok-device_rows.field-0 _ _
    (λ clean content has zone facts are. devices_shown facts c.in_ok-device_rows.field-0.items (c.in_ok-device_rows.ensures.shows clean content has (placed added (devices_in facts)) are.devices))
