use Rattle.office_books.specs.Facts.{openings_in}
use Rattle.office_store.specs.Rows.{placed, installed_row}
use Rattle.office_store.proofs.FindingLemmas.Looking.{asked, not_asked}
use Rattle.office_store.proofs.MeteringLemmas.RegisterMeters.{meters_shown}
use Rattle.office_store.proofs.metering.register_meters.rows_at.Goals as goal

pub returns-in_err-register_meter_rows : goal.returns-in_err-register_meter_rows
returns-in_err-register_meter_rows g c =
    not_asked g.S.Store c.args.conn.now c.check_open.new.conn (record { mode = c.in_ok-check_open.ensures.autocommit; opened = c.in_ok-check_open.ensures.opened; kept = c.in_ok-check_open.ensures.kept; survives = c.in_ok-check_open.ensures.survives })
    c.register_meter_rows.new.conn c.in_err-register_meter_rows.ensures.asks c.in_err-register_meter_rows.field-0.0 c.from_residual-in_err-register_meter_rows.result _ _
    (λ clean content has zone facts are. c.in_err-register_meter_rows.ensures.shows clean content has (placed (installed_row facts) (openings_in facts)) are.installations) c.from_residual-in_err-register_meter_rows.ensures.1

pub returns : goal.returns
returns g c =
    asked g.S.Store c.args.conn.now c.check_open.new.conn (record { mode = c.in_ok-check_open.ensures.autocommit; opened = c.in_ok-check_open.ensures.opened; kept = c.in_ok-check_open.ensures.kept; survives = c.in_ok-check_open.ensures.survives })
    c.register_meter_rows.new.conn c.in_ok-register_meter_rows.ensures.asks c.in_ok-register_meter_rows.field-0 _ _
    (λ clean content has zone facts are. (
      are.lawful,
      meters_shown facts c.args.register.now c.in_ok-register_meter_rows.field-0.items (c.in_ok-register_meter_rows.ensures.shows clean content has (placed (installed_row facts) (openings_in facts)) are.installations),
    ))
