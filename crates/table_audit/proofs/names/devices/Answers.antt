use Rattle.store_tables.specs.Devices.Trees as device_tree
use Rattle.table_audit.specs.Names.{ShowsDevices}
use Rattle.table_audit.proofs.Asks.{all_rows}
use Rattle.table_audit.proofs.Looking.{not_touched, not_asked, asked}
use Rattle.table_audit.proofs.names.devices.Goals as goal

pub returns-in_err-check_open : goal.returns-in_err-check_open
returns-in_err-check_open g c =
    not_touched g.S.Store c.args.conn.now c.check_open.new.conn c.in_err-check_open.field-0.0 c.from_residual.result (λ content rows. ShowsDevices content rows.items)
    c.in_err-check_open.ensures.autocommit c.in_err-check_open.ensures.kept c.in_err-check_open.ensures.survives c.in_err-check_open.ensures.fails c.from_residual.ensures.1

pub returns-in_err-rows : goal.returns-in_err-rows
returns-in_err-rows g c =
    not_asked g.S.Store c.args.conn.now c.check_open.new.conn
    (record { mode = c.in_ok-check_open.ensures.autocommit; opened = c.in_ok-check_open.ensures.opened; kept = c.in_ok-check_open.ensures.kept; survives = c.in_ok-check_open.ensures.survives })
    c.ask_devices.new.conn c.in_err-rows.ensures.asks c.in_err-rows.field-0.0 c.from_residual-in_err-rows.result (λ content rows. ShowsDevices content rows.items)
    (λ clean content has. c.in_err-rows.ensures.shows clean content has (content device_tree.devices) (all_rows content device_tree.devices)) c.from_residual-in_err-rows.ensures.1

pub returns : goal.returns
returns g c =
    asked g.S.Store c.args.conn.now c.check_open.new.conn
    (record { mode = c.in_ok-check_open.ensures.autocommit; opened = c.in_ok-check_open.ensures.opened; kept = c.in_ok-check_open.ensures.kept; survives = c.in_ok-check_open.ensures.survives })
    c.ask_devices.new.conn c.in_ok-rows.ensures.asks c.in_ok-rows.rows (λ content rows. ShowsDevices content rows.items)
    (λ clean content has. c.in_ok-rows.ensures.shows clean content has (content device_tree.devices) (all_rows content device_tree.devices))
