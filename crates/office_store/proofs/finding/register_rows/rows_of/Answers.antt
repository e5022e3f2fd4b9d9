use Rattle.office_books.specs.Facts.{registers_in}
use Rattle.office_store.specs.Rows.{placed, registered}
use Rattle.office_store.proofs.FindingLemmas.Facts.{registers_shown}
use Rattle.office_store.proofs.FindingLemmas.Looking.{asked, not_asked}
use Rattle.office_store.proofs.finding.register_rows.rows_of.Goals as goal

pub returns-in_err-register_rows : goal.returns-in_err-register_rows
returns-in_err-register_rows g c =
    not_asked g.S.Store c.args.conn.now c.check_open.new.conn (record { mode = c.in_ok-check_open.ensures.autocommit; opened = c.in_ok-check_open.ensures.opened; kept = c.in_ok-check_open.ensures.kept; survives = c.in_ok-check_open.ensures.survives })
    c.register_rows.new.conn c.in_err-register_rows.ensures.asks c.in_err-register_rows.field-0.0 c.from_residual-in_err-register_rows.result _ _
    (λ clean content has zone facts are. c.in_err-register_rows.ensures.shows clean content has (placed registered (registers_in facts)) are.registers) c.from_residual-in_err-register_rows.ensures.1

pub returns : goal.returns
returns g c =
    asked g.S.Store c.args.conn.now c.check_open.new.conn (record { mode = c.in_ok-check_open.ensures.autocommit; opened = c.in_ok-check_open.ensures.opened; kept = c.in_ok-check_open.ensures.kept; survives = c.in_ok-check_open.ensures.survives })
    c.register_rows.new.conn c.in_ok-register_rows.ensures.asks c.in_ok-register_rows.field-0 _ _
    (λ clean content has zone facts are.
    registers_shown facts c.args.device.now c.in_ok-register_rows.field-0.items (c.in_ok-register_rows.ensures.shows clean content has (placed registered (registers_in facts)) are.registers))
