use Rattle.std.proofs.Common.{length, ap, ◌∙◌}
use Rattle.office_books.specs.Facts.{registers_in, registers_of}
use Rattle.office_store.specs.Rows.{placed, registered}
use Rattle.office_store.proofs.FindingLemmas.Looking.{asked, not_asked}
use Rattle.office_store.proofs.FindingLemmas.Facts.{registers_counted}
use Rattle.office_store.proofs.finding.register_rows.register_count.Goals as goal

pub returns-in_err-register_count : goal.returns-in_err-register_count
returns-in_err-register_count g c =
    not_asked g.S.Store c.args.conn.now c.check_open.new.conn (record { mode = c.in_ok-check_open.ensures.autocommit; opened = c.in_ok-check_open.ensures.opened; kept = c.in_ok-check_open.ensures.kept; survives = c.in_ok-check_open.ensures.survives })
    c.register_count.new.conn c.in_err-register_count.ensures.asks c.in_err-register_count.field-0.0 c.from_residual-in_err-register_count.result _ _
    (λ clean content has zone facts are. c.in_err-register_count.ensures.counts clean content has (placed registered (registers_in facts)) are.registers) c.from_residual-in_err-register_count.ensures.1

pub returns : goal.returns
returns g c =
    asked g.S.Store c.args.conn.now c.check_open.new.conn (record { mode = c.in_ok-check_open.ensures.autocommit; opened = c.in_ok-check_open.ensures.opened; kept = c.in_ok-check_open.ensures.kept; survives = c.in_ok-check_open.ensures.survives })
    c.register_count.new.conn c.in_ok-register_count.ensures.asks c.in_ok-register_count.field-0 _ _
    (λ clean content has zone facts are.
    c.in_ok-register_count.ensures.counts clean content has (placed registered (registers_in facts)) are.registers
    ∙ (registers_counted facts c.in_ok-device.device.now ∙ ap (λ device. length (registers_of facts device)) c.in_ok-device.ensures.text))
