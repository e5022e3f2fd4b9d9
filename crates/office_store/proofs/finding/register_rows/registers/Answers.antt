use Rattle.std.proofs.Common.{reverse, filter, ap, ◌∙◌}
use Rattle.sqlite_keyed.proofs.ListLemmas.{all-filter}
use Rattle.office_books.specs.Facts.{registers_in, registers_of}
use Rattle.office_store.specs.Rows.{placed, registered}
use Rattle.store_tables.specs.Devices.Rows.{register_shown, is_register_of}
use Rattle.office_store.specs.Finding.Reading.{IsRegisterOf}
use Rattle.office_store.specs.Finding.Sound.{IsReadableRegister}
use Rattle.office_store.proofs.FindingLemmas.Rows.{all_reverse}
use Rattle.office_store.proofs.FindingLemmas.Found.{rows_read}
use Rattle.office_store.proofs.FindingLemmas.Facts.{registers_read}
use Rattle.office_store.proofs.finding.register_rows.registers.Goals as goal

pub returns : goal.returns
returns g c =
    rows_read g.S.Store c.args.conn.now c.rows_of.new.conn c.in_ok-rows.rows c.in_ok-rows.rows.items register_shown IsRegisterOf IsReadableRegister (λ v. v.items) c.registers_in.result
    (λ facts. reverse (filter (is_register_of c.in_ok-device.device.now) (placed registered (registers_in facts)))) _ _ _ _
    c.in_ok-rows.ensures c.registers_in.ensures (λ facts are. are)
    (λ facts sound. all_reverse IsReadableRegister _ (all-filter IsReadableRegister (is_register_of c.in_ok-device.device.now) (placed registered (registers_in facts)) sound.1))
    (λ facts v are each. registers_read facts c.in_ok-device.device.now v.items each ∙ ap (registers_of facts) c.in_ok-device.ensures.text)
