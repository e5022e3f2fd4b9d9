use Rattle.std.proofs.Common.{reverse}
use Rattle.office_books.specs.Facts.{devices_in}
use Rattle.office_store.specs.Rows.{placed, added}
use Rattle.store_tables.specs.Devices.Rows.{device_shown}
use Rattle.office_store.specs.Finding.Reading.{IsDeviceOf}
use Rattle.office_store.specs.Finding.Sound.{IsReadableDevice}
use Rattle.office_store.proofs.FindingLemmas.Rows.{all_reverse}
use Rattle.office_store.proofs.FindingLemmas.Found.{rows_read}
use Rattle.office_store.proofs.FindingLemmas.Facts.{devices_read}
use Rattle.office_store.proofs.finding.device_rows.devices.Goals as goal

pub returns : goal.returns
returns g c =
    rows_read g.S.Store c.args.conn.now c.rows.new.conn c.in_ok-rows.rows c.in_ok-rows.rows.items device_shown IsDeviceOf IsReadableDevice (λ v. v.items) c.devices_in.result (λ facts. reverse (placed added (devices_in facts))) _ _ _ _
    c.in_ok-rows.ensures c.devices_in.ensures (λ facts are. are) (λ facts sound. all_reverse IsReadableDevice (placed added (devices_in facts)) sound) (λ facts v are each. devices_read facts v.items each)
