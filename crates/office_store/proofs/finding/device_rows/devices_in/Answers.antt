use Rattle.std.proofs.Common.{◌≡◌, ◌+◌, ◌<◌, sym, subst, length, get_or, arith}
use Rattle.store_tables.specs.Devices.Rows.{device_shown}
use Rattle.office_store.specs.Finding.Reading.{IsDeviceOf}
use Rattle.office_store.specs.Finding.Sound.{IsReadableDevice}
use Rattle.office_store.proofs.FindingLemmas.ReadRows.{HasReadSome, read_more, unreadable, read_all}
use Rattle.office_store.proofs.finding.device_rows.devices_in.Goals as goal

pub loop-row-preserved : goal.loop-row-preserved
loop-row-preserved c =
    subst (HasReadSome c.args.rows.now.items device_shown IsDeviceOf (c.loop-row.row-index + 1)) (sym c.in_ok-push_item.ensures.put)
    (read_more c.args.rows.now.items device_shown IsDeviceOf c.loop-row.row-index c.row-item.result (subst (λ rows. c.loop-row.row-index < length rows) c.deref-row-items.ensures.value c.loop-row-test.true)
    (subst (λ rows. c.row-item.result ≡ get_or rows c.loop-row.row-index c.row-item.result) c.deref-row-items.ensures.value c.row-item.is) IsReadableDevice c.loop-row.devices.items c.in_ok-device.device c.in_ok-device.ensures c.loop-row.invariant)

pub returns-in_err-device : goal.returns-in_err-device
returns-in_err-device c =
    unreadable c.args.rows.now.items device_shown IsDeviceOf c.loop-row.row-index c.row-item.result (subst (λ rows. c.loop-row.row-index < length rows) c.deref-row-items.ensures.value c.loop-row-test.true)
    (subst (λ rows. c.row-item.result ≡ get_or rows c.loop-row.row-index c.row-item.result) c.deref-row-items.ensures.value c.row-item.is) IsReadableDevice (λ v. v.items) c.in_err-device.field-0.0 c.from_residual.result c.in_err-device.ensures
    c.from_residual.ensures.1

pub returns : goal.returns
returns c = read_all c.args.rows.now.items device_shown IsDeviceOf IsReadableDevice (λ v. v.items) c.loop-row.devices c.loop-row.row-index (omega arith) c.loop-row.invariant
