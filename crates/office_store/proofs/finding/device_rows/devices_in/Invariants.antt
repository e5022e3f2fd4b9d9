use Rattle.store_tables.specs.Devices.Rows.{device_shown}
use Rattle.office_store.specs.Finding.Reading.{IsDeviceOf}
use Rattle.office_store.proofs.FindingLemmas.ReadRows.{HasReadSome}
use Rattle.office_store.proofs.finding.device_rows.devices_in.Given as goal

abbrev pub invariant-loop-row : goal.invariant-loop-row
invariant-loop-row l = HasReadSome l.rows.items device_shown IsDeviceOf l.row-index l.devices.items
