use Rattle.store_tables.specs.Meters.Rows.{installed_shown, IsInstalled}
use Rattle.office_store.proofs.FindingLemmas.ReadRows.{HasReadSome}
use Rattle.office_store.proofs.metering.register_meters.installed_in.Given as goal

abbrev pub invariant-loop-row : goal.invariant-loop-row
invariant-loop-row l = HasReadSome l.rows.items installed_shown IsInstalled l.row-index l.installed.items
