use Rattle.store_tables.specs.Devices.Rows.{register_shown}
use Rattle.office_store.specs.Finding.Reading.{IsRegisterOf}
use Rattle.office_store.proofs.FindingLemmas.ReadRows.{HasReadSome}
use Rattle.office_store.proofs.finding.register_rows.registers_in.Given as goal

abbrev pub invariant-loop-row : goal.invariant-loop-row
invariant-loop-row l = HasReadSome l.rows.items register_shown IsRegisterOf l.row-index l.registers.items
