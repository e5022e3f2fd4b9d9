use Rattle.std.proofs.Common.{◌≡◌, IfOk, IfErr, sym, subst}
use Rattle.store_tables.specs.declared.faults.RowFault.TheVariants.{Damaged}
use Rattle.office_store.specs.Holds.{IsSoundReading}
use Rattle.office_store.proofs.HoldsLemmas.Reading.{sound_reading, damaged_reading}
use Rattle.office_store.proofs.rejected_rows.columns.ReadingsOfRowReaderHeldReading.read.Goals as goal

pub returns-clause-sound : goal.returns-clause-sound
returns-clause-sound c = subst (λ r. IfOk r IsSoundReading) (sym c.read_reading.ensures) (sound_reading c.args.self.now.meter c.args.row.now)

pub returns-clause-damage : goal.returns-clause-damage
returns-clause-damage c = subst (λ r. IfErr r (λ e. e ≡ Damaged)) (sym c.read_reading.ensures) (damaged_reading c.args.self.now.meter c.args.row.now)
