use Rattle.std.proofs.Common.{◌≡◌, IfOk, IfErr, sym, subst}
use Rattle.store_tables.specs.declared.faults.RowFault.TheVariants.{Damaged}
use Rattle.office_store.specs.Intervals.Rows.{IsSoundShare}
use Rattle.office_store.proofs.IntervalsLemmas.Reading.{sound_share, damaged_share}
use Rattle.office_store.proofs.interval_rows.columns.SharesRowReaderShare.read.Goals as goal

pub returns-clause-sound : goal.returns-clause-sound
returns-clause-sound c = subst (λ r. IfOk r IsSoundShare) (sym c.read_share.ensures) (sound_share c.args.row.now)

pub returns-clause-damage : goal.returns-clause-damage
returns-clause-damage c = subst (λ r. IfErr r (λ e. e ≡ Damaged)) (sym c.read_share.ensures) (damaged_share c.args.row.now)
