use Rattle.std.proofs.Common.{[], ◌∷◌}
use Rattle.sqlite.specs.declared.types.Value.TheVariants.{Text}
use Rattle.store_tables.proofs.Scans.{scan, no_limit}
use Rattle.office_store.specs.Holds.{reading_shown, reading_of, reading_in, IsSoundReading, HasSoundReading, HaveHolds, AreReadingsOf, AreSoundHolds}
use Rattle.office_store.proofs.HoldsLemmas.Texts as text
use Rattle.office_store.proofs.HoldsLemmas.Reading.{fair_reading}
use Rattle.office_store.proofs.HoldsLemmas.Found.{of_meter}
use Rattle.office_store.proofs.StreamsLemmas.Shared.{hands_on}
use Rattle.office_store.proofs.rejected_rows.streams.meter_holds.Goals as goal

pub returns : goal.returns
returns g c =
    hands_on g.S.Store text.meter_holds (Text c.args.meter.now ∷ []) (scan 12 text.meter_holds_tests text.project text.order no_limit) text.names c.args.conn.now c.hand_on.new.conn g.K.RowSink.takes c.args.sink.now c.hand_on.new.sink c.hand_on.result
    reading_shown (reading_of c.args.meter.now) HasSoundReading (reading_in c.args.meter.now) (fair_reading c.args.meter.now) IsSoundReading HaveHolds (AreReadingsOf c.args.meter.now) AreSoundHolds
    text.meter_holds_is text.meter_holds_unlisted text.meter_holds_plain (text.meter_holds_suits c.args.meter.now) (of_meter c.args.meter.now)
    c.hand_on.ensures.asks c.hand_on.ensures.some (rw (c.params-to_sql.ensures, c.requires) at c.hand_on.ensures.reads)
