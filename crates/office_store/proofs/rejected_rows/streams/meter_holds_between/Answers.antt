use Rattle.std.proofs.Common.{pos, [], ◌∷◌}
use Rattle.sqlite.specs.declared.types.Value.TheVariants.{Int, Text}
use Rattle.store_tables.proofs.Scans.{scan, no_limit}
use Rattle.office_store.specs.Holds.{reading_shown, reading_of, reading_in, IsSoundReading, HasSoundReading, HaveHolds, AreReadingsBetween, AreSoundHolds}
use Rattle.office_store.proofs.HoldsLemmas.Texts as text
use Rattle.office_store.proofs.HoldsLemmas.Reading.{fair_reading}
use Rattle.office_store.proofs.HoldsLemmas.Found.{of_meter_between}
use Rattle.office_store.proofs.StreamsLemmas.Shared.{hands_on}
use Rattle.office_store.proofs.rejected_rows.streams.meter_holds_between.Goals as goal

pub returns : goal.returns
returns g c =
    hands_on g.S.Store text.between (Text c.args.meter.now ∷ Int (pos c.args.from) ∷ Int (pos c.args.till) ∷ []) (scan 12 text.between_tests text.project text.order no_limit) text.names c.args.conn.now c.hand_on.new.conn g.K.RowSink.takes c.args.sink.now c.hand_on.new.sink c.hand_on.result
    reading_shown (reading_of c.args.meter.now) HasSoundReading (reading_in c.args.meter.now) (fair_reading c.args.meter.now) IsSoundReading HaveHolds (AreReadingsBetween c.args.meter.now c.args.from c.args.till) AreSoundHolds
    text.between_is text.between_unlisted text.between_plain (text.between_suits c.args.meter.now c.args.from c.args.till) (of_meter_between c.args.meter.now c.args.from c.args.till)
    c.hand_on.ensures.asks c.hand_on.ensures.some (rw (c.params-to_sql.ensures, c.params-to_sql-2.ensures, c.params-to_sql-3.ensures, c.number-from.ensures, c.number-till.ensures, c.requires.text) at c.hand_on.ensures.reads)
