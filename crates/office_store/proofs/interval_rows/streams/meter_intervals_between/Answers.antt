use Rattle.std.proofs.Common.{pos, [], ◌∷◌}
use Rattle.sqlite.specs.declared.types.Value.TheVariants.{Int, Text}
use Rattle.store_tables.proofs.Scans.{scan, no_limit}
use Rattle.office_store.specs.Intervals.Handing.{HaveIntervals, AreSharesOfMeterBetween, AreSoundIntervals}
use Rattle.office_store.specs.Intervals.Rows.{Interval, share_shown, share_in, IsSoundShare, IsSoundInterval}
use Rattle.office_store.proofs.IntervalsLemmas.Reading.{fair_share}
use Rattle.office_store.proofs.IntervalsLemmas.Texts as text
use Rattle.office_store.proofs.StreamsLemmas.Shared.{hands_on}
use Rattle.office_store.proofs.IntervalsLemmas.Joins.{of_meter_between}
use Rattle.office_store.proofs.interval_rows.streams.meter_intervals_between.Goals as goal

pub returns : goal.returns
returns g c =
    hands_on g.S.Store text.meter_between (Text c.args.meter.now ∷ Int (pos c.args.from) ∷ Int (pos c.args.till) ∷ []) (scan 14 text.meter_between_tests text.shares_project text.meter_intervals_order no_limit) text.names c.args.conn.now c.hand_on.new.conn g.K.RowSink.takes c.args.sink.now c.hand_on.new.sink c.hand_on.result
    share_shown (λ (i : Interval). i.share) IsSoundInterval share_in fair_share IsSoundShare HaveIntervals (AreSharesOfMeterBetween c.args.meter.now c.args.from c.args.till) AreSoundIntervals text.meter_between_is text.meter_between_unlisted text.meter_between_plain (text.meter_between_suits c.args.meter.now c.args.from c.args.till) (of_meter_between c.args.meter.now c.args.from c.args.till)
    c.hand_on.ensures.asks c.hand_on.ensures.some (rw (c.params-to_sql.ensures, c.params-to_sql-2.ensures, c.params-to_sql-3.ensures, c.number-from.ensures, c.number-till.ensures) at c.hand_on.ensures.reads)
