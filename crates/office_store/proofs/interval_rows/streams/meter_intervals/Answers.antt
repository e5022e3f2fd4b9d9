use Rattle.std.proofs.Common.{[], ◌∷◌}
use Rattle.sqlite.specs.declared.types.Value.TheVariants.{Text}
use Rattle.store_tables.proofs.Scans.{scan, no_limit}
use Rattle.office_store.specs.Intervals.Handing.{HaveIntervals, AreSharesOfMeter, AreSoundIntervals}
use Rattle.office_store.specs.Intervals.Rows.{Interval, share_shown, share_in, IsSoundShare, IsSoundInterval}
use Rattle.office_store.proofs.IntervalsLemmas.Reading.{fair_share}
use Rattle.office_store.proofs.IntervalsLemmas.Texts as text
use Rattle.office_store.proofs.StreamsLemmas.Shared.{hands_on}
use Rattle.office_store.proofs.IntervalsLemmas.Joins.{of_meter}
use Rattle.office_store.proofs.interval_rows.streams.meter_intervals.Goals as goal

pub returns : goal.returns
returns g c =
    hands_on g.S.Store text.meter_intervals (Text c.args.meter.now ∷ []) (scan 14 text.meter_intervals_tests text.shares_project text.meter_intervals_order no_limit) text.names c.args.conn.now c.hand_on.new.conn g.K.RowSink.takes c.args.sink.now c.hand_on.new.sink c.hand_on.result
    share_shown (λ (i : Interval). i.share) IsSoundInterval share_in fair_share IsSoundShare HaveIntervals (AreSharesOfMeter c.args.meter.now) AreSoundIntervals text.meter_intervals_is text.meter_intervals_unlisted text.meter_intervals_plain (text.meter_intervals_suits c.args.meter.now) (of_meter c.args.meter.now)
    c.hand_on.ensures.asks c.hand_on.ensures.some (rw (c.params-to_sql.ensures) at c.hand_on.ensures.reads)
