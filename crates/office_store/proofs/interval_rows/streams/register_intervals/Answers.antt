use Rattle.std.proofs.Common.{[], ◌∷◌}
use Rattle.sqlite.specs.declared.types.Value.TheVariants.{Text}
use Rattle.office_store.specs.Intervals.Handing.{HaveLying, AreSharesAt, AreSoundLying}
use Rattle.store_tables.specs.Meters.Rows.{Installed}
use Rattle.office_store.specs.Intervals.Rows.{Interval, share_shown, share_in, IsSoundShare, IsSoundInterval}
use Rattle.office_store.proofs.IntervalsLemmas.Reading.{fair_share}
use Rattle.office_store.proofs.IntervalsLemmas.Texts as text
use Rattle.office_store.proofs.StreamsLemmas.Shared.{hands_on}
use Rattle.office_store.proofs.IntervalsLemmas.Joins.{at_register}
use Rattle.office_store.proofs.interval_rows.streams.register_intervals.Goals as goal

pub returns : goal.returns
returns g c =
    hands_on g.S.Store text.register_intervals (Text c.args.register.now ∷ []) text.register_intervals_query text.names c.args.conn.now c.hand_on.new.conn g.K.RowSink.takes c.args.sink.now c.hand_on.new.sink c.hand_on.result
    (λ (p : Installed × Interval). share_shown p.1) (λ (p : Installed × Interval). p.1.share) (λ (p : Installed × Interval). IsSoundInterval p.1) share_in (λ p. fair_share p.1) IsSoundShare HaveLying (AreSharesAt c.args.register.now) AreSoundLying text.register_intervals_is text.register_intervals_unlisted text.register_intervals_plain (text.register_intervals_suits c.args.register.now) (at_register c.args.register.now)
    c.hand_on.ensures.asks c.hand_on.ensures.some (rw (c.params-to_sql.ensures) at c.hand_on.ensures.reads)
