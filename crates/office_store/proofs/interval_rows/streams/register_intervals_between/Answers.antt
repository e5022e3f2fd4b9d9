use Rattle.std.proofs.Common.{pos, [], ◌∷◌}
use Rattle.sqlite.specs.declared.types.Value.TheVariants.{Int, Text}
use Rattle.office_store.specs.Intervals.Handing.{HaveLying, AreSharesAtBetween, AreSoundLying}
use Rattle.store_tables.specs.Meters.Rows.{Installed}
use Rattle.office_store.specs.Intervals.Rows.{Interval, share_shown, share_in, IsSoundShare, IsSoundInterval}
use Rattle.office_store.proofs.IntervalsLemmas.Reading.{fair_share}
use Rattle.office_store.proofs.IntervalsLemmas.Texts as text
use Rattle.office_store.proofs.StreamsLemmas.Shared.{hands_on}
use Rattle.office_store.proofs.IntervalsLemmas.Joins.{at_register_between}
use Rattle.office_store.proofs.interval_rows.streams.register_intervals_between.Goals as goal

pub returns : goal.returns
returns g c =
    hands_on g.S.Store text.register_between (Text c.args.register.now ∷ Int (pos c.args.from) ∷ Int (pos c.args.till) ∷ []) text.register_between_query text.names c.args.conn.now c.hand_on.new.conn g.K.RowSink.takes c.args.sink.now c.hand_on.new.sink c.hand_on.result
    (λ (p : Installed × Interval). share_shown p.1) (λ (p : Installed × Interval). p.1.share) (λ (p : Installed × Interval). IsSoundInterval p.1) share_in (λ p. fair_share p.1) IsSoundShare HaveLying (AreSharesAtBetween c.args.register.now c.args.from c.args.till) AreSoundLying text.register_between_is text.register_between_unlisted text.register_between_plain (text.register_between_suits c.args.register.now c.args.from c.args.till) (at_register_between c.args.register.now c.args.from c.args.till)
    c.hand_on.ensures.asks c.hand_on.ensures.some (rw (c.params-to_sql.ensures, c.params-to_sql-2.ensures, c.params-to_sql-3.ensures, c.number-from.ensures, c.number-till.ensures) at c.hand_on.ensures.reads)
