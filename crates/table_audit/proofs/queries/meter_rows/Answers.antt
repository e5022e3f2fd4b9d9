use Rattle.std.proofs.Common.{Ok, Err}
use Rattle.table_audit.specs.Showing.{ShowsRange, ShowsEntries, ShowsVoids, ShowsIntervals, AreRowsOf}
use Rattle.table_audit.proofs.Looking.{finds_then, passed_on, made}
use Rattle.table_audit.proofs.queries.meter_rows.Goals as goal

pub entries-requires : goal.entries-requires
entries-requires g c = c.in_ok-ranges.ensures.looks.mode c.requires

pub voids-requires : goal.voids-requires
voids-requires g c = c.in_ok-entries.ensures.looks.mode (c.in_ok-ranges.ensures.looks.mode c.requires)

pub intervals-requires : goal.intervals-requires
intervals-requires g c = c.in_ok-voids.ensures.looks.mode (c.in_ok-entries.ensures.looks.mode (c.in_ok-ranges.ensures.looks.mode c.requires))

pub returns-in_err-ranges : goal.returns-in_err-ranges
returns-in_err-ranges g c =
    passed_on g.S.Store c.args.conn.now c.range.new.conn c.in_err-ranges.field-0.0 c.from_residual.result _ (AreRowsOf c.args.meter.now)
    c.in_err-ranges.ensures c.from_residual.ensures.1

pub returns-in_err-entries : goal.returns-in_err-entries
returns-in_err-entries g c =
    passed_on g.S.Store c.args.conn.now c.entries.new.conn c.in_err-entries.field-0.0 c.from_residual-in_err-entries.result _ (AreRowsOf c.args.meter.now)
    (finds_then g.S.Store c.args.conn.now c.range.new.conn c.entries.new.conn c.in_ok-ranges.ranges (Err c.in_err-entries.field-0.0)
    (λ content rows. ShowsRange c.args.meter.now content rows.items) (λ content rows. ShowsEntries c.args.meter.now content rows.items) (λ content rows. ShowsEntries c.args.meter.now content rows.items)
    c.in_ok-ranges.ensures c.in_err-entries.ensures (λ content rows h g. g))
    c.from_residual-in_err-entries.ensures.1

pub returns-in_err-voids : goal.returns-in_err-voids
returns-in_err-voids g c =
    let two = finds_then g.S.Store c.args.conn.now c.range.new.conn c.entries.new.conn c.in_ok-ranges.ranges (Ok c.in_ok-entries.entries)
    (λ content rows. ShowsRange c.args.meter.now content rows.items) (λ content rows. ShowsEntries c.args.meter.now content rows.items) (λ content rows. ShowsEntries c.args.meter.now content rows.items)
    c.in_ok-ranges.ensures c.in_ok-entries.ensures (λ content rows h g. g) in
    passed_on g.S.Store c.args.conn.now c.voids.new.conn c.in_err-voids.field-0.0 c.from_residual-in_err-voids.result _ (AreRowsOf c.args.meter.now)
    (finds_then g.S.Store c.args.conn.now c.entries.new.conn c.voids.new.conn c.in_ok-entries.entries (Err c.in_err-voids.field-0.0)
    (λ content rows. ShowsEntries c.args.meter.now content rows.items) (λ content rows. ShowsVoids c.args.meter.now content rows.items) (λ content rows. ShowsVoids c.args.meter.now content rows.items)
    two c.in_err-voids.ensures (λ content rows h g. g))
    c.from_residual-in_err-voids.ensures.1

pub returns-in_err-intervals : goal.returns-in_err-intervals
returns-in_err-intervals g c =
    let two = finds_then g.S.Store c.args.conn.now c.range.new.conn c.entries.new.conn c.in_ok-ranges.ranges (Ok c.in_ok-entries.entries)
    (λ content rows. ShowsRange c.args.meter.now content rows.items) (λ content rows. ShowsEntries c.args.meter.now content rows.items) (λ content rows. ShowsEntries c.args.meter.now content rows.items)
    c.in_ok-ranges.ensures c.in_ok-entries.ensures (λ content rows h g. g) in
    let three = finds_then g.S.Store c.args.conn.now c.entries.new.conn c.voids.new.conn c.in_ok-entries.entries (Ok c.in_ok-voids.voids)
    (λ content rows. ShowsEntries c.args.meter.now content rows.items) (λ content rows. ShowsVoids c.args.meter.now content rows.items) (λ content rows. ShowsVoids c.args.meter.now content rows.items)
    two c.in_ok-voids.ensures (λ content rows h g. g) in
    passed_on g.S.Store c.args.conn.now c.intervals.new.conn c.in_err-intervals.field-0.0 c.from_residual-in_err-intervals.result _ (AreRowsOf c.args.meter.now)
    (finds_then g.S.Store c.args.conn.now c.voids.new.conn c.intervals.new.conn c.in_ok-voids.voids (Err c.in_err-intervals.field-0.0)
    (λ content rows. ShowsVoids c.args.meter.now content rows.items) (λ content rows. ShowsIntervals c.args.meter.now content rows.items) (λ content rows. ShowsIntervals c.args.meter.now content rows.items)
    three c.in_err-intervals.ensures (λ content rows h g. g))
    c.from_residual-in_err-intervals.ensures.1

pub returns : goal.returns
returns g c =
    let two = finds_then g.S.Store c.args.conn.now c.range.new.conn c.entries.new.conn c.in_ok-ranges.ranges (Ok c.in_ok-entries.entries)
    (λ content rows. ShowsRange c.args.meter.now content rows.items) (λ content rows. ShowsEntries c.args.meter.now content rows.items)
    (λ content rows. ShowsRange c.args.meter.now content c.in_ok-ranges.ranges.items × ShowsEntries c.args.meter.now content rows.items)
    c.in_ok-ranges.ensures c.in_ok-entries.ensures (λ content rows h g. (h, g)) in
    let three = finds_then g.S.Store c.args.conn.now c.entries.new.conn c.voids.new.conn c.in_ok-entries.entries (Ok c.in_ok-voids.voids)
    (λ content rows. ShowsRange c.args.meter.now content c.in_ok-ranges.ranges.items × ShowsEntries c.args.meter.now content rows.items)
    (λ content rows. ShowsVoids c.args.meter.now content rows.items)
    (λ content rows. ShowsRange c.args.meter.now content c.in_ok-ranges.ranges.items × ShowsEntries c.args.meter.now content c.in_ok-entries.entries.items × ShowsVoids c.args.meter.now content rows.items)
    two c.in_ok-voids.ensures (λ content rows h g. (h.0, h.1, g)) in
    let four = finds_then g.S.Store c.args.conn.now c.voids.new.conn c.intervals.new.conn c.in_ok-voids.voids (Ok c.in_ok-intervals.intervals)
    (λ content rows. ShowsRange c.args.meter.now content c.in_ok-ranges.ranges.items × ShowsEntries c.args.meter.now content c.in_ok-entries.entries.items × ShowsVoids c.args.meter.now content rows.items)
    (λ content rows. ShowsIntervals c.args.meter.now content rows.items)
    (λ content rows. ShowsRange c.args.meter.now content c.in_ok-ranges.ranges.items × ShowsEntries c.args.meter.now content c.in_ok-entries.entries.items × ShowsVoids c.args.meter.now content c.in_ok-voids.voids.items × ShowsIntervals c.args.meter.now content rows.items)
    three c.in_ok-intervals.ensures (λ content rows h g. (h.0, h.1, h.2, g)) in
    made g.S.Store c.args.conn.now c.intervals.new.conn c.in_ok-intervals.intervals _
    (λ content rows. ShowsRange c.args.meter.now content c.in_ok-ranges.ranges.items × ShowsEntries c.args.meter.now content c.in_ok-entries.entries.items × ShowsVoids c.args.meter.now content c.in_ok-voids.voids.items × ShowsIntervals c.args.meter.now content rows.items)
    (AreRowsOf c.args.meter.now) four (λ content h. record { ranges = h.0; entries = h.1; voids = h.2; intervals = h.3 })
