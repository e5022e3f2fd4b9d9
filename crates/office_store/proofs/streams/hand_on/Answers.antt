use Rattle.std.proofs.Common.{option_copied, refl, sym, ap, subst, ◌≡◌, ◌∙◌, arith, rules}
use Rattle.sqlite.specs.Held.{state}
use Rattle.sqlite.specs.State.{HasCleanDisk}
use Rattle.sqlite.specs.Values.{bound}
use Rattle.office_store.proofs.StreamsLemmas.Handed.{Stands, refused_asks, refused_counts, refused_why, begun, goes_on, not_begun, fails_later, ends_late, ends_well, not_read}
use Rattle.office_store.proofs.streams.hand_on.Goals as goal

pub returns-in_err-rows-clause-asks : goal.returns-in_err-rows-clause-asks
returns-in_err-rows-clause-asks g c plain =
    refused_asks g.S.Store c.args.sql.now (bound c.args.params.now) c.args.conn.now c.query.follows.lender-at-none c.query.result c.in_err-rows.field-0.0 c.in_err-rows.was c.query.follows.holds-at-none plain

pub returns-in_err-rows-clause-reads : goal.returns-in_err-rows-clause-reads
returns-in_err-rows-clause-reads g c clean plain =
    not_begun g.S.Store c.args.sql.now (bound c.args.params.now) (g.R.RowReader.reads c.args.reader.now) g.R.RowReader.is_row c.args.conn.now g.K.RowSink.takes c.args.sink.now c.query.follows.lender-at-none c.from_residual.result c.in_err-rows.field-0.0 c.from_residual.ensures.1
    (refused_counts g.S.Store c.args.sql.now (bound c.args.params.now) c.args.conn.now c.query.follows.lender-at-none c.query.result c.in_err-rows.field-0.0 c.in_err-rows.was c.query.follows.holds-at-none)
    (refused_why g.S.Store c.args.sql.now (bound c.args.params.now) c.args.conn.now c.query.follows.lender-at-none c.query.result c.in_err-rows.field-0.0 c.in_err-rows.was c.query.follows.holds-at-none clean)

pub rows-init : goal.rows-init
rows-init g c = record {
  reference = refl;
  stands = begun g.S.Store c.args.sql.now (bound c.args.params.now) (g.R.RowReader.reads c.args.reader.now) g.R.RowReader.is_row c.args.conn.now g.K.RowSink.takes c.args.sink.now c.in_ok-rows.rows.conn.now c.in_ok-rows.ensures.begun c.in_ok-rows.ensures.mode c.in_ok-rows.ensures.survives;
}

pub returns-in_err-advance-clause-reads : goal.returns-in_err-advance-clause-reads
returns-in_err-advance-clause-reads g c clean plain =
    let late : HasCleanDisk (state g.S.Store c.advance.new.self.conn.now) = search rules in
    let early : HasCleanDisk (state g.S.Store c.rows.rows.conn.now) = omega (arith, c.advance.ensures.survives.clean) in
    fails_later g.S.Store c.args.sql.now (bound c.args.params.now) (g.R.RowReader.reads c.args.reader.now) g.R.RowReader.is_row c.args.conn.now g.K.RowSink.takes c.args.sink.now c.from_residual-in_err-advance.result c.in_err-advance.field-0.0 c.rows.rows.conn.now c.advance.new.self.conn.now _ c.rows.sink c.rows._taken (search rules)
    c.from_residual-in_err-advance.ensures.1 early plain c.rows.invariant.stands c.advance.ensures.survives.counts (λ given has. c.in_err-advance.ensures.err late c.args.sql.now (bound c.args.params.now) given has)

pub returns-in_default-clause-reads : goal.returns-in_default-clause-reads
returns-in_default-clause-reads g c clean plain =
    let late : HasCleanDisk (state g.S.Store c.advance.new.self.conn.now) = search rules in
    let early : HasCleanDisk (state g.S.Store c.rows.rows.conn.now) = omega (arith, c.advance.ensures.survives.clean) in
    let none = sym c.get.ensures ∙ ap option_copied c.in_default.is in
    let moved = c.in_ok-advance.ensures.ok late in
    ends_well g.S.Store c.args.sql.now (bound c.args.params.now) (g.R.RowReader.reads c.args.reader.now) g.R.RowReader.is_row c.args.conn.now g.K.RowSink.takes c.args.sink.now c.rows.rows.conn.now c.advance.new.self.conn.now _ c.rows.sink c.rows._taken
    early plain c.rows.invariant.stands (λ given has. (rw none at moved) c.args.sql.now (bound c.args.params.now) given has)

pub returns-in_err-next-clause-reads : goal.returns-in_err-next-clause-reads
returns-in_err-next-clause-reads g c clean plain =
    let late : HasCleanDisk (state g.S.Store c.advance.new.self.conn.now) = search rules in
    let early : HasCleanDisk (state g.S.Store c.rows.rows.conn.now) = omega (arith, c.advance.ensures.survives.clean) in
    let some = sym c.get.ensures ∙ ap option_copied c.in-Some.is in
    let moved = c.in_ok-advance.ensures.ok late in
    not_read g.S.Store c.args.sql.now (bound c.args.params.now) (g.R.RowReader.reads c.args.reader.now) g.R.RowReader.is_row c.args.conn.now g.K.RowSink.takes c.args.sink.now c.from_residual-in_err-next.result c.in_err-next.field-0.0 c.rows.rows.conn.now c.advance.new.self.conn.now _ c.rows.sink c.rows._taken c.in-Some.row.now
    c.from_residual-in_err-next.ensures.1 (sym c.in_err-next.ensures.read) c.in_err-next.ensures.damage early plain c.rows.invariant.stands (λ given has. (rw some at moved) c.args.sql.now (bound c.args.params.now) given has) (c.in_ok-advance.ensures.same late)

pub rows-preserved : goal.rows-preserved
rows-preserved g c = record {
  reference = c.advance.ensures.same_reference ∙ c.rows.invariant.reference;
  stands =
      let some = sym c.get.ensures ∙ ap option_copied c.in-Some.is in
      goes_on g.S.Store c.args.sql.now (bound c.args.params.now) (g.R.RowReader.reads c.args.reader.now) g.R.RowReader.is_row c.args.conn.now g.K.RowSink.takes c.args.sink.now c.rows.rows.conn.now c.advance.new.self.conn.now c.rows.sink c.put.new.self c.in-Some.row.now c.in_ok-next.next c.rows._taken
      c.rows.invariant.stands (λ clean given has. (rw some at (c.in_ok-advance.ensures.ok clean)) c.args.sql.now (bound c.args.params.now) given has) c.in_ok-advance.ensures.same c.advance.ensures.mode c.advance.ensures.survives (sym c.in_ok-next.ensures.read) c.in_ok-next.ensures.sound c.put.ensures;
}

pub returns-clause-reads : goal.returns-clause-reads
returns-clause-reads g c clean plain =
    let early : HasCleanDisk (state g.S.Store c.rows.rows.conn.now) = search rules in
    let all : c.rows._taken ≡ 18446744073709551615 = omega arith in
    ends_late g.S.Store c.args.sql.now (bound c.args.params.now) (g.R.RowReader.reads c.args.reader.now) g.R.RowReader.is_row c.args.conn.now g.K.RowSink.takes c.args.sink.now c.rows.rows.conn.now _ c.rows.sink early plain
    (subst (Stands g.S.Store c.args.sql.now (bound c.args.params.now) (g.R.RowReader.reads c.args.reader.now) g.R.RowReader.is_row c.args.conn.now g.K.RowSink.takes c.args.sink.now c.rows.rows.conn.now c.rows.sink) all c.rows.invariant.stands)
