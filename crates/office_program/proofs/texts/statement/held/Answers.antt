use Rattle.office_core.proofs.SeveralAsked.{now_as, refused_as}
use Rattle.office_program.proofs.StatementLemmas.{held_reported, holds_refused}
use Rattle.office_program.proofs.texts.statement.held.Goals as goal

pub returns-in-Ok : goal.returns-in-Ok
returns-in-Ok g c =
    let ledger = g.B.Books.ledger in
    record {
      reports = held_reported ledger c.args.zone.now c.args.range.now c.args.office.now c.holds.new.self c.args.meter.now c.new-held.result c.holds.new.sink
          c.counts.result c.new-held.ensures c.counts.ensures c.in-Ok.ensures.rows;
      asks = now_as ledger c.args.office.now c.holds.new.self tt c.counts.result c.in-Ok.ensures.asks;
    }

pub returns-in-Err : goal.returns-in-Err
returns-in-Err g c =
    let ledger = g.B.Books.ledger in
    record {
      reports = holds_refused ledger c.args.zone.now c.args.range.now c.args.office.now c.holds.new.self c.args.meter.now c.new-held.result
          c.holds.new.sink c.in-Err.why c.in-Err.ensures.rows;
      asks = refused_as ledger c.args.office.now c.holds.new.self c.in-Err.why c.in-Err.ensures.asks;
    }
