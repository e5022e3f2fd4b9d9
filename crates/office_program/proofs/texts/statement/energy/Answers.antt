use Rattle.office_core.proofs.SeveralAsked.{now_as, refused_as}
use Rattle.office_program.proofs.StatementLemmas.{energy_refused, energy_reported}
use Rattle.office_program.proofs.texts.statement.energy.Goals as goal

pub returns-in-Ok : goal.returns-in-Ok
returns-in-Ok g c =
    let ledger = g.B.Books.ledger in
    record {
      reports = energy_reported ledger c.args.zone.now c.args.range.now c.args.office.now c.intervals_within.new.self c.args.meter.now c.span_around.result
          c.new-energy.result c.intervals_within.new.sink c.mwh.result c.span_around.ensures.around c.new-energy.ensures c.mwh.ensures c.in-Ok.ensures.rows;
      asks = now_as ledger c.args.office.now c.intervals_within.new.self tt c.mwh.result c.in-Ok.ensures.asks;
    }

pub returns-in-Err : goal.returns-in-Err
returns-in-Err g c =
    let ledger = g.B.Books.ledger in
    record {
      reports = energy_refused ledger c.args.zone.now c.args.range.now c.args.office.now c.intervals_within.new.self c.args.meter.now c.span_around.result
          c.new-energy.result c.intervals_within.new.sink c.in-Err.why c.in-Err.ensures.rows;
      asks = refused_as ledger c.args.office.now c.intervals_within.new.self c.in-Err.why c.in-Err.ensures.asks;
    }
