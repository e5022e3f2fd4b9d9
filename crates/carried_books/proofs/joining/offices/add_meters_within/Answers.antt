use Rattle.office_core.proofs.SeveralAsked.{asked, kept_on, unasked}
use Rattle.carried_books.proofs.JoiningLemmas.Offices.{have_all, have_failed, have_more, have_none}
use Rattle.carried_books.proofs.joining.offices.add_meters_within.Goals as goal

pub loop-row-init : goal.loop-row-init
loop-row-init g c = record {
  keeps = unasked g.B.Books.ledger c.args.office.now;
  took = have_none g.B.Books.ledger c.args.office.now c.args.meters.now c.args.span c.args.days.now;
}

pub returns-in-Err : goal.returns-in-Err
returns-in-Err g c =
    have_failed g.B.Books.ledger c.args.office.now c.loop-row.office c.intervals_within.new.self c.args.meters.now c.loop-row.row-index c.row-item.result
    c.args.span c.args.days.now c.loop-row.days c.intervals_within.new.sink c.in-Err.why c.loop-row-test.true c.row-item.is c.loop-row.invariant.keeps
    c.in-Err.ensures.asks c.in-Err.ensures.rows

pub loop-row-preserved : goal.loop-row-preserved
loop-row-preserved g c =
    let ledger = g.B.Books.ledger in
    let a = c.args.office.now in
    let b = c.loop-row.office in
    let d = c.intervals_within.new.self in
    let keeps = c.loop-row.invariant.keeps in
    record {
      keeps = kept_on ledger a b d keeps (asked ledger b d tt c.in-Ok.ensures.asks);
      took = have_more ledger a b d c.args.meters.now c.loop-row.row-index c.row-item.result c.args.span c.args.days.now c.loop-row.days
          c.intervals_within.new.sink tt c.loop-row-test.true c.row-item.is keeps c.loop-row.invariant.took c.in-Ok.ensures.asks c.in-Ok.ensures.rows;
    }

pub returns : goal.returns
returns g c =
    have_all g.B.Books.ledger c.args.office.now c.loop-row.office c.args.meters.now c.loop-row.row-index c.args.span c.args.days.now c.loop-row.days tt
    c.loop-row-test.false c.loop-row.invariant.keeps c.loop-row.invariant.took
