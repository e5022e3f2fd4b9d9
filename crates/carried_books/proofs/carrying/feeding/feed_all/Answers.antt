use Rattle.carried_books.proofs.CarryingLemmas.Fed.{fed_more, fed_up_to, given_more, next_given, passed}
use Rattle.carried_books.proofs.carrying.feeding.feed_all.Goals as goal

pub loop-timed-preserved : goal.loop-timed-preserved
loop-timed-preserved g c =
    let ledger = g.B.Books.ledger in
    let a = c.args.office.now in
    let b = c.loop-timed.office in
    let d = c.feed_one.new.office in
    record {
      so_far = fed_more ledger c.loop-timed.yielded c.in-Some.timed a b d c.loop-timed.invariant.so_far c.in-Ok.ensures.feeds c.in-Ok.ensures.passes;
      passes = passed ledger a b d c.loop-timed.invariant.passes c.in-Ok.ensures.passes;
      commands =
          given_more c.args.commands.items c.loop-timed.yielded c.loop-timed.timed-iterator.rest.items c.next.new.self.rest.items c.in-Some.timed
          c.loop-timed.invariant.commands c.in-Some.ensures.steps.0;
    }

pub returns-in-Err-clause-feeds : goal.returns-in-Err-clause-feeds
returns-in-Err-clause-feeds g c =
    let later = c.next.new.self.rest.items in
    fed_up_to g.B.Books.ledger c.args.commands.items c.loop-timed.yielded c.in-Some.timed later c.args.office.now c.loop-timed.office c.feed_one.new.office
    c.in-Err.why
    (next_given c.args.commands.items c.loop-timed.yielded c.loop-timed.timed-iterator.rest.items later c.in-Some.timed c.loop-timed.invariant.commands
    c.in-Some.ensures.steps.0)
    c.loop-timed.invariant.so_far c.in-Err.ensures.feeds c.in-Err.ensures.passes
