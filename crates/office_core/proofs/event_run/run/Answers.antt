use Rattle.std.proofs.Common.{◌≡◌, ◌≤◌, ◌∷◌, arith, take, length}
use Rattle.std.proofs.lemmas.List.{length-take-le}
use Rattle.office_books.specs.History.{Opened}
use Rattle.office_core.specs.EventRun.{in_turn, history_after}
use Rattle.office_core.proofs.AddingUp.{headline}
use Rattle.office_core.proofs.Runs.{with_result, turn_more, further, all_fed}
use Rattle.office_core.proofs.event_run.run.Goals as goal

pub loop-moment-preserved : goal.loop-moment-preserved
loop-moment-preserved g c =
    let events = c.args.events.now in
    let i = c.loop-moment.moment-index in
    let results = c.loop-moment.results.items in
    let inside = c.loop-moment-test.true in
    let as_many : length results ≡ length (take i events) = omega (arith, length-take-le i events) in
    let more =
    turn_more events i c.loop-moment-item.result results _ c.feed-result.result inside c.loop-moment-item.is c.push_reserved.ensures.items as_many in
    record {
      so_far =
          rw more
          (further g.B.Books.ledger c.args.books c.args.opened (in_turn (take i events) results) c.loop-moment.office c.feed-result.new.self
          (with_result c.loop-moment-item.result c.feed-result.result) c.loop-moment.invariant.so_far
          (record {
            answers = c.feed-result.ensures.answers;
            stands = c.feed-result.ensures.stands;
            leaves = c.feed-result.ensures.leaves;
            reported = c.feed-result.ensures.reported;
            quiet = c.feed-result.ensures.quiet;
            ends = c.feed-result.ensures.ends;
          }));
      count = omega arith;
      room = omega arith;
    }

pub returns-clause-headline : goal.returns-clause-headline
returns-clause-headline g c past stood clean =
    let events = c.args.events.now in
    let results = c.loop-moment.results.items in
    let over : length events ≤ c.loop-moment.moment-index = omega (arith, c.loop-moment-test.false) in
    let so_far = all_fed g.B.Books.ledger c.args.books c.args.opened events c.loop-moment.moment-index results c.loop-moment.office over c.loop-moment.invariant.so_far in
    let history = history_after (Opened c.args.opened ∷ past) (in_turn events results) in
    let stands = so_far.stands past stood clean in
    let laws = c.books_are_true.ensures history stands.books.is_past.accepted stands.books.is_past.planned in
    record { accepted = stands.books.is_past; holds = stands.books.holds; headline = headline history laws; laws = laws }

pub returns-clause-leaves : goal.returns-clause-leaves
returns-clause-leaves g c past stood clean =
    let events = c.args.events.now in
    let results = c.loop-moment.results.items in
    let over : length events ≤ c.loop-moment.moment-index = omega (arith, c.loop-moment-test.false) in
    let so_far = all_fed g.B.Books.ledger c.args.books c.args.opened events c.loop-moment.moment-index results c.loop-moment.office over c.loop-moment.invariant.so_far in
    so_far.leaves past stood clean

pub returns-clause-stands : goal.returns-clause-stands
returns-clause-stands g c past stood clean =
    let events = c.args.events.now in
    let results = c.loop-moment.results.items in
    let over : length events ≤ c.loop-moment.moment-index = omega (arith, c.loop-moment-test.false) in
    let so_far = all_fed g.B.Books.ledger c.args.books c.args.opened events c.loop-moment.moment-index results c.loop-moment.office over c.loop-moment.invariant.so_far in
    record { office = so_far.stands past stood clean; reported = so_far.reported past stood clean }
