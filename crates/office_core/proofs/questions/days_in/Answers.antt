use Rattle.office_core.proofs.Ranged.{days_within}
use Rattle.office_books.specs.Intervals.{rows_of_register}
use Rattle.office_core.proofs.questions.days_in.Goals as goal

pub returns-clause-days : goal.returns-clause-days
returns-clause-days g c = λ known lawful holds clean.
    let old = g.B.Books.ledger c.args.books.now in
    let listed = c.in_ok-days.ensures.days known lawful holds clean in
    let days = days_within old.zone c.args.range.now c.span_around.result (c.span_around.ensures.around old.zone) c.accounts_are_one.ensures
    (rows_of_register known c.args.register.now) _ _ listed.0 c.keep_within.ensures in
    (record { all = days.0; are = days.1; asked = days.2 }, listed.1)
