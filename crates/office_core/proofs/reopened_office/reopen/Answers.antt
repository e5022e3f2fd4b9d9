use Rattle.std.proofs.Common.{◌≡◌, None, rules}
use Rattle.office_books.specs.History.{facts_of}
use Rattle.office_books.specs.Refusals.{opening_refusal_of}
use Rattle.office_core.proofs.Reopened.{not_booked}
use Rattle.office_core.proofs.reopened_office.reopen.Goals as goal

pub returns-in-Err-book_opening-clause-reopens : goal.returns-in-Err-book_opening-clause-reopens
returns-in-Err-book_opening-clause-reopens g c = λ past stand clean.
    let found = c.in-Ok-None.ensures.found (facts_of past) stand.holds (c.in-Err-book_opening.ensures.goes.clean clean) in
    let none : None ≡ opening_refusal_of (facts_of past) c.args.moment = search rules in
    not_booked past c.args.moment _ _ _ _ c.in-Err-book_opening.fault _ c.in-Ok-None.ensures.reads stand none clean
    (c.in-Err-book_opening.ensures.opens past) c.from-in-Err-book_opening.ensures
