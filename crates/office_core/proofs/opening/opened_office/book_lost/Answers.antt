use Rattle.std.proofs.Common.{◌∙◌}
use Rattle.office_books.proofs.Moving.{consults}
use Rattle.office_core.proofs.OpeningLemmas.Lost.{books_lost}
use Rattle.office_core.proofs.opening.opened_office.book_lost.Goals as goal

pub returns-clause-books : goal.returns-clause-books
returns-clause-books g c = λ known lawful.
    let found = c.in_ok-polls.ensures.found known in
    books_lost _ _ _ c.args.moment known c.deref.result.now c.in_ok-facts.facts.items _ c.book.result (consults _ _ _ c.in_ok-polls.ensures.reads)
    (λ holds clean. c.deref.ensures.value ∙ found holds clean) c.in_ok-facts.ensures lawful c.book.ensures.books
