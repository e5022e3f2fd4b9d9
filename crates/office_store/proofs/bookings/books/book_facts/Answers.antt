use Rattle.office_store.proofs.BookingsLemmas.Booking.{not_begun, some_facts}
use Rattle.office_store.proofs.Committed.{books}
use Rattle.office_store.proofs.bookings.books.book_facts.Goals as goal

pub returns-in_err-check_open-clause-books : goal.returns-in_err-check_open-clause-books
returns-in_err-check_open-clause-books g c zone =
    not_begun _ g.S.Store zone c.args.conn.now c.check_open.new.conn c.args.facts.now c.from_residual.result (some_facts c.args.facts.now c.is_empty.result c.is_empty.ensures c.if-is_empty.false)
    c.in_err-check_open.ensures.kept c.in_err-check_open.ensures.survives c.from_residual.ensures.1

pub returns-clause-books : goal.returns-clause-books
returns-clause-books g c zone =
    books g.S.Store zone c.args.conn.now c.check_open.new.conn c.commit_facts.new.conn c.args.facts.now c.commit_facts.result c.in_ok-check_open.ensures.opened c.in_ok-check_open.ensures.kept c.in_ok-check_open.ensures.survives
    c.commit_facts.ensures.does (some_facts c.args.facts.now c.is_empty.result c.is_empty.ensures c.if-is_empty.false) (λ trees. g.met.S.Store.settled c.commit_facts.new.conn.store trees)
