use Rattle.std.proofs.Common.{◌≡◌, false, rules, sym, subst}
use Rattle.office_books.specs.Refusals.{IsAccepted}
use Rattle.office_core.specs.Events.{is_command}
use Rattle.office_core.specs.Taking.{MayTake, Takes}
use Rattle.office_core.proofs.office.Office.process_event.Goals as goal

-- The program decides without a query to the store whether it accepts an event that is not a
-- command (such as bytes from a device).
pub returns-else-is_command-clause-takes : goal.returns-else-is_command-clause-takes
returns-else-is_command-clause-takes g c = λ past may clean.
    let ledger = g.B.Books.ledger in
    let at = c.args.moment in
    let e = c.args.event.now in
    let office = c.args.self.now in
    let device : is_command e ≡ false = search rules in
    let alone = c.decide.ensures.alone device in
    let accepted : IsAccepted past at e = search rules in
    let May : g.row.B.Denot → Type 0 = λ books. MayTake ledger past e (record office { books = books }) in
    let Does : g.row.B.Denot → Type 0 = λ books. Takes ledger past at e (record office { books = books }) c.settle.new.self c.settle.result in
    subst Does alone.books (c.settle.ensures.takes past (subst May (sym alone.books) may) accepted clean)
