use Rattle.std.proofs.Common.{[]}
use Rattle.stored_files.proofs.CarriesLemmas.GoingOn.{goes_on}
use Rattle.stored_files.proofs.carries.stored.carry_into.Goals as goal

pub returns-in-Ok : goal.returns-in-Ok
returns-in-Ok g c = λ stand.
    goes_on g.O.Books.ledger g.N.Books.ledger c.args.old c.carry_books.new.old c.args.until c.in-Ok.office c.carry_books.new.new c.carry_books.result
    (c.in-Ok.ensures.opened [] stand) c.carry_books.ensures.carries c.carry_books.ensures.asks c.carry_books.ensures.passes
