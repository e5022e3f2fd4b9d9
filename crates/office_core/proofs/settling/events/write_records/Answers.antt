use Rattle.office_books.proofs.Moving.{booked}
use Rattle.office_core.proofs.settling.events.write_records.Goals as goal

pub returns-clause-moves : goal.returns-clause-moves
returns-clause-moves g c = λ known lawful. booked _ _ known c.args.facts.items c.book.result (λ h. lawful) c.book.ensures.books
