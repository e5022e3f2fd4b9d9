use Rattle.memory_books.proofs.tables.tables.Tables.entries.Goals as goal

pub returns : goal.returns
returns c = λ known whole. c.entries.ensures known whole.meters
