use Rattle.memory_books.proofs.kept.kept.CachedBooksBooks.tables_are_known.Goals as goal

pub returns : goal.returns
returns g c known others clean is_open holds more = c.tables_are_known.ensures known others clean is_open holds.0 more.0
