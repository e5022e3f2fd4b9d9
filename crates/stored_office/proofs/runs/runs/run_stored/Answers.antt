use Rattle.stored_files.proofs.Standing.{stands_alone}
use Rattle.stored_office.proofs.runs.runs.run_stored.Goals as goal

pub returns-clause-headline : goal.returns-clause-headline
returns-clause-headline g c zone past is alone =
    c.run.ensures.headline past (stands_alone g.S.Store zone c.args.books.connection c.args.books.failures c.args.books.zone past is alone)

pub returns-clause-refused : goal.returns-clause-refused
returns-clause-refused g c zone past is alone =
    c.run.ensures.refused past (stands_alone g.S.Store zone c.args.books.connection c.args.books.failures c.args.books.zone past is alone)
