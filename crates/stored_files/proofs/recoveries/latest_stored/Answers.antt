use Rattle.stored_files.proofs.LatestLemmas.{latest_in_file}
use Rattle.stored_files.proofs.recoveries.latest_stored.Goals as goal

pub returns-in-Ok : goal.returns-in-Ok
returns-in-Ok g c = λ its facts has.
    latest_in_file g.S.Store c.args.connection its facts c.in-Ok.books c.latest_in_books.result
    c.in-Ok.ensures.clean (c.in-Ok.ensures.again its facts has) c.latest_in_books.ensures
