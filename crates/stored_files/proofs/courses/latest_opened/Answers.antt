use Rattle.stored_files.proofs.LatestLemmas.{latest_found}
use Rattle.stored_files.proofs.courses.latest_opened.Goals as goal

pub returns-in-Ok-latest_in_books : goal.returns-in-Ok-latest_in_books
returns-in-Ok-latest_in_books g c = λ its facts has.
    latest_found g.S.Store c.args.connection its facts c.in-Ok.books c.in-Ok-latest_in_books.latest
    c.in-Ok.ensures.clean (c.in-Ok.ensures.again its facts has) c.in-Ok-latest_in_books.ensures
