use Rattle.stored_files.proofs.JoinsLemmas.Stored.{joins_file, parts_from}
use Rattle.stored_files.proofs.joins.stored.join_opened.Goals as goal

pub returns-in-Ok-clause-joins : goal.returns-in-Ok-clause-joins
returns-in-Ok-clause-joins g c = λ its facts has.
    joins_file g.K.Keeping c.args.range c.args.register.now facts g.S.Store c.args.connection its c.args.kept c.in-Ok.books c.join_books.result
    c.in-Ok.ensures.clean (c.in-Ok.ensures.again its facts has) c.join_books.ensures.joins

pub returns-in-Ok-clause-unjoined : goal.returns-in-Ok-clause-unjoined
returns-in-Ok-clause-unjoined g c = λ its facts has.
    parts_from g.K.Keeping c.args.range c.args.register.now facts g.S.Store c.args.connection its c.args.kept c.in-Ok.books c.join_books.result
    c.in-Ok.ensures.clean (c.in-Ok.ensures.again its facts has) c.join_books.ensures.same c.join_books.ensures.unjoined
