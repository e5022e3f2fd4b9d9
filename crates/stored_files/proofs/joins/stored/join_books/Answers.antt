use Rattle.std.proofs.Common.{Option, subst}
use Rattle.carried_books.specs.Joining.Keeping.{KeepsFile}
use Rattle.carried_books.specs.declared.joining.files.Unjoined.{Unjoined}
use Rattle.stored_files.proofs.joins.stored.join_books.Goals as goal

pub returns-in-Err-clause-unjoined : goal.returns-in-Err-clause-unjoined
returns-in-Err-clause-unjoined g c = record {
  asked = c.add.new.books;
  clean = c.in-Err.ensures.reads.goes.clean;
  parts = λ known holds clean. tt;
}

pub returns-clause-joins : goal.returns-clause-joins
returns-clause-joins g c = record {
  asked = c.add.new.books;
  clean = c.in-Ok.ensures.reads.goes.clean;
  joins = λ known holds clean its files.
      subst (λ (why : Option Unjoined). KeepsFile (g.K.Keeping.keeps its c.args.range c.args.register.now) known c.args.kept c.add.new.self why)
      c.in-None.is (c.in-Ok.ensures.joins its known holds clean) files;
}
