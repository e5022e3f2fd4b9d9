use Rattle.std.proofs.Common.{refl}
use Rattle.carried_books.proofs.JoiningLemmas.Earlier.{registers_kept}
use Rattle.carried_books.proofs.joining.earlier.KeptRegistersKeeping.add.Goals as goal

pub returns-clause-joins : goal.returns-clause-joins
returns-clause-joins g c zone known holds clean = registers_kept zone known c.args.self.now
    (record c.args.self.now { kept = c.add_books_to.new.kept }) c.add_books_to.result refl
    (c.add_books_to.ensures.joins known holds clean)
