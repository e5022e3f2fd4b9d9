use Rattle.std.proofs.lemmas.Result.{IfOk-weaker}
use Rattle.office_core.specs.DayRange.{span_of}
use Rattle.carried_books.proofs.JoiningLemmas.Keeping.{kept, parted}
use Rattle.carried_books.proofs.joining.keeping.JoinedFilesKeeping.add.Goals as goal

pub returns-clause-joins : goal.returns-clause-joins
returns-clause-joins g c zone known holds clean =
    IfOk-weaker c.add_books.result _ _ (λ why all. kept zone (span_of c.args.range) c.args.register.now known c.args.self.now c.add_books.new.joined why all)
    (rw c.span_around.ensures.span at c.add_books.ensures.all known holds clean)

pub returns-clause-unjoined : goal.returns-clause-unjoined
returns-clause-unjoined g c known holds clean =
    IfOk-weaker c.add_books.result _ _ (λ why joins. parted (span_of c.args.range) c.args.register.now known c.args.self.now c.add_books.new.joined why joins)
    (rw c.span_around.ensures.span at c.add_books.ensures.joins known holds clean)
