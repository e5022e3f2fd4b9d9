use Rattle.std.proofs.lemmas.Result.{IfOk-weaker}
use Rattle.carried_books.proofs.JoiningLemmas.Files.{all_join}
use Rattle.carried_books.proofs.joining.files.add_books.Goals as goal

pub returns-clause-all : goal.returns-clause-all
returns-clause-all g c known holds clean =
    IfOk-weaker c.add_file.result _ _ (λ why joins. all_join c.args.span c.args.register.now known c.args.joined.now c.add_file.new.joined why joins)
    (c.add_file.ensures.joins known holds clean)
