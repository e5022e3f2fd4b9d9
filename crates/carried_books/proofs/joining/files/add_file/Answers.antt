use Rattle.std.proofs.Common.{refl, sym, ◌∙◌}
use Rattle.std.proofs.lemmas.Result.{IfOk-weaker}
use Rattle.carried_books.proofs.JoiningLemmas.Files.{joins_with}
use Rattle.carried_books.proofs.joining.files.add_file.Goals as goal

pub returns-else-both-clause-joins : goal.returns-else-both-clause-joins
returns-else-both-clause-joins g c known holds clean =
    IfOk-weaker c.add_rows.result _ _ (λ why adds. joins_with c.args.span c.args.register.now known c.args.joined.now _ c.add_rows.new.joined c.in-Ok.is_recorded why
    (sym c.both.ensures ∙ c.if-both.false) (c.in-Ok.ensures.found known holds (c.add_rows.ensures.reads.goes.clean clean)) refl refl refl adds)
    (c.add_rows.ensures.adds known (c.in-Ok.ensures.reads.keeps.facts known holds) clean)
