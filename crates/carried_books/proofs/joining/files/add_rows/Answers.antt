use Rattle.std.proofs.Common.{Option, refl, subst}
use Rattle.std.proofs.lemmas.Result.{IfOk-weaker}
use Rattle.office_books.specs.Entries.{installations_of}
use Rattle.carried_books.specs.Joining.Meters.{AddOrAreApart}
use Rattle.carried_books.specs.declared.joining.meters.Apart.{Apart}
use Rattle.carried_books.proofs.JoiningLemmas.Files.{adds_rows}
use Rattle.carried_books.proofs.joining.files.add_rows.Goals as goal

pub returns-in-None-clause-adds : goal.returns-in-None-clause-adds
returns-in-None-clause-adds g c known holds clean =
    let old = c.args.joined.now in
    let register = c.args.register.now in
    let mid_clean = c.join_days.ensures.reads.goes.clean clean in
    let meters = subst (λ (apart : Option Apart). AddOrAreApart old.meters.items (installations_of known register) c.join_meters.new.meters.items apart)
    c.in-None.is (c.in-Ok.ensures.adds known holds mid_clean) in
    IfOk-weaker c.join_days.result _ _ (λ why days. adds_rows c.args.span register known old _ why refl meters days)
    (c.join_days.ensures.adds known (c.in-Ok.ensures.reads.keeps.facts known holds) clean)
