use Rattle.std.proofs.Common.{List, subst, ◌∙◌}
use Rattle.office_events.specs.declared.questions.Installation.{Installation}
use Rattle.carried_books.specs.Joining.Meters.{AddOrAreApart}
use Rattle.carried_books.proofs.joining.files.join_meters.Goals as goal

pub returns-in-Ok-add_meters-clause-adds : goal.returns-in-Ok-add_meters-clause-adds
returns-in-Ok-add_meters-clause-adds g c known holds clean =
    subst (λ (rows : List Installation). AddOrAreApart c.args.meters.now.items rows c.add_meters.new.known.items c.in-Ok-add_meters.apart)
    (c.deref.ensures.value ∙ c.in-Ok.ensures.found known holds clean) c.in-Ok-add_meters.ensures
