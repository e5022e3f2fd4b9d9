use Rattle.std.proofs.Common.{◌∙◌}
use Rattle.office_books.specs.Entries.{installations_of}
use Rattle.carried_books.proofs.JoiningLemmas.Statements.{added_listed}
use Rattle.carried_books.proofs.joining.statements.add_meters.Goals as goal

pub returns-clause-adds : goal.returns-clause-adds
returns-clause-adds g c facts holds clean =
    let mid_clean = c.add_listed.ensures.reads.goes.clean clean in
    added_listed c.args.zone.now c.args.range.now facts (installations_of facts c.args.register.now) c.deref.result.now c.args.known.now.items
    c.add_listed.new.known.items c.add_listed.result (c.deref.ensures.value ∙ c.in_ok-listed.ensures.found facts holds mid_clean) c.add_listed.ensures.joins
    (c.add_listed.ensures.reports facts (c.in_ok-listed.ensures.reads.keeps.facts facts holds) clean)
