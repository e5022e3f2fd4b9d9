use Rattle.carried_books.proofs.JoiningLemmas.Statements.{row_absent, row_there}
use Rattle.std.proofs.Common.{◌≡◌, true, false, rules}
use Rattle.energy_report.specs.Statements.{was_installed}
use Rattle.carried_books.proofs.joining.statements.add_part_statement.Goals as goal

pub returns-then-not-was_installed : goal.returns-then-not-was_installed
returns-then-not-was_installed c =
    let absent : was_installed c.args.zone.now c.args.range.now c.args.one.now.stands ≡ false = search rules in
    row_absent c.args.zone.now c.args.range.now c.args.one.now c.args.rows.now.items absent

pub returns : goal.returns
returns c =
    let there : was_installed c.args.zone.now c.args.range.now c.args.one.now.stands ≡ true = search rules in
    row_there c.args.zone.now c.args.range.now c.args.one.now c.args.rows.now.items c.push.new.self.items there c.in_ok-push.ensures.items
