use Rattle.std.proofs.Common.{sym, ◌∙◌}
use Rattle.run_schedule.proofs.NameLemmas.{other_text}
use Rattle.run_schedule.proofs.periods.names.period_of_file.Goals as goal

pub returns-else-spells : goal.returns-else-spells
returns-else-spells c =
    let is = rw (c.parts_of.ensures.stem, c.parts_of.ensures.suffix) at c.in-Some.ensures in
    other_text c.args.file.now c.args.name.now c.in-Some.text.now c.args.period is (sym c.spells.ensures ∙ c.if-spells.false)
