use Rattle.std.proofs.Common.{◌∙◌}
use Rattle.std.specs.Prelude.{codes}
use Rattle.table_seals.proofs.Opened.{month_opened}
use Rattle.table_seals.proofs.Words.{begins_by_parts}
use Rattle.table_seals.proofs.parsing.month_line.Goals as goal

pub returns-in-None-clause-reads : goal.returns-in-None-clause-reads
returns-in-None-clause-reads c = λ meter month rest word fit is. c.in-None.ensures.reads meter _ word (is ∙ month_opened meter month rest)

pub returns-in-None-field-clause-reads : goal.returns-in-None-field-clause-reads
returns-in-None-field-clause-reads c =
    λ meter month rest word fit is.
    let one = c.in-Some.ensures.reads meter _ word (is ∙ month_opened meter month rest) in
    c.in-None-field.ensures.reads month.month _ fit.month_word one.1

pub returns-in-None-number-clause-reads : goal.returns-in-None-number-clause-reads
returns-in-None-number-clause-reads c =
    λ meter month rest word fit is.
    let one = c.in-Some.ensures.reads meter _ word (is ∙ month_opened meter month rest) in
    let two = c.in-Some-field.ensures.reads month.month _ fit.month_word one.1 in
    c.in-None-number.ensures.reads month.mwh _ fit.mwh_fits two.1

pub returns-clause-reads : goal.returns-clause-reads
returns-clause-reads c =
    λ meter month rest word fit is.
    let one = c.in-Some.ensures.reads meter _ word (is ∙ month_opened meter month rest) in
    let two = c.in-Some-field.ensures.reads month.month _ fit.month_word one.1 in
    let three = c.in-Some-number.ensures.reads month.mwh _ fit.mwh_fits two.1 in
    (record { month = two.0; mwh = three.0 }, three.1)

pub returns-clause-begins : goal.returns-clause-begins
returns-clause-begins c = begins_by_parts (codes "month ") c.args.text.now c.in-Some.found.0.now c.in-Some.found.1.now 32 c.in-Some.ensures.parts
