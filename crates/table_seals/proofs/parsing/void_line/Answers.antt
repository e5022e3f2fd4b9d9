use Rattle.std.proofs.Common.{◌∙◌}
use Rattle.std.specs.Prelude.{codes}
use Rattle.table_seals.proofs.Opened.{void_opened, void_is}
use Rattle.table_seals.proofs.Words.{begins_by_parts}
use Rattle.table_seals.proofs.parsing.void_line.Goals as goal

pub returns-in-None-clause-reads : goal.returns-in-None-clause-reads
returns-in-None-clause-reads c = λ meter void rest word fit is. c.in-None.ensures.reads meter _ word (is ∙ void_opened meter void rest)

pub returns-in-None-number-clause-reads : goal.returns-in-None-number-clause-reads
returns-in-None-number-clause-reads c =
    λ meter void rest word fit is.
    let one = c.in-Some.ensures.reads meter _ word (is ∙ void_opened meter void rest) in
    c.in-None-number.ensures.reads void.place _ fit.place_fits one.1

pub returns-in-None-number-2-clause-reads : goal.returns-in-None-number-2-clause-reads
returns-in-None-number-2-clause-reads c =
    λ meter void rest word fit is.
    let one = c.in-Some.ensures.reads meter _ word (is ∙ void_opened meter void rest) in
    let two = c.in-Some-number.ensures.reads void.place _ fit.place_fits one.1 in
    c.in-None-number-2.ensures.reads void.moment _ fit.moment_fits two.1

pub returns-clause-reads : goal.returns-clause-reads
returns-clause-reads c =
    λ meter void rest word fit is.
    let one = c.in-Some.ensures.reads meter _ word (is ∙ void_opened meter void rest) in
    let two = c.in-Some-number.ensures.reads void.place _ fit.place_fits one.1 in
    let three = c.in-Some-number-2.ensures.reads void.moment _ fit.moment_fits two.1 in
    (void_is c.in-Some-number.found.0 c.in-Some-number-2.found.0 void two.0 three.0, three.1)

pub returns-clause-begins : goal.returns-clause-begins
returns-clause-begins c = begins_by_parts (codes "void ") c.args.text.now c.in-Some.found.0.now c.in-Some.found.1.now 32 c.in-Some.ensures.parts
