use Rattle.std.proofs.Common.{◌++◌, ◌∷◌, append_assoc, ◌∙◌}
use Rattle.table_seals.proofs.Words.{strip_reads, stripped, split_reads, split_is, parts_are, utf8_parts}
use Rattle.table_seals.proofs.parsing.field.Goals as goal

pub returns-clause-reads : goal.returns-clause-reads
returns-clause-reads c =
    λ word following w is.
    split_reads c.args.end c.in-Some.rest.now word following c.split_once.result c.split_once.ensures.cases c.requires w
    (strip_reads c.args.before.now c.args.text.now c.in-Some.rest.now (word ++ c.args.end ∷ following) c.in-Some.ensures.cases
    (is ∙ append_assoc c.args.before.now word (c.args.end ∷ following)))

pub returns-clause-parts : goal.returns-clause-parts
returns-clause-parts c =
    parts_are c.args.before.now c.args.text.now c.in-Some.rest.now c.args.end c.split_once.result
    (stripped c.args.before.now c.args.text.now c.in-Some.rest.now c.in-Some.ensures.cases)
    (split_is c.args.end c.in-Some.rest.now c.split_once.result c.split_once.ensures.cases c.requires)

pub returns-clause-utf8 : goal.returns-clause-utf8
returns-clause-utf8 c =
    utf8_parts c.args.text.now c.args.before.now c.args.end c.split_once.result c.utf8.text c.requires
    (parts_are c.args.before.now c.args.text.now c.in-Some.rest.now c.args.end c.split_once.result
    (stripped c.args.before.now c.args.text.now c.in-Some.rest.now c.in-Some.ensures.cases)
    (split_is c.args.end c.in-Some.rest.now c.split_once.result c.split_once.ensures.cases c.requires))
