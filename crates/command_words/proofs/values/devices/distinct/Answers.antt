use Rattle.std.proofs.Common.{◌∙◌, sym}
use Rattle.command_words.proofs.ValuesLemmas.Parts.{distinct_more, distinct_no, name_later}
use Rattle.command_words.proofs.values.devices.distinct.Goals as goal

pub returns-then-has_name : goal.returns-then-has_name
returns-then-has_name c =
    sym (distinct_no c.args.parts.now c.loop-index.index _ c.loop-index-test.true c.loop-index.invariant
    (name_later c.args.parts.now c.loop-index.index _ _ _ c.name_of.ensures c.has_name.ensures ∙ c.if-has_name.true))

pub loop-index-preserved : goal.loop-index-preserved
loop-index-preserved c =
    distinct_more c.args.parts.now c.loop-index.index _ c.loop-index-test.true c.loop-index.invariant
    (name_later c.args.parts.now c.loop-index.index _ _ _ c.name_of.ensures c.has_name.ensures ∙ c.if-has_name.false)
