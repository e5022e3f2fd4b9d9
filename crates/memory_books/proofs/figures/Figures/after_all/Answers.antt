use Rattle.std.proofs.Common.{◌∷◌, ◌∙◌, List, sym, ap, subst, take}
use Rattle.office_books.specs.Ledgers.{with_facts}
use Rattle.office_events.specs.declared.facts.Fact.{Fact}
use Rattle.memory_books.specs.Figures.{AreFigures}
use Rattle.memory_books.proofs.Counting.{with_more, few_with}
use Rattle.memory_books.proofs.figures.Figures.after_all.Goals as goal

pub loop-fact-preserved : goal.loop-fact-preserved
loop-fact-preserved c = λ known are few.
    let before : List Fact = with_facts (take c.loop-fact.fact-index c.args.facts.now) known in
    subst (AreFigures c.after-figures.result)
    (ap (λ (f : Fact). f ∷ before) c.fact-item.is ∙ sym (with_more c.args.facts.now known c.loop-fact.fact-index c.fact-item.result c.loop-fact-test.true))
    (c.after-figures.ensures before (c.loop-fact.invariant known are few) (few_with c.args.facts.now known c.loop-fact.fact-index c.loop-fact-test.true few))
