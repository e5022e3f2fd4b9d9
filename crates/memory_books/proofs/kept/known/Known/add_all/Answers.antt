use Rattle.std.proofs.Common.{◌≡◌, List, take, sym, subst}
use Rattle.std.proofs.lemmas.List.{take_all}
use Rattle.office_events.specs.declared.facts.Fact.{Fact}
use Rattle.office_books.specs.Lawful.{AreLawful}
use Rattle.office_books.specs.Ledgers.{with_facts}
use Rattle.memory_books.specs.Kept.Known.{AreTrue}
use Rattle.memory_books.proofs.KeptLemmas.Adding.{one_more}
use Rattle.memory_books.proofs.kept.known.Known.add_all.Goals as goal

pub loop-fact-preserved : goal.loop-fact-preserved
loop-fact-preserved c known =
    one_more c.args.self.now c.loop-fact.self c.add.new.self known c.args.facts.now c.loop-fact.fact-index c.fact-item.result
    c.loop-fact-test.true c.fact-item.is c.add.ensures (c.loop-fact.invariant known)

pub returns : goal.returns
returns c known lawful are =
    let whole : take c.loop-fact.fact-index c.args.facts.now ≡ c.args.facts.now = take_all c.loop-fact.fact-index c.args.facts.now c.loop-fact-test.false in
    subst (λ (fs : List Fact). AreTrue c.loop-fact.self (with_facts fs known)) whole
    (c.loop-fact.invariant known (subst (λ (fs : List Fact). AreLawful (with_facts fs known)) (sym whole) lawful) are)
