use Rattle.std.proofs.Common.{List, take}
use Rattle.office_events.specs.declared.facts.Fact.{Fact}
use Rattle.office_books.specs.Lawful.{AreLawful}
use Rattle.office_books.specs.Ledgers.{with_facts}
use Rattle.memory_books.specs.Kept.Known.{AreTrue}
use Rattle.memory_books.proofs.kept.known.Known.add_all.Given as goal

abbrev pub invariant-loop-fact : goal.invariant-loop-fact
invariant-loop-fact l =
    (known : List Fact) → AreLawful (with_facts (take l.fact-index l.facts) known)
    → AreTrue l.fn.self known → AreTrue l.self (with_facts (take l.fact-index l.facts) known)
