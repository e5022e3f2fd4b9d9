use Rattle.std.proofs.Common.{◌+◌, ◌≤◌, List, length, take}
use Rattle.office_books.specs.Ledgers.{with_facts}
use Rattle.office_events.specs.declared.facts.Fact.{Fact}
use Rattle.memory_books.specs.Figures.{AreFigures}
use Rattle.memory_books.proofs.figures.Figures.after_all.Given as goal

abbrev pub invariant-loop-fact : goal.invariant-loop-fact
invariant-loop-fact l =
    (known : List Fact) → AreFigures l.self known → length known + length l.facts ≤ 18446744073709551615
    → AreFigures l.figures (with_facts (take l.fact-index l.facts) known)
