use Rattle.office_core.specs.Standing.{Stands}
use Rattle.memory_books.specs.Listed.{ledger_of}
use Rattle.office_books.specs.History.{History}
use Rattle.script_run.proofs.LoopingLemmas.Feeding.{FedSoFar}
use Rattle.script_run.proofs.looping.answers.feed_answers.Given as goal

abbrev pub invariant-loop-take : goal.invariant-loop-take
invariant-loop-take g l =
    (past : History) → Stands ledger_of past l.fn.office
    → FedSoFar l._take l.fn.device l.fn.at past l.fn.office l.office (g.W.Write.contents l.fn.output) (g.W.Write.contents l.output)
