use Rattle.std.proofs.Common.{◌≡◌, ◌++◌, List, take}
use Rattle.office_events.specs.declared.facts.Fact.{Fact}
use Rattle.run_http.specs.Status.Advice.Lacks.{LooksUp, lacks_of_registers}
use Rattle.run_http.proofs.status.advice.lacks.add_of_registers.Given as goal

abbrev pub invariant-loop-register : goal.invariant-loop-register
invariant-loop-register g l = record {
  adds : (known : List Fact) → (g.B.Books.ledger l.fn.books).holds known → (g.B.Books.ledger l.books).is_clean
      → l.lacks.items ≡ l.fn.lacks.items ++ lacks_of_registers known l.device l.list (take l.register-index l.registers);
  looks : LooksUp (g.B.Books.ledger l.fn.books) (g.B.Books.ledger l.books);
}
