use Rattle.std.proofs.Common.{◌≡◌, take}
use Rattle.carried_books.specs.Joining.Statements.{rows_of_those}
use Rattle.carried_books.proofs.joining.statements.rows_of.Given as goal

abbrev pub invariant-loop-one : goal.invariant-loop-one
invariant-loop-one l = l.rows.items ≡ rows_of_those l.zone l.range (take l.one-index l.known)
