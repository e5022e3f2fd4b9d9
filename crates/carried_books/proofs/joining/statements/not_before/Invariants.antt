use Rattle.std.proofs.Common.{◌≡◌, not, drop}
use Rattle.std.specs.List.{find}
use Rattle.carried_books.specs.Joining.Meters.{is_before}
use Rattle.carried_books.proofs.joining.statements.not_before.Given as goal

abbrev pub invariant-loop-one : goal.invariant-loop-one
invariant-loop-one l =
    find (λ one. not (is_before one.stands l.row)) (drop l.one-index l.known) ≡ find (λ one. not (is_before one.stands l.row)) l.known
