use Rattle.std.proofs.Common.{◌≡◌, not, drop}
use Rattle.std.specs.List.{find}
use Rattle.carried_books.specs.Joining.Meters.{is_before}
use Rattle.carried_books.proofs.joining.meters.not_before.Given as goal

abbrev pub invariant-loop-stands : goal.invariant-loop-stands
invariant-loop-stands l =
    find (λ stands. not (is_before stands l.row)) (drop l.stands-index l.known) ≡ find (λ stands. not (is_before stands l.row)) l.known
