use Rattle.std.proofs.Common.{◌≡◌, length}
use Rattle.table_seals.specs.Reading.{are_rising}
use Rattle.table_seals.proofs.once.are_rising.Given as goal

abbrev pub invariant-loop-number : goal.invariant-loop-number
invariant-loop-number l = are_rising l.numbers ≡ are_rising l.rest

abbrev pub decreases-loop-number : goal.decreases-loop-number
decreases-loop-number l = length l.rest
