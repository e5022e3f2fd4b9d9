use Rattle.std.proofs.Common.{◌≡◌, map}
use Rattle.carried_books.specs.Joining.Earlier.{kept_as, reported}
use Rattle.carried_books.proofs.joining.earlier.KeptRegisters.into_registers.Given as goal

abbrev pub invariant-loop-one : goal.invariant-loop-one
invariant-loop-one l = map reported l.registers.items ≡ map kept_as l.yielded
