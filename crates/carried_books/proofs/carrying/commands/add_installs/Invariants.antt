use Rattle.std.proofs.Common.{◌≡◌, ◌++◌, map, take}
use Rattle.carried_books.specs.Carrying.Commands.{install}
use Rattle.carried_books.proofs.carrying.commands.add_installs.Given as goal

abbrev pub invariant-loop-opening : goal.invariant-loop-opening
invariant-loop-opening l = l.added.items ≡ l.fn.added.items ++ map install (take l.opening-index l.openings)
