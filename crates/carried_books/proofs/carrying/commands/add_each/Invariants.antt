use Rattle.std.proofs.Common.{◌≡◌, ◌++◌, map, take}
use Rattle.carried_books.specs.Carrying.Commands.{add_register}
use Rattle.carried_books.proofs.carrying.commands.add_each.Given as goal

abbrev pub invariant-loop-register : goal.invariant-loop-register
invariant-loop-register l =
    l.added.items ≡ l.fn.added.items ++ map (add_register l.at) (take l.register-index l.registers)
