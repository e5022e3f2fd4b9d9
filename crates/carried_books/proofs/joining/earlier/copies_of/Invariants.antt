use Rattle.std.proofs.Common.{take}
use Rattle.std.specs.List.{AllZip}
use Rattle.carried_books.specs.Joining.Earlier.{IsCopy}
use Rattle.carried_books.proofs.joining.earlier.copies_of.Given as goal

abbrev pub invariant-loop-one : goal.invariant-loop-one
invariant-loop-one l = AllZip IsCopy (take l.one-index l.kept) l.copies.items
