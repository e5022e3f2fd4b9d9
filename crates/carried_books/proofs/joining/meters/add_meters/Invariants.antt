use Rattle.std.proofs.Common.{take}
use Rattle.carried_books.specs.Joining.Meters.{AddMeters}
use Rattle.carried_books.proofs.joining.meters.add_meters.Given as goal

abbrev pub invariant-loop-row : goal.invariant-loop-row
invariant-loop-row l = AddMeters l.fn.known.items (take l.row-index l.listed) l.known.items
