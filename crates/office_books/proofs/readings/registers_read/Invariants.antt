use Rattle.std.proofs.Common.{◌≡◌, take}
use Rattle.std.specs.List.{filter}
use Rattle.office_books.specs.Readings.{is_read_by}
use Rattle.office_books.proofs.readings.registers_read.Given as goal

abbrev pub invariant-loop-register : goal.invariant-loop-register
invariant-loop-register l = l.read.items ≡ filter (is_read_by l.span) (take l.register-index l.registers)
