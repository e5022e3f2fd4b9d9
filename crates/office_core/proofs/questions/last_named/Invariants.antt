use Rattle.std.proofs.Common.{◌≡◌, reverse, take, find}
use Rattle.office_books.specs.Facts.{same}
use Rattle.office_core.proofs.questions.last_named.Given as goal

abbrev pub invariant-loop-device : goal.invariant-loop-device
invariant-loop-device l = l.last ≡ find (λ device. same device.name l.name) (reverse (take l.device-index l.devices))
