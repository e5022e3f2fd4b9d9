use Rattle.std.proofs.Common.{◌∙◌}
use Rattle.office_books.specs.Facts.{as_device}
use Rattle.memory_books.proofs.TablesLemmas.Turned.{turned}
use Rattle.memory_books.proofs.lookups.devices.Goals as goal

pub returns : goal.returns
returns c = c.in_ok-devices.ensures ∙ turned as_device c.args.facts.now
