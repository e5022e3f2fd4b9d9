use Rattle.std.proofs.Common.{ap}
use Rattle.sun_chain.specs.Image.{Words}
use Rattle.sun_chain.proofs.scans.scan.Scan.unread.Goals as goal

pub returns-clause-words : goal.returns-clause-words
returns-clause-words c = λ at. ap (λ (word : Words). word at) c.move_on_to_next_read.ensures.words
