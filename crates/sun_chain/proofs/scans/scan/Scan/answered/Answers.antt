use Rattle.std.proofs.Common.{ap, ◌∙◌}
use Rattle.sun_chain.specs.Image.{Words}
use Rattle.sun_chain.proofs.scans.scan.Scan.answered.Goals as goal

pub returns-in-Ok-clause-words : goal.returns-in-Ok-clause-words
returns-in-Ok-clause-words c = λ at. ap (λ (word : Words). word at) c.move_on_to_next_read.ensures.words ∙ c.in-Ok.ensures.put at
