use Rattle.memory_books.proofs.KeptLemmas.Latest.{at_its_register}
use Rattle.memory_books.proofs.kept.known.Known.standing_at.Goals as goal

pub returns-in-Some : goal.returns-in-Some
returns-in-Some c = λ known are.
    at_its_register known c.args.self.now.standing c.in-Some.meter.now c.get-in-Some.result c.get-in-Some.ensures are.standing
