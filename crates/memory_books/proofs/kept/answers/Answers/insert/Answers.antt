use Rattle.memory_books.proofs.KeptLemmas.Answering.{write_in}
use Rattle.memory_books.proofs.kept.answers.Answers.insert.Goals as goal

pub returns-then-len-self : goal.returns-then-len-self
returns-then-len-self g c =
    write_in c.insert.result c.args.self.now.rows c.insert.new.self c.args.name.now c.args.answer c.insert.ensures.updates
    c.insert.ensures.err
