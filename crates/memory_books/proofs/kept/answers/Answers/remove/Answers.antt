use Rattle.memory_books.proofs.KeptLemmas.Answering.{named, other_key}
use Rattle.memory_books.proofs.kept.answers.Answers.remove.Goals as goal

pub returns-clause-forgets : goal.returns-clause-forgets
returns-clause-forgets g c = record {
  gone = c.remove.ensures.updates.1;
  others = λ other apart. c.remove.ensures.updates.2 (named other) (other_key c.args.name.now other apart);
}
