use Rattle.memory_books.proofs.KeptLemmas.Waiting.{count_kept}
use Rattle.memory_books.proofs.kept.known.Known.keep_poll_count.Goals as goal

pub returns : goal.returns
returns c known is are = record {
  lists = are.lists;
  registers = are.registers;
  standing = are.standing;
  polls = count_kept c.args.self.now.polls c.keep_started.new.self known c.args.found c.keep_started.ensures.waiting c.keep_started.ensures.started is are.polls;
}
