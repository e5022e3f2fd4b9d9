use Rattle.std.proofs.Common.{sym, ◌∙◌}
use Rattle.memory_books.specs.Kept.Known.{IsLatest}
use Rattle.memory_books.proofs.KeptLemmas.Answering.{kept_too}
use Rattle.memory_books.proofs.KeptLemmas.Latest.{found_latest}
use Rattle.memory_books.proofs.kept.known.Known.keep_installation.Goals as goal

pub returns-in-Some : goal.returns-in-Some
returns-in-Some c = λ known is are. record {
  lists = are.lists;
  registers = are.registers;
  standing = kept_too (IsLatest known) c.args.self.now.standing c.insert-in-Some.new.self c.in-Some.row.opening.meter c.in-Some.row c.insert-in-Some.ensures
      (found_latest known c.args.register.now c.in-Some.row (sym is ∙ c.in-Some.is)) are.standing;
  polls = are.polls;
}
