use Rattle.std.proofs.Common.{◌≡◌, Some}
use Rattle.office_books.specs.Facts.{list_of}
use Rattle.memory_books.proofs.KeptLemmas.Answering.{kept_too, same_found}
use Rattle.memory_books.proofs.kept.known.Known.keep_list.Goals as goal

pub returns-in-Ok : goal.returns-in-Ok
returns-in-Ok c = λ known is are. record {
  lists = kept_too (λ device list. list_of known device ≡ Some list) c.args.self.now.lists c.insert.new.self c.args.device.now c.in-Ok.copy c.insert.ensures
      (same_found (list_of known c.args.device.now) c.args.found.now c.in-Some.list c.in-Ok.copy is c.in-Some.is c.in-Ok.ensures.cases) are.lists;
  registers = are.registers;
  standing = are.standing;
  polls = are.polls;
}
