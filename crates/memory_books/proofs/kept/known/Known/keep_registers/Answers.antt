use Rattle.std.proofs.Common.{◌≡◌, ◌∙◌}
use Rattle.office_books.specs.Facts.{registers_of}
use Rattle.memory_books.proofs.KeptLemmas.Answering.{kept_too}
use Rattle.memory_books.proofs.kept.known.Known.keep_registers.Goals as goal

pub returns-in-Ok : goal.returns-in-Ok
returns-in-Ok c = λ known is are. record {
  lists = are.lists;
  registers = kept_too (λ device v. v.items ≡ registers_of known device) c.args.self.now.registers c.insert.new.self c.args.device.now c.in-Ok.copy c.insert.ensures
      (c.in-Ok.ensures.items_if_clones_equal (λ x y same. same) ∙ is) are.registers;
  standing = are.standing;
  polls = are.polls;
}
