use Rattle.memory_books.specs.declared.tables.places.Kind.TheVariants.{DeviceLists, Registers, DeviceRegisters, RegisterOpenings, Replies}
use Rattle.memory_books.proofs.TablesLemmas.Wholes.{further, whole}
use Rattle.memory_books.proofs.tables.tables.Tables.catch_up.Goals as goal

pub returns-in_err-catch_up-8-clause-kept : goal.returns-in_err-catch_up-8-clause-kept
returns-in_err-catch_up-8-clause-kept c = λ lawful come. record {
  polls = c.catch_up.ensures.kept lawful come.polls;
  pending = c.catch_up-2.ensures.kept lawful come.pending;
  lists = further DeviceLists c.args.self.now.lists c.catch_up-3.new.self c.args.facts.now come.lists (c.catch_up-3.ensures.kept lawful) c.catch_up-3.ensures.kind;
  registers = further Registers c.args.self.now.registers c.catch_up-4.new.self c.args.facts.now come.registers (c.catch_up-4.ensures.kept lawful) c.catch_up-4.ensures.kind;
  device_registers = further DeviceRegisters c.args.self.now.device_registers c.catch_up-5.new.self c.args.facts.now come.device_registers (c.catch_up-5.ensures.kept lawful) c.catch_up-5.ensures.kind;
  openings = further RegisterOpenings c.args.self.now.openings c.catch_up-6.new.self c.args.facts.now come.openings (c.catch_up-6.ensures.kept lawful) c.catch_up-6.ensures.kind;
  replies = further Replies c.args.self.now.replies c.catch_up-7.new.self c.args.facts.now come.replies (c.catch_up-7.ensures.kept lawful) c.catch_up-7.ensures.kind;
  meters = c.catch_up-8.ensures.kept lawful come.meters;
}

pub returns-clause-kept : goal.returns-clause-kept
returns-clause-kept c = λ lawful come. record {
  polls = c.catch_up.ensures.kept lawful come.polls;
  pending = c.catch_up-2.ensures.kept lawful come.pending;
  lists = further DeviceLists c.args.self.now.lists c.catch_up-3.new.self c.args.facts.now come.lists (c.catch_up-3.ensures.kept lawful) c.catch_up-3.ensures.kind;
  registers = further Registers c.args.self.now.registers c.catch_up-4.new.self c.args.facts.now come.registers (c.catch_up-4.ensures.kept lawful) c.catch_up-4.ensures.kind;
  device_registers = further DeviceRegisters c.args.self.now.device_registers c.catch_up-5.new.self c.args.facts.now come.device_registers (c.catch_up-5.ensures.kept lawful) c.catch_up-5.ensures.kind;
  openings = further RegisterOpenings c.args.self.now.openings c.catch_up-6.new.self c.args.facts.now come.openings (c.catch_up-6.ensures.kept lawful) c.catch_up-6.ensures.kind;
  replies = further Replies c.args.self.now.replies c.catch_up-7.new.self c.args.facts.now come.replies (c.catch_up-7.ensures.kept lawful) c.catch_up-7.ensures.kind;
  meters = c.catch_up-8.ensures.kept lawful come.meters;
}

pub returns-clause-whole : goal.returns-clause-whole
returns-clause-whole c = λ lawful come. record {
  polls = c.in_ok-catch_up.ensures.whole lawful come.polls;
  pending = c.in_ok-catch_up-2.ensures.whole lawful come.pending;
  lists = whole DeviceLists c.args.self.now.lists c.catch_up-3.new.self c.args.facts.now come.lists (c.in_ok-catch_up-3.ensures.whole lawful) c.catch_up-3.ensures.kind;
  registers = whole Registers c.args.self.now.registers c.catch_up-4.new.self c.args.facts.now come.registers (c.in_ok-catch_up-4.ensures.whole lawful) c.catch_up-4.ensures.kind;
  device_registers = whole DeviceRegisters c.args.self.now.device_registers c.catch_up-5.new.self c.args.facts.now come.device_registers (c.in_ok-catch_up-5.ensures.whole lawful) c.catch_up-5.ensures.kind;
  openings = whole RegisterOpenings c.args.self.now.openings c.catch_up-6.new.self c.args.facts.now come.openings (c.in_ok-catch_up-6.ensures.whole lawful) c.catch_up-6.ensures.kind;
  replies = whole Replies c.args.self.now.replies c.catch_up-7.new.self c.args.facts.now come.replies (c.in_ok-catch_up-7.ensures.whole lawful) c.catch_up-7.ensures.kind;
  meters = c.in_ok-catch_up-8.ensures.whole lawful come.meters;
}
