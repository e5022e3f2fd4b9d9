use Rattle.std.proofs.Common.{[]}
use Rattle.office_store.proofs.Looking.{finds, reads}
use Rattle.office_store.proofs.tables.SqlBooksBooks.registers_read.Goals as goal

pub returns-clause-found : goal.returns-clause-found
returns-clause-found g c =
    finds g.S.Store c.args.self.now.connection c.registers_read-found.new.conn c.args.self.now.failures c.answered.new.failures c.args.self.now.zone c.registers_read-found.result c.answered.result c.answered.ensures.answer c.registers_read-found.ensures

pub returns-clause-reads : goal.returns-clause-reads
returns-clause-reads g c =
    reads g.S.Store c.args.self.now.connection c.registers_read-found.new.conn c.args.self.now.failures c.answered.new.failures c.args.self.now.zone c.answered.result c.answered.ensures.noted c.registers_read-found.ensures.looks

pub invariant_of-self : goal.invariant_of-self
invariant_of-self g c = record { idle = (c.registers_read-found.ensures.looks []).mode c.args.self.now.idle }
