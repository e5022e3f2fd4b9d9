use Rattle.std.proofs.Common.{[]}
use Rattle.office_store.proofs.Looking.{hands_on, reads}
use Rattle.office_store.proofs.tables.SqlBooksBooks.holds.Goals as goal

pub returns-clause-rows : goal.returns-clause-rows
returns-clause-rows g c =
    hands_on g.S.Store c.args.self.now.connection c.holds-found.new.conn c.args.self.now.failures c.answered.new.failures c.args.self.now.zone g.K.RowSink.takes c.args.sink.now c.holds-found.new.sink _ c.holds-found.result c.answered.result c.answered.ensures.answer
    c.holds-found.ensures

pub returns-clause-reads : goal.returns-clause-reads
returns-clause-reads g c =
    reads g.S.Store c.args.self.now.connection c.holds-found.new.conn c.args.self.now.failures c.answered.new.failures c.args.self.now.zone c.answered.result c.answered.ensures.noted c.holds-found.ensures.looks

pub invariant_of-self : goal.invariant_of-self
invariant_of-self g c = record { idle = (c.holds-found.ensures.looks []).mode c.args.self.now.idle }
