use Rattle.std.proofs.Common.{[]}
use Rattle.std.specs.Prelude.{Option, IfSome}
use Rattle.office_events.specs.declared.questions.Installation.{Installation}
use Rattle.office_books.specs.Ranges.{IsSound}
use Rattle.office_store.proofs.Looking.{finds, reads, sound}
use Rattle.office_store.proofs.tables.SqlBooksBooks.meter.Goals as goal

pub returns-clause-found : goal.returns-clause-found
returns-clause-found g c =
    finds g.S.Store c.args.self.now.connection c.meter-found.new.conn c.args.self.now.failures c.answered.new.failures c.args.self.now.zone c.meter-found.result c.answered.result c.answered.ensures.answer c.meter-found.ensures.finds

pub returns-clause-reads : goal.returns-clause-reads
returns-clause-reads g c = record {
  reads = reads g.S.Store c.args.self.now.connection c.meter-found.new.conn c.args.self.now.failures c.answered.new.failures c.args.self.now.zone c.answered.result c.answered.ensures.noted c.meter-found.ensures.finds.looks;
  sound = sound (λ (row : Option Installation). IfSome row IsSound) c.meter-found.result c.answered.result c.answered.ensures.answer c.meter-found.ensures.sound;
}

pub invariant_of-self : goal.invariant_of-self
invariant_of-self g c = record { idle = (c.meter-found.ensures.finds.looks []).mode c.args.self.now.idle }
