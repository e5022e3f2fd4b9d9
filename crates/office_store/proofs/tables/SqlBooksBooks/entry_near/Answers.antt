use Rattle.std.proofs.Common.{[]}
use Rattle.std.specs.Prelude.{Option, IfSome}
use Rattle.office_events.specs.declared.questions.EntryContext.{EntryContext}
use Rattle.office_books.specs.Ranges.{IsSound}
use Rattle.office_store.proofs.Looking.{finds, reads, sound}
use Rattle.office_store.proofs.tables.SqlBooksBooks.entry_near.Goals as goal

pub returns-clause-found : goal.returns-clause-found
returns-clause-found g c =
    finds g.S.Store c.args.self.now.connection c.entry_near-found.new.conn c.args.self.now.failures c.answered.new.failures c.args.self.now.zone c.entry_near-found.result c.answered.result c.answered.ensures.answer c.entry_near-found.ensures.finds

pub returns-clause-reads : goal.returns-clause-reads
returns-clause-reads g c = record {
  reads = reads g.S.Store c.args.self.now.connection c.entry_near-found.new.conn c.args.self.now.failures c.answered.new.failures c.args.self.now.zone c.answered.result c.answered.ensures.noted c.entry_near-found.ensures.finds.looks;
  sound = sound (λ (place : Option EntryContext). IfSome place (λ (p : EntryContext). IsSound p.before)) c.entry_near-found.result c.answered.result c.answered.ensures.answer c.entry_near-found.ensures.sound;
}

pub invariant_of-self : goal.invariant_of-self
invariant_of-self g c = record { idle = (c.entry_near-found.ensures.finds.looks []).mode c.args.self.now.idle }
