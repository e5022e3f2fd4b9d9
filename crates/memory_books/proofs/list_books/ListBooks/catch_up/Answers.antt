use Rattle.std.proofs.Common.{refl}
use Rattle.std.specs.Prelude.{OnOk}
use Rattle.memory_books.specs.Tables.Whole.{AreWhole}
use Rattle.memory_books.specs.declared.list_books.ListBooks.{ListBooks}
use Rattle.memory_books.proofs.Reading.{keeps_facts, all_said}
use Rattle.memory_books.proofs.list_books.ListBooks.catch_up.Goals as goal

pub returns-clause-keeps : goal.returns-clause-keeps
returns-clause-keeps c =
    let new : ListBooks = record {
      facts = c.args.self.now.facts;
      zone = c.args.self.now.zone;
      tables = c.catch_up.new.self;
      figures = c.args.self.now.figures;
      last_failure = c.args.self.now.last_failure;
    } in
    keeps_facts c.args.self.now new c.deref.result.now refl refl c.deref.ensures.value c.catch_up.ensures.kept

pub returns-clause-whole : goal.returns-clause-whole
returns-clause-whole c = λ known listed.
    all_said c.args.self.now (λ facts. OnOk c.catch_up.result (AreWhole c.catch_up.new.self facts)) c.deref.result.now known c.deref.ensures.value
    c.catch_up.ensures.whole listed
