use Rattle.std.proofs.Common.{◌≡◌, List, length, ap, subst, arith}
use Rattle.std.proofs.lemmas.List.{length-append, length-reverse}
use Rattle.office_books.specs.Ledgers.{with_facts}
use Rattle.office_events.specs.declared.facts.Fact.{Fact}
use Rattle.memory_books.specs.Figures.{AreFigures}
use Rattle.memory_books.proofs.list_books.ListBooks.add.Goals as goal

pub returns-clause-figures : goal.returns-clause-figures
returns-clause-figures c = λ known is are.
    let same : c.deref.result.now ≡ c.args.facts.items = c.deref.ensures.value in
    subst (λ (fs : List Fact). AreFigures c.after_all-figures.result (with_facts fs known)) same
    (c.after_all-figures.ensures known are
    (omega (
      arith,
      ap length same,
      c.append.new.self.ok.0,
      c.append.new.self.ok.1,
      c.append.new.self.small,
      ap length c.in_ok-append.ensures.items,
      length-append c.args.self.now.facts.items c.args.facts.items,
      ap length is,
      length-reverse known,
    )))
