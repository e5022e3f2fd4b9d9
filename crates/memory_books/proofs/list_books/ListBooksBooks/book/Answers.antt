use Rattle.std.proofs.Common.{◌≡◌, ◌∙◌, ap, Option}
use Rattle.office_books.specs.declared.faults.BooksFault.{BooksFault}
use Rattle.office_books.specs.Faults.{faults_after}
use Rattle.memory_books.specs.Looking.{failures_in}
use Rattle.memory_books.proofs.Adding.{added, not_added}
use Rattle.memory_books.proofs.list_books.ListBooksBooks.book.Goals as goal

pub returns-in-Ok : goal.returns-in-Ok
returns-in-Ok c = record {
  books = added c.args.self.now c.add.new.self c.catch_up.new.self c.args.facts.items c.in-Ok.ensures.ok c.in-Ok.ensures.zone c.in-Ok.ensures.tables
      c.in-Ok.ensures.figures c.catch_up.ensures.keeps c.catch_up.ensures.zone (c.catch_up.ensures.failure ∙ c.in-Ok.ensures.failure);
}

pub returns-in-Err : goal.returns-in-Err
returns-in-Err c =
    let noted : failures_in c.note_failure.new.last_failure ≡ faults_after c.note_failure.result (failures_in c.args.self.now.last_failure) =
    c.note_failure.ensures.noted ∙ ap (λ (l : Option BooksFault). faults_after c.note_failure.result (failures_in l)) c.in-Err.ensures.failure in
    record {
      books = not_added c.args.self.now (record c.add.new.self { last_failure = c.note_failure.new.last_failure }) c.args.facts.items c.in-Err.lacks c.note_failure.result
          c.note_failure.ensures.answer c.in-Err.ensures.err c.in-Err.ensures.zone c.in-Err.ensures.tables c.in-Err.ensures.same_figures noted c.in-Err.ensures.nothing;
    }
