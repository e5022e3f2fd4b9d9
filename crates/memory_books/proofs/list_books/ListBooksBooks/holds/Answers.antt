use Rattle.std.proofs.Common.{List, reverse, subst}
use Rattle.office_books.specs.Holds.{holds_of, holds_within}
use Rattle.office_books.specs.Rows.{TakesAll}
use Rattle.office_events.specs.declared.facts.Fact.{Fact}
use Rattle.office_events.specs.declared.facts.HeldReading.{HeldReading}
use Rattle.memory_books.specs.Listed.{ledger_of}
use Rattle.memory_books.proofs.Handed.{all_handed_on}
use Rattle.memory_books.proofs.Reading.{in_turn}
use Rattle.memory_books.proofs.list_books.ListBooksBooks.holds.Goals as goal

pub returns-clause-rows : goal.returns-clause-rows
returns-clause-rows g c =
    let asked : List Fact → List HeldReading = λ known. holds_within c.args.span (holds_of known c.args.meter.now) in
    let P : List Fact → Type 0 = λ known. TakesAll g.K.RowSink.takes c.args.sink.now (asked known) c.hand_holds.new.sink in
    all_handed_on g.K.RowSink.takes (ledger_of c.args.self.now) (ledger_of c.args.self.now) c.args.sink.now c.hand_holds.new.sink asked
    (λ known listed. subst P (in_turn c.args.self.now c.deref.result.now known c.deref.ensures.value listed) c.hand_holds.ensures)
    (asked (reverse c.deref.result.now), c.hand_holds.ensures)
