use Rattle.std.proofs.Common.{List, sym, subst}
use Rattle.interval_core.specs.declared.shares.Share.{Share}
use Rattle.office_books.specs.Rows.{TakesAll}
use Rattle.memory_books.specs.Tables.IntervalRows.{TakesWithin}
use Rattle.memory_books.proofs.TablesLemmas.Joined.{rows_there}
use Rattle.memory_books.proofs.tables.tables.Tables.hand_on_at.Goals as goal

pub returns-in-Some-clause-whole : goal.returns-in-Some-clause-whole
returns-in-Some-clause-whole g c = λ known is lawful whole.
    let P : List Share → Type 0 = λ rows. TakesAll (TakesWithin g.K.RowSink.takes c.args.span) c.args.sink.now rows c.intervals.new.sink in
    subst P (rows_there known c.args.facts.now c.args.place c.in-Some.opening lawful is (sym c.in-Some.ensures)) (c.intervals.ensures.whole known lawful whole)
