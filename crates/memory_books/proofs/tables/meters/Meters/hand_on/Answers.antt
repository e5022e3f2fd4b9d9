use Rattle.std.proofs.Common.{List, sym, ap, subst}
use Rattle.interval_core.specs.declared.shares.Share.{Share}
use Rattle.office_books.specs.Rows.{TakesAll}
use Rattle.office_events.specs.declared.facts.Opening.{Opening}
use Rattle.office_books.specs.Laws.{IsRecorded}
use Rattle.office_books.specs.Facts.{same, openings_in}
use Rattle.office_books.specs.Intervals.{rows_of_installed}
use Rattle.memory_books.specs.Tables.IntervalRows.{TakesWithin}
use Rattle.memory_books.proofs.TablesLemmas.Known.{found_is_there}
use Rattle.memory_books.proofs.TablesLemmas.MetersComing.{stands_at}
use Rattle.memory_books.proofs.tables.meters.Meters.hand_on.Goals as goal

pub returns-clause-whole : goal.returns-clause-whole
returns-clause-whole g c = λ known lawful are.
    let stands = stands_at known c.args.self.now c.args.name.now c.named-key.result c.in-Some.meter.now c.named-key.ensures c.in-Some.ensures.value are in
    let recorded : IsRecorded known stands.opening =
    found_is_there (λ (o : Opening). same o.meter c.args.name.now) (openings_in known) stands.opening stands.there in
    let P : List Share → Type 0 = λ shares. TakesAll (TakesWithin g.K.RowSink.takes c.args.span) c.args.sink.now shares c.hand_on.new.sink in
    subst P (ap (rows_of_installed known) (sym stands.there))
    (c.hand_on.ensures.whole known stands.opening lawful recorded (record { row = stands.row; rows = stands.rows }))
