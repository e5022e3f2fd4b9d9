use Rattle.std.proofs.Common.{◌≡◌, ◌∙◌, List, sym, ap, subst}
use Rattle.energy_core.specs.declared.entries.Entry.{Entry}
use Rattle.interval_core.specs.declared.shares.Share.{Share}
use Rattle.meter_journal.specs.declared.lines.EntryRow.{EntryRow}
use Rattle.meter_journal.specs.Books.{HasAccount, steps_after}
use Rattle.meter_journal.specs.Intervals.{rows_of_steps}
use Rattle.meter_journal.specs.Journal.{entries_in}
use Rattle.meter_journal.specs.Lists as lists
use Rattle.office_books.specs.Rows.{TakesAll}
use Rattle.office_events.specs.declared.facts.Opening.{Opening}
use Rattle.office_events.specs.declared.questions.Installation.{Installation}
use Rattle.office_books.specs.Meters.{installed, rows_of}
use Rattle.office_books.specs.Sound.{HasNumbers}
use Rattle.memory_books.specs.Tables.IntervalRows.{TakesWithin}
use Rattle.memory_books.proofs.TablesLemmas.Known.{known}
use Rattle.memory_books.proofs.tables.meter.Meter.hand_on.Goals as goal

pub returns-clause-whole : goal.returns-clause-whole
returns-clause-whole g c = λ facts o lawful there said.
    let all = known c.journals_fit.ensures c.journals_are_kept.ensures c.installations_are_in_range.ensures facts o lawful there in
    let opening_is : c.args.self.now.row.opening ≡ o = ap (λ (row : Installation). row.opening) said.row in
    let rows : List EntryRow = lists.latest_first c.deref.result.now in
    let is : rows ≡ rows_of facts o = ap lists.latest_first c.deref.ensures.value ∙ said.rows in
    let es : List Entry = entries_in rows in
    let P : List Share → Type 0 = λ shares. TakesAll (TakesWithin g.K.RowSink.takes c.args.span) c.args.sink.now shares c.hand_on.new.sink in
    subst P
    (ap (λ (p : Opening). rows_of_steps (steps_after (installed p) es)) opening_is
    ∙ ap (λ (rs : List EntryRow). rows_of_steps (steps_after (installed o) (entries_in rs))) is)
    (c.hand_on.ensures.whole (subst HasNumbers (sym opening_is) all.numbers)
    (subst (λ (p : Opening). HasAccount (installed p) es) (sym opening_is) (all.account rows is)))
