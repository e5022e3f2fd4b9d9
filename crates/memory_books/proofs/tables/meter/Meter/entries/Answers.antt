use Rattle.std.proofs.Common.{◌∙◌, List, reverse, ap}
use Rattle.meter_journal.specs.declared.lines.EntryRow.{EntryRow}
use Rattle.meter_journal.specs.Lists as lists
use Rattle.office_books.specs.Entries.{first_from, listed_rows}
use Rattle.office_events.specs.declared.facts.Opening.{Opening}
use Rattle.office_events.specs.declared.questions.Installation.{Installation}
use Rattle.memory_books.proofs.TablesLemmas.Found.{if_ok_then}
use Rattle.memory_books.proofs.tables.meter.Meter.entries.Goals as goal

pub returns : goal.returns
returns c = λ known o said.
    if_ok_then c.list_entries.result
    (λ v are.
    are
    ∙ ap (λ (p : Opening). first_from c.args.from c.args.most (reverse (listed_rows p (lists.latest_first c.deref.result.now)))) (ap (λ (row : Installation). row.opening) said.row)
    ∙ ap (λ (rows : List EntryRow). first_from c.args.from c.args.most (reverse (listed_rows o rows))) (ap lists.latest_first c.deref.ensures.value ∙ said.rows))
    c.list_entries.ensures
