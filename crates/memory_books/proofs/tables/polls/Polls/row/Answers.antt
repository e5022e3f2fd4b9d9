use Rattle.std.proofs.Common.{◌∙◌, ◌-◌, ◌<◌, List, Some, length, sym, ap, arith, inl, inr}
use Rattle.std.proofs.lemmas.Option.{slice_get-get_or}
use Rattle.office_events.specs.declared.questions.PollRow.{PollRow}
use Rattle.memory_books.proofs.TablesLemmas.PollRows.{row_found, row_absent}
use Rattle.memory_books.proofs.tables.polls.Polls.row.Goals as goal
use Rattle.memory_books.proofs.tables.polls.Polls.row.Goals.{else-number-ge1-via-then-number-ge1+else-number-len, else-number-ge1-via-else-number-ge1}

pub returns-then-number-len : goal.returns-then-number-len
returns-then-number-len c = λ known lawful says.
    let rows : List PollRow = c.args.self.now.rows.items in
    let inside : c.args.number - 1 < length rows = omega (arith, c.if-number-len.true, c.len.ensures) in
    ap (λ (row : PollRow). Some row) c.index.ensures ∙ sym (slice_get-get_or rows (c.args.number - 1) c.index.result.now inside)
    ∙ row_found known rows c.args.number lawful says c.if-number-ge1.true

pub returns-else-number-ge1 : goal.returns-else-number-ge1
returns-else-number-ge1 c = λ known lawful says.
    sym (row_absent known c.args.self.now.rows.items c.args.number lawful says (elim c.else-number-ge1.branch [
      | else-number-ge1-via-then-number-ge1+else-number-len w ↦ inr (omega (arith, w.if-number-len.false, w.len.ensures, w.if-number-ge1.true))
      | else-number-ge1-via-else-number-ge1 w ↦ inl (omega (arith, w.if-number-ge1.false))
    ]))
