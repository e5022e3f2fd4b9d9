use Rattle.std.proofs.Common.{◌<◌, length, List, arith}
use Rattle.meter_journal.specs.declared.lines.EntryRow.{EntryRow}
use Rattle.meter_journal.proofs.Going.{may_go_on, last_next, total_next}
use Rattle.meter_journal.proofs.books.tally_after.Goals as goal

pub go_past-step-requires-clause-follows : goal.go_past-step-requires-clause-follows
go_past-step-requires-clause-follows c = λ on.
    may_go_on c.args.meter.now c.args.rows.now c.loop-row.row-index _ c.loop-row.tally.last c.loop-row.tally.total c.requires.installed c.requires.account
    (omega arith) on c.loop-row.invariant.last c.loop-row.invariant.total

pub loop-row-preserved : goal.loop-row-preserved
loop-row-preserved c =
    let rows : List EntryRow = c.args.rows.now in
    let lt : c.loop-row.row-index < length rows = omega arith in
    record {
      last = last_next c.args.meter.now rows c.loop-row.row-index _ c.loop-row.tally.last _ lt c.loop-row.invariant.last c.go_past-step.ensures.last;
      total = total_next c.args.meter.now rows c.loop-row.row-index _ c.loop-row.tally.last c.loop-row.tally.total _ c.requires.account lt
          c.loop-row.invariant.last c.loop-row.invariant.total c.go_past-step.ensures.total;
    }
