use Rattle.std.proofs.Common.{◌<◌, length, List, sym, ap, ◌∙◌, arith}
use Rattle.energy_core.specs.declared.entries.Entry.{Entry}
use Rattle.meter_journal.specs.declared.lines.EntryRow.{EntryRow}
use Rattle.meter_journal.specs.Books.{steps_after}
use Rattle.meter_journal.specs.Intervals.{rows_of_steps}
use Rattle.meter_journal.proofs.Going.{may_go_on, last_next, total_next, shares_next, shares_within, step_is, no_step, earlier_struck}
use Rattle.meter_journal.proofs.books.interval_rows.Goals as goal
use Rattle.meter_journal.proofs.books.interval_rows.Goals.{in-Some+in_ok-append_shares, in_default}

pub go_past-requires-clause-follows : goal.go_past-requires-clause-follows
go_past-requires-clause-follows c = λ on.
    may_go_on c.args.meter.now c.args.rows.now c.loop-row.row-index _ c.loop-row.tally.last c.loop-row.tally.total c.requires.installed c.requires.account
    (omega arith) on c.loop-row.invariant.last c.loop-row.invariant.total

pub append_shares-requires-clause-forward : goal.append_shares-requires-clause-forward
append_shares-requires-clause-forward c =
    let step = step_is c.args.meter.now.range c.args.rows.now c.loop-row.row-index _ c.loop-row.tally.last c.in-Some.step c.in-Some.ensures.step in
    let may = may_go_on c.args.meter.now c.args.rows.now c.loop-row.row-index _ c.loop-row.tally.last c.loop-row.tally.total c.requires.installed c.requires.account
    (omega arith) step.0 c.loop-row.invariant.last c.loop-row.invariant.total in
    rw step.1 may.follows.later

pub append_shares-requires-clause-intervals : goal.append_shares-requires-clause-intervals
append_shares-requires-clause-intervals c =
    let step = step_is c.args.meter.now.range c.args.rows.now c.loop-row.row-index _ c.loop-row.tally.last c.in-Some.step c.in-Some.ensures.step in
    let may = may_go_on c.args.meter.now c.args.rows.now c.loop-row.row-index _ c.loop-row.tally.last c.loop-row.tally.total c.requires.installed c.requires.account
    (omega arith) step.0 c.loop-row.invariant.last c.loop-row.invariant.total in
    rw step.1 may.follows.span

pub append_shares-requires-clause-energy : goal.append_shares-requires-clause-energy
append_shares-requires-clause-energy c =
    let step = step_is c.args.meter.now.range c.args.rows.now c.loop-row.row-index _ c.loop-row.tally.last c.in-Some.step c.in-Some.ensures.step in
    shares_within c.shares_add_up.ensures c.args.meter.now c.args.rows.now c.loop-row.row-index _ c.loop-row.tally.last c.loop-row.tally.total
    c.loop-row.shares.items c.in-Some.step c.requires.installed c.requires.account (omega arith) step.0 c.loop-row.invariant.last c.loop-row.invariant.total
    c.loop-row.invariant.shares step.1

pub loop-row-preserved : goal.loop-row-preserved
loop-row-preserved c =
    let rows : List EntryRow = c.args.rows.now in
    let lt : c.loop-row.row-index < length rows = omega arith in
    record {
      last = last_next c.args.meter.now rows c.loop-row.row-index _ c.loop-row.tally.last _ lt c.loop-row.invariant.last c.go_past.ensures.last;
      total = total_next c.args.meter.now rows c.loop-row.row-index _ c.loop-row.tally.last c.loop-row.tally.total _ c.requires.account lt
          c.loop-row.invariant.last c.loop-row.invariant.total c.go_past.ensures.total;
      shares = elim c.match-go_past.branch [
        | in-Some+in_ok-append_shares w ↦
            let step = step_is c.args.meter.now.range rows c.loop-row.row-index _ c.loop-row.tally.last w.in-Some.step w.in-Some.ensures.step in
            ap (λ v. v.items) w.shares-is
            ∙ shares_next c.args.meter.now rows c.loop-row.row-index _ c.loop-row.tally.last c.loop-row.shares.items w.append_shares.new.rows.items
            w.in-Some.step lt step.0 c.loop-row.invariant.last c.loop-row.invariant.shares step.1 w.in_ok-append_shares.ensures
        | in_default w ↦
            let off = no_step c.args.meter.now.range rows c.loop-row.row-index _ c.loop-row.tally.last w.in_default.ensures.step in
            ap (λ v. v.items) w.shares-is ∙ c.loop-row.invariant.shares
            ∙ ap (λ (es : List Entry). rows_of_steps (steps_after c.args.meter.now es)) (sym (earlier_struck rows c.loop-row.row-index _ lt off))
      ];
    }
