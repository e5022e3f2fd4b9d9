use Rattle.std.proofs.Common.{rules, ◌≡◌, true, false, arith}
use Rattle.table_seals.proofs.PollRows.{no_rows_yet, unread_row, next_row}
use Rattle.table_seals.proofs.poll_texts.write_rows.Goals as goal

pub loop-row-init : goal.loop-row-init
loop-row-init c = record {
  so_far = no_rows_yet c.args.last c.args.hidden.now c.args.first c.args.polls.now c.args.outcomes.now c.args.text.now.items c.args.pending.now.items;
  bound = c.requires;
}

pub loop-row-preserved : goal.loop-row-preserved
loop-row-preserved c =
    let put : c.in_ok-is_put.is_put ≡ true = search rules in
    let bound = c.in_ok-is_put.ensures.bound put in
    record {
      so_far = next_row c.args.last c.args.hidden.now c.args.first c.loop-row.next c.loop-row.row-index c.args.polls.now c.args.outcomes.now c.loop-row.left.now
          c.args.text.now.items c.loop-row.text.items c.append_poll.new.text.items c.args.pending.now.items c.loop-row.pending.items c.append_poll.new.pending.items
          c.row-item.result (omega arith) c.row-item.is c.ending_at-ending.result c.ending_at-ending.ensures c.loop-row.invariant.so_far
          c.in_ok-is_put.is_put _ c.rows_after-left.result.now put (omega arith) c.rows_after-left.ensures c.in_ok-is_put.ensures.puts;
      bound = omega (arith, bound);
    }

pub returns-then-not-is_put-clause-puts : goal.returns-then-not-is_put-clause-puts
returns-then-not-is_put-clause-puts c =
    let put : c.in_ok-is_put.is_put ≡ false = search rules in
    unread_row c.args.last c.args.hidden.now c.args.first c.loop-row.next c.loop-row.row-index c.args.polls.now c.args.outcomes.now c.loop-row.left.now
    c.args.text.now.items c.loop-row.text.items c.append_poll.new.text.items c.args.pending.now.items c.loop-row.pending.items c.append_poll.new.pending.items
    c.row-item.result (omega arith) c.row-item.is c.ending_at-ending.result c.ending_at-ending.ensures c.loop-row.invariant.so_far
    c.in_ok-is_put.is_put put c.in_ok-is_put.ensures.puts
