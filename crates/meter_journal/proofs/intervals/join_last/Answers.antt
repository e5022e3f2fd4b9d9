use Rattle.std.proofs.Common.{◌≡◌, ◌-◌, ◌==◌, suc, false, List, length, sym, ◌∙◌, arith}
use Rattle.std.proofs.lemmas.Bool.{ne_eqb}
use Rattle.interval_core.specs.declared.shares.Share.{Share}
use Rattle.meter_journal.proofs.Joining.{joined_same, joined_other, joined_none}
use Rattle.meter_journal.proofs.intervals.join_last.Goals as goal
use Rattle.meter_journal.proofs.intervals.join_last.Goals.{then-count-gt0+else-row-share, else-count-gt0}

pub returns-then-row-share-clause-ok : goal.returns-then-row-share-clause-ok
returns-then-row-share-clause-ok c =
    let rows : List Share = c.args.rows.now.items in
    let long : length rows ≡ suc (c.len-count.result - 1) = omega arith in
    joined_same rows (c.len-count.result - 1) c.index-row.result.now c.args.share long (sym c.index-row.ensures) c.if-row-share.true

pub returns-clause-ok : goal.returns-clause-ok
returns-clause-ok c =
    let rows : List Share = c.args.rows.now.items in
    c.in_ok-push.ensures.items ∙ elim c.if-count-gt0.branch [
      | then-count-gt0+else-row-share w ↦
          let row : Share = w.index-row.result.now in
          let long : length rows ≡ suc (c.len-count.result - 1) = omega arith in
          let other : row.start == c.args.share.start ≡ false = ne_eqb row.start c.args.share.start w.if-row-share.false in
          joined_other rows (c.len-count.result - 1) row c.args.share long (sym w.index-row.ensures) other
      | else-count-gt0 w ↦ joined_none rows c.args.share (omega arith)
    ]
