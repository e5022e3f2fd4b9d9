use Rattle.std.proofs.Common.{◌<◌, length, sym, ◌∙◌, arith}
use Rattle.std.proofs.lemmas.List.{length-set}
use Rattle.meter_journal.proofs.Forward.{roll_step, roll_end}
use Rattle.meter_journal.proofs.rows.roll_on.Goals as goal

pub loop-i-preserved : goal.loop-i-preserved
loop-i-preserved c =
    let lt : c.loop-i.i < length c.loop-i.rows = omega arith in
    record {
      as_many = length-set c.loop-i.rows c.loop-i.i c.rolled-row.result ∙ c.loop-i.invariant.as_many;
      rolled = roll_step c.loop-i.rows c.loop-i.i c.loop-i.stand c.following-stand.result _ c.rolled-row.result lt c.rolled-row.ensures c.following-stand.ensures
          ∙ c.loop-i.invariant.rolled;
    }

pub returns : goal.returns
returns c = sym (roll_end c.loop-i.rows c.loop-i.i c.loop-i.stand (omega arith)) ∙ c.loop-i.invariant.rolled
