use Rattle.std.proofs.Common.{◌-◌, sym, ap, ◌∙◌, arith}
use Rattle.meter_journal.specs.Lists.{latest_first}
use Rattle.meter_journal.proofs.Forward.{struck_in}
use Rattle.meter_journal.proofs.rows.strike.Goals as goal

pub returns : goal.returns
returns c =
    ap latest_first c.roll_on.ensures
    ∙ sym (struck_in c.args.opening.now c.last_of_rows-last.result c.args.rows.now c.args.place (c.args.place - 2) _ c.requires.numbered
    (omega arith) (omega arith) c.last_of_rows-last.ensures)
