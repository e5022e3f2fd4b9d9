use Rattle.std.proofs.Common.{◌-◌, ◌<◌, arith}
use Rattle.interval_core.proofs.ShareLemmas.{running-split}
use Rattle.interval_core.proofs.spread.Spread.running.Goals as goal

pub returns : goal.returns
returns c =
    let spread = c.args.self.now in
    let some : 0 < spread.seconds = omega arith in
    rw (running-split spread.each spread.left_over spread.seconds (c.args.moment - spread.step.from) some, ← spread.whole, spread.seconds_are)
