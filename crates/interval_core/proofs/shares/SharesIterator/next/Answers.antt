use Rattle.std.proofs.Common.{◌≡◌, ◌<◌, ◌+◌, ◌-◌, ◌*◌, max, min, length, arith}
use Rattle.std.proofs.lemmas.List.FromFn.{length-map-range_with_len}
use Rattle.interval_core.specs.Share.{share_of}
use Rattle.interval_core.proofs.ShareLemmas.{running_mono, left-next}
use Rattle.interval_core.proofs.shares.SharesIterator.next.Goals as goal

pub overflow_sub-mwh : goal.overflow_sub-mwh
overflow_sub-mwh c =
    let before : c.self.inside.interval < c.self.inside.end = omega arith in
    rw (c.self.invariant.reached_is before, c.running-reached.ensures)
    (running_mono c.self.inside.spread.step (max (c.self.inside.interval * 900) c.self.inside.spread.step.from) c.min-stop.result c.self.inside.spread.forward (omega arith))

pub returns-clause-steps : goal.returns-clause-steps
returns-clause-steps c =
    let s = c.self.inside in
    let before : s.interval < s.end = omega arith in
    let stop : c.min-stop.result ≡ min (s.interval * 900 + 900) s.spread.step.till = omega arith in
    rw (← c.self.view_is, left-next (share_of s.spread.step) s.interval s.end before, c.self.invariant.reached_is before, c.running-reached.ensures, stop)

pub returns-clause-goes : goal.returns-clause-goes
returns-clause-goes c =
    let s = c.self.inside in
    let f = share_of s.spread.step in
    let now : length c.args.self.now ≡ s.end - s.interval = rw (← c.self.view_is) (length-map-range_with_len f s.interval (s.end - s.interval)) in
    let later = length-map-range_with_len f (s.interval + 1) (s.end - (s.interval + 1)) in
    record { on = λ _. (tt, tt, omega arith); keeps = tt; rests = λ _. tt }
