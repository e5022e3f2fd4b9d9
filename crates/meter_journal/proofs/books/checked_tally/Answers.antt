use Rattle.std.proofs.Common.{refl, arith}
use Rattle.meter_journal.proofs.Going.{may_go_on}
use Rattle.meter_journal.proofs.books.checked_tally.Goals as goal

pub enter-requires-clause-raw : goal.enter-requires-clause-raw
enter-requires-clause-raw c =
    let sound = c.accounts_are_sound.ensures c.args.meter.now.range c.args.meter.now.opening _ c.loop-row.tally.last c.loop-row.tally.total
    c.requires.installed.raw c.requires.installed.scale c.loop-row.invariant in
    omega (arith, sound.raw, c.in-Some.ensures.value)

pub enter-requires-clause-scale_low : goal.enter-requires-clause-scale_low
enter-requires-clause-scale_low c =
    let sound = c.accounts_are_sound.ensures c.args.meter.now.range c.args.meter.now.opening _ c.loop-row.tally.last c.loop-row.tally.total
    c.requires.installed.raw c.requires.installed.scale c.loop-row.invariant in
    sound.scale.0

pub enter-requires-clause-scale_high : goal.enter-requires-clause-scale_high
enter-requires-clause-scale_high c =
    let sound = c.accounts_are_sound.ensures c.args.meter.now.range c.args.meter.now.opening _ c.loop-row.tally.last c.loop-row.tally.total
    c.requires.installed.raw c.requires.installed.scale c.loop-row.invariant in
    sound.scale.1

pub returns-in-Err-clause-if_so : goal.returns-in-Err-clause-if_so
returns-in-Err-clause-if_so c = λ whole.
    let may = may_go_on c.args.meter.now c.args.rows.now c.loop-row.row-index _ c.loop-row.tally.last c.loop-row.tally.total c.requires.installed
    whole (omega arith) c.if-row.true c.loop-row.invariant.last_is c.loop-row.invariant.total_is in
    let booked = (c.entered_is_booked.ensures c.args.meter.now.range c.loop-row.tally.total c.loop-row.tally.last _ _ _).1
    (record { next_is = refl; step_is = refl; follows = may.follows; within = may.within }) in
    let refused = c.in-Err.ensures.booked in
    let range = c.in-Some.ensures.value in
    absurd (cc)
