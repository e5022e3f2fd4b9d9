use Rattle.std.proofs.Common.{◌<◌, length, arith}
use Rattle.stored_files.proofs.LogFrames.{fits_below, low_if_fits}
use Rattle.stored_files.proofs.logs.check.find_cut_off.Goals as goal

pub is_cut_off-requires-clause-within : goal.is_cut_off-requires-clause-within
is_cut_off-requires-clause-within c =
    fits_below c.args.page_size (length c.args.log.now) c.loop-i.i c.requires.room c.loop-i-test.true

pub returns-clause-none : goal.returns-clause-none
returns-clause-none c none j it =
    let low = low_if_fits c.args.page_size (length c.args.log.now) j it.begins.passes.within in
    c.loop-i.invariant j (omega (arith, low, c.loop-i-test.false)) it
