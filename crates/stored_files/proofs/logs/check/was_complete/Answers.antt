use Rattle.std.proofs.Common.{◌+◌, arith, rules}
use Rattle.stored_files.proofs.LogFrames.{frame_ends, frame_at-le}
use Rattle.stored_files.proofs.logs.check.was_complete.Goals as goal

pub frame_offset-gate-requires-clause-fits : goal.frame_offset-gate-requires-clause-fits
frame_offset-gate-requires-clause-fits c =
    let low = frame_at-le c.args.page_size c.args.taken (c.args.i + 1) (omega arith) in search (rules, low)

pub overflow_add-gate : goal.overflow_add-gate
overflow_add-gate c =
    let low = frame_at-le c.args.page_size (c.args.taken + 1) (c.args.i + 1) (omega arith) in
    let ends = frame_ends c.args.page_size c.args.taken in search (rules, low, ends)

pub bounds-log-gate : goal.bounds-log-gate
bounds-log-gate c =
    let low = frame_at-le c.args.page_size (c.args.taken + 1) (c.args.i + 1) (omega arith) in
    let ends = frame_ends c.args.page_size c.args.taken in search (rules, low, ends)
