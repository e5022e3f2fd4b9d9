use Rattle.std.proofs.Common.{◌≡◌, ◌+◌, ◌-◌, ap, ap₂, take, drop, sym, ◌∙◌, arith, rules}
use Rattle.sqlite_wal.proofs.FormatLemmas.{part_is}
use Rattle.stored_files.proofs.LogFrames.{frame_ends}
use Rattle.stored_files.proofs.logs.format.frame_in.Goals as goal

pub frame_offset-at-requires-clause-fits : goal.frame_offset-at-requires-clause-fits
frame_offset-at-requires-clause-fits c =
    let ends = frame_ends c.args.page_size c.args.i in search (rules, ends)

pub overflow_add-result : goal.overflow_add-result
overflow_add-result c =
    let ends = frame_ends c.args.page_size c.args.i in search (rules, ends)

pub overflow_add-result-2 : goal.overflow_add-result-2
overflow_add-result-2 c =
    let ends = frame_ends c.args.page_size c.args.i in search (rules, ends)

pub slice_bounds-result-end : goal.slice_bounds-result-end
slice_bounds-result-end c =
    let ends = frame_ends c.args.page_size c.args.i in search (rules, ends)

pub returns-clause-frame : goal.returns-clause-frame
returns-clause-frame c =
    let at = c.frame_offset-at.ensures in
    let count : c.frame_offset-at.result + 24 + c.args.page_size - c.frame_offset-at.result ≡ 24 + c.args.page_size = omega arith in
    ap₂ (λ n x. take n (drop x c.args.log.now)) count at ∙ sym (part_is c.args.log.now _ _)
