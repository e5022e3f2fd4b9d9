use Rattle.std.proofs.Common.{sym, arith, length-take-le}
use Rattle.sqlite_wal.proofs.FormatLemmas.{part_front}
use Rattle.stored_files.proofs.logs.format.header_in.Goals as goal

pub slice_bounds-result-end : goal.slice_bounds-result-end
slice_bounds-result-end c = sym (length-take-le 32 c.args.log.now c.requires)

pub returns-clause-header : goal.returns-clause-header
returns-clause-header c = sym (part_front c.args.log.now 32)

pub returns-clause-len : goal.returns-clause-len
returns-clause-len c = length-take-le 32 c.args.log.now c.requires
