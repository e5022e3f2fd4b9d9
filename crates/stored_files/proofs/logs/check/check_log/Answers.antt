use Rattle.std.proofs.Common.{length, arith, rules}
use Rattle.sqlite_wal.specs.PageSize.{bytes_of}
use Rattle.stored_files.proofs.LogFrames.{taken_few, taken_within, unread_causes}
use Rattle.stored_files.proofs.logs.check.check_log.Goals as goal

pub find_cut_off-requires-clause-few : goal.find_cut_off-requires-clause-few
find_cut_off-requires-clause-few c =
    let few = taken_few (bytes_of c.args.size) c.args.log.now _ (omega arith) c.in-Ok.ensures.taken.0 in
    search (rules, few)

pub frame_offset-requires-clause-fits : goal.frame_offset-requires-clause-fits
frame_offset-requires-clause-fits c =
    let within = taken_within (bytes_of c.args.size) c.args.log.now _ (omega arith) c.in-Ok.ensures.taken.0 in
    search (rules, within)

pub returns-in-Err-clause-cause : goal.returns-in-Err-clause-cause
returns-in-Err-clause-cause c = unread_causes _ _ c.in-Err.fault c.in-Err.ensures.cause
