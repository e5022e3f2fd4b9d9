use Rattle.std.proofs.Common.{refl, subst, sym}
use Rattle.sqlite_wal.specs.PageSize.{bytes_of}
use Rattle.stored_files.specs.Logs.Faults.{IsUnread, fault_of}
use Rattle.stored_files.proofs.LogFrames.{caused}
use Rattle.stored_files.proofs.logs.check.taken_frames.Goals as goal

pub returns-clause-cause : goal.returns-clause-cause
returns-clause-cause c =
    let why = caused (bytes_of c.args.size) _ _ _ c.in-Err.error (c.in-Err.ensures.cause.0 refl) in
    rw c.fault_of.ensures
    (subst (λ bytes. IsUnread (bytes_of c.args.size) bytes (fault_of c.in-Err.error)) c.in-Ok.ensures.bytes why)
