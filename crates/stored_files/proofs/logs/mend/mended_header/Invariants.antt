use Rattle.std.proofs.Common.{ℕ, ◌<◌}
use Rattle.std.specs.Prelude.{slice_set}
use Rattle.sqlite_wal.specs.Format.{IsHeader}
use Rattle.sqlite_wal.specs.PageSize.{bytes_of}
use Rattle.stored_files.proofs.logs.mend.mended_header.Given as goal

abbrev pub invariant-loop-at : goal.invariant-loop-at
invariant-loop-at l = (i b : ℕ) → i < l.at → b < 256 → ¬ IsHeader (bytes_of l.size) (slice_set l.head i b)
