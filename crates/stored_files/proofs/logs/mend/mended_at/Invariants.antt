use Rattle.std.proofs.Common.{ℕ, ◌<◌}
use Rattle.std.specs.Prelude.{slice_set}
use Rattle.sqlite_wal.specs.Format.{IsHeader}
use Rattle.stored_files.proofs.logs.mend.mended_at.Given as goal

abbrev pub invariant-loop-byte : goal.invariant-loop-byte
invariant-loop-byte l = (b : ℕ) → b < l.byte → ¬ IsHeader l.page_size (slice_set l.head l.at b)
