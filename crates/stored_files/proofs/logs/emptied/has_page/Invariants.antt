use Rattle.std.proofs.Common.{◌≡◌}
use Rattle.sqlite_wal.specs.Recovery.{page_after}
use Rattle.stored_files.proofs.logs.emptied.has_page.Given as goal

abbrev pub invariant-loop-i : goal.invariant-loop-i
invariant-loop-i l = l.page ≡ page_after l.page_size l.log l.db l.number l.i
