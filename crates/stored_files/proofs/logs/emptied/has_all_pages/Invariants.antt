use Rattle.std.proofs.Common.{◌≡◌, ℕ, ◌+◌, ◌<◌, length}
use Rattle.sqlite_wal.specs.Recovery.{file_page, page_after}
use Rattle.stored_files.proofs.logs.emptied.has_all_pages.Given as goal

abbrev pub invariant-loop-number : goal.invariant-loop-number
invariant-loop-number l = (i : ℕ) → i < l.number
    → page_after l.page_size l.log l.db (i + 1) (length l.pages) ≡ file_page l.page_size l.db (i + 1)
