-- Defines connections to database files that were empty when they were opened.
use Rattle.std.specs.Prelude.{◌≡◌, false}
use Rattle.sqlite_disk.specs.declared.Disk.{Ghosts}
use Rattle.sqlite_wal.specs.Recovery.{Image}
use Rattle.sqlite_store.specs.declared.store.FileStore.{FileStore}
use Rattle.sqlite_store.specs.FileStore.{view}
use Rattle.sqlite.specs.State.{HasCleanDisk}
use Rattle.sqlite.specs.Held.{Held}
use Rattle.sqlite.specs.Files.{file_state, IsBlankAs}

module _ {D : Type 0} {g : Ghosts D} where
  -- States that the pages of a database have no checksums if its file was empty when it was opened.
  -- The statement assumes that the disk returned what was written to it.
  abbrev pub HasNoSumsIfBlank : Image → Held (FileStore D g) → Type 0
  HasNoSumsIfBlank image c =
      HasCleanDisk (file_state c) → IsBlankAs false image → (view c.store).has_sums ≡ false
