-- Compares the file at a path with the open file by their marks: device, inode and size. The
-- program thus detects that the store's file was removed or replaced.
use Rattle.std.specs.Prelude.{◌≡◌, ◌≤◌, ◌==◌, ◌&&◌, ℕ, nat_lt, if◌then◌else◌, Bool, Option, None, Some}
use Rattle.run_schedule.specs.declared.file_marks.FileMark.{FileMark}
use Rattle.run_schedule.specs.declared.file_marks.FileLoss.{FileLoss}
use Rattle.run_schedule.specs.declared.file_marks.FileLoss.TheVariants.{Missing, Replaced, Shortened}

-- True if two file marks (device, inode, size) have equal device and inode numbers, and so belong
-- to one file.
abbrev pub is_same_file : (known found : FileMark) → Bool
is_same_file known found = (known.device == found.device) && (known.inode == found.inode)

-- The loss of a file, judged by its size: `Shortened` if the file is shorter than its last known
-- size, otherwise none.
abbrev pub loss_of_size : (known found : FileMark) → Option FileLoss
loss_of_size known found = if nat_lt found.size known.size then Some Shortened else None

-- How the file at a path differs from the open file: missing, replaced or shortened. None if the
-- path leads to the open file, and the file is not shorter than its last known size.
abbrev pub file_loss : (known : FileMark) → (found : Option FileMark) → Option FileLoss
file_loss known None = Some Missing
file_loss known (Some found) =
    if is_same_file known found then loss_of_size known found else Some Replaced

-- States that the path leads to the open file, and that the file is not shorter than its last known
-- size.
abbrev pub IsStill : (known : FileMark) → (found : Option FileMark) → Type 0
IsStill known None = ⊥
IsStill known (Some found) =
    (known.device ≡ found.device) × (known.inode ≡ found.inode) × (known.size ≤ found.size)
