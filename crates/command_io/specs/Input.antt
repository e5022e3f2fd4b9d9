-- The result of reading a command's complete input, and the line for an input that is too long.
use Rattle.std.specs.Prelude.{◌≡◌, ℕ, List, [], Option, Vec, IfSome, ◌<◌, ◌⊎◌, codes, length}
use Rattle.std.specs.Io.KnownBytes.{Appends}
use Rattle.command_io.specs.declared.input.ReadFault.{ReadFault}
use Rattle.command_io.specs.declared.input.ReadFault.TheVariants.{TooLong}
use Rattle.command_io.specs.declared.status.ExitStatus.{ExitStatus}
use Rattle.command_io.specs.declared.status.ExitStatus.TheVariants.{Fine, Refused, Failed}
use Rattle.sun_points.specs.Writing.{GotPart}

-- The greatest length of a command's input, in bytes.
abbrev pub most_bytes : ℕ
most_bytes = 4194304

-- States that, if the reader's contract says which bytes of the input are unread, the given bytes
-- are exactly these bytes. Otherwise states nothing.
abbrev pub AreWholeOf : {Z : Type 0} → (remaining : Option (List ℕ)) → (bytes : Vec ℕ Z) → Type 0
AreWholeOf remaining bytes = IfSome remaining (λ all. bytes.items ≡ all)

-- States that, if the reader's contract says which bytes are unread, the fault is `TooLong` only
-- for more than `most_bytes` unread bytes. Otherwise states nothing.
abbrev pub BlamesLengthRightly : (remaining : Option (List ℕ)) → ReadFault → Type 0
BlamesLengthRightly remaining fault =
    fault ≡ TooLong → IfSome remaining (λ all. most_bytes < length all)

-- The line that a command prints for an input that is too long.
abbrev pub too_long : List ℕ
too_long = codes "too long\n"

-- States that the output received the line `too long`, or a beginning of that line if the write
-- failed.
abbrev pub ReportsTooLong : ExitStatus → (old new : Option (List ℕ)) → Type 0
ReportsTooLong Fine old new = ⊥
ReportsTooLong Refused old new = Appends old new too_long
ReportsTooLong Failed old new = GotPart too_long old new

-- States the output and the exit status of a command that could not read its input. The command
-- prints `too long` for an input that is too long, and nothing if a read failed or memory ran out.
abbrev pub EndsUnread : (input : List ℕ) → ExitStatus → (old new : Option (List ℕ)) → Type 0
EndsUnread input status old new =
    ((most_bytes < length input) × ReportsTooLong status old new)
    ⊎ ((status ≡ Failed) × Appends old new [])

-- States the output and the exit status of a command that could not read its input. Applies only if
-- the reader's contract says which bytes the input has, and otherwise states nothing.
abbrev pub LeavesUnread : (remaining : Option (List ℕ)) → (old new : Option (List ℕ)) → ExitStatus
    → Type 0
LeavesUnread remaining old new status =
    IfSome remaining (λ input. EndsUnread input status old new)
