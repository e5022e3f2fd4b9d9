-- The text that a command of `sunreg` prints last, and the command's exit status.
use Rattle.std.specs.Prelude.{◌≡◌, ◌⊎◌, ℕ, List, Option}
use Rattle.std.specs.Io.KnownBytes.{Appends}
use Rattle.command_io.specs.declared.status.ExitStatus.{ExitStatus}
use Rattle.command_io.specs.declared.status.ExitStatus.TheVariants.{Failed}
use Rattle.sun_points.specs.Writing.{GotPart}

-- True if the text was printed and the exit status is `meant`, the status for a successful write.
-- Also true if a write failed, a part of the text was printed, and the exit status is `Failed`.
abbrev pub IsReported : (text : List ℕ) → (meant status : ExitStatus)
    → (old new : Option (List ℕ)) → Type 0
IsReported text meant status old new =
    ((status ≡ meant) × Appends old new text) ⊎ ((status ≡ Failed) × GotPart text old new)

-- True if the program printed a text and ended with an exit status, and the relation `Prints`
-- allows this pair. Also true if a write failed, a part of the text was printed, and the status is
-- `Failed`.
pub record ReportsEnd (Prints : List ℕ → ExitStatus → Type 0) (status : ExitStatus)
    (old new : Option (List ℕ)) : Type 0 where
  pub text : List ℕ
  pub meant : ExitStatus
  pub prints : Prints text meant
  pub reported : IsReported text meant status old new
