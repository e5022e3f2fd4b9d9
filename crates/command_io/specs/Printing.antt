-- The output of a command, its exit status, and whether writing the output failed.
use Rattle.std.specs.Prelude.{◌≡◌, ◌≢◌, ◌⊎◌, ℕ, List, [], Option}
use Rattle.std.specs.Io.KnownBytes.{Appends}
use Rattle.command_io.specs.declared.printer.Printer as printers
use Rattle.command_io.specs.declared.status.ExitStatus.{ExitStatus}
use Rattle.command_io.specs.declared.status.ExitStatus.TheVariants.{Fine, Refused, Failed}
use Rattle.sun_points.specs.Writing.{GotPart}

-- States that the output received a complete text that the predicate `Prints` allows for the exit
-- status. States nothing if the status is `Failed`.
abbrev pub PrintsAs : (Prints : List ℕ → ExitStatus → Type 0) → ExitStatus
    → (old new : Option (List ℕ)) → Type 0
PrintsAs Prints status old new =
    status ≢ Failed → (printed : List ℕ) × Appends old new printed × Prints printed status

-- States that the output of a command received the complete text `text`.
abbrev pub Printed : {P : Type 0} → printers.Ghosts P → (text : List ℕ) → (old new : P) → Type 0
Printed p text old new = Appends (p.contents old) (p.contents new) text

-- States that a write to a command's output failed after the output received a beginning of the
-- text `text`, possibly empty.
abbrev pub BrokeOff : {P : Type 0} → printers.Ghosts P → (text : List ℕ) → (old new : P) → Type 0
BrokeOff p text old new = p.has_failed new × GotPart text (p.contents old) (p.contents new)

-- States that the output received the text `text` and the command ends with the intended status
-- `meant`, or that a write failed. If `meant` is `Failed`, nothing is printed.
abbrev pub EndsAs : {P : Type 0} → printers.Ghosts P → (text : List ℕ) → (meant status : ExitStatus)
    → (old new : P) → Type 0
EndsAs p text Fine Fine old new = Printed p text old new
EndsAs p text Fine Refused old new = ⊥
EndsAs p text Fine Failed old new = BrokeOff p text old new
EndsAs p text Refused Fine old new = ⊥
EndsAs p text Refused Refused old new = Printed p text old new
EndsAs p text Refused Failed old new = BrokeOff p text old new
EndsAs p text Failed Fine old new = ⊥
EndsAs p text Failed Refused old new = ⊥
EndsAs p text Failed Failed old new = new ≡ old

-- States that the output received a text that the predicate `Prints` allows for the exit status.
-- With the status `Failed`, the output received nothing, or a beginning of such a text because a
-- write failed.
abbrev pub PrintsOn : {P : Type 0} → printers.Ghosts P → (Prints : List ℕ → ExitStatus → Type 0)
    → ExitStatus → (old new : P) → Type 0
PrintsOn p Prints Fine old new =
    (printed : List ℕ) × Printed p printed old new × Prints printed Fine
PrintsOn p Prints Refused old new =
    (printed : List ℕ) × Printed p printed old new × Prints printed Refused
PrintsOn p Prints Failed old new =
    Printed p [] old new
    ⊎ ((printed : List ℕ) × (meant : ExitStatus) × BrokeOff p printed old new
    × Prints printed meant)

-- States that the output received a text that the predicate `Prints` allows for the input and the
-- exit status of a command.
abbrev pub PrintsFor : {P : Type 0} → printers.Ghosts P
    → (Prints : (input printed : List ℕ) → ExitStatus → Type 0) → ExitStatus → (old new : P)
    → (input : List ℕ) → Type 0
PrintsFor p Prints status old new input = PrintsOn p (Prints input) status old new
