-- Defines the contract for running a script (a text of commands, events and queries), with its
-- output and the state afterwards.
use Rattle.std.specs.Prelude.{◌≡◌, ◌⊎◌, ℕ, List, [], ◌++◌, Option, None, Some, Result, Ok, Err, IsErr, ⊤}
use Rattle.std.specs.Io.KnownBytes.{Appends}
use Rattle.std.specs.declared.io.Error.{Error}
use Rattle.command_io.specs.Lines.{Line}
use Rattle.command_io.specs.declared.status.ExitStatus.{ExitStatus}
use Rattle.command_io.specs.declared.status.ExitStatus.TheVariants.{Fine, Refused, Failed}
use Rattle.interval_core.specs.declared.zone.Zone.{Zone}
use Rattle.memory_books.specs.Listed.{ledger_of}
use Rattle.memory_books.specs.declared.list_books.ListBooks.{ListBooks}
use Rattle.office_books.specs.History.{History}
use Rattle.office_core.specs.Standing.{Stands, books_in, is_stopped}
use Rattle.office_core.specs.declared.office.Office.{Office}
use Rattle.script_run.specs.Replaying.Lines.{BadPrints, LineBegins, WordsPrint}
use Rattle.script_run.specs.Replaying.Scripts.{ReplayBegins, ReplayPrints, TextBegins, TextPrints}
use Rattle.script_run.specs.Replaying.Stages.{Stage}
use Rattle.script_text.specs.LineWords.Words.{words_of}
use Rattle.sun_points.specs.Writing.{GotText}

-- Builds the modeled state of a script's run from the history of accepted events and the running
-- program (`Office`). A script is a text of commands, events and queries.
abbrev pub stage_of : History → Office ListBooks → Stage
stage_of past office =
    record { past = past; stopped = is_stopped office; zone = (ledger_of (books_in office)).zone }

-- States that a script line's output was written completely, or partly if a write failed. Also
-- states that the stored records are those of the history of accepted events after the line.
pub record IsCarriedOut (Prints : Stage → List ℕ → Stage → Type 0) (past : History)
    (office office' : Office ListBooks) (result : Result (Unit {0}) Error)
    (output output' : Option (List ℕ)) : Type 0 where
  pub printed : List ℕ
  pub after : History
  pub prints : Prints (stage_of past office) printed (stage_of after office')
  pub got : GotText result printed output output'
  pub stands : Stands ledger_of after office'

-- States that a script line was executed as `IsCarriedOut` requires (its output was written, and
-- the state follows from the line), or that memory ran out before any output.
abbrev pub MayCarryOut : (Stage → List ℕ → Stage → Type 0) → History
    → (office office' : Office ListBooks) → Result (Unit {0}) Error
    → (output output' : Option (List ℕ)) → Type 0
MayCarryOut Prints past office office' result output output' =
    IsCarriedOut Prints past office office' result output output'
    ⊎ (IsErr result × Appends output output' [])

-- States that, if the stored records are those of a history of accepted events, the call executed
-- its script line as the contract `IsCarriedOut` requires for this history.
abbrev pub CarriesOut : (Stage → List ℕ → Stage → Type 0) → (office office' : Office ListBooks)
    → Result (Unit {0}) Error → (output output' : Option (List ℕ)) → Type 0
CarriesOut Prints office office' result output output' =
    (past : History) → Stands ledger_of past office
    → IsCarriedOut Prints past office office' result output output'

-- States that the words of a line form a script line, and that the line was executed.
pub record LineRan (past : History) (line : Line) (office office' : Office ListBooks)
    (output output' : Option (List ℕ)) : Type 0 where
  pub printed : List ℕ
  pub after : History
  pub prints : WordsPrint (stage_of past office) (words_of line.text) printed
      (stage_of after office')
  pub appended : Appends output output' printed
  pub stands : Stands ledger_of after office'

-- States that a line was executed or ends the run. A line ends the run if its words form no script
-- line or if it was interrupted.
abbrev pub LineRuns : History → Line → (office office' : Office ListBooks)
    → Result (Unit {0}) ExitStatus → (output output' : Option (List ℕ)) → Type 0
LineRuns past line office office' (Ok done) output output' =
    LineRan past line office office' output output'
LineRuns past line office office' (Err Fine) output output' = ⊥
LineRuns past line office office' (Err Refused) output output' =
    (printed : List ℕ) × Appends output output' printed × BadPrints line printed
LineRuns past line office office' (Err Failed) output output' =
    (part : List ℕ) × Appends output output' part × LineBegins (stage_of past office) line part

-- States that the writer received the complete output that `Prints` allows for a script's run. If
-- the run failed, it received a beginning of such an output (`Begins`).
abbrev pub Writes : (Prints : List ℕ → ExitStatus → Type 0) → (Begins : List ℕ → Type 0)
    → ExitStatus → (output output' : Option (List ℕ)) → Type 0
Writes Prints Begins Fine output output' =
    (printed : List ℕ) × Appends output output' printed × Prints printed Fine
Writes Prints Begins Refused output output' =
    (printed : List ℕ) × Appends output output' printed × Prints printed Refused
Writes Prints Begins Failed output output' =
    (part : List ℕ) × Appends output output' part × Begins part

-- States the outcome of running a script (a text of commands, events and queries). The writer
-- received the run's output, or a beginning of this output if the run failed.
abbrev pub TextRuns : Zone → (text : List ℕ) → ExitStatus
    → (output output' : Option (List ℕ)) → Type 0
TextRuns zone text status output output' =
    Writes (TextPrints zone text) (TextBegins zone text) status output output'

-- States the outcome of running an input as a script. The writer received the run's output, or a
-- beginning of this output if the run failed.
abbrev pub InputRuns : Zone → (input : List ℕ) → ExitStatus → (output output' : Option (List ℕ))
    → Type 0
InputRuns zone input status output output' =
    Writes (ReplayPrints zone input) (ReplayBegins zone input) status output output'

-- States that the writer now has a prefix of this text: the bytes that it had before, followed by
-- the bytes of `text`.
abbrev pub HoldsPart : (old new : Option (List ℕ)) → (text : List ℕ) → Type 0
HoldsPart None new text = ⊤
HoldsPart (Some buffered) None text = ⊥
HoldsPart (Some buffered) (Some holds) text = (rest : List ℕ) × (buffered ++ text ≡ holds ++ rest)

-- States that the caller's writer received the complete output of a script's run (the execution of
-- its lines). If the run failed, the writer received a beginning of the output.
abbrev pub Replays : Zone → (input : List ℕ) → ExitStatus
    → (output output' : Option (List ℕ)) → Type 0
Replays zone input Failed output output' =
    (part : List ℕ) × HoldsPart output output' part × ReplayBegins zone input part
Replays zone input status output output' =
    (printed : List ℕ) × Appends output output' printed × ReplayPrints zone input printed status
