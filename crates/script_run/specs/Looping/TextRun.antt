-- Defines the contract for running a loop (a script with simulated devices), with the output and
-- the state afterwards.
use Rattle.std.specs.Prelude.{◌≡◌, ℕ, Bool, true, false, List, [], Option, Result, Ok, Err}
use Rattle.std.specs.Io.KnownBytes.{Appends}
use Rattle.std.specs.declared.io.Error.{Error}
use Rattle.command_io.specs.Lines.{speaking_lines}
use Rattle.command_io.specs.declared.status.ExitStatus.{ExitStatus}
use Rattle.command_io.specs.declared.status.ExitStatus.TheVariants.{Fine, Refused, Failed}
use Rattle.interval_core.specs.declared.zone.Zone.{Zone}
use Rattle.memory_books.specs.Listed.{ledger_of}
use Rattle.office_events.specs.declared.events.Event.{Event}
use Rattle.office_books.specs.History.{History}
use Rattle.office_core.specs.Standing.{Stands}
use Rattle.script_run.specs.Looping.Lines.{AreWrong, StartsPrint, WordsPrint}
use Rattle.script_run.specs.Looping.Loops.{InputBegins, InputPrints, LoopBegins, LoopPrints, TextBegins, TextPrints}
use Rattle.script_run.specs.Looping.Standings.{Begins, CarriedOut, CarriesOut, LoopState, LoopStage, stage_on}
use Rattle.script_run.specs.Replaying.TextRun.{Writes}
use Rattle.sun_points.specs.Writing.{GotPart}

-- States the outcome of a line in a loop (a script with simulated devices). The line was executed,
-- was interrupted, or is malformed or forbidden.
abbrev pub LineRuns : Result Bool Error → (Prints : LoopStage → List ℕ → LoopStage → Type 0)
    → (Wrong : Type 0)
    → (from to : LoopState) → Type 0
LineRuns (Ok true) Prints Wrong from to =
    (past : History) → Stands ledger_of past from.office → CarriedOut Prints past from to
LineRuns (Ok false) Prints Wrong from to = Wrong × Appends from.output to.output []
LineRuns (Err error) Prints Wrong from to =
    (past : History) → Stands ledger_of past from.office
    → Begins (λ printed. (next : LoopStage) × Prints (stage_on past from) printed next)
    from.output to.output

-- States the outcome of a script line with the given words. The line was executed or interrupted,
-- or the words form no line that is allowed at this position.
abbrev pub WordsRun : Result Bool Error → (words : List (List ℕ)) → (from to : LoopState) → Type 0
WordsRun result words from to =
    LineRuns result (WordsPrint words) (AreWrong from.connected words) from to

-- States the outcome of a script line that starts Modbus reads. Either the program refused the
-- start, or the simulator's responses were passed to the program.
abbrev pub StartRuns : {X E : Type 0} → Result X E → (at : ℕ) → (device : Option (List ℕ)) → Event
    → (from to : LoopState) → Type 0
StartRuns result at device e from to =
    CarriesOut result (λ done now printed next. StartsPrint at device e now printed next) from to

-- States that running a loop (a script with simulated devices) ends with the status `Refused` and
-- the output `text`. With the status `Failed`, only a part of `text` was written. The status is not
-- `Fine`.
abbrev pub ReportsText : (text : List ℕ) → ExitStatus → (output output' : Option (List ℕ)) → Type 0
ReportsText text Fine output output' = ⊥
ReportsText text Refused output output' = Appends output output' text
ReportsText text Failed output output' = GotPart text output output'

-- States the outcome of running the lines of a loop (a script with simulated devices), from the
-- given state on.
abbrev pub LinesRun : ExitStatus → (text : List ℕ) → (from : LoopState)
    → (output' : Option (List ℕ)) → Type 0
LinesRun status text from output' =
    (past : History) → Stands ledger_of past from.office
    → Writes (LoopPrints (stage_on past from) (speaking_lines text))
    (LoopBegins (stage_on past from) (speaking_lines text)) status from.output output'

-- States the outcome of running a script (a text of commands, events and queries). The writer
-- received the run's output, or a beginning of this output if the run failed.
abbrev pub TextRuns : Zone → (text : List ℕ) → ExitStatus
    → (output output' : Option (List ℕ)) → Type 0
TextRuns zone text status output output' =
    Writes (TextPrints zone text) (TextBegins zone text) status output output'

-- States the outcome of running an input as a script (a text of commands, events and queries). The
-- writer received the run's output, or a beginning of this output if the run failed.
abbrev pub InputRuns : Zone → (input : List ℕ) → ExitStatus → (output output' : Option (List ℕ))
    → Type 0
InputRuns zone input status output output' =
    Writes (InputPrints zone input) (InputBegins zone input) status output output'
