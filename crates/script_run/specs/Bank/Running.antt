-- Defines the contract for executing the lines that set up a simulated device, with their output
-- and the resulting configuration.
use Rattle.std.specs.Prelude.{◌≡◌, ◌⊎◌, ℕ, List, [], Option, Ok, Err, IfSome}
use Rattle.std.specs.Io.KnownBytes.{Appends}
use Rattle.std.specs.declared.result.Result.{Result}
use Rattle.script_text.specs.Bank.Forms.{IsBankLine}
use Rattle.script_text.specs.declared.bank.bank.BankLine.{BankLine}
use Rattle.command_io.specs.Lines.{Line, speaking_lines}
use Rattle.command_io.specs.declared.status.ExitStatus.{ExitStatus}
use Rattle.command_io.specs.declared.status.ExitStatus.TheVariants.{Fine, Refused, Failed}
use Rattle.script_text.specs.AnswerText.{bad_line}
use Rattle.script_text.specs.LineWords.Words.{words_of}
use Rattle.script_run.specs.Bank.Settings.{Setting, after_line, IsUnset, takes}
use Rattle.script_run.specs.Bank.Texts.{InputBegins, InputSetsUp, IsBad, LineBegins, SetUpBegins, SetsUp, taken_text}
use Rattle.sun_points.specs.Writing.{GotPart}

-- States the outcome of one setup line of a simulated device. If the call succeeds, the line was
-- executed and its output written. Otherwise memory ran out or the writer failed, and at most a
-- part of the output was written.
abbrev pub Carries : Setting → BankLine → Result (Unit {0}) ExitStatus → Setting
    → (output output' : Option (List ℕ)) → Type 0
Carries now said (Ok done) next output output' =
    (next ≡ after_line now said) × Appends output output' (taken_text (takes now.maps said))
Carries now said (Err Fine) next output output' = ⊥
Carries now said (Err Refused) next output output' = ⊥
Carries now said (Err Failed) next output output' =
    GotPart (taken_text (takes now.maps said)) output output'

-- States that the writer received a text that the predicate `Prints` allows.
pub record Writes (Prints : List ℕ → Type 0) (output output' : Option (List ℕ)) : Type 0 where
  pub printed : List ℕ
  pub appended : Appends output output' printed
  pub prints : Prints printed

-- States that the line is a valid setup line of a simulated device, and was executed.
pub record LineRan (now : Setting) (line : Line) (next : Setting)
    (output output' : Option (List ℕ)) : Type 0 where
  pub said : BankLine
  pub is : IsBankLine (words_of line.text) said
  pub after : next ≡ after_line now said
  pub appended : Appends output output' (taken_text (takes now.maps said))

-- States the outcome of a line that should set up a simulated device. Either the line was executed,
-- or the run ends because the line is malformed or was interrupted.
abbrev pub LineRuns : Setting → Line → Result (Unit {0}) ExitStatus → Setting
    → (output output' : Option (List ℕ)) → Type 0
LineRuns now line (Ok done) next output output' = LineRan now line next output output'
LineRuns now line (Err Fine) next output output' = ⊥
LineRuns now line (Err Refused) next output output' =
    IsBad line × Appends output output' (bad_line line.number)
LineRuns now line (Err Failed) next output output' =
    Writes (λ part. LineBegins now line part) output output'

-- States that all setup lines for a simulated device in a text were executed, or that execution
-- ended early at one of them. In that case the exit status is `Refused` or `Failed`.
abbrev pub TextRuns : Setting → (text : List ℕ) → Result (Unit {0}) ExitStatus → Setting
    → (output output' : Option (List ℕ)) → Type 0
TextRuns now text (Ok done) next output output' =
    Writes (λ printed. SetsUp now (speaking_lines text) printed (Ok next)) output output'
TextRuns now text (Err Fine) next output output' = ⊥
TextRuns now text (Err Refused) next output output' =
    Writes (λ printed. SetsUp now (speaking_lines text) printed (Err Refused)) output output'
TextRuns now text (Err Failed) next output output' =
    Writes (λ part. SetUpBegins now (speaking_lines text) part) output output'

-- States the result of executing a complete input of setup lines for a simulated device. Before the
-- first line, the device has no addresses and no injected faults.
pub record InputRuns (input : List ℕ) (ended : Result Setting ExitStatus)
    (output output' : Option (List ℕ)) : Type 0 where
  pub begun : Setting
  pub unset : IsUnset begun
  pub writes : Writes (λ printed. InputSetsUp begun input printed ended) output output'

-- States that the setup of a simulated device was interrupted, because a write failed or memory ran
-- out. The writer then received only a beginning of the setup's output.
pub record InputBreaks (input : List ℕ) (output output' : Option (List ℕ)) : Type 0 where
  pub begun : Setting
  pub unset : IsUnset begun
  pub writes : Writes (λ part. InputBegins begun input part) output output'

-- States the result of setting up a simulated device from the lines of an input. A failed run wrote
-- at most a beginning of its output.
abbrev pub SetUp : (input : Option (List ℕ)) → Result Setting ExitStatus
    → (output output' : Option (List ℕ)) → Type 0
SetUp input (Ok setup) output output' =
    IfSome input (λ all. InputRuns all (Ok setup) output output')
SetUp input (Err Fine) output output' = ⊥
SetUp input (Err Refused) output output' =
    IfSome input (λ all. InputRuns all (Err Refused) output output')
SetUp input (Err Failed) output output' =
    IfSome input (λ all. Appends output output' [] ⊎ InputBreaks all output output')
