-- Defines the output of the lines that set up a simulated device, and the resulting configuration.
use Rattle.std.specs.Prelude.{◌≡◌, ◌⊎◌, ◌<◌, ◌≤◌, ℕ, Bool, true, false, List, [], ◌∷◌, ◌++◌, length, Ok, Err}
use Rattle.std.specs.declared.result.Result.{Result}
use Rattle.script_text.specs.Bank.Forms.{IsBankLine}
use Rattle.script_text.specs.declared.bank.bank.BankLine.{BankLine}
use Rattle.command_io.specs.Input.{most_bytes, too_long}
use Rattle.command_io.specs.Lines.{Line, speaking_lines}
use Rattle.command_io.specs.declared.status.ExitStatus.{ExitStatus}
use Rattle.command_io.specs.declared.status.ExitStatus.TheVariants.{Refused}
use Rattle.office_events.specs.declared.refusals.Refusal.TheVariants.{Limit}
use Rattle.script_text.specs.AnswerText.{bad_line, refused_line}
use Rattle.script_text.specs.LineWords.Words.{words_of}
use Rattle.script_run.specs.Bank.Settings.{Setting, after_line, takes}
use Rattle.script_run.specs.Replaying.Lines.{BeginsText}

-- The output of a setup line of a simulated device. A line that the register map accepts prints
-- nothing, and any other line prints a refusal.
abbrev pub taken_text : Bool → List ℕ
taken_text true = []
taken_text false = refused_line Limit

-- States that the words of a line form no setup line of a simulated device.
pub record IsBad (bad : Line) : Type 0 where
  pub none : (said : BankLine) → IsBankLine (words_of bad.text) said → ⊥

-- Defines the output of executing the setup lines of a simulated device in order, and how the
-- execution ends. A line that is no setup line prints `bad line N`, and ends the run.
abbrev pub SetsUp : Setting → List Line → (printed : List ℕ) → (ended : Result Setting ExitStatus)
    → Type 0
SetsUp now [] printed ended = (printed ≡ []) × (ended ≡ Ok now)
SetsUp now (first ∷ lines) printed ended =
    (IsBad first × (printed ≡ bad_line first.number) × (ended ≡ Err Refused))
    ⊎ ((said : BankLine) × IsBankLine (words_of first.text) said
    × ((rest : List ℕ) × (printed ≡ taken_text (takes now.maps said) ++ rest)
    × SetsUp (after_line now said) lines rest ended))

-- States that `part` is a possible output of an interrupted setup line: it is empty, or a beginning
-- of the line's complete output.
abbrev pub LineBegins : Setting → Line → (part : List ℕ) → Type 0
LineBegins now first part =
    (part ≡ [])
    ⊎ ((IsBad first × BeginsText part (bad_line first.number))
    ⊎ ((said : BankLine) × IsBankLine (words_of first.text) said
    × BeginsText part (taken_text (takes now.maps said))))

-- States that `part` is a possible output of an interrupted setup of a simulated device. It
-- consists of the output of the first setup lines and a beginning of the next line's output.
abbrev pub SetUpBegins : Setting → List Line → (part : List ℕ) → Type 0
SetUpBegins now [] part = part ≡ []
SetUpBegins now (first ∷ lines) part =
    LineBegins now first part
    ⊎ ((said : BankLine) × IsBankLine (words_of first.text) said
    × ((rest : List ℕ) × (part ≡ taken_text (takes now.maps said) ++ rest)
    × SetUpBegins (after_line now said) lines rest))

-- States the configuration of a simulated device and the output after an input of setup lines was
-- executed. If the input is too long, none of its lines is executed.
pub record InputSetsUp (now : Setting) (input printed : List ℕ)
    (ended : Result Setting ExitStatus) : Type 0 where
  pub long : most_bytes < length input → (printed ≡ too_long) × (ended ≡ Err Refused)
  pub lines : length input ≤ most_bytes → SetsUp now (speaking_lines input) printed ended

-- States that `part` is a possible output if the setup of a simulated device from an input is
-- interrupted.
pub record InputBegins (now : Setting) (input part : List ℕ) : Type 0 where
  pub long : most_bytes < length input → BeginsText part too_long
  pub lines : length input ≤ most_bytes → SetUpBegins now (speaking_lines input) part
