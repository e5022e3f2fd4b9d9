-- Defines the output and the exit status of running a script (a text of commands, events and
-- queries).
use Rattle.std.specs.Prelude.{◌≡◌, ◌⊎◌, ◌<◌, ◌≤◌, ℕ, List, [], ◌∷◌, ◌++◌, length}
use Rattle.command_io.specs.Input.{most_bytes, too_long}
use Rattle.command_io.specs.Lines.{Line, speaking_lines}
use Rattle.command_io.specs.declared.status.ExitStatus.{ExitStatus}
use Rattle.command_io.specs.declared.status.ExitStatus.TheVariants.{Fine, Refused}
use Rattle.interval_core.specs.declared.zone.Zone.{Zone}
use Rattle.office_events.specs.declared.refusals.Refusal.TheVariants as refusal
use Rattle.script_text.specs.LineWords.Words.{words_of}
use Rattle.script_run.specs.Replaying.Lines.{BadPrints, BeginsText, LineBegins, WordsPrint}
use Rattle.script_run.specs.Replaying.Stages.{Stage, beginning}
use Rattle.script_text.specs.AnswerText.{refused_line}

-- States the output of the lines of a script (a text of commands, events and queries), run in order
-- from the given state on. A line whose words form no script line ends the run.
abbrev pub ScriptPrints : Stage → List Line → (printed : List ℕ) → ExitStatus → Type 0
ScriptPrints now [] printed status = (printed ≡ []) × (status ≡ Fine)
ScriptPrints now (first ∷ lines) printed status =
    (BadPrints first printed × (status ≡ Refused))
    ⊎ ((here rest : List ℕ) × (next : Stage) × WordsPrint now (words_of first.text) here next
    × ScriptPrints next lines rest status × (printed ≡ here ++ rest))

-- States that `part` is a possible output of an interrupted run of script lines. It consists of the
-- output of the first lines and a beginning of the next line's output.
abbrev pub ScriptBegins : Stage → List Line → (part : List ℕ) → Type 0
ScriptBegins now [] part = part ≡ []
ScriptBegins now (first ∷ lines) part =
    LineBegins now first part
    ⊎ ((here rest : List ℕ) × (next : Stage) × WordsPrint now (words_of first.text) here next
    × ScriptBegins next lines rest × (part ≡ here ++ rest))

-- The output if a script (a text of commands, events and queries) cannot start because memory ran
-- out.
abbrev pub no_office : List ℕ
no_office = refused_line refusal.Memory

-- States the output of running a script (a text of commands, events and queries). It is the output
-- of its lines, or only a refusal if memory ran out before the first line.
abbrev pub TextPrints : Zone → (text printed : List ℕ) → ExitStatus → Type 0
TextPrints zone text printed status =
    ((printed ≡ no_office) × (status ≡ Refused))
    ⊎ ScriptPrints (beginning zone) (speaking_lines text) printed status

-- States that `part` is a possible output of an interrupted run of a script (a text of commands,
-- events and queries).
abbrev pub TextBegins : Zone → (text part : List ℕ) → Type 0
TextBegins zone text part =
    BeginsText part no_office ⊎ ScriptBegins (beginning zone) (speaking_lines text) part

-- States the output of running an input as a script: the output of its lines, or `too long` for an
-- input over the length limit.
pub record ReplayPrints (zone : Zone) (input printed : List ℕ) (status : ExitStatus) : Type 0 where
  pub long : most_bytes < length input → (status ≡ Refused) × (printed ≡ too_long)
  pub text : length input ≤ most_bytes → TextPrints zone input printed status

-- States that `part` is a possible beginning of the output if the program runs `input` as a script
-- (a text of commands, events and queries) and is interrupted.
pub record ReplayBegins (zone : Zone) (input part : List ℕ) : Type 0 where
  pub long : most_bytes < length input → BeginsText part too_long
  pub text : length input ≤ most_bytes → TextBegins zone input part
