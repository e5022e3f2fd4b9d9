-- Defines the output and the exit status of a loop, which is a script with simulated devices.
use Rattle.std.specs.Prelude.{◌≡◌, ◌⊎◌, ◌<◌, ◌≤◌, ◌++◌, ℕ, false, List, [], ◌∷◌, length}
use Rattle.script_run.specs.Bank.Settings.{AreUnset}
use Rattle.command_io.specs.Input.{most_bytes, too_long}
use Rattle.command_io.specs.Lines.{Line, speaking_lines}
use Rattle.command_io.specs.declared.status.ExitStatus.{ExitStatus}
use Rattle.command_io.specs.declared.status.ExitStatus.TheVariants.{Fine, Refused}
use Rattle.interval_core.specs.declared.zone.Zone.{Zone}
use Rattle.mb_device.specs.Maps.{Maps}
use Rattle.script_run.specs.Replaying.Lines.{BeginsText}
use Rattle.script_run.specs.Replaying.Scripts.{no_office}
use Rattle.script_run.specs.Replaying.Stages.{beginning}
use Rattle.script_text.specs.AnswerText.{bad_line}
use Rattle.script_text.specs.LineWords.Words.{words_of}
use Rattle.script_run.specs.Looping.Lines.{AreWrong, WordsPrint}
use Rattle.script_run.specs.Looping.Standings.{LoopStage}

-- States the output of the lines of a loop (a script with simulated devices), run in order from the
-- given state on. A malformed or forbidden line ends the run.
abbrev pub LoopPrints : LoopStage → List Line → (printed : List ℕ) → ExitStatus → Type 0
LoopPrints now [] printed status = (printed ≡ []) × (status ≡ Fine)
LoopPrints now (first ∷ lines) printed status =
    (AreWrong now.connected (words_of first.text) × (printed ≡ bad_line first.number)
    × (status ≡ Refused))
    ⊎ ((here rest : List ℕ) × (next : LoopStage) × WordsPrint (words_of first.text) now here next
    × LoopPrints next lines rest status × (printed ≡ here ++ rest))

-- States that `part` is a possible output of an interrupted script line: it is empty, or a
-- beginning of the line's complete output.
abbrev pub LineBegins : LoopStage → Line → (part : List ℕ) → Type 0
LineBegins now first part =
    (part ≡ []) ⊎ ((printed : List ℕ) × BeginsText part printed
    × ((AreWrong now.connected (words_of first.text) × (printed ≡ bad_line first.number))
    ⊎ ((next : LoopStage) × WordsPrint (words_of first.text) now printed next)))

-- States that `part` is a possible output of an interrupted run of script lines. It consists of the
-- output of the first lines and a beginning of the next line's output.
abbrev pub LoopBegins : LoopStage → List Line → (part : List ℕ) → Type 0
LoopBegins now [] part = part ≡ []
LoopBegins now (first ∷ lines) part =
    LineBegins now first part
    ⊎ ((here rest : List ℕ) × (next : LoopStage) × WordsPrint (words_of first.text) now here next
    × LoopBegins next lines rest × (part ≡ here ++ rest))

-- The state in which a loop (a script with simulated devices) begins. It has no accepted events,
-- the given register map, and no connection.
abbrev pub begun : Zone → Maps → LoopStage
begun zone maps = record { script = beginning zone; maps = maps; connected = false }

-- States the output of running a script (a text of commands, events and queries). It is the output
-- of its lines, or only a refusal if memory ran out before the first line.
abbrev pub TextPrints : Zone → (text printed : List ℕ) → ExitStatus → Type 0
TextPrints zone text printed status =
    ((printed ≡ no_office) × (status ≡ Refused))
    ⊎ ((maps : Maps) × AreUnset maps
    × LoopPrints (begun zone maps) (speaking_lines text) printed status)

-- States that `part` is a possible output of an interrupted run of a script (a text of commands,
-- events and queries).
abbrev pub TextBegins : Zone → (text part : List ℕ) → Type 0
TextBegins zone text part =
    BeginsText part no_office
    ⊎ ((maps : Maps) × AreUnset maps × LoopBegins (begun zone maps) (speaking_lines text) part)

-- States the output of running an input as a script: the output of its lines, or `too long` for an
-- input over the length limit.
pub record InputPrints (zone : Zone) (input printed : List ℕ) (status : ExitStatus) : Type 0 where
  pub long : most_bytes < length input → (status ≡ Refused) × (printed ≡ too_long)
  pub text : length input ≤ most_bytes → TextPrints zone input printed status

-- States that `part` is a possible output of an interrupted run of an input as a script.
pub record InputBegins (zone : Zone) (input part : List ℕ) : Type 0 where
  pub long : most_bytes < length input → BeginsText part too_long
  pub text : length input ≤ most_bytes → TextBegins zone input part
