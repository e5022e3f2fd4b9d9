-- Defines the output of each line of a script (a text of commands, events and queries), and the
-- state of the script's run after the line.
use Rattle.std.specs.Prelude.{◌≡◌, ◌⊎◌, ℕ, List, [], ◌++◌}
use Rattle.command_io.specs.Lines.{Line}
use Rattle.script_text.specs.Forms.{IsLine}
use Rattle.script_text.specs.declared.script.ScriptLine.{ScriptLine}
use Rattle.script_text.specs.declared.script.ScriptLine.TheVariants as line
use Rattle.script_text.specs.LineWords.Words.{words_of}
use Rattle.script_run.specs.Replaying.Stages.{Stage}
use Rattle.script_run.specs.Replaying.Events.{EventPrints, ListPrints, StartPrints}
use Rattle.script_run.specs.Replaying.Asked.{DaysPrint, IntervalsPrint, MeterPrints, PollPrints}
use Rattle.script_text.specs.AnswerText.{bad_line}

-- States the output of a script line, by the kind of line.
abbrev pub LinePrints : Stage → ScriptLine → (printed : List ℕ) → (next : Stage) → Type 0
LinePrints now (line.Event at e) printed next = EventPrints now at e printed next
LinePrints now (line.List at list) printed next = ListPrints now at list printed next
LinePrints now (line.Start at start) printed next = StartPrints now at start printed next
LinePrints now (line.Meter name) printed next = MeterPrints name now printed next
LinePrints now (line.Intervals name) printed next = IntervalsPrint now name printed next
LinePrints now (line.Days name) printed next = DaysPrint now name printed next
LinePrints now (line.Poll number) printed next = PollPrints number now printed next

-- States that the given words form a script line, and that the line was executed.
pub record WordsPrint (now : Stage) (words : List (List ℕ)) (printed : List ℕ) (next : Stage)
    : Type 0 where
  pub said : ScriptLine
  pub is : IsLine words said
  pub prints : LinePrints now said printed next

-- States that a line prints `bad line N`, because its words form no script line.
pub record BadPrints (bad : Line) (printed : List ℕ) : Type 0 where
  pub none : (said : ScriptLine) → IsLine (words_of bad.text) said → ⊥
  pub text : printed ≡ bad_line bad.number

-- States that `part` is a prefix of `text`.
abbrev pub BeginsText : (part text : List ℕ) → Type 0
BeginsText part text = (rest : List ℕ) × (text ≡ part ++ rest)

-- States that `part` is a possible output of an interrupted script line: it is empty, or a
-- beginning of the line's complete output.
abbrev pub LineBegins : Stage → Line → (part : List ℕ) → Type 0
LineBegins now first part =
    (part ≡ []) ⊎ ((printed : List ℕ) × BeginsText part printed
    × (BadPrints first printed
    ⊎ ((next : Stage) × WordsPrint now (words_of first.text) printed next)))
