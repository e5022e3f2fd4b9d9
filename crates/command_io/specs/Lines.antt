-- The lines of an input, their numbers, and the comment lines that are skipped.
use Rattle.std.specs.Prelude.{ℕ, ◌+◌, Bool, true, ◌==◌, if◌then◌else◌, List, [], ◌∷◌, map}
use Rattle.bstr.specs.Text.{lines_of, without_terminator}
use Rattle.command_io.specs.declared.lines.InputLine.{InputLine}

-- All lines of a text, without their line ends. A line end is a line feed, or a carriage return and
-- a line feed. The last line may lack its line end.
abbrev pub all_lines : List ℕ → List (List ℕ)
all_lines text = map without_terminator (lines_of text)

-- True if a line is skipped because it is empty or begins with `#` (35).
abbrev pub is_silent : List ℕ → Bool
is_silent [] = true
is_silent (first ∷ rest) = first == 35

-- A line of an input, and its number among all lines.
pub record Line : Type 0 where
  pub number : ℕ
  pub text : List ℕ

-- The model of an input line: its number and its text.
abbrev pub seen_line : InputLine → Line
seen_line line = record { number = line.number; text = line.text.now }

-- The lines of an input that are not skipped (skipped lines are empty or begin with `#`), with
-- their numbers. `number` is the number of the first line, and skipped lines count too.
abbrev pub speaking_from : ℕ → List (List ℕ) → List Line
speaking_from number [] = []
speaking_from number (line ∷ lines) =
    if is_silent line then speaking_from (number + 1) lines
    else record { number = number; text = line } ∷ speaking_from (number + 1) lines

-- The lines of a text that are not skipped (skipped lines are empty or begin with `#`), each with
-- its number among all lines, from 1.
abbrev pub speaking_lines : List ℕ → List Line
speaking_lines text = speaking_from 1 (all_lines text)
