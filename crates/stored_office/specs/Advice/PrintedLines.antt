-- Defines the explanations of the refusals and rejected readings in the lines that a round of polls
-- printed.
use Rattle.std.specs.Prelude.{◌≡◌, ℕ, ◌==◌, Bool, true, false, not, List, [], ◌∷◌, Option, Some, None}
use Rattle.command_io.specs.Lines.{Line}
use Rattle.script_text.specs.LineWords.Words.{words_of}
use Rattle.stored_office.specs.Advice.Remarks.{Says, remark_of}
use Rattle.stored_office.specs.declared.advice.remarks.Remark.{Remark}
use Rattle.stored_office.specs.declared.advice.remarks.Remark.TheVariants.{Refused, Held}

-- True if the function `say_remarks` explains the printed refusal or rejected reading. This
-- function explains all except refusal 1 (an unknown device or list), which the function
-- `say_lacks` explains.
abbrev pub is_left : Remark → Bool
is_left (Refused number) = not (number == 1)
is_left (Held meter number) = true

-- States that the explanation of a refusal or rejected reading is appended to a text. If `left` is
-- false, states that nothing is appended, because another function, `say_lacks`, then explains the
-- refusal.
abbrev pub SaysIf : (left : Bool) → (device : Option (List ℕ)) → Remark → (old new : List ℕ)
    → Type 0
SaysIf true device remark old new = Says device remark old new
SaysIf false device remark old new = new ≡ old

abbrev pub SaysLeft : (device : Option (List ℕ)) → Option Remark → (old new : List ℕ) → Type 0
SaysLeft device None old new = new ≡ old
SaysLeft device (Some remark) old new = SaysIf (is_left remark) device remark old new

-- States that the explanation of a printed line is appended to a text. If the line has no
-- explanation, states that nothing is appended.
abbrev pub ExplainsLine : (device : Option (List ℕ)) → (line old new : List ℕ) → Type 0
ExplainsLine device line old new =
    SaysLeft device (remark_of (words_of line)) old new

-- States that the explanations of several lines that a round of polls printed are appended to a
-- text, in the order of these lines.
abbrev pub Explains : (device : Option (List ℕ)) → List Line → (old new : List ℕ) → Type 0
Explains device [] old new = new ≡ old
Explains device (line ∷ lines) old new =
    (between : List ℕ) × ExplainsLine device line.text old between
    × Explains device lines between new
