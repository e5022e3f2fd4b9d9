-- The lines of the received bytes, and the empty line that ends a request head.
use Rattle.std.specs.Prelude.{ℕ, ◌==◌, Bool, true, false, if◌then◌else◌, List, [], ◌∷◌, ◌++◌}
use Rattle.std.specs.List.{list_any}

-- The lines of the received bytes that end with a line feed, without the line feed. The first line
-- begins with the bytes in `line`. Bytes after the last line feed form no line yet.
abbrev pub ended_lines : List ℕ → List ℕ → List (List ℕ)
ended_lines line [] = []
ended_lines line (b ∷ bytes) =
    if b == 10 then line ∷ ended_lines [] bytes else ended_lines (line ++ b ∷ []) bytes

-- True if a line has no bytes, or only a carriage return.
abbrev pub is_empty_line : List ℕ → Bool
is_empty_line [] = true
is_empty_line (b ∷ []) = b == 13
is_empty_line (b ∷ c ∷ line) = false

-- True if a list of lines has an empty line after a nonempty line, which is the end of a request
-- head.
abbrev pub is_ended : List (List ℕ) → Bool
is_ended [] = false
is_ended (line ∷ lines) =
    if is_empty_line line then is_ended lines else list_any is_empty_line lines

-- True if the bytes have the end of a request head: an empty line after a nonempty line.
abbrev pub has_head_end : List ℕ → Bool
has_head_end bytes = is_ended (ended_lines [] bytes)

-- The lines of a list before its first empty line.
abbrev pub text_lines : List (List ℕ) → List (List ℕ)
text_lines [] = []
text_lines (line ∷ lines) = if is_empty_line line then [] else line ∷ text_lines lines

-- The lines of a request head: from the first nonempty line up to the empty line that ends the
-- head.
abbrev pub head_lines : List (List ℕ) → List (List ℕ)
head_lines [] = []
head_lines (line ∷ lines) = if is_empty_line line then head_lines lines else line ∷ text_lines lines

-- The lines of the request head in the received bytes.
abbrev pub lines_of_head : List ℕ → List (List ℕ)
lines_of_head bytes = head_lines (ended_lines [] bytes)
