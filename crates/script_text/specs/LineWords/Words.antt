-- The words of a script line, which single spaces separate.
use Rattle.std.specs.Prelude.{◌≡◌, ℕ, ◌==◌, List, [], ◌∷◌, MatchOption, Option, Some, None}
use Rattle.std.specs.Borrow.{Bor}
use Rattle.std.specs.List.{slice_split}

-- The words of a script line. A single space separates two words, so words may be empty.
abbrev pub words_of : List ℕ → List (List ℕ)
words_of line = slice_split (λ byte. byte == 32) line

-- The words of a script line that the parser has not used yet. `None` means that it has used all
-- words.
abbrev pub words_left : Option (List ℕ) → List (List ℕ)
words_left None = []
words_left (Some line) = words_of line

-- States that a call removed the first remaining word of a line and returned this word. If no word
-- was left, the call returned `None` and changed nothing.
abbrev pub TakesFirst : (words : List (List ℕ)) → (taken : Option (Bor (List ℕ)))
    → (rest : List (List ℕ)) → Type 0
TakesFirst words taken rest =
    MatchOption taken ((words ≡ []) × (rest ≡ [])) (λ word. words ≡ word.now ∷ rest)
