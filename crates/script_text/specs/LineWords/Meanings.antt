-- Tables that map words of a script line, such as its verb, to their meanings.
use Rattle.std.specs.Prelude.{ℕ, if◌then◌else◌, List, [], ◌∷◌, Option, Some, None, find, option_map}
use Rattle.std.specs.Borrow.{Bor}
use Rattle.std.specs.Str.{bytes_eq}

-- The meaning of a word in a table, or `None` if the table has no entry for the word.
abbrev pub meaning_in : {T : Type 0} → List (List ℕ × T) → List ℕ → Option T
meaning_in [] word = None
meaning_in (entry ∷ table) word =
    if bytes_eq entry.0 word then Some entry.1 else meaning_in table word

-- An entry of a table from words to their meanings, as proofs use it: its borrowed word as a list
-- of bytes, and the word's meaning.
abbrev pub entry_of : {T : Type 0} → Bor (List ℕ) × T → List ℕ × T
entry_of entry = (entry.0.now, entry.1)

-- The meaning of a word in the first entry with this word, for a table whose entries have borrowed
-- words. `None` if no entry has the word.
abbrev pub found_in : {T : Type 0} → List (Bor (List ℕ) × T) → List ℕ → Option T
found_in table word =
    option_map (λ entry. entry.1) (find (λ entry. bytes_eq entry.0.now word) table)
