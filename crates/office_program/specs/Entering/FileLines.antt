-- An input line that names the file of a point list, the SunSpec points to poll from a device:
-- `NUMBER list DEVICE @NAME`.
use Rattle.std.specs.Prelude.{ℕ, ◌==◌, List, [], ◌∷◌, Option, Some, None, codes, if◌then◌else◌, option_map}
use Rattle.std.specs.Str.{bytes_eq}
use Rattle.script_text.specs.LineWords.Fields.{AnyName, Field, Number, Of, Spell, Word, first_value, end_of_words, ◌>>=◌}
use Rattle.office_program.specs.declared.entering.file_line.FileLine as declared

-- An input line that names a point-list file: the request number that the line states, the device,
-- and the name of the file.
pub record FileLine : Type 0 where
  pub number : ℕ
  pub device : Option (List ℕ)
  pub name : List ℕ

-- The words of a line that names a file: `NUMBER list DEVICE @NAME`. The code of `@` is 64.
abbrev pub file_form : FileLine → List Field
file_form line =
    Of Number line.number ∷ Word (codes "list") ∷ Of AnyName line.device ∷ Word (64 ∷ line.name)
    ∷ []

-- True if the words form exactly the given input line, which names a file.
abbrev pub IsFileLine : (words : List (List ℕ)) → FileLine → Type 0
IsFileLine words line = Spell words (file_form line)

-- True if the words form no input line that names a file.
abbrev pub IsNoFileLine : (words : List (List ℕ)) → Type 0
IsNoFileLine words = (line : FileLine) → IsFileLine words line → ⊥

-- The next definitions parse an input line that names a file, from its words.

-- The input line that the parser returned, with the file's name as bytes.
abbrev pub seen_line : declared.FileLine → FileLine
seen_line line = record { number = line.number; device = line.device; name = line.name.now }

-- The name of a file in a word that begins with `@`, or `None` for any other word.
abbrev pub file_in : List ℕ → Option (List ℕ)
file_in [] = None
file_in (byte ∷ name) = if byte == 64 then Some name else None

-- The file name in the first of the given words (without the word's `@`), and the words after the
-- first one. `None` if the first word does not begin with `@`.
abbrev pub file_word : List (List ℕ) → Option (List ℕ × List (List ℕ))
file_word [] = None
file_word (word ∷ words) = option_map (λ name. (name, words)) (file_in word)

-- The words after the first word, if the first word is `list`. Otherwise `None`.
abbrev pub list_word : List (List ℕ) → Option (List (List ℕ))
list_word [] = None
list_word (word ∷ words) = if bytes_eq word (codes "list") then Some words else None

-- Parses the words of an input line that names a file. `None` if the words don't form such a line.
abbrev pub file_said : List (List ℕ) → Option FileLine
file_said words =
    first_value Number words >>= λ number.
    list_word number.1 >>= λ rest.
    first_value AnyName rest >>= λ device.
    file_word device.1 >>= λ name.
    end_of_words name.1 >>= λ none.
    Some (record { number = number.0; device = device.0; name = name.0 })
