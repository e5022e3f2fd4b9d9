-- The kinds of values that the words of a script line spell, and the fields that a script line
-- consists of.
use Rattle.std.specs.Prelude.{◌≡◌, ℕ, ℤ, List, [], ◌∷◌, Option, Some, None, option_map}
use Rattle.energy_core.specs.declared.limits.TheConstants.{MAX_RANGE}
use Rattle.office_events.specs.declared.commands.GivenScale.{GivenScale}
use Rattle.script_text.specs.LineWords.Values.{bytes_of, name_of, number_of, scale_of, signed_of}

-- The kind of value that a word of a script line spells.
pub data Kind : Type 0 where
  -- The kind of a word that is a name. The value is `None` if the word is not a valid name (1 to 16
  -- ASCII letters, digits, `_` or `-`, with a letter first).
  AnyName : Kind
  Number : Kind
  Signed : Kind
  Scale : Kind
  Hex : Kind
  Range : Kind
  Moment : Kind

-- The type of the value that a word of the given kind spells.
abbrev pub Value : Kind → Type 0
Value AnyName = Option (List ℕ)
Value Number = ℕ
Value Signed = ℤ
Value Scale = GivenScale
Value Hex = List ℕ
Value Range = ℕ
Value Moment = Option ℕ

-- The value of the given kind that a word of a script line spells, or `None` if the word does not
-- fit the kind.
abbrev pub spelled : (kind : Kind) → List ℕ → Option (Value kind)
spelled AnyName word = name_of word
spelled Number word = number_of word
spelled Signed word = signed_of word
spelled Scale word = scale_of word
spelled Hex word = bytes_of word
spelled Range word = number_of word
spelled Moment word = option_map Some (number_of word)

-- The value that is used if a word of the given kind is missing at the end of a script line: no
-- bytes, the range of an `acc32` counter, or no timestamp. `None` if words of this kind are
-- required.
abbrev pub missing : (kind : Kind) → Option (Value kind)
missing AnyName = None
missing Number = None
missing Signed = None
missing Scale = None
missing Hex = Some []
missing Range = Some MAX_RANGE
missing Moment = Some None

-- A field of a script line: a fixed word, or a value of some kind.
pub data Field : Type 0 where
  Word : List ℕ → Field
  Of : (kind : Kind) → Value kind → Field

-- States that a word of a script line spells the given field: the word is the field's fixed text,
-- or parses to the field's value.
abbrev pub Spells : List ℕ → Field → Type 0
Spells word (Word text) = word ≡ text
Spells word (Of kind value) = spelled kind word ≡ Some value

-- States that the word of a field may be missing at the end of a script line: the field's value is
-- the default for its kind.
abbrev pub IsMissing : Field → Type 0
IsMissing (Word text) = ⊥
IsMissing (Of kind value) = missing kind ≡ Some value

-- States that the words of a script line spell the given fields in order. Optional words at the end
-- of the line may be missing.
abbrev pub Spell : List (List ℕ) → List Field → Type 0
Spell [] [] = Unit {0}
Spell [] (field ∷ fields) = IsMissing field × Spell [] fields
Spell (word ∷ words) [] = ⊥
Spell (word ∷ words) (field ∷ fields) = Spells word field × Spell words fields

-- Applies a parsing step to the value that the previous step returned, or returns `None` if the
-- previous step returned no value.
infixl 10 ◌>>=◌
abbrev pub ◌>>=◌ : {X Y : Type 0} → Option X → (X → Option Y) → Option Y
None >>= goes_on = None
Some x >>= goes_on = goes_on x

-- The value of the first remaining word of a script line, and the words after this word. If no word
-- is left, the value is the kind's default. `None` if the kind has no default.
abbrev pub first_value : (kind : Kind) → List (List ℕ) → Option (Value kind × List (List ℕ))
first_value kind [] = option_map (λ value. (value, [])) (missing kind)
first_value kind (word ∷ words) = option_map (λ value. (value, words)) (spelled kind word)

-- A parsing step that checks that no word of a script line is left. The result is `None` if words
-- are left.
abbrev pub end_of_words : List (List ℕ) → Option (Unit {0})
end_of_words [] = Some tt
end_of_words (word ∷ words) = None
