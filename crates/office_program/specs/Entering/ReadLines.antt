-- An input line that installs a meter at the present reading of its counter. The line has the
-- placeholder `@read` instead of the counter's raw value and scale factor.
use Rattle.std.specs.Prelude.{◌≡◌, ℕ, ℤ, Bool, true, not, List, [], ◌∷◌, Option, Some, None, codes, if◌then◌else◌}
use Rattle.std.specs.Str.{bytes_eq}
use Rattle.office_events.specs.declared.commands.Command.{Command}
use Rattle.office_events.specs.declared.commands.Command.TheVariants as command
use Rattle.office_events.specs.declared.events.Asked.{Asked}
use Rattle.script_text.specs.LineWords.Words.{words_of}
use Rattle.script_text.specs.LineWords.Fields.{AnyName, Field, Number, Of, Range, Spell, Word, first_value, end_of_words, ◌>>=◌}
use Rattle.office_program.specs.declared.entering.read_line.ReadLine.{ReadLine}
use Rattle.office_program.specs.declared.entering.read_line.ReadLine.TheVariants as read
use Rattle.office_program.specs.declared.entering.read_line.ReadRequest.{ReadRequest}
use Rattle.office_program.specs.Entering.Marks.{is_marked, unmarked}

-- The words of an input line with `@read` (the placeholder for a reading), which installs a meter
-- or exchanges one meter for another.
abbrev pub read_form : ReadLine → List Field
read_form (read.Install number register meter ceiling range) =
    Of Number number ∷ Word (codes "install") ∷ Of AnyName register ∷ Of AnyName meter
    ∷ Word (codes "@read") ∷ Of Number ceiling ∷ Of Range range ∷ []
read_form (read.Exchange number register last rolls meter ceiling range) =
    Of Number number ∷ Word (codes "exchange") ∷ Of AnyName register ∷ Of Number last
    ∷ Of Number rolls ∷ Of AnyName meter ∷ Word (codes "@read") ∷ Of Number ceiling
    ∷ Of Range range ∷ []

-- True if the words form exactly the given line with `@read`, the placeholder for a counter's
-- present reading.
abbrev pub IsReadLine : (words : List (List ℕ)) → ReadLine → Type 0
IsReadLine words line = Spell words (read_form line)

-- True if the words are not a valid line with `@read`, the placeholder for a counter's present
-- reading. The words may be a valid line without `@read`, or no valid line at all.
abbrev pub IsNoReadLine : (words : List (List ℕ)) → Type 0
IsNoReadLine words = (line : ReadLine) → IsReadLine words line → ⊥

-- The next definitions give the request's number, the accounting register and the command of a line
-- with `@read`, a placeholder for the counter's reading.

-- The number of the request in an input line with `@read`. This placeholder is replaced by a
-- reading of the meter's counter when the line is processed.
abbrev pub number_of : ReadLine → ℕ
number_of (read.Install number register meter ceiling range) = number
number_of (read.Exchange number register last rolls meter ceiling range) = number

-- The accounting register whose counter is to be read, or `None` if the register's name is invalid.
abbrev pub register_of : ReadLine → Option (List ℕ)
register_of (read.Install number register meter ceiling range) = register
register_of (read.Exchange number register last rolls meter ceiling range) = register

-- The command that results from a request line whose counter value is written as `@read`. The value
-- that was read from the counter replaces `@read`: the count `raw` and the scale factor `sf`.
abbrev pub command_at : ReadLine → (raw : ℕ) → (sf : ℤ) → Command
command_at (read.Install number register meter ceiling range) raw sf =
    command.Install (record {
      register = register;
      meter = meter;
      raw = raw;
      sf = sf;
      ceiling = ceiling;
      range = range;
    })
command_at (read.Exchange number register last rolls meter ceiling range) raw sf =
    command.Exchange (record {
      register = register;
      last = last;
      rolls = rolls;
      meter = meter;
      raw = raw;
      sf = sf;
      ceiling = ceiling;
      range = range;
    })

-- The request of an input line with `@read`, after the counter was read. The reading, which has the
-- count `raw` and the scale factor `sf`, replaces the placeholder `@read`.
abbrev pub asked_at : ReadRequest → (raw : ℕ) → (sf : ℤ) → Asked
asked_at read raw sf = record {
  caller = read.caller;
  number = number_of read.line;
  request = read.request;
  command = command_at read.line raw sf;
}

-- The next definitions say which text is an input line with `@read`. A line that makes a manual
-- entry may end with the mark ` !`, which confirms the entry.

-- False if the line has the mark ` !` (`marked`) and installs a meter. The mark confirms an entry
-- by hand, and an installation makes none. True otherwise: an exchange makes an entry by hand, the
-- last reading of the old meter.
abbrev pub may_end : (marked : Bool) → ReadLine → Bool
may_end marked (read.Install number register meter ceiling range) = not marked
may_end marked (read.Exchange number register last rolls meter ceiling range) = true

-- True if the text is the given line with `@read` (the placeholder for a counter's reading), with
-- or without the mark ` !` (a confirmation).
pub record IsRead (text : List ℕ) (line : ReadLine) : Type 0 where
  pub is : IsReadLine (words_of (unmarked text)) line
  pub may : may_end (is_marked text) line ≡ true

-- True if the text is not a valid line with `@read` (which the program replaces by the counter's
-- present reading). The text may be a valid line without `@read`, or no valid line at all.
abbrev pub IsNoRead : (text : List ℕ) → Type 0
IsNoRead text = (line : ReadLine) → IsRead text line → ⊥

-- The next definitions parse an input line with `@read` (a placeholder for the counter's reading)
-- from its words.

-- The words after the first word, if the first word is `@read`. Otherwise `None`.
abbrev pub read_word : List (List ℕ) → Option (List (List ℕ))
read_word [] = None
read_word (word ∷ words) = if bytes_eq word (codes "@read") then Some words else None

-- The meter installation that the words after `install` form, or `None` if they form none.
abbrev pub install_said : (number : ℕ) → List (List ℕ) → Option ReadLine
install_said number words =
    first_value AnyName words >>= λ register.
    first_value AnyName register.1 >>= λ meter.
    read_word meter.1 >>= λ rest.
    first_value Number rest >>= λ ceiling.
    first_value Range ceiling.1 >>= λ range.
    end_of_words range.1 >>= λ none.
    Some (read.Install number register.0 meter.0 ceiling.0 range.0)

-- The exchange of meters (a request in an input line) that the words after `exchange` form, or
-- `None` if they form none.
abbrev pub exchange_said : (number : ℕ) → List (List ℕ) → Option ReadLine
exchange_said number words =
    first_value AnyName words >>= λ register.
    first_value Number register.1 >>= λ last.
    first_value Number last.1 >>= λ rolls.
    first_value AnyName rolls.1 >>= λ meter.
    read_word meter.1 >>= λ rest.
    first_value Number rest >>= λ ceiling.
    first_value Range ceiling.1 >>= λ range.
    end_of_words range.1 >>= λ none.
    Some (read.Exchange number register.0 last.0 rolls.0 meter.0 ceiling.0 range.0)

-- Parses the words after the verb (`install` or `exchange`) of a line with `@read`, the placeholder
-- that a reading of the counter replaces. `None` if the words are no such line.
abbrev pub line_said : (number : ℕ) → (verb : List ℕ) → List (List ℕ) → Option ReadLine
line_said number verb words =
    if bytes_eq verb (codes "install") then install_said number words
    else if bytes_eq verb (codes "exchange") then exchange_said number words
    else None

-- Parses an input line with `@read` (a placeholder for the counter's reading) from its number and
-- the words after the number. `None` if these words are no such line.
abbrev pub verb_said : (number : ℕ) → List (List ℕ) → Option ReadLine
verb_said number [] = None
verb_said number (verb ∷ words) = line_said number verb words

-- Parses an input line with `@read` (a placeholder for the counter's reading) from all its words.
-- `None` if the words are no such line.
abbrev pub read_said : List (List ℕ) → Option ReadLine
read_said words = first_value Number words >>= λ number. verb_said number.0 number.1
