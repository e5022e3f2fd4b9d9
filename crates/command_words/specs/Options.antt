-- Defines how the option values that `clap` parsed become texts and numbers.
use Rattle.std.specs.Prelude.{◌≡◌, ℕ, ◌==◌, Bool, ◌||◌, if◌then◌else◌, List, [], ◌∷◌, Option, Some, None, false, Result, MatchResult, ⊤, codes, unwrap_or, option_map}
use Rattle.std.specs.Str.{bytes_eq}
use Rattle.std.specs.Char.{is_ascii_alphanumeric}
use Rattle.std.specs.List.{list_all, list_any}
use Rattle.std.specs.Option.{option_map_or}
use Rattle.clap.specs.Words.{Row, Text, all_of, first_of, found_of, rows_of}
use Rattle.clap.specs.declared.parser.matches.ArgMatches.{ArgMatches}
use Rattle.command_words.specs.Values.Given.{given}
use Rattle.command_words.specs.Values.Numbers.{number_up_to}
use Rattle.command_words.specs.declared.faults.ValueFault.{ValueFault}
use Rattle.command_words.specs.declared.faults.ValueFault.TheVariants as fault

-- The option values that `clap` parsed, as a list of rows. Each row has an option's name and its
-- values.
abbrev pub rows_in : ArgMatches → List Row
rows_in found = rows_of (found_of found)

-- The first value of the option `id` as text. None if the option is not given.
abbrev pub text_at : Text → List Row → Option Text
text_at id rows = first_of id rows

-- The number from 1 to `most` in the value of a required option. None if the option is missing or
-- its value is out of range.
abbrev pub number_at : ℕ → Text → List Row → Option ℕ
number_at most id rows = given (text_at id rows) (number_up_to most)

-- The parsed value of an option that need not be given. The inner None means that the option is not
-- given. The outer None means that its value is invalid.
abbrev pub if_some : {A B : Type 0} → (A → Option B) → Option A → Option (Option B)
if_some reads None = Some None
if_some reads (Some value) = option_map Some (reads value)

-- The number from 1 to `most` in an option that need not be given. The inner None means that the
-- option is not given. The outer None means that its value is out of range.
abbrev pub number_if : ℕ → Text → List Row → Option (Option ℕ)
number_if most id rows = if_some (number_up_to most) (text_at id rows)

-- The parsed value of an option, or `otherwise` if the option is not given. None if the value is
-- invalid.
abbrev pub or_else : {A B : Type 0} → B → (A → Option B) → Option A → Option B
or_else otherwise reads None = Some otherwise
or_else otherwise reads (Some value) = reads value

-- The number from 1 to `most` in the value of an option, or `otherwise` if the option is not given.
-- None if the value is out of range.
abbrev pub number_or : (otherwise most : ℕ) → Text → List Row → Option ℕ
number_or otherwise most id rows = or_else otherwise (number_up_to most) (text_at id rows)

-- All values of an option that may be given several times.
abbrev pub texts_at : Text → List Row → List Text
texts_at id rows = unwrap_or (all_of id rows) []

-- The given list of option values, or None if the list is empty.
abbrev pub any_of : List Text → Option (List Text)
any_of [] = None
any_of (text ∷ texts) = Some (text ∷ texts)

-- All values of a required option that may be given several times. None if the option is not given.
abbrev pub several_at : Text → List Row → Option (List Text)
several_at id rows = any_of (texts_at id rows)

-- The text of the option `id`, or `otherwise` if the option is not given.
abbrev pub text_or : Text → Text → List Row → Text
text_or otherwise id rows = unwrap_or (text_at id rows) otherwise

-- True if the flag `id` (an option without a value) was given on the command line.
abbrev pub is_set : Text → List Row → Bool
is_set id rows = option_map_or (λ text. bytes_eq text (codes "true")) (text_at id rows) false

-- Definitions of host names in the values of options.

-- True if a host name may contain the byte: a letter, a digit, or one of `.`, `-`, `_`, `:`, `[`
-- and `]`.
abbrev pub is_host_byte : ℕ → Bool
is_host_byte byte =
    is_ascii_alphanumeric byte || list_any (λ other. other == byte) (codes ".-_:[]")

-- True if a text is a host name. It must not be empty, and must have only bytes that `is_host_byte`
-- accepts. RFC 3986 allows further bytes, which no machine's name has.
abbrev pub is_host_name : Text → Bool
is_host_name [] = false
is_host_name (byte ∷ bytes) = list_all is_host_byte (byte ∷ bytes)

-- The list `names`, if each of the names is a host name, otherwise None.
abbrev pub host_names_of : List Text → Option (List Text)
host_names_of names = if list_all is_host_name names then Some names else None

-- States which faults the program may report for an option. `due` is the option's value by the
-- specification, or None if no valid value is given. `Memory` (out of memory) is always allowed,
-- other faults only if `due` is None.
abbrev pub IsDue : {A : Type 0} → ValueFault → Option A → Type 0
IsDue fault.Memory due = ⊤
IsDue (fault.Missing option) due = None ≡ due
IsDue (fault.Number option word) due = None ≡ due
IsDue (fault.Both one other) due = None ≡ due
IsDue (fault.Choice option value choices word) due = None ≡ due
IsDue (fault.Command name) due = None ≡ due
IsDue (fault.Shell word) due = None ≡ due
IsDue (fault.Alone option other) due = None ≡ due
IsDue (fault.Without option other) due = None ≡ due
IsDue (fault.Device part fault) due = None ≡ due
IsDue (fault.HostName word) due = None ≡ due

-- States that a function reads an option correctly. It returns the value `due`, which the
-- specification requires, or a fault that is allowed for this option.
abbrev pub Reads : {T A : Type 0} → (T → A) → Option A → Result T ValueFault → Type 0
Reads seen due result =
    MatchResult result (λ value. Some (seen value) ≡ due) (λ fault. IsDue fault due)
