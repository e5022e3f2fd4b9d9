-- Defines how numbers in option values are parsed.
use Rattle.std.specs.Prelude.{ℕ, ◌&&◌, List, Option, Some, None, nat_le, if◌then◌else◌}
use Rattle.sun_points.specs.Numbers.Digits.{number_of_digits}
use Rattle.command_words.specs.declared.values.numbers.TheConstants.{MOST_DIGITS}

-- The number if it is from 1 to `most`, otherwise None.
abbrev pub from_one_to : ℕ → Option ℕ → Option ℕ
from_one_to most None = None
from_one_to most (Some value) = if nat_le 1 value && nat_le value most then Some value else None

-- Parses a number of one to ten digits. None unless it is from 1 to `most`.
abbrev pub number_up_to : ℕ → List ℕ → Option ℕ
number_up_to most word = from_one_to most (number_of_digits MOST_DIGITS word)
