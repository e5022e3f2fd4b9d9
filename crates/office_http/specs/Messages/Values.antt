-- Decimal numbers in the values of HTTP headers.
use Rattle.std.specs.Prelude.{ℕ, nat_le, if◌then◌else◌, List, Option, Some, None}
use Rattle.sun_points.specs.Numbers.Digits.{number_of_digits}
use Rattle.office_http.specs.declared.messages.numbers.TheConstants.{MOST_DIGITS}

-- The value of a text of one to nineteen decimal digits, or None for any other text.
abbrev pub digits_in : List ℕ → Option ℕ
digits_in word = number_of_digits MOST_DIGITS word

-- The number itself if it is at most `most`, otherwise None.
abbrev pub at_most : ℕ → Option ℕ → Option ℕ
at_most most None = None
at_most most (Some value) = if nat_le value most then Some value else None

-- The value of a text of one to nineteen decimal digits if it is at most 2^63 - 1, otherwise None.
abbrev pub number_in : List ℕ → Option ℕ
number_in word = at_most 9223372036854775807 (digits_in word)
