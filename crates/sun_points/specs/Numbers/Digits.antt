-- Defines the numbers that decimal digits represent.
use Rattle.std.specs.Prelude.{ℕ, ◌+◌, ◌-◌, ◌*◌, ◌&&◌, List, Option, Some, None, fold, length, nat_le, if◌then◌else◌}
use Rattle.std.specs.Char.{is_ascii_digit}
use Rattle.std.specs.List.{list_all}

-- The number that a list of decimal digits represents, the most significant digit first.
abbrev pub digits_value : List ℕ → ℕ
digits_value digits = fold (λ n digit. 10 * n + (digit - 48)) 0 digits

-- The number that a text of one to `most` decimal digits represents, or `None` for any other text.
abbrev pub number_of_digits : (most : ℕ) → List ℕ → Option ℕ
number_of_digits most word =
    if nat_le 1 (length word) && nat_le (length word) most && list_all is_ascii_digit word
    then Some (digits_value word) else None
