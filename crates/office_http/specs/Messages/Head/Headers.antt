-- Looks up the headers of a request by name. The lookup ignores upper and lower case in names.
use Rattle.std.specs.Prelude.{◌≡◌, ◌≤◌, ℕ, Bool, List, [], ◌∷◌, length, map, if◌then◌else◌}
use Rattle.std.specs.Char.{to_ascii_lowercase}
use Rattle.std.specs.Str.{bytes_eq}
use Rattle.office_http.specs.declared.messages.head.headers.Given.{Given}
use Rattle.office_http.specs.declared.messages.head.headers.Given.TheVariants.{Never, Once, Often}

-- True if two header names are equal. The comparison ignores upper and lower case.
abbrev pub same_name : List ℕ → List ℕ → Bool
same_name one other = bytes_eq (map to_ascii_lowercase one) (map to_ascii_lowercase other)

-- The values of all headers of a request that have the given name, in their order.
abbrev pub values_of : List ℕ → List (List ℕ × List ℕ) → List (List ℕ)
values_of name [] = []
values_of name (header ∷ headers) =
    if same_name header.0 name then header.1 ∷ values_of name headers else values_of name headers

-- True if the count of a header is right for the header's values: Never without a value, Once with
-- its only value, Often with two or more.
abbrev pub Gives : Given → List (List ℕ) → Type 0
Gives Never values = values ≡ []
Gives (Once value) values = values ≡ value.now ∷ []
Gives Often values = 2 ≤ length values
