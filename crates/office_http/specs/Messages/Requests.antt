-- The parameters of routes, and the bytes that the store records of a command's request.
use Rattle.std.specs.Prelude.{ℕ, List, ◌∷◌, ◌++◌, Option, option_and_then}
use Rattle.office_http.specs.Messages.Values.{number_in}
use Rattle.office_events.specs.Names.{named}

-- The bytes that the store records of a command's request: the method, a space (32), the target, a
-- line feed (10) and the body.
abbrev pub kept_request : (method target body : List ℕ) → List ℕ
kept_request method target body = method ++ 32 ∷ (target ++ 10 ∷ body)

-- The value of a route's parameter as a name, or None if it is no valid name.
abbrev pub name_asked : Option (List ℕ) → Option (List ℕ)
name_asked taken = option_and_then named taken

-- The value of a route's parameter as the number of a poll: one to nineteen digits, up to 2^63 - 1.
abbrev pub number_asked : Option (List ℕ) → Option ℕ
number_asked taken = option_and_then number_in taken
