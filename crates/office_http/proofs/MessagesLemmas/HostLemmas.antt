-- Lemmas: the test of a Host value against a list of accepted host names gives the same result for
-- borrowed names and for their bytes.
use Rattle.std.proofs.Common.{◌≡◌, ℕ, Bool, ◌||◌, List, [], ◌∷◌, map, refl, ap}
use Rattle.std.specs.Borrow.{Bor}
use Rattle.std.specs.List.{list_any}

-- Testing a Host value against a list of borrowed host names gives the same result as testing it
-- against the bytes of these names.
pub any_after : (test : List ℕ → Bool) (names : List (Bor (List ℕ))) → list_any (λ name. test name.now) names ≡ list_any test (map (λ name. name.now) names)
any_after test [] = refl
any_after test (name ∷ names) = ap (λ rest. test name.now || rest) (any_after test names)
