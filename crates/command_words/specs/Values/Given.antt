-- Functions that apply a function to an optional value or to each item of a list.
use Rattle.std.specs.Prelude.{List, [], ◌∷◌, Option, Some, None}

-- Applies the function `rest` to an optional value, or returns None if there is no value.
abbrev pub given : {A B : Type 0} → Option A → (A → Option B) → Option B
given None rest = None
given (Some value) rest = rest value

-- Applies the function `gives` to each item of a list, and collects the results. None if one of the
-- results is None.
abbrev pub each_of : {A B : Type 0} → (A → Option B) → List A → Option (List B)
each_of gives [] = Some []
each_of gives (item ∷ items) =
    given (gives item) (λ value. given (each_of gives items) (λ values. Some (value ∷ values)))
