-- Examples of valid and invalid names, at the limits of the length and of the allowed characters.
use Rattle.std.proofs.Common.{◌≡◌, ℕ, true, false, List, [], ◌∷◌, Some, None, replicate, refl}
use Rattle.office_events.specs.Names.{is_name, named}

-- A name of the letter `m` followed by the given number of letters `a`.
abbrev letters : ℕ → List ℕ
letters more = 109 ∷ replicate more 97

shortest : is_name (109 ∷ []) ≡ true
shortest = refl

empty : is_name [] ≡ false
empty = refl

sixteen_bytes : is_name (letters 15) ≡ true
sixteen_bytes = refl

seventeen_bytes : is_name (letters 16) ≡ false
seventeen_bytes = refl

-- A name may consist of one letter: `A`, `Z`, `a` and `z` are valid, and their ASCII neighbors `@`,
-- `[`, a backquote and `{` are not.
first_letters : (is_name (65 ∷ []) ≡ true) × (is_name (90 ∷ []) ≡ true) × (is_name (97 ∷ []) ≡ true)
    × (is_name (122 ∷ []) ≡ true)
first_letters = (refl, refl, refl, refl)

no_letters : (is_name (64 ∷ []) ≡ false) × (is_name (91 ∷ []) ≡ false) × (is_name (96 ∷ []) ≡ false)
    × (is_name (123 ∷ []) ≡ false)
no_letters = (refl, refl, refl, refl)

-- The characters `0`, `9`, `_` and `-` are allowed after the first character of a name.
digits_and_dashes : is_name (109 ∷ 48 ∷ 57 ∷ 95 ∷ 45 ∷ []) ≡ true
digits_and_dashes = refl

-- The characters `0` and `_` are not allowed as the first character of a name (of a device, an
-- accounting register (a named energy counter) or a meter).
first_digit : (is_name (48 ∷ 109 ∷ []) ≡ false) × (is_name (95 ∷ 109 ∷ []) ≡ false)
first_digit = (refl, refl)

-- A name must not contain `/`, `:`, a dot, a space, or a byte above 127.
no_name_bytes : (is_name (109 ∷ 47 ∷ []) ≡ false) × (is_name (109 ∷ 58 ∷ []) ≡ false) × (is_name (109 ∷ 46 ∷ []) ≡ false)
    × (is_name (109 ∷ 32 ∷ []) ≡ false) × (is_name (109 ∷ 195 ∷ []) ≡ false)
no_name_bytes = (refl, refl, refl, refl, refl)

spelled : (named (109 ∷ 49 ∷ []) ≡ Some (109 ∷ 49 ∷ [])) × (named (letters 16) ≡ None)
spelled = (refl, refl)
