-- A search in a list finds nothing if and only if no element passes the test.
use Rattle.std.proofs.Common.{◌≡◌, Bool, true, false, cond, List, [], ◌∷◌, Option, Some, None, refl}
use Rattle.std.specs.List.{find, AllByRecursion}

found_none : {X : Type 0} (b : Bool) (x : X) (o : Option X) → cond b (Some x) o ≡ None → (b ≡ false) × (o ≡ None)
found_none true x o h = cc
found_none false x o h = (refl, h)

-- If a search in a list finds nothing, every element fails the test of the search.
pub none_pass : {X : Type 0} (p : X → Bool) (xs : List X) → find p xs ≡ None → AllByRecursion (λ x. p x ≡ false) xs
none_pass p [] h = tt
none_pass p (x ∷ xs) h =
    let both = found_none (p x) x (find p xs) h in
    (both.0, none_pass p xs both.1)

-- If every element of a list fails a test, a search for an element that passes finds nothing.
pub find-none : {X : Type 0} (p : X → Bool) (xs : List X) → AllByRecursion (λ x. p x ≡ false) xs → find p xs ≡ None
find-none p [] h = refl
find-none p (x ∷ xs) h = rw h.0 (find-none p xs h.1)
