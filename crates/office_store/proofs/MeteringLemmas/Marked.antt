-- Proofs about a loop over the rows of a list's elements: the row that the loop reads next encodes
-- the next element.
use Rattle.std.proofs.Common.{◌≡◌, ℕ, zero, suc, ◌+◌, ◌<◌, ◌≤◌, ◌||◌, Bool, true, false, List, [], ◌∷◌, ◌++◌, map, take, drop, length, get_or, refl, sym, ap, ◌∙◌, arith, take-append-drop}
use Rattle.std.specs.List.{list_any}
use Rattle.std.proofs.lemmas.List.Folds.{list_any-append}

-- True if `y` is the row of the element after the first `n` elements of `xs`.
pub record IsNext {X Y : Type 0} (f : X → Y) (xs : List X) (n : ℕ) (y : Y) : Type 0 where
  pub at : X
  pub seen : y ≡ f at
  pub more : take (n + 1) xs ≡ take n xs ++ at ∷ []

pub next_of : {X Y : Type 0} (f : X → Y) (xs : List X) (n : ℕ) (y : Y) → n < length (map f xs) → y ≡ get_or (map f xs) n y → IsNext f xs n y
next_of f [] n y lt is = absurd (omega (arith, lt))
next_of f (x ∷ xs) zero y lt is = record { at = x; seen = is; more = refl }
next_of f (x ∷ xs) (suc n) y lt is =
    let rest = next_of f xs n y (omega (arith, lt)) is in
    let e : suc n + 1 ≡ suc (n + 1) = omega arith in
    record { at = rest.at; seen = rest.seen; more = ap (λ k. take k (x ∷ xs)) e ∙ ap (λ l. x ∷ l) rest.more }

-- If `ys` has the rows of the elements of a list, in order, the next row of `ys` encodes the next
-- element of the list.
pub next_shown : {X Y : Type 0} (f : X → Y) (xs : List X) (ys : List Y) (n : ℕ) (y : Y) → ys ≡ map f xs → n < length ys → y ≡ get_or ys n y → IsNext f xs n y
next_shown f xs ys n y shown lt is =
    let long = ap length shown in
    next_of f xs n y (omega (arith, lt, long)) (is ∙ ap (λ l. get_or l n y) shown)

or_false : (b : Bool) → (b || false) ≡ b
or_false true = refl
or_false false = refl

or_true : (b : Bool) → (b || true) ≡ true
or_true true = refl
or_true false = refl

pub not_yet : {X : Type 0} (p : X → Bool) (xs : List X) (n : ℕ) (x : X) → take (n + 1) xs ≡ take n xs ++ x ∷ [] → list_any p (take n xs) ≡ false → p x ≡ false → list_any p (take (n + 1) xs) ≡ false
not_yet p xs n x more none off =
    ap (list_any p) more ∙ list_any-append p (take n xs) (x ∷ []) ∙ ap (λ b. b || (p x || false)) none ∙ or_false (p x) ∙ off

pub here : {X : Type 0} (p : X → Bool) (xs : List X) (n : ℕ) (x : X) → take (n + 1) xs ≡ take n xs ++ x ∷ [] → p x ≡ true → list_any p xs ≡ true
here p xs n x more on =
    ap (list_any p) (sym (take-append-drop (n + 1) xs)) ∙ list_any-append p (take (n + 1) xs) (drop (n + 1) xs)
    ∙ ap (λ b. b || list_any p (drop (n + 1) xs)) (ap (list_any p) more ∙ list_any-append p (take n xs) (x ∷ []) ∙ ap (λ b. list_any p (take n xs) || (b || false)) on ∙ or_true (list_any p (take n xs)))
