-- Lemmas about loops over a list that change an accumulator at each element: each iteration keeps
-- the final result that the loop will have.
use Rattle.std.proofs.Common.{◌≡◌, ℕ, ◌+◌, ◌<◌, ◌≤◌, suc, List, [], ◌∷◌, length, drop, get_or, add-one, sym, ap, ◌∙◌}
use Rattle.std.proofs.lemmas.List.{drop_all}
use Rattle.std.proofs.Math.Seq.{drop-cons}

-- One iteration of a loop over a list keeps the loop's final result. The rest of the list, run on
-- the changed accumulator, yields the same result as the list from the current element on.
pub one_on : {X T : Type 0} (run : List X → T → T) (step : X → T → T) → ((x : X) (xs : List X) (t : T) → run (x ∷ xs) t ≡ run xs (step x t))
    → (xs : List X) (i : ℕ) (x : X) (t u z : T) → i < length xs → x ≡ get_or xs i x → run (drop i xs) t ≡ z → u ≡ step x t
    → run (drop (i + 1) xs) u ≡ z
one_on run step law xs i x t u z inside item so_far is =
    ap (run (drop (i + 1) xs)) is ∙ sym (law x (drop (i + 1) xs) t) ∙ ap (λ ys. run (x ∷ ys) t) (ap (λ k. drop k xs) (add-one i))
    ∙ ap (λ y. run (y ∷ drop (suc i) xs) t) item ∙ ap (λ ys. run ys t) (sym (drop-cons xs i x inside)) ∙ so_far

-- Suppose that a function over a list updates an accumulator, and a loop computes the same. When
-- the loop has no element left, its accumulator is the function's result.
pub all_on : {X T : Type 0} (run : List X → T → T) → ((t : T) → run [] t ≡ t) → (xs : List X) (i : ℕ) (t z : T) → length xs ≤ i
    → run (drop i xs) t ≡ z → t ≡ z
all_on run none xs i t z all so_far = sym (none t) ∙ ap (λ ys. run ys t) (sym (drop_all i xs all)) ∙ so_far
