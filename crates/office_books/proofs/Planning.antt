-- Properties of the selection of Modbus reads by index range from a device's plan (the reads that
-- cover its point list). Limiting the range to the plan's length does not change the selection.
use Rattle.std.proofs.Common.{◌≡◌, ◌-◌, ℕ, suc, zero, min, List, [], ◌∷◌, map, take, drop, length, refl, sym, ap, ◌∙◌, inl, inr, arith}
use Rattle.std.proofs.lemmas.Bool.{cases_lt}
use Rattle.std.proofs.lemmas.List.{drop_all, take_min, take_rest, take-map}

drop_map : {X Y : Type 0} (f : X → Y) (xs : List X) (n : ℕ) → map f (drop n xs) ≡ drop n (map f xs)
drop_map f [] zero = refl
drop_map f [] (suc n) = refl
drop_map f (x ∷ xs) zero = refl
drop_map f (x ∷ xs) (suc n) = drop_map f xs n

drop_past : {X : Type 0} (xs : List X) (n : ℕ) → drop (min n (length xs)) xs ≡ drop n xs
drop_past xs n =
    elim (cases_lt n (length xs)) [
      | inl lt ↦ let e : min n (length xs) ≡ n = omega (arith, lt) in ap (λ m. drop m xs) e
      | inr ge ↦ drop_all (min n (length xs)) xs (omega (arith, ge)) ∙ sym (drop_all n xs (omega (arith, ge)))
    ]

-- Limiting an index range to the length of the plan (the Modbus reads that cover a point list) does
-- not change which reads the range selects.
pub asked_of : {X Y : Type 0} (f : X → Y) (all xs left : List X) (from most n m : ℕ) (ys : List Y) → all ≡ xs → n ≡ min from (length all)
    → left ≡ take (length all - n) (drop n all) → m ≡ min most (length left) → ys ≡ map f (take m left) → ys ≡ take most (drop from (map f xs))
asked_of f all xs left from most n m ys same is rest few got =
    got ∙ ap (λ k. map f (take k left)) few ∙ ap (map f) (take_min most left)
    ∙ ap (λ l. map f (take most l)) (rest ∙ take_rest all n ∙ ap (λ k. drop k all) is ∙ drop_past all from)
    ∙ sym (take-map f most (drop from all)) ∙ ap (take most) (drop_map f all from) ∙ ap (λ rs. take most (drop from (map f rs))) same
