-- Proves that a fold over the first `i` items of a list, followed by a step with item `i` (counted
-- from 0), is the fold over the first `i + 1` items.
use Rattle.std.proofs.Common.{◌≡◌, ◌∙◌, ◌+◌, ◌<◌, ◌∷◌, [], ap, sym, ℕ, List, length, take, get_or}
use Rattle.std.specs.Prelude.{fold}
use Rattle.std.proofs.lemmas.List.{take_more}
use Rattle.std.proofs.lemmas.List.Sums.{fold-append}

pub fold_more : {X A : Type 0} (f : A → X → A) (a : A) (xs : List X) (i : ℕ) (d : X) (old new : A) → i < length xs → old ≡ fold f a (take i xs) → new ≡ f old (get_or xs i d) → new ≡ fold f a (take (i + 1) xs)
fold_more f a xs i d old new within was is =
    is ∙ (ap (λ o. f o (get_or xs i d)) was
    ∙ (sym (fold-append f a (take i xs) (get_or xs i d ∷ [])) ∙ ap (fold f a) (sym (take_more xs i d within))))
