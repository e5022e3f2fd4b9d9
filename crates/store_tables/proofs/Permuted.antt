-- Proof that a permutation of a mapped list is the map of a permutation of the list.
use Rattle.std.proofs.Common.{◌≡◌, List, [], ◌∷◌, map, refl, ap₂, IsPermutation}
use Rattle.std.proofs.lemmas.List.Sorted.{IsPermutation-refl, IsPermutation-trans, IsPermutation-cons, IsPermutation-middle}
use Rattle.sqlite_keyed.proofs.ListLemmas.{along_permutation}

module _ {X Y : Type 0} (f : X → Y) where
  abbrev Comes : List Y → List Y → Type 0
  Comes us vs = (xs : List X) → us ≡ map f xs → (zs : List X) × IsPermutation xs zs × (vs ≡ map f zs)

  under : (y : Y) (us vs : List Y) → Comes us vs → Comes (y ∷ us) (y ∷ vs)
  under y us vs more [] e = absurd (let f = e in cc)
  under y us vs more (x ∷ xs) e =
      let head : y ≡ f x = cc in
      let rest = more xs cc in
      (x ∷ rest.0, IsPermutation-cons x xs rest.0 rest.1, ap₂ ◌∷◌ head rest.2)

  turned : (y z : Y) (us : List Y) → Comes (y ∷ z ∷ us) (z ∷ y ∷ us)
  turned y z us [] e = absurd (let f = e in cc)
  turned y z us (x ∷ []) e = absurd (let f = e in cc)
  turned y z us (x ∷ w ∷ xs) e =
      let head : y ≡ f x = cc in
      let next : z ≡ f w = cc in
      let rest : us ≡ map f xs = cc in
      (w ∷ x ∷ xs, IsPermutation-middle (x ∷ []) w xs, ap₂ ◌∷◌ next (ap₂ ◌∷◌ head rest))

  chained : (us vs ws : List Y) → Comes us vs → Comes vs ws → Comes us ws
  chained us vs ws one two xs e =
      let first = one xs e in
      let second = two first.0 first.2 in
      (second.0, IsPermutation-trans xs first.0 second.0 first.1 second.1, second.2)

  pub unmapped : (xs : List X) (ys : List Y) → IsPermutation (map f xs) ys → (zs : List X) × IsPermutation xs zs × (ys ≡ map f zs)
  unmapped xs ys same =
      along_permutation Comes (λ us xs e. (xs, IsPermutation-refl xs, e)) under turned chained (map f xs) ys same xs refl
