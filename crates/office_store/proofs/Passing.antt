-- Proofs on filtering a list by a test: equal tests select the same rows, and edits that don't
-- change a test's result may come before or after filtering.
use Rattle.std.proofs.Common.{◌≡◌, ℕ, Bool, true, false, cond, inl, inr, ◌||◌, List, [], ◌∷◌, ◌++◌, map, filter, refl, sym, ap, ap₂, ◌∙◌, IsPermutation}
use Rattle.std.specs.List.{list_any, AllByRecursion}
use Rattle.std.proofs.lemmas.Bool.{cases_Bool, cond-true, cond-false}
use Rattle.std.proofs.lemmas.List.Sorted.{IsPermutation-map}
use Rattle.sqlite_keyed.proofs.ListLemmas.{filter-map, map-map, along_permutation}

pub filter_agree : {X : Type 0} (p q : X → Bool) → ((x : X) → p x ≡ q x) → (xs : List X) → filter p xs ≡ filter q xs
filter_agree p q same xs = λ i. filter (λ x. same x i) xs

pub map_agree : {X Y : Type 0} (f g : X → Y) → ((x : X) → f x ≡ g x) → (xs : List X) → map f xs ≡ map g xs
map_agree f g same xs = λ i. map (λ x. same x i) xs

pub any_agree : {X : Type 0} (p q : X → Bool) → ((x : X) → p x ≡ q x) → (xs : List X) → list_any p xs ≡ list_any q xs
any_agree p q same xs = λ i. list_any (λ x. same x i) xs

-- If editing a row never changes whether the row passes a test, editing all rows and then filtering
-- equals filtering and then editing.
pub filter_edited : {X : Type 0} (p : X → Bool) (f : X → X) → ((x : X) → p (f x) ≡ p x) → (xs : List X) → filter p (map f xs) ≡ map f (filter p xs)
filter_edited p f keeps xs = filter-map p f xs ∙ ap (map f) (filter_agree (λ x. p (f x)) p keeps xs)

fixed_step : {X : Type 0} (b : Bool) (p : X → Bool) (f : X → X) (x : X) (xs : List X) → p (f x) ≡ b → (b ≡ true → f x ≡ x) → filter p (map f xs) ≡ filter p xs
    → cond (p (f x)) (f x ∷ filter p (map f xs)) (filter p (map f xs)) ≡ cond b (x ∷ filter p xs) (filter p xs)
fixed_step true p f x xs e same more = cond-true _ _ _ e ∙ ap₂ ◌∷◌ (same refl) more
fixed_step false p f x xs e same more = cond-false _ _ _ e ∙ more

-- If editing a row never changes whether it passes a test, and leaves passing rows unchanged, the
-- rows that pass the test are the same after all rows were edited.
pub filter_spared : {X : Type 0} (p : X → Bool) (f : X → X) → ((x : X) → p (f x) ≡ p x) → ((x : X) → p x ≡ true → f x ≡ x) → (xs : List X) → filter p (map f xs) ≡ filter p xs
filter_spared p f keeps same [] = refl
filter_spared p f keeps same (x ∷ xs) = fixed_step (p x) p f x xs (keeps x) (same x) (filter_spared p f keeps same xs)

any_step : {X : Type 0} (b : Bool) (p q : X → Bool) (x : X) (xs : List X) → p x ≡ b → (q x ≡ true → p x ≡ true) → list_any q (filter p xs) ≡ list_any q xs
    → list_any q (cond b (x ∷ filter p xs) (filter p xs)) ≡ (q x || list_any q xs)
any_step true p q x xs e implies more = ap (λ b. q x || b) more
any_step false p q x xs e implies more =
    elim (cases_Bool (q x)) [
      | inl is ↦ absurd (let f : true ≡ false = sym (implies is) ∙ e in cc)
      | inr is ↦ more ∙ sym (ap (λ b. b || list_any q xs) is)
    ]

-- If every row that passes one test also passes a weaker test, filtering a list by the weaker test
-- does not change whether any row passes the first test.
pub any_filter : {X : Type 0} (p q : X → Bool) → ((x : X) → q x ≡ true → p x ≡ true) → (xs : List X) → list_any q (filter p xs) ≡ list_any q xs
any_filter p q implies [] = refl
any_filter p q implies (x ∷ xs) = any_step (p x) p q x xs refl (implies x) (any_filter p q implies xs)

any_turn : (a b c : Bool) → (a || (b || c)) ≡ (b || (a || c))
any_turn true true c = refl
any_turn true false c = refl
any_turn false b c = refl

pub any_permutation : {X : Type 0} (q : X → Bool) (xs ys : List X) → IsPermutation xs ys → list_any q xs ≡ list_any q ys
any_permutation q = along_permutation (λ xs ys. list_any q xs ≡ list_any q ys) (λ xs. refl) (λ x xs ys h. ap (λ b. q x || b) h)
    (λ x y xs. any_turn (q x) (q y) (list_any q xs)) (λ xs ys zs a b. a ∙ b)

pub any_map : {X Y : Type 0} (q : Y → Bool) (f : X → Y) (xs : List X) → list_any q (map f xs) ≡ list_any (λ x. q (f x)) xs
any_map q f [] = refl
any_map q f (x ∷ xs) = ap (λ b. q (f x) || b) (any_map q f xs)

all_step : {X : Type 0} (b : Bool) (P : X → Type 0) (p : X → Bool) (x : X) (xs : List X) → p x ≡ b → (p x ≡ false → P x) → AllByRecursion P (cond b (x ∷ filter p xs) (filter p xs))
    → (AllByRecursion P (filter p xs) → AllByRecursion P xs) → P x × AllByRecursion P xs
all_step true P p x xs e other h more = (h.0, more h.1)
all_step false P p x xs e other h more = (other e, more h)

-- If the rows that pass a test and the rows that fail the test all have a property, every row has
-- the property.
pub all_passing : {X : Type 0} (P : X → Type 0) (p : X → Bool) → ((x : X) → p x ≡ false → P x) → (xs : List X) → AllByRecursion P (filter p xs) → AllByRecursion P xs
all_passing P p other [] h = tt
all_passing P p other (x ∷ xs) h = all_step (p x) P p x xs refl (other x) h (all_passing P p other xs)
