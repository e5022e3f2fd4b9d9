-- Lemmas about lookups by name in lists of devices, accounting registers (named energy counters)
-- and meters: if the names are distinct, a lookup finds the one element with the name.
use Rattle.std.proofs.Common.{◌≡◌, ◌≢◌, ℕ, ◌<◌, Bool, true, false, cond, ◌||◌, List, [], ◌∷◌, map, refl, sym, ap, subst, ◌∙◌, inl, inr, Option, Some, None, arith}
use Rattle.std.specs.List.{find, list_any, All, AllPairs}
use Rattle.std.specs.Option.{is_some}
use Rattle.std.proofs.lemmas.Bool.{cases_Bool, cond-true, cond-false, false≢true}
use Rattle.std.proofs.lemmas.Bool.Decides.{same_from_decides, Decides-like}
use Rattle.std.proofs.lemmas.List.Elements.{All-nil, All-cons, All-weaker}
use Rattle.std.proofs.lemmas.List.Kept.{AllPairs-cons}
use Rattle.std.proofs.lemmas.Slice.Eq.{bytes_eq-Decides}
use Rattle.office_books.specs.Facts.{same}

-- If two names compare as equal, then they have the same bytes.
pub same_text : (a b : List ℕ) → same a b ≡ true → a ≡ b
same_text a b h = (bytes_eq-Decides a b).0 h

pub same_itself : (a : List ℕ) → same a a ≡ true
same_itself a = (bytes_eq-Decides a a).1 refl

pub same_turned : (a b : List ℕ) → same a b ≡ same b a
same_turned a b =
    same_from_decides (same a b) (same b a) (bytes_eq-Decides a b)
    (Decides-like (same b a) (λ e. sym e) (λ e. sym e) (bytes_eq-Decides b a))

pub none_from_is_some : {X : Type 0} (o : Option X) → is_some o ≡ false → o ≡ None
none_from_is_some None h = refl
none_from_is_some (Some x) h = absurd (cc)

pub none_parts : {X : Type 0} (b : Bool) (x : X) (o : Option X) → cond b (Some x) o ≡ None → (b ≡ false) × (o ≡ None)
none_parts true x o h = absurd (cc)
none_parts false x o h = (refl, h)

-- If a search by a predicate in a list finds nothing, then the first element does not satisfy the
-- predicate. A search in the remaining elements finds nothing either.
pub find_none : {X : Type 0} (p : X → Bool) (x : X) (xs : List X) → find p (x ∷ xs) ≡ None → (p x ≡ false) × (find p xs ≡ None)
find_none p x xs h = none_parts (p x) x (find p xs) h

passes_step : {X : Type 0} (p : X → Bool) (b : Bool) (y x : X) (o : Option X) → p y ≡ b → (o ≡ Some x → p x ≡ true)
    → cond b (Some y) o ≡ Some x → p x ≡ true
passes_step p true y x o e later h = let same_one : y ≡ x = cc in ap p (sym same_one) ∙ e
passes_step p false y x o e later h = later h

-- If a search by a predicate finds an element, then the element satisfies the predicate.
pub find_passes : {X : Type 0} (p : X → Bool) (xs : List X) (x : X) → find p xs ≡ Some x → p x ≡ true
find_passes p [] x h = absurd (cc)
find_passes p (y ∷ ys) x h = passes_step p (p y) y x (find p ys) refl (find_passes p ys x) h

some_step : {X : Type 0} (b : Bool) (x : X) (o : Option X) → is_some (cond b (Some x) o) ≡ (b || is_some o)
some_step true x o = refl
some_step false x o = refl

pub is_some-find : {X : Type 0} (p : X → Bool) (xs : List X) → is_some (find p xs) ≡ list_any p xs
is_some-find p [] = refl
is_some-find p (x ∷ xs) = some_step (p x) x (find p xs) ∙ ap (λ b. p x || b) (is_some-find p xs)

pub list_any-map : {X Y : Type 0} (p : Y → Bool) (f : X → Y) (xs : List X) → list_any p (map f xs) ≡ list_any (λ x. p (f x)) xs
list_any-map p f [] = refl
list_any-map p f (x ∷ xs) = ap (λ b. p (f x) || b) (list_any-map p f xs)

pub list_any-agree : {X : Type 0} (p q : X → Bool) (xs : List X) → ((x : X) → p x ≡ q x) → list_any p xs ≡ list_any q xs
list_any-agree p q [] h = refl
list_any-agree p q (x ∷ xs) h =
    ap (λ b. b || list_any p xs) (h x) ∙ ap (λ b. q x || b) (list_any-agree p q xs h)

-- True if the names of a list are distinct, so no later element has the name of an earlier element.
abbrev pub AreApart : {X : Type 0} → (X → List ℕ) → List X → Type 0
AreApart name [] = Unit {0}
AreApart name (x ∷ xs) = (find (λ y. same (name y) (name x)) xs ≡ None) × AreApart name xs

found_step : {X : Type 0} (name : X → List ℕ) (b : Bool) (y x : X) (xs : List X) (o : Option X)
    → find (λ z. same (name z) (name y)) xs ≡ None
    → (o ≡ Some x → find (λ z. same (name z) (name x)) xs ≡ Some x)
    → cond b (Some y) o ≡ Some x
    → cond (same (name y) (name x)) (Some y) (find (λ z. same (name z) (name x)) xs) ≡ Some x
found_step name true y x xs o none later h =
    let e : y ≡ x = cc in
    cond-true _ _ _ (ap (λ z. same (name y) (name z)) (sym e) ∙ same_itself (name y)) ∙ h
found_step name false y x xs o none later h =
    elim (cases_Bool (same (name y) (name x))) [
      | inl same_name ↦
          let e : name y ≡ name x = same_text (name y) (name x) same_name in
          let n : find (λ z. same (name z) (name x)) xs ≡ None = subst (λ (t : List ℕ). find (λ z. same (name z) t) xs ≡ None) e none in
          let s : find (λ z. same (name z) (name x)) xs ≡ Some x = later h in
          absurd (let f : None ≡ Some x = sym n ∙ s in cc)
      | inr other ↦ cond-false _ _ _ other ∙ later h
    ]

-- Suppose that the names of a list are distinct, and a search by some predicate finds an element.
-- Then a search by the element's name finds the same element.
pub found_by_name : {X : Type 0} (name : X → List ℕ) (p : X → Bool) (xs : List X) (x : X) → AreApart name xs
    → find p xs ≡ Some x → find (λ y. same (name y) (name x)) xs ≡ Some x
found_by_name name p [] x apart h = absurd (cc)
found_by_name name p (y ∷ ys) x apart h =
    found_step name (p y) y x ys (find p ys) apart.0 (found_by_name name p ys x apart.1) h

apart_step : {X : Type 0} (name : X → List ℕ) (x y : X) (xs : List X) → find (λ z. same (name z) (name x)) xs ≡ None
    → find (λ z. same (name z) (name y)) xs ≡ Some y
    → cond (same (name x) (name y)) (Some x) (find (λ z. same (name z) (name y)) xs) ≡ Some y
apart_step name x y xs none found =
    elim (cases_Bool (same (name x) (name y))) [
      | inl same_name ↦
          let e : name x ≡ name y = same_text (name x) (name y) same_name in
          let n : find (λ z. same (name z) (name y)) xs ≡ None = subst (λ (t : List ℕ). find (λ z. same (name z) t) xs ≡ None) e none in
          absurd (let f : None ≡ Some y = sym n ∙ found in cc)
      | inr other ↦ cond-false _ _ _ other ∙ found
    ]

-- If the names of a list are distinct, then a search by name finds each element of the list.
pub each_found : {X : Type 0} (name : X → List ℕ) (xs : List X) → AreApart name xs
    → All (λ (x : X). find (λ y. same (name y) (name x)) xs ≡ Some x) xs
each_found {X} name [] apart = All-nil (λ (x : X). find (λ y. same (name y) (name x)) [] ≡ Some x)
each_found {X} name (x ∷ xs) apart =
    All-cons (λ (y : X). find (λ z. same (name z) (name y)) (x ∷ xs) ≡ Some y) x xs
    (cond-true _ _ _ (same_itself (name x)))
    (All-weaker (λ (y : X). find (λ z. same (name z) (name y)) xs ≡ Some y) (λ (y : X). find (λ z. same (name z) (name y)) (x ∷ xs) ≡ Some y)
    (λ y found. apart_step name x y xs apart.0 found) xs (each_found name xs apart.1))

others_differ : {X : Type 0} (name : X → List ℕ) (x : X) (xs : List X) → find (λ z. same (name z) (name x)) xs ≡ None
    → All (λ (y : X). name x ≢ name y) xs
others_differ {X} name x [] none = All-nil (λ (y : X). name x ≢ name y)
others_differ {X} name x (y ∷ ys) none =
    let parts = find_none (λ (z : X). same (name z) (name x)) y ys none in
    All-cons (λ (z : X). name x ≢ name z) y ys
    (λ e. false≢true (sym parts.0 ∙ (bytes_eq-Decides (name y) (name x)).1 (sym e)))
    (others_differ name x ys parts.1)

-- If the names of a list are distinct, then no two elements of the list have the same name.
pub all_differ : {X : Type 0} (name : X → List ℕ) (xs : List X) → AreApart name xs → AllPairs (λ (a b : X). name a ≢ name b) xs
all_differ name [] apart = λ i j d before inside. absurd (let none : j < 0 = inside in omega arith)
all_differ {X} name (x ∷ xs) apart =
    AllPairs-cons (λ (a b : X). name a ≢ name b) x xs (others_differ name x xs apart.0) (all_differ name xs apart.1)
