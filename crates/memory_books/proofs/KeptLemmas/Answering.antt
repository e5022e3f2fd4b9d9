-- Lemmas about a cache of lookup results by name: which results change when a result is added or
-- removed, and which properties the results keep.
use Rattle.std.proofs.Common.{◌≡◌, ◌⊎◌, inl, inr, ℕ, false, List, Option, Some, None, sym, ap, subst, ◌∙◌, Result, Ok, Err, OnOk, OnErr, IfSome}
use Rattle.std.specs.BTreeMap.{BTreeMap, get, Updates, IsUnchanged, is_at}
use Rattle.std.specs.Map.{lookup}
use Rattle.std.specs.Ordering.{is_eq}
use Rattle.std.proofs.lemmas.Bool.{cases_Bool, cond-true}
use Rattle.std.proofs.lemmas.Map.Text.{is_eq-slice_cmp}
use Rattle.office_books.specs.Facts.{same}
use Rattle.office_books.proofs.Lookups.{same_text}
use Rattle.memory_books.specs.declared.kept.keys.Key.{Key}
use Rattle.memory_books.specs.declared.kept.answers.Answers.{Answers}
use Rattle.memory_books.specs.Kept.Answers.{key_cmp, answer_to, EachIs, MayAnswer, Forgets}

abbrev pub named : List ℕ → Key
named name = record { name = name }

-- Two keys of a cache of lookup results are equal if and only if their names are equal.
pub is_eq-key_cmp : (a b : Key) → is_eq (key_cmp a b) ≡ same a.name b.name
is_eq-key_cmp a b = is_eq-slice_cmp a.name b.name

-- If two names differ, then their keys in a cache of lookup results differ.
pub other_key : (name other : List ℕ) → same name other ≡ false → is_eq (key_cmp (named name) (named other)) ≡ false
other_key name other apart = is_eq-slice_cmp name other ∙ apart

inserted : {T : Type 0} (old new : BTreeMap Key T) (name other : List ℕ) (x : T) → Updates key_cmp old new (named name) (Some x)
    → (get key_cmp new (named other) ≡ get key_cmp old (named other)) ⊎ ((other ≡ name) × (get key_cmp new (named other) ≡ Some x))
inserted old new name other x updates =
    elim (cases_Bool (same name other)) [
      | inl e ↦ inr (sym (same_text name other e), updates.0 (named other) ∙ cond-true _ _ _ (is_eq-key_cmp (named name) (named other) ∙ e))
      | inr apart ↦ inl (updates.2 (named other) (is_eq-key_cmp (named name) (named other) ∙ apart))
    ]

-- After a lookup result is cached for a name, at most the cached result for this name has changed,
-- even if memory ran out.
pub write_in : {T E : Type 0} (r : Result (Option T) E) (old new : BTreeMap Key T) (name : List ℕ) (x : T)
    → OnOk r (Updates key_cmp old new (named name) (Some x)) → OnErr r (IsUnchanged old new) → (other : List ℕ)
    → (get key_cmp new (named other) ≡ get key_cmp old (named other)) ⊎ ((other ≡ name) × (get key_cmp new (named other) ≡ Some x))
write_in (Ok was) old new name x ok err other = inserted old new name other x ok
write_in {T = T} (Err e) old new name x ok err other = inl (ap (λ (es : List (Key × T)). lookup (is_at (key_cmp (named other))) es) err)

pub none_and_some : {T P : Type 0} (o : Option T) (x : T) → o ≡ None → o ≡ Some x → P
none_and_some o x n s = absurd (let e : None ≡ Some x = sym n ∙ s in cc)

-- If a cache of lookup results is empty, then every property holds for all of its results.
pub none_kept : {T : Type 0} (so : List ℕ → T → Type 0) (answers : Answers T) → ((name : List ℕ) → answer_to answers name ≡ None) → EachIs so answers
none_kept so answers none name x is = none_and_some (answer_to answers name) x (none name) is

-- If a result is still cached after another name's result was removed, then the result was also
-- cached before the removal.
pub forgot : {T : Type 0} (old new : Answers T) (name : List ℕ) → Forgets name old new → (other : List ℕ) (x : T) → answer_to new other ≡ Some x
    → (same name other ≡ false) × (answer_to old other ≡ Some x)
forgot old new name forgets other x is =
    elim (cases_Bool (same name other)) [
      | inl e ↦ none_and_some (answer_to new other) x (subst (λ (n : List ℕ). answer_to new n ≡ None) (same_text name other e) forgets.gone) is
      | inr apart ↦ (apart, sym (forgets.others other apart) ∙ is)
    ]

pub some_one : {T : Type 0} (x y : T) → Some x ≡ Some y → x ≡ y
some_one x y is = cc

pub some_so : {T : Type 0} (so : T → Type 0) (o : Option T) (x : T) → o ≡ Some x → IfSome o so → so x
some_so so o x is h = subst (λ (p : Option _). IfSome p so) is h

-- If a lookup copies a cached result, then the copy equals the cached result.
pub same_found : {T : Type 0} (said found : Option T) (x copy : T) → found ≡ said → found ≡ Some x → copy ≡ x → said ≡ Some copy
same_found said found x copy is there same_one = cc

-- If a property holds for all results of lookups that a store's cache contains, then it still holds
-- after another result with this property is added to the cache.
pub kept_too : {T : Type 0} (so : List ℕ → T → Type 0) (old new : Answers T) (name : List ℕ) (y : T) → MayAnswer name y old new → so name y
    → EachIs so old → EachIs so new
kept_too {T} so old new name y may there are other x is =
    elim (may other) [
      | inl as_it_was ↦ are other x (sym as_it_was ∙ is)
      | inr this ↦ subst (λ (n : List ℕ). so n x) (sym this.0) (subst (so name) (some_one y x (sym this.1 ∙ is)) there)
    ]

-- Suppose that one property of a cached result implies a second property. If all results of an
-- unchanged cache have the first property, then all have the second.
pub each_same : {T : Type 0} (so now : List ℕ → T → Type 0) (old new : Answers T) → new ≡ old → ((name : List ℕ) (x : T) → so name x → now name x)
    → EachIs so old → EachIs now new
each_same {T} so now old new same_one go are name x is =
    go name x (are name x (sym (ap (λ (a : Answers T). answer_to a name) same_one) ∙ is))

-- Suppose that one property of a cached result implies a second property. If all results have the
-- first property, then the results that remain after a removal have the second.
pub each_left : {T : Type 0} (so now : List ℕ → T → Type 0) (old new : Answers T) (name : List ℕ) → Forgets name old new
    → ((other : List ℕ) (x : T) → same name other ≡ false → so other x → now other x) → EachIs so old → EachIs now new
each_left so now old new name forgets go are other x is =
    let left = forgot old new name forgets other x is in
    go other x left.0 (are other x left.1)
