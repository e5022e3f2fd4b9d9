-- Lemmas: after one more record is added to a store, the updated table of record indices by key has
-- the content that follows from the store's records.
use Rattle.std.proofs.Common.{◌≡◌, ℕ, cond, List, [], ◌∷◌, ◌++◌, reverse, length, Some, sym, ap, ◌∙◌, inl, inr, Result, Ok, Err, OnOk, OnErr}
use Rattle.std.specs.BTreeMap.{BTreeMap, get, get_by}
use Rattle.std.specs.declared.vec.Vec.{Vec}
use Rattle.std.specs.Ordering.{is_eq}
use Rattle.std.proofs.lemmas.Bool.{cases_Bool, cond-true, cond-false}
use Rattle.office_events.specs.declared.facts.Fact.{Fact}
use Rattle.office_books.proofs.Lists.{reverse_cons}
use Rattle.memory_books.specs.declared.tables.keys.Key.{Key}
use Rattle.memory_books.specs.declared.tables.places.Kind.{Kind}
use Rattle.memory_books.specs.Tables.Keys.{key_cmp, is_same_key}
use Rattle.memory_books.specs.Tables.Places.{key_in, is_key, has_key, places_of, under}
use Rattle.memory_books.proofs.TablesLemmas.SameKeys.{is_eq-key_cmp, one_key}

-- Suppose that a new record's index is appended to the table's list for the record's key, and to no
-- other list. Then the table has the content that follows from the records.
pub place_comes : (kind : Kind) (known : List Fact) (f : Fact) (key : Key) (place : ℕ) (before after : Key → List ℕ) → length known ≡ place → key_in kind f ≡ Some key
    → ((other : Key) → before other ≡ reverse (places_of (has_key kind other) known))
    → ((other : Key) → after other ≡ cond (is_eq (key_cmp key other)) (before key ++ place ∷ []) (before other))
    → (other : Key) → after other ≡ reverse (places_of (has_key kind other) (f ∷ known))
place_comes kind known f key place before after long own says adds other =
    let places : List ℕ = places_of (has_key kind other) known in
    let has : has_key kind other f ≡ is_same_key key other = ap (is_key other) own in
    let test : is_eq (key_cmp key other) ≡ is_same_key key other = is_eq-key_cmp key other in
    elim (cases_Bool (is_same_key key other)) [
      | inl e ↦
          adds other ∙ cond-true _ _ _ (test ∙ e)
          ∙ ap (λ (ns : List ℕ). ns ++ place ∷ []) (ap before (one_key key other e) ∙ says other)
          ∙ ap (λ (n : ℕ). reverse places ++ n ∷ []) (sym long)
          ∙ sym (ap reverse (cond-true _ _ _ (has ∙ e)) ∙ reverse_cons (length known) places)
      | inr e ↦
          adds other ∙ cond-false _ _ _ (test ∙ e) ∙ says other
          ∙ sym (ap reverse (cond-false _ _ _ (has ∙ e)))
    ]

-- If the list of indices that a map stores for one key is replaced by an equal list, then the map
-- has the same list for each key as before.
pub kept_under : {Z : Type 0} (old new : BTreeMap Key (Vec ℕ Z)) (key : Key) (w v : Vec ℕ Z) → get_by (key_cmp key) old ≡ Some v → w.items ≡ v.items
    → ((q : Key) → get key_cmp new q ≡ cond (is_eq (key_cmp key q)) (Some w) (get key_cmp old q))
    → (other : Key) → under (get key_cmp new other) ≡ under (get key_cmp old other)
kept_under old new key w v there same updates other =
    elim (cases_Bool (is_same_key key other)) [
      | inl e ↦
          ap under (updates other ∙ cond-true _ _ _ (is_eq-key_cmp key other ∙ e)) ∙ same
          ∙ sym (ap (λ (k : Key). under (get key_cmp old k)) (sym (one_key key other e)) ∙ ap under there)
      | inr e ↦ ap under (updates other ∙ cond-false _ _ _ (is_eq-key_cmp key other ∙ e))
    ]

-- If the property P holds whenever a call returns `Ok`, and P implies Q, then Q holds whenever the
-- call returns `Ok`.
pub on_ok_then : {T E P Q : Type 0} (r : Result T E) → (P → Q) → OnOk r P → OnOk r Q
on_ok_then (Ok x) f h = f h
on_ok_then (Err e) f h = tt

pub on_err_then : {T E P Q : Type 0} (r : Result T E) → (P → Q) → OnErr r P → OnErr r Q
on_err_then (Ok x) f h = tt
on_err_then (Err e) f h = f h

pub on_err_of : {T E P : Type 0} (r : Result T E) → P → OnErr r P
on_err_of (Ok x) h = tt
on_err_of (Err e) h = h
