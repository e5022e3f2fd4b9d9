-- Proofs that an edit of one table leaves the other tables unchanged.
use Rattle.std.proofs.Common.{◌≡◌, ◌≢◌, inl, inr, ℕ, ◌==◌, true, false, List, [], ◌∷◌, map, refl, sym, subst, ap, arith, zero, suc, slice_get, Some}
use Rattle.std.specs.List.{AllByRecursion}
use Rattle.std.specs.List.Sorted.{IsPermutation}
use Rattle.std.proofs.lemmas.Bool.{cases_Bool}
use Rattle.std.proofs.lemmas.Bool.Decides.{nat_tests}
use Rattle.sqlite.specs.Order.{Row}
use Rattle.sqlite.specs.Tree.{Trees}
use Rattle.sqlite.specs.Table.{Table}
use Rattle.sqlite.specs.Schema.{Schema}
use Rattle.store_tables.specs.Content.{HasTree, Content, is_numbered, reported, with_rows, AreApart}

pub frame : (tables : List Table) (k : ℕ) (db next : Trees) → AllByRecursion (λ t. t.tree ≢ k → next t.tree ≡ db t.tree) tables → (t : ℕ) → HasTree tables t → t ≢ k → next t ≡ db t
frame [] k db next all t has apart = absurd has
frame (x ∷ tables) k db next all t (inl is) apart = subst (λ n. n ≢ k → next n ≡ db n) (sym is) all.0 apart
frame (x ∷ tables) k db next all t (inr more) apart = frame tables k db next all.1 t more apart

same : (t k : ℕ) → (t == k) ≡ true → t ≡ k
same t k e = grind (arith, nat_tests)

other : (t k : ℕ) → (t == k) ≡ false → t ≢ k
other t k e is = grind (arith, nat_tests)

abbrev pub Reported : Trees → Content → ℕ → Type 0
Reported db content t = IsPermutation (map (reported (is_numbered t)) (db t)) (content t)

module _ (schema : Schema) where
  pub framed : (k : ℕ) (db next : Trees) (rows : List Row) (content : Content) → ((t : ℕ) → HasTree schema.tables t → t ≢ k → next t ≡ db t) → IsPermutation (map (reported (is_numbered k)) (next k)) rows
      → ((t : ℕ) → HasTree schema.tables t → Reported db content t) → (t : ℕ) → HasTree schema.tables t → Reported next (with_rows k rows content) t
  framed k db next rows content stay here has t there = elim (cases_Bool (t == k)) [
    | inl is ↦ rw is (subst (λ n. IsPermutation (map (reported (is_numbered n)) (next n)) rows) (sym (same t k is)) here)
    | inr off ↦ rw off (subst (λ (rs : List Row). IsPermutation (map (reported (is_numbered t)) rs) (content t)) (sym (stay t there (other t k off))) (has t there))
  ]

  pub framed_apart : (k : ℕ) (db next : Trees) → ((t : ℕ) → HasTree schema.tables t → t ≢ k → next t ≡ db t) → AreApart (next k) → ((t : ℕ) → HasTree schema.tables t → AreApart (db t)) → (t : ℕ) → HasTree schema.tables t → AreApart (next t)
  framed_apart k db next stay here has t there = elim (cases_Bool (t == k)) [
    | inl is ↦ subst (λ n. AreApart (next n)) (sym (same t k is)) here
    | inr off ↦ subst AreApart (sym (stay t there (other t k off))) (has t there)
  ]

pub with_here : (k : ℕ) (rows : List Row) (content : Content) → with_rows k rows content k ≡ rows
with_here k rows content = elim (cases_Bool (k == k)) [
  | inl is ↦ rw is refl
  | inr off ↦ absurd (other k k off refl)
]

pub with_others : (k : ℕ) (rows : List Row) (content : Content) (t : ℕ) → t ≢ k → with_rows k rows content t ≡ content t
with_others k rows content t off = elim (cases_Bool (t == k)) [
  | inl is ↦ absurd (off (same t k is))
  | inr away ↦ rw away refl
]

pub tree_at : (tables : List Table) (at : ℕ) (t : Table) → slice_get tables at ≡ Some t → HasTree tables t.tree
tree_at [] at t e = absurd (let f = e in cc)
tree_at (x ∷ tables) zero t e = inl (ap (λ (t : Table). t.tree) (let f : t ≡ x = cc in f))
tree_at (x ∷ tables) (suc at) t e = inr (tree_at tables at t e)
