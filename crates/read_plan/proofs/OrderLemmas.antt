-- Lemmas on the order of register ranges by function, area number (no read has registers of two
-- areas) and register. The order is total, and in a sorted list no range is less than an earlier
-- one.
use Rattle.std.proofs.Common.{◌≡◌, ℕ, ◌<◌, ◌⊎◌, true, false, List, length, get_or, sym, refl, arith, inl, inr, Bor, Ordering}
use Rattle.std.specs.Cmp.{IsTotalOrder, nat_cmp_is}
use Rattle.std.specs.Fn.{Called, ComputesKey}
use Rattle.std.specs.List.Sorted.{IsSortedByKey}
use Rattle.std.specs.Ordering.{is_lt, nat_cmp, ordering_then}
use Rattle.std.specs.declared.cmp.Ordering.TheVariants.{Less, Equal}
use Rattle.std.proofs.lemmas.Cmp.{nat_cmp_total, on_total, then_total}
use Rattle.std.proofs.lemmas.Fn.{always_returns_same}
use Rattle.std.proofs.lemmas.List.Sorted.{ranks_by, sorted_far}
use Rattle.read_plan.specs.declared.run.Run.{Run}
use Rattle.mb_wire.specs.Spans.{code_of}
use denote.Param.Members.{Mut}

abbrev pub Key : Type 0
Key = ℕ × ℕ × ℕ

-- The lexicographic comparison of two keys, each of three numbers.
abbrev pub key_cmp : Key → Key → Ordering
key_cmp x y = ordering_then (ordering_then (nat_cmp x.0 y.0) (nat_cmp x.1 y.1)) (nat_cmp x.2 y.2)

key_cmp-total : IsTotalOrder key_cmp
key_cmp-total =
    then_total (then_total (on_total (λ (t : Key). t.0) nat_cmp_total) (on_total (λ (t : Key). t.1) nat_cmp_total)) (on_total (λ (t : Key). t.2) nat_cmp_total)

abbrev pub key_of : (Run → ℕ) → Run → Key
key_of register run = (code_of run.function, run.area, register run)

-- Suppose that a list of register ranges is sorted by function, area number and a register. Then a
-- range of the list is never less than a range with a smaller index. (No read has registers of two
-- areas.)
pub sorted-far : (register : Run → ℕ) {F : Type 0} {g : Mut F (Bor Run × Unit {0}) Key} {f : F} (xs : List Run)
    → ((key : Run → Key) → ComputesKey g key f → IsSortedByKey key key_cmp xs)
    → ((a : Bor Run × Unit {0}) (r : Key) (f' : F) → Called g f a r f' → (r ≡ key_of register a.0.now) × (f' ≡ f))
    → (i j : ℕ) (d : Run) → i < j → j < length xs → is_lt (key_cmp (key_of register (get_or xs j d)) (key_of register (get_or xs i d))) ≡ false
sorted-far register {g = g} {f = f} xs up h i j d below within =
    let key = key_of register in
    sorted_far (λ x y. is_lt (key_cmp (key x) (key y))) (ranks_by key_cmp-total key) xs
    (up key (always_returns_same g (λ a r. r ≡ key a.0.now) f h)) i j d (omega (arith, below)) within

nat_cmp-less : (a b : ℕ) → a < b → nat_cmp a b ≡ Less
nat_cmp-less a b l = sym (nat_cmp_is a b Less l)

nat_cmp-same : (a b : ℕ) → a ≡ b → nat_cmp a b ≡ Equal
nat_cmp-same a b e = sym (nat_cmp_is a b Equal e)

-- Register ranges are compared by a key of three numbers: function, area number (no read has
-- registers of two areas), register. A key is less than another if it has the smaller number where
-- the keys first differ.
pub key_cmp-less : (a b : Key) → (a.0 < b.0) ⊎ ((a.0 ≡ b.0) × (a.1 < b.1)) ⊎ ((a.0 ≡ b.0) × (a.1 ≡ b.1) × (a.2 < b.2)) → is_lt (key_cmp a b) ≡ true
key_cmp-less a b (inl l) = rw (nat_cmp-less a.0 b.0 l) refl
key_cmp-less a b (inr (inl h)) = rw (nat_cmp-same a.0 b.0 h.0, nat_cmp-less a.1 b.1 h.1) refl
key_cmp-less a b (inr (inr h)) = rw (nat_cmp-same a.0 b.0 h.0, nat_cmp-same a.1 b.1 h.1, nat_cmp-less a.2 b.2 h.2) refl
