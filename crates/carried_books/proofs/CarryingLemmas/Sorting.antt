-- The lemma that sorting openings (first entries of meters) by timestamp returns them in the order
-- of their timestamps.
use Rattle.std.proofs.Common.{◌≡◌, ℕ, ◌<◌, ◌≤◌, false, List, length, get_or, sym, ap, ◌∙◌, arith, Bor}
use Rattle.std.specs.Cmp.{nat_cmp_is}
use Rattle.std.specs.Fn.{Called, ComputesKey}
use Rattle.std.specs.List.Sorted.{IsSortedByKey}
use Rattle.std.specs.Ordering.{is_lt, nat_cmp}
use Rattle.std.specs.declared.cmp.Ordering.TheVariants.{Less}
use Rattle.std.proofs.lemmas.Bool.{false≢true}
use Rattle.std.proofs.lemmas.Cmp.{nat_cmp_total}
use Rattle.std.proofs.lemmas.Fn.{always_returns_same}
use Rattle.std.proofs.lemmas.List.Sorted.{ranks_by, sorted_far}
use Rattle.office_events.specs.declared.facts.Opening.{Opening}
use denote.Param.Members.{Mut}

not_lesser : (a b : ℕ) → is_lt (nat_cmp b a) ≡ false → a ≤ b
not_lesser a b not =
    let lesser : b < a → ⊥ = λ l. false≢true (sym not ∙ ap is_lt (sym (nat_cmp_is b a Less l))) in
    grind (arith, lesser)

pub in_order : {F : Type 0} {g : Mut F (Bor Opening × Unit {0}) ℕ} {f : F} (xs : List Opening)
    → ((key : Opening → ℕ) → ComputesKey g key f → IsSortedByKey key nat_cmp xs)
    → ((a : Bor Opening × Unit {0}) (r : ℕ) (f' : F) → Called g f a r f' → (r ≡ a.0.now.at) × (f' ≡ f))
    → (i j : ℕ) (d : Opening) → i < j → j < length xs → (get_or xs i d).at ≤ (get_or xs j d).at
in_order {g = g} {f = f} xs up h i j d below within =
    let key : Opening → ℕ = λ opening. opening.at in
    not_lesser (get_or xs i d).at (get_or xs j d).at
    (sorted_far (λ (x y : Opening). is_lt (nat_cmp (key x) (key y))) (ranks_by nat_cmp_total key) xs
    (up key (always_returns_same g (λ a r. r ≡ key a.0.now) f h)) i j d (omega (arith, below)) within)
