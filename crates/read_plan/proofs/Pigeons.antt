-- Proves the pigeonhole principle: if each of `n` numbers has its own element of a list, the list
-- has at least `n` elements.
use Rattle.std.proofs.Common.{◌≡◌, ◌≢◌, ◌∙◌, ℕ, zero, suc, ◌+◌, ◌-◌, ◌<◌, ◌≤◌, List, length, get_or, sym, ap, arith, inl, inr, subst}
use Rattle.std.specs.List.{Any, remove}
use Rattle.std.proofs.lemmas.Bool.{cases_lt}
use Rattle.std.proofs.lemmas.List.{get_or_default}
use Rattle.std.proofs.lemmas.List.Edits.{get_or-remove_above, get_or-remove_below, length-remove}

-- If an element at another index than `i` has a property, then some element still has the property
-- after element `i` is removed.
any-remove : {Y : Type 0} (P : Y → Type 0) (ys : List Y) (i : ℕ) → i < length ys → (w : Any P ys) → w.0 ≢ i → Any P (remove ys i)
any-remove P ys i l w ne =
    let one = length-remove ys i l in
    elim (cases_lt w.0 i) [
      | inl below ↦ (w.0, w.1, omega (arith, one, below, l), get_or-remove_below ys i w.1 w.0 below l ∙ w.3, w.4)
      | inr above ↦
          let ne' : w.0 ≢ i = ne in
          let more : (w.0 - 1) + 1 ≡ w.0 = omega (arith, above, ne') in
          let high : i ≤ w.0 - 1 = omega (arith, above, ne') in
          let below : w.0 < length ys = w.2 in (
            w.0 - 1,
            w.1,
            omega (arith, one, more, below),
            get_or-remove_above ys i w.1 (w.0 - 1) high l ∙ ap (λ (n : ℕ). get_or ys n w.1) more ∙ w.3,
            w.4,
          )
    ]

pub pigeonhole : {Y : Type 0} (n : ℕ) (H : ℕ → Y → Type 0) (ys : List Y) → ((k : ℕ) → k < n → Any (H k) ys)
    → ((j k : ℕ) (y : Y) → j < k → k < n → H j y → H k y → ⊥) → n ≤ length ys
pigeonhole zero H ys some apart = omega arith
pigeonhole {Y} (suc n) H ys some apart =
    let own = some n (omega arith) in
    let i = own.0 in
    let one = length-remove ys i own.2 in
    let rest : n ≤ length (remove ys i) =
    pigeonhole n H (remove ys i)
    (λ k h.
    let w = some k (omega (arith, h)) in
    any-remove (H k) ys i own.2 w (λ e.
    let same : own.1 ≡ w.1 = sym own.3 ∙ get_or_default ys i own.1 w.1 own.2 ∙ ap (λ (m : ℕ). get_or ys m w.1) (sym e) ∙ w.3 in
    apart k n w.1 h (omega arith) w.4 (let P : Y → Type 0 = λ y. H n y in subst P same own.4)))
    (λ j k y l h. apart j k y l (omega (arith, h))) in
    omega (arith, one, rest)
