-- If a counter advanced by `d` counts, less than a full turn of `range` counts, then `d` is the
-- difference of the counts that it showed, modulo `range`.
use Rattle.std.proofs.Common.{◌≡◌, ℕ, ◌+◌, ◌-◌, ◌*◌, ◌%◌, ◌<◌, ◌≤◌, true, false, nat_lt, if◌then◌else◌, ap, ◌∙◌, ◌⊎◌, inl, inr, arith}
use Rattle.std.proofs.Math.Nat.{mod-lt, mod-eq_of_lt, mod-eq-sub-mod, mod-add-mod, add-mod_right}
use Rattle.std.proofs.lemmas.Bool.{cases_lt}
use Rattle.std.proofs.lemmas.Bool.Decides.{nat_tests}
use Rattle.energy_core.specs.Verdict.{distance}

went_from : (range r d s : ℕ) → d < range → r < range → (s ≡ r + d) ⊎ (s + range ≡ r + d) → (s + range - r) % range ≡ d
went_from range r d s less small (inl e) =
    ap (λ x. x % range) (let f : s + range - r ≡ d + range = omega arith in f) ∙ add-mod_right d range ∙ mod-eq_of_lt less
went_from range r d s less small (inr e) =
    ap (λ x. x % range) (let f : s + range - r ≡ d = omega arith in f) ∙ mod-eq_of_lt less

wrapped : (range r d : ℕ) → d < range → r < range → ((r + d) % range ≡ r + d) ⊎ ((r + d) % range + range ≡ r + d)
wrapped range r d less small =
    elim (cases_lt (r + d) range) [
      | inl lt ↦ inl (mod-eq_of_lt lt)
      | inr ge ↦
          let e : (r + d) % range ≡ (r + d - range) % range = mod-eq-sub-mod ge in
          let below : r + d - range < range = omega arith in
          let f : (r + d - range) % range ≡ r + d - range = mod-eq_of_lt below in
          inr (omega arith)
    ]

-- The distance between two numbers that a counter shows is the true advance of the counter, if the
-- advance is less than a full turn.
pub distance-shown : (range a d : ℕ) → 0 < range → d < range → distance range (a % range) ((a + d) % range) ≡ d
distance-shown range a d pos less =
    rw (← mod-add-mod a range d) (went_from range (a % range) d ((a % range + d) % range) less (mod-lt a pos) (wrapped range (a % range) d less (mod-lt a pos)))

-- A shown count, plus one full turn if it is less than the count before, equals the count before
-- plus the counter's advance.
pub turned : (range from to : ℕ) → from < range → to < range
    → (from ≤ to + (if nat_lt to from then 1 else 0) * range)
    × (to + (if nat_lt to from then 1 else 0) * range ≡ from + distance range from to)
turned range from to f t =
    elim (cases_lt to from) [
      | inl lt ↦
          let e : nat_lt to from ≡ true = grind (arith, nat_tests) in
          let below : to + range - from < range = omega arith in
          let m : (to + range - from) % range ≡ to + range - from = mod-eq_of_lt below in
          rw (e, m) (omega arith, omega arith)
      | inr ge ↦
          let e : nat_lt to from ≡ false = grind (arith, nat_tests) in
          let split : to + range - from ≡ (to - from) + range = omega arith in
          let below : to - from < range = omega arith in
          let m : ((to - from) + range) % range ≡ to - from = add-mod_right (to - from) range ∙ mod-eq_of_lt below in
          rw (e, split, m) (omega arith, omega arith)
    ]
