-- Lemmas on the count of reads of the link to the device. The count stops rising at its greatest
-- value.
use Rattle.std.proofs.Common.{◌≡◌, ℕ, ◌+◌, ◌-◌, ◌^◌, ◌<◌, ◌≤◌, min, true, sym, subst, arith}
use Rattle.mb_wire.specs.Links.{risen}

-- A read of the link to the device raises the count of these reads by at most one.
pub risen_most : (n m : ℕ) → m ≡ risen true n → m ≤ n + 1
risen_most n m is = omega (arith, is)

-- States how a count of reads of the link to the device changes from `old` to `new` in `turns`
-- turns of one read each. If `old` is below the greatest value, the count does not fall, and it
-- rises if there was a turn.
abbrev pub Grows : (old new turns : ℕ) → Type 0
Grows old new turns = old < 2 ^ 64 - 1 → (old ≤ new) × (new ≤ 2 ^ 64 - 1) × (0 < turns → old < new)

pub grows_begun : (n : ℕ) → Grows n n 0
grows_begun n = λ small. (omega arith, omega (arith, small), λ some. absurd (omega (arith, some)))

pub grows_more : (old now new turns : ℕ) → Grows old now turns → new ≡ risen true now → Grows old new (turns + 1)
grows_more old now new turns before is = λ small.
    let b = before small in
    (omega (arith, is, b.0, b.1, small), omega (arith, is), λ some. omega (arith, is, b.0, b.1, small))
