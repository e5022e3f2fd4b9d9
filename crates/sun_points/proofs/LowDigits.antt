-- Lemmas that a loop, which sets the digits of a list from the last digit to the first, computes
-- the lowest digits of a number.
use Rattle.std.proofs.Common.{◌≡◌, ℕ, ◌+◌, ◌-◌, ◌/◌, ◌%◌, ◌^◌, ◌<◌, false, List, ◌∷◌, length, drop, set, refl, ◌∙◌, ap, arith, add-one, pow-suc}
use Rattle.std.proofs.Math.Nat.{div-div-eq-div-mul}
use Rattle.std.specs.Fmt.{digit_glyph}
use Rattle.std.proofs.lemmas.Grind.{drop-set_at}
use Rattle.sun_points.specs.Decimal.{low_digits}

-- Let the last `k` digits of a list be the `k` lowest digits of a number. If the digit before them
-- is set to the number's next digit, the last `k + 1` digits are the `k + 1` lowest digits.
pub drop-set_digit : (base : ℕ) (digits : List ℕ) (count place n : ℕ) → place < count → length digits ≡ count →
    drop (count - place) digits ≡ low_digits base place n →
    drop (count - (place + 1)) (set digits (count - 1 - place) (digit_glyph false (n / base ^ place % base))) ≡ low_digits base (place + 1) n
drop-set_digit base digits count place n in_range size lower =
    let digit : ℕ = digit_glyph false (n / base ^ place % base) in
    let next : count - 1 - place + 1 ≡ count - place = omega arith in
    drop-set_at digits (count - 1 - place) (count - (place + 1)) digit (omega arith) (omega arith)
    ∙ rw next (ap (λ (ds : List ℕ). digit ∷ ds) lower ∙ rw add-one refl)

pub quotient_next : (base place n : ℕ) → n / base ^ place / base ≡ n / base ^ (place + 1)
quotient_next base place n = div-div-eq-div-mul n (base ^ place) base ∙ rw (add-one, pow-suc) refl
