-- Lemmas that appending zeros to the decimal text of a number multiplies the number by a power of
-- ten.
use Rattle.std.proofs.Common.{◌≡◌, ℕ, zero, suc, ◌+◌, ◌*◌, ◌/◌, ◌%◌, ◌^◌, ◌<◌, ◌≤◌, List, [], ◌∷◌, ◌++◌, take, replicate, sym, ◌∙◌, ap, arith, append_assoc, append-nil, mul-one, pow-suc, lt_of_le_of_lt, le-mul_of_pos_right, lit<, le_of_lt, mul-le-mul}
use Rattle.std.proofs.Math.Nat.{one-le-pow, pow-le-pow_right}
use Rattle.std.specs.Fmt.{decimal}
use Rattle.std.proofs.lemmas.Fmt.{decimal_step_wide}
use Rattle.std.proofs.lemmas.List.{take-replicate}

pub decimal-times_ten : (n : ℕ) → 0 < n → n * 10 < 10 ^ 64 → decimal (n * 10) ≡ decimal n ++ 48 ∷ []
decimal-times_ten n some fits =
    let front : n * 10 / 10 ≡ n = omega arith in
    let last : 48 + n * 10 % 10 ≡ 48 = omega arith in
    decimal_step_wide (n * 10) (omega arith) fits
    ∙ ap (λ (m : ℕ). decimal m ++ (48 + n * 10 % 10) ∷ []) front
    ∙ ap (λ (d : ℕ). decimal n ++ d ∷ []) last

-- The decimal text of a nonzero number times a power of ten is the number's text followed by zeros.
pub decimal-times_power : (k n : ℕ) → 0 < n → n * 10 ^ k < 10 ^ 64 → decimal (n * 10 ^ k) ≡ decimal n ++ replicate k 48
decimal-times_power zero n some fits = rw mul-one (sym (append-nil (decimal n)))
decimal-times_power (suc k) n some fits =
    let regroup : n * 10 ^ suc k ≡ n * 10 * 10 ^ k = rw pow-suc (omega arith) in
    let fits_too : n * 10 * 10 ^ k < 10 ^ 64 = rw regroup at fits in
    let fits_ten : n * 10 < 10 ^ 64 = lt_of_le_of_lt (le-mul_of_pos_right (n * 10) (one-le-pow k 10 (lit< tt))) fits_too in
    ap (λ (m : ℕ). decimal m) regroup
    ∙ decimal-times_power k (n * 10) (omega arith) fits_too
    ∙ ap (λ (ds : List ℕ). ds ++ replicate k 48) (decimal-times_ten n some fits_ten)
    ∙ append_assoc (decimal n) (48 ∷ []) (replicate k 48)

-- Appending at most ten zeros to the text of a nonzero number multiplies the number by a power of
-- ten.
pub zeros-written : (n zeros : ℕ) {count : ℕ} → zeros ≤ 10 → 0 < n → n < 2 ^ 64 → count ≡ zeros →
    decimal n ++ take count (replicate 10 48) ≡ decimal (n * 10 ^ zeros)
zeros-written n zeros few some fits count_is =
    rw (count_is, take-replicate {X = ℕ} zeros 10 48 few) (sym (decimal-times_power zeros n some (lt_of_le_of_lt (mul-le-mul (le_of_lt fits) (pow-le-pow_right (lit< tt) few)) (lit< tt))))

-- Appending a number's text and then zeros to a text equals appending both as one text.
pub appends_three : (front middle whole number zeros text : List ℕ) → middle ≡ front ++ number → whole ≡ middle ++ zeros → number ++ zeros ≡ text → whole ≡ front ++ text
appends_three front middle whole number zeros text first second joined =
    second
    ∙ ap (λ (begun : List ℕ). begun ++ zeros) first
    ∙ append_assoc front number zeros
    ∙ ap (λ (more : List ℕ). front ++ more) joined
