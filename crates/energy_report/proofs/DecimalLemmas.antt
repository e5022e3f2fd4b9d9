-- Lemmas: three numbers of two digits, formatted one after another, are the six decimals of an
-- energy in kWh.
use Rattle.std.proofs.Common.{◌≡◌, ℕ, ◌+◌, ◌/◌, ◌%◌, ◌<◌, false, cond, [], ◌∷◌, ◌++◌, refl, sym, ap, arith}
use Rattle.std.specs.Fmt.{digit_glyph}
use Rattle.std.proofs.lemmas.Bool.{lt-ltb}
use Rattle.jiff_fmt.specs.Text.{pad2}
use Rattle.sun_points.specs.Decimal.{low_digits}

glyph : (d : ℕ) → d < 10 → digit_glyph false d ≡ 48 + d
glyph d few = ap (λ b. cond b (48 + d) (87 + d)) (lt-ltb d 10 few)

six : (a b c d e f : ℕ) → a < 10 → b < 10 → c < 10 → d < 10 → e < 10 → f < 10
    → digit_glyph false a ∷ digit_glyph false b ∷ digit_glyph false c ∷ digit_glyph false d ∷ digit_glyph false e ∷ digit_glyph false f ∷ []
    ≡ (48 + a) ∷ (48 + b) ∷ (48 + c) ∷ (48 + d) ∷ (48 + e) ∷ (48 + f) ∷ []
six a b c d e f la lb lc ld le lf = rw (glyph a la, glyph b lb, glyph c lc, glyph d ld, glyph e le, glyph f lf) refl

pub decimals : (n : ℕ) → n < 1_000_000 → pad2 (n / 10_000) ++ pad2 (n / 100 % 100) ++ pad2 (n % 100) ≡ low_digits 10 6 n
decimals n few =
    let a : n / 10_000 / 10 ≡ n / 100_000 % 10 = omega (arith, few) in
    let b : n / 10_000 % 10 ≡ n / 10_000 % 10 = refl in
    let c : n / 100 % 100 / 10 ≡ n / 1_000 % 10 = omega arith in
    let d : n / 100 % 100 % 10 ≡ n / 100 % 10 = omega arith in
    let e : n % 100 / 10 ≡ n / 10 % 10 = omega arith in
    let f : n % 100 % 10 ≡ n / 1 % 10 = omega arith in
    rw (a, c, d, e, f)
    (sym (six (n / 100_000 % 10) (n / 10_000 % 10) (n / 1_000 % 10) (n / 100 % 10) (n / 10 % 10) (n / 1 % 10)
    (omega arith) (omega arith) (omega arith) (omega arith) (omega arith) (omega arith)))

-- The last six digits of a number equal those of its remainder modulo 1,000,000.
pub decimals-rest : (n : ℕ) → low_digits 10 6 (n % 1_000_000) ≡ low_digits 10 6 n
decimals-rest n =
    let a : n % 1_000_000 / 100_000 % 10 ≡ n / 100_000 % 10 = omega arith in
    let b : n % 1_000_000 / 10_000 % 10 ≡ n / 10_000 % 10 = omega arith in
    let c : n % 1_000_000 / 1_000 % 10 ≡ n / 1_000 % 10 = omega arith in
    let d : n % 1_000_000 / 100 % 10 ≡ n / 100 % 10 = omega arith in
    let e : n % 1_000_000 / 10 % 10 ≡ n / 10 % 10 = omega arith in
    let f : n % 1_000_000 / 1 % 10 ≡ n / 1 % 10 = omega arith in
    rw (a, b, c, d, e, f) refl
