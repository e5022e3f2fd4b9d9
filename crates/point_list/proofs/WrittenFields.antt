-- Proves that reading the CSV fields that were written for a point gives the same point.
use Rattle.std.proofs.Common.{◌≡◌, ◌+◌, ◌-◌, ◌*◌, ◌^◌, ◌≤◌, ◌<◌, ℕ, suc, ℤ, pos, negsuc, Bool, true, false, IsTrue, List, [], ◌∷◌, Some, None, length, fold, refl, ap, arith}
use Rattle.std.specs.Prelude.{◌==◌, nat_le, ◌&&◌, int_le}
use Rattle.std.specs.Char.{is_ascii_alphabetic, is_ascii_digit}
use Rattle.std.specs.Fmt.{decimal, signed_decimal}
use Rattle.std.specs.List.{list_all}
use Rattle.std.proofs.lemmas.Fmt.{decimal_nonempty, digits_decimal, digits_value-decimal, length-decimal-le}
use Rattle.std.proofs.lemmas.Str.Parse.{FoldsDigits, IsDigitsTest, IsNumeralModel, numerals_by_fold}
use Rattle.sun_points.specs.declared.point_type.PointType.{PointType}
use Rattle.sun_points.specs.declared.point_type.PointType.TheVariants as kind
use Rattle.sun_points.specs.PointType.{registers_of}
use Rattle.point_list.specs.declared.point.PointScale.{PointScale}
use Rattle.point_list.specs.declared.point.PointScale.TheVariants.{Unscaled, Fixed, Named}
use Rattle.mb_wire.specs.declared.span.ReadFunction.{ReadFunction}
use Rattle.mb_wire.specs.declared.span.ReadFunction.TheVariants.{HoldingRegisters, InputRegisters}
use Rattle.point_list.specs.Faults.{is_bad_scale}
use Rattle.sun_points.specs.Numbers.Digits.{digits_value}
use Rattle.point_list.specs.Fields.{fixed_scale_of, function_of, number_of, number_within, type_of}
use Rattle.point_list.specs.Lists.{scale_spelled}
use Rattle.point_list.specs.Names.{is_name}
use Rattle.mb_wire.specs.Spans.{code_of}
use Rattle.point_list.specs.Points.{takes_scale}
use Rattle.point_list.specs.RowTexts.{scale_text, type_text}
use Rattle.point_list.proofs.SpelledRows.{Suits}

and-both : (a b : Bool) → (a && b) ≡ true → (a ≡ true) × (b ≡ true)
and-both true b h = (refl, h)
and-both false b h = absurd (cc h)

reports-digits : IsDigitsTest (λ ds. list_all is_ascii_digit ds ≡ true)
reports-digits = record {
  empty = refl;
  parts = λ c cs h. let k = and-both (is_ascii_digit c) (list_all is_ascii_digit cs) h in let m = and-both (nat_le 48 c) (nat_le c 57) k.0 in ((grind (arith, m.0), grind (arith, m.1)), k.1);
  more = λ c cs k h. let low : nat_le 48 c ≡ true = grind (arith, k.0) in let high : nat_le c 57 ≡ true = grind (arith, k.1) in rw (low, high) h;
}

folds-digits : FoldsDigits (λ n digits. fold (λ n digit. 10 * n + (digit - 48)) n digits)
folds-digits = record {
  empty = λ n. refl;
  more = λ n c cs k.
      let same : 10 * n + (c - 48) ≡ n * 10 + (c - 48) = omega arith in
      ap (λ (m : ℕ). fold (λ (k : ℕ) (digit : ℕ). 10 * k + (digit - 48)) m cs) same;
}

pub numerals : IsNumeralModel (λ ds. list_all is_ascii_digit ds ≡ true) digits_value
numerals = numerals_by_fold (λ ds. list_all is_ascii_digit ds ≡ true) reports-digits (λ n digits. fold (λ n digit. 10 * n + (digit - 48)) n digits) folds-digits

number-if : (field : List ℕ) (n : ℕ) → 1 ≤ length field → length field ≤ 10 → list_all is_ascii_digit field ≡ true → digits_value field ≡ n → number_of field ≡ Some n
number-if field n some few digits value =
    let a : nat_le 1 (length field) ≡ true = grind (arith, some) in
    let b : nat_le (length field) 10 ≡ true = grind (arith, few) in
    rw (a, b, digits, value) refl

-- Reading the decimal text of a 16-bit number gives the number.
pub number-read : (n : ℕ) → n < 2 ^ 16 → number_of (decimal n) ≡ Some n
number-read n small =
    let fits : n < 2 ^ 64 = omega (arith, small) in
    let some : 1 ≤ length (decimal n) = omega (arith, decimal_nonempty n fits) in
    number-if (decimal n) n some (length-decimal-le 10 n (omega arith) (omega (arith, small)) fits) (digits_decimal numerals n fits) (digits_value-decimal numerals n fits)

pub within-read : (low high n : ℕ) → n < 2 ^ 16 → low ≤ n → n ≤ high → number_within low high (decimal n) ≡ Some n
within-read low high n small from till =
    let a : nat_le low n ≡ true = grind (arith, from) in
    let b : nat_le n high ≡ true = grind (arith, till) in
    rw (number-read n small, a, b) refl

pub function-read : (function : ReadFunction) → function_of (decimal (code_of function)) ≡ Some function
function-read HoldingRegisters = rw (number-read 3 (omega arith)) refl
function-read InputRegisters = rw (number-read 4 (omega arith)) refl

pub type-read : (kind : PointType) → 1 ≤ registers_of kind → registers_of kind ≤ 125 → type_of (type_text kind) ≡ Some kind
type-read kind.Int16 some few = refl
type-read kind.Uint16 some few = refl
type-read kind.Enum16 some few = refl
type-read kind.Int32 some few = refl
type-read kind.Uint32 some few = refl
type-read kind.Bitfield32 some few = refl
type-read kind.Acc32 some few = refl
type-read kind.Sunssf some few = refl
type-read (kind.Text registers) some few = rw (within-read 1 125 registers (omega (arith, few)) some few) refl

-- True if reading the written text of a point's scale gives the same scale, and the text is valid
-- for each type that may have a scale.
pub record ScaleRead (scale : PointScale) : Type 0 where
  pub spelled : scale_spelled (scale_text scale) ≡ Some scale
  pub good : (kind : PointType) → takes_scale kind ≡ true → is_bad_scale (scale_text scale) (Some kind) ≡ false

fixed-good : (field : List ℕ) (exponent : ℤ) → fixed_scale_of field ≡ Some exponent
    → (scale_spelled field ≡ Some (Fixed exponent)) × ((kind : PointType) → takes_scale kind ≡ true → is_bad_scale field (Some kind) ≡ false)
fixed-good [] exponent h = absurd (cc h)
fixed-good (first ∷ rest) exponent h = (rw h refl, λ kind takes. rw (h, takes) refl)

-- A CSV field of digits whose value is at most 10 encodes this value as a point's fixed scale (a
-- power of ten).
from-zero : (field : List ℕ) (n : ℕ) → 0 < length field → list_all is_ascii_digit field ≡ true → number_within 0 10 field ≡ Some n → fixed_scale_of field ≡ Some (pos n)
from-zero [] n some digits h = absurd (omega (arith, some))
from-zero (first ∷ rest) n some digits h =
    let digit = (and-both (is_ascii_digit first) (list_all is_ascii_digit rest) digits).0 in
    let low = (and-both (nat_le 48 first) (nat_le first 57) digit).0 in
    let plain : (first == 45) ≡ false = grind (arith, low) in
    rw (plain, h) refl

fixed-number : (exponent : ℤ) → IsTrue (int_le (negsuc 9) exponent && int_le exponent (pos 10)) → fixed_scale_of (signed_decimal exponent) ≡ Some exponent
fixed-number (pos n) h =
    let k = and-both (int_le (negsuc 9) (pos n)) (int_le (pos n) (pos 10)) h in
    let few : n ≤ 10 = grind (arith, k.1) in
    let fits : n < 2 ^ 64 = omega (arith, few) in
    from-zero (decimal n) n (decimal_nonempty n fits) (digits_decimal numerals n fits) (within-read 0 10 n (omega (arith, few)) (omega arith) few)
fixed-number (negsuc n) h =
    let k = and-both (int_le (negsuc 9) (negsuc n)) (int_le (negsuc n) (pos 10)) h in
    let few : suc n ≤ 10 = grind (arith, k.0) in
    rw (within-read 0 10 (suc n) (omega (arith, few)) (omega arith) few) refl

fixed-read : (exponent : ℤ) → IsTrue (int_le (negsuc 9) exponent && int_le exponent (pos 10)) → ScaleRead (Fixed exponent)
fixed-read exponent h = let g = fixed-good (signed_decimal exponent) exponent (fixed-number exponent h) in record { spelled = g.0; good = g.1 }

and-false : (b : Bool) → (b && false) ≡ false
and-false true = refl
and-false false = refl

letter : (byte : ℕ) → is_ascii_alphabetic byte ≡ true → ((byte == 45) ≡ false) × (is_ascii_digit byte ≡ false)
letter byte h = (grind (arith, h), grind (arith, h))

-- A point name does not encode a fixed scale, which is a number from -10 to 10.
no-number : (name : List ℕ) → is_name name ≡ true → fixed_scale_of name ≡ None
no-number [] h = refl
no-number (first ∷ rest) h =
    let head = (and-both (is_ascii_alphabetic first && nat_le (length rest) 31) _ h).0 in
    let l = letter first (and-both (is_ascii_alphabetic first) _ head).0 in
    rw (l.0, l.1, and-false (nat_le 1 (length (first ∷ rest)) && nat_le (length (first ∷ rest)) 10)) refl

named-read : (name : List ℕ) → is_name name ≡ true → ScaleRead (Named name)
named-read [] h = absurd (cc h)
named-read (first ∷ rest) h = record {
  spelled = rw (no-number (first ∷ rest) h, h) refl;
  good = λ kind takes. rw (no-number (first ∷ rest) h, h, takes) refl;
}

-- Reading the written text of a point's scale gives the same scale, if the scale is valid for the
-- point's type.
pub scale-read : (kind : PointType) (scale : PointScale) → Suits kind scale → ((name : List ℕ) → scale ≡ Named name → is_name name ≡ true)
    → (scale_spelled (scale_text scale) ≡ Some scale) × (is_bad_scale (scale_text scale) (Some kind) ≡ false)
scale-read kind Unscaled suits named = (refl, refl)
scale-read kind (Fixed exponent) suits named = let r = fixed-read exponent suits.1 in (r.spelled, r.good kind suits.0)
scale-read kind (Named name) suits named = let r = named-read name (named name refl) in (r.spelled, r.good kind suits)
