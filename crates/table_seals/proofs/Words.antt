-- Lemmas on parsing words, numbers and digests: where each of them ends in a text.
use Rattle.std.proofs.Common.{◌≡◌, ℕ, zero, suc, ◌+◌, ◌/◌, ◌%◌, ◌<◌, ◌≤◌, ◌^◌, Bool, true, false, ◌&&◌, ◌==◌, not, nat_lt, List, [], ◌∷◌, ◌++◌, length, drop, get_or, Option, Some, None, Ok, append_assoc, refl, sym, ap, subst, ◌∙◌, arith}
use Rattle.std.specs.Prelude.{decimal, IsSomeAnd, IfSome}
use Rattle.std.specs.Borrow.{Bor}
use Rattle.std.specs.List.{slice_index}
use Rattle.std.specs.Str.Pattern.{FindsTextPrefix, StripsPrefix}
use Rattle.std.proofs.lemmas.Bool.Decides.{nat_tests}
use Rattle.std.proofs.lemmas.Fmt.{decimal_by_steps}
use Rattle.std.proofs.lemmas.List.{append_cancel_left}
use Rattle.std.proofs.lemmas.List.Folds.{list_all-append}
use Rattle.std.proofs.lemmas.List.Sums.{AllPass-from_list_all}
use Rattle.std.proofs.lemmas.Str.Pattern.{IsSplitOnceResult, split_after, split_parts}
use Rattle.std.specs.Str.{IsUtf8}
use Rattle.std.proofs.lemmas.List.{length-append}
use Rattle.std.proofs.lemmas.Str.{IsUtf8-drop, IsCharBoundary-after_ascii}
use Rattle.std.proofs.Math.Seq.{get_or-append_seam, drop-append-add}
use Rattle.hex.specs.Hex.{encode_with, encode_lower, lower_digits, IsBytes, decode_sized}
use Rattle.hex.proofs.HexLemmas.{decode_sized-encode_lower}
use Rattle.table_seals.specs.Reading.{Begins, is_one_line}
use Rattle.table_seals.specs.Tables.{is_word}

both_true : (a b : Bool) → a && b ≡ true → (a ≡ true) × (b ≡ true)
both_true true true h = (refl, refl)
both_true true false h = absurd (cc)
both_true false b h = absurd (cc)

and_is : (a b : Bool) → a ≡ true → b ≡ true → a && b ≡ true
and_is a b p q = ap (λ x. x && b) p ∙ q

above : (b : ℕ) → nat_lt 32 b ≡ true → 32 < b
above b h = grind (arith, nat_tests)

is_above : (b : ℕ) → 32 < b → nat_lt 32 b ≡ true
is_above b lt = grind (arith, nat_tests)

-- If a text is a word, then it contains no space and no line end, since its bytes are greater than
-- 32.
pub is_free : (word : List ℕ) (end : ℕ) → is_word word ≡ true → end ≤ 32 → (i : ℕ) → i < length word → get_or word i 0 ≡ end → ⊥
is_free [] end h le i lt e = absurd (omega (arith, lt))
is_free (b ∷ bs) end h le zero lt e =
    let both = both_true (nat_lt 32 b) (is_word bs) h in
    let far : 32 < b = above b both.0 in
    let same : b ≡ end = e in
    omega (arith, far, same, le)
is_free (b ∷ bs) end h le (suc i) lt e =
    is_free bs end (both_true (nat_lt 32 b) (is_word bs) h).1 le i (omega (arith, lt)) e

-- Lemmas that decimal numbers and hexadecimal digests are words, which contain no space and no line
-- end.

pub decimal_word : (n : ℕ) → n < 2 ^ 64 → is_word (decimal n) ≡ true
decimal_word =
    decimal_by_steps (λ n ds. is_word ds ≡ true) (λ n lt. and_is (nat_lt 32 (48 + n)) true (is_above (48 + n) (omega arith)) refl)
    (λ n ds le h. list_all-append (λ byte. nat_lt 32 byte) ds ((48 + n % 10) ∷ [])
    ∙ and_is (is_word ds) (nat_lt 32 (48 + n % 10) && true) h (and_is (nat_lt 32 (48 + n % 10)) true (is_above (48 + n % 10) (omega arith)) refl))

digit_word : (k : ℕ) → k < 16 → nat_lt 32 (slice_index lower_digits k) ≡ true
digit_word k lt = AllPass-from_list_all (λ byte. nat_lt 32 byte) lower_digits refl k 0 (omega (arith, lt))

pub hex_word : (bytes : List ℕ) → IsBytes bytes → is_word (encode_lower bytes) ≡ true
unfolding encode_with
hex_word [] h = refl
hex_word (b ∷ bytes) h =
    let small : b < 256 = h 0 in
    and_is _ _ (digit_word (b / 16) (omega (arith, small)))
    (and_is _ _ (digit_word (b % 16) (omega arith)) (hex_word bytes (λ i. h (suc i))))

-- Lemmas on removing a prefix from a text, and on the text up to a separator.

pub stripped : (before text rest : List ℕ) → StripsPrefix (FindsTextPrefix before) text rest → text ≡ before ++ rest
stripped before text rest h = h.1.1 ∙ ap (λ t. before ++ t) (sym h.2)

pub strip_reads : (before text rest following : List ℕ) → StripsPrefix (FindsTextPrefix before) text rest → text ≡ before ++ following → rest ≡ following
strip_reads before text rest following h is = append_cancel_left before rest following (sym (stripped before text rest h) ∙ is)

pub not_stripped : (before text following : List ℕ) → FindsTextPrefix before text None → text ≡ before ++ following → ⊥
not_stripped before text following h is = h following is

-- Lemmas that parsing a word, a number or a digest up to the byte that ends it returns this part
-- and the text after it.

pub split_reads : (end : ℕ) (text word following : List ℕ) (r : Option (Bor (List ℕ) × Bor (List ℕ))) → IsSplitOnceResult end text r → end ≤ 32
    → is_word word ≡ true → text ≡ word ++ end ∷ following → IsSomeAnd r (λ found. (found.0.now ≡ word) × (found.1.now ≡ following))
split_reads end text word following None h le w is = split_after end text word following None h (omega (arith, le)) is (is_free word end w le)
split_reads end text word following (Some x) h le w is = split_after end text word following (Some x) h (omega (arith, le)) is (is_free word end w le)

pub split_is : (end : ℕ) (text : List ℕ) (r : Option (Bor (List ℕ) × Bor (List ℕ))) → IsSplitOnceResult end text r → end ≤ 32
    → IfSome r (λ found. text ≡ found.0.now ++ end ∷ found.1.now)
split_is end text None h le = tt
split_is end text (Some x) h le = (split_parts end text (Some x) h (omega (arith, le))).0

pub parts_are : (before text rest : List ℕ) (end : ℕ) (r : Option (Bor (List ℕ) × Bor (List ℕ))) → text ≡ before ++ rest
    → IfSome r (λ found. rest ≡ found.0.now ++ end ∷ found.1.now) → IfSome r (λ found. text ≡ (before ++ found.0.now) ++ end ∷ found.1.now)
parts_are before text rest end None is h = tt
parts_are before text rest end (Some x) is h = is ∙ ap (λ t. before ++ t) h ∙ sym (append_assoc before x.0.now (end ∷ x.1.now))

-- If a text was parsed as a word after a prefix, then it begins with this prefix.
pub begins_by_parts : (before text word following : List ℕ) (end : ℕ) → text ≡ (before ++ word) ++ end ∷ following → Begins before text
begins_by_parts before text word following end is = (word ++ end ∷ following, is ∙ append_assoc before word (end ∷ following))

-- Lemmas that parsing a line without a line end up to the next line end returns this line and the
-- text after it.

no_end : (line : List ℕ) → is_one_line line ≡ true → (i : ℕ) → i < length line → get_or line i 0 ≡ 10 → ⊥
no_end [] h i lt e = absurd (omega (arith, lt))
no_end (b ∷ bs) h zero lt e =
    let both = both_true (not (b == 10)) (is_one_line bs) h in
    let same : b ≡ 10 = e in
    let bad : false ≡ true = ap (λ x. not (x == 10)) (sym same) ∙ both.0 in
    absurd (cc)
no_end (b ∷ bs) h (suc i) lt e = no_end bs (both_true (not (b == 10)) (is_one_line bs) h).1 i (omega (arith, lt)) e

pub line_reads : (text line following : List ℕ) (r : Option (Bor (List ℕ) × Bor (List ℕ))) → IsSplitOnceResult 10 text r
    → is_one_line line ≡ true → text ≡ line ++ 10 ∷ following → IsSomeAnd r (λ found. (found.0.now ≡ line) × (found.1.now ≡ following))
line_reads text line following None h one is = split_after 10 text line following None h (omega arith) is (no_end line one)
line_reads text line following (Some x) h one is = split_after 10 text line following (Some x) h (omega arith) is (no_end line one)

-- Lemmas: if a text is valid UTF-8, the part of the text after a separator is valid UTF-8 too.

utf8_after : (text front following : List ℕ) (end : ℕ) → IsUtf8 text → text ≡ front ++ end ∷ following → end ≤ 32 → IsUtf8 following
utf8_after text front following end u is le =
    let inside : length front < length text = omega (arith, ap length is, length-append front (end ∷ following)) in
    let there : get_or text (length front) 0 ≡ end = ap (λ (t : List ℕ). get_or t (length front) 0) is ∙ get_or-append_seam front end following 0 in
    let small : get_or text (length front) 0 < 128 = omega (arith, there, le) in
    let past : drop (length front + 1) text ≡ following = ap (drop (length front + 1)) is ∙ drop-append-add front (end ∷ following) 1 in
    subst IsUtf8 past (IsUtf8-drop text (length front + 1) u (IsCharBoundary-after_ascii text (length front) u inside small))

pub utf8_parts : (text before : List ℕ) (end : ℕ) (r : Option (Bor (List ℕ) × Bor (List ℕ))) → IsUtf8 text → end ≤ 32
    → IfSome r (λ found. text ≡ (before ++ found.0.now) ++ end ∷ found.1.now) → IfSome r (λ found. IsUtf8 found.1.now)
utf8_parts text before end None u le h = tt
utf8_parts text before end (Some x) u le h = utf8_after text (before ++ x.0.now) x.1.now end u h le

-- The lemma that parsing the hexadecimal text of a digest of 32 bytes returns these bytes.

pub decoded : (word all : List ℕ) (room : ℕ) → word ≡ encode_lower all → room ≡ 32 → length all ≡ 32 → IsBytes all → decode_sized word room ≡ Ok all
decoded word all room is long same bytes =
    ap (λ (t : List ℕ). decode_sized t room) is ∙ ap (decode_sized (encode_lower all)) long ∙ decode_sized-encode_lower all 32 same bytes
