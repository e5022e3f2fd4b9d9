-- Lemmas: two keys of lookups compare as equal if and only if they are identical. A key is a name,
-- or a name and a number.
use Rattle.std.proofs.Common.{◌≡◌, ℕ, ◌==◌, ◌&&◌, Bool, true, false, List, refl, ap, ◌∙◌, arith}
use Rattle.std.specs.Ordering.{is_eq, nat_cmp, ordering_then}
use Rattle.std.specs.Cmp.Lexicographic.{slice_cmp}
use Rattle.std.specs.declared.cmp.Ordering.{Ordering}
use Rattle.std.specs.declared.cmp.Ordering.TheVariants.{Less, Equal, Greater}
use Rattle.std.proofs.lemmas.Bool.{eqb-true}
use Rattle.std.proofs.lemmas.Bool.Decides.{nat_tests}
use Rattle.std.proofs.lemmas.Map.Text.{is_eq-slice_cmp}
use Rattle.office_books.specs.Facts.{same}
use Rattle.office_books.proofs.Lookups.{same_text}
use Rattle.memory_books.specs.declared.tables.keys.Key.{Key}
use Rattle.memory_books.specs.Tables.Keys.{key_cmp, is_same_key, numbered}

is_eq-then : (a b : Ordering) → is_eq (ordering_then a b) ≡ (is_eq a && is_eq b)
is_eq-then Less b = refl
is_eq-then Equal b = refl
is_eq-then Greater b = refl

is_eq-nat : (a b : ℕ) → is_eq (nat_cmp a b) ≡ (a == b)
is_eq-nat a b = grind (arith, nat_tests)

-- Two keys of lookups compare as equal if and only if their names and their numbers are equal.
pub is_eq-key_cmp : (a b : Key) → is_eq (key_cmp a b) ≡ is_same_key a b
is_eq-key_cmp a b =
    is_eq-then (slice_cmp nat_cmp a.name b.name) (nat_cmp a.number b.number)
    ∙ ap (λ (c : Bool). c && is_eq (nat_cmp a.number b.number)) (is_eq-slice_cmp a.name b.name)
    ∙ ap (λ (c : Bool). same a.name b.name && c) (is_eq-nat a.number b.number)

both_true : (a b : Bool) → (a && b) ≡ true → (a ≡ true) × (b ≡ true)
both_true true b h = (refl, h)
both_true false b h = absurd (cc)

-- If two keys have equal names and equal numbers, then the keys are identical.
pub one_key : (a b : Key) → is_same_key a b ≡ true → a ≡ b
one_key a b h =
    let both = both_true (same a.name b.name) (a.number == b.number) h in
    ap (λ (name : List ℕ). numbered name a.number) (same_text a.name b.name both.0)
    ∙ ap (numbered b.name) (eqb-true a.number b.number both.1)
