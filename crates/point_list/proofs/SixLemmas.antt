-- Lemmas: reading a point list's row returns its six fields in order if the row has exactly six
-- fields, otherwise `None`.
use Rattle.std.proofs.Common.{◌≡◌, ◌<◌, ℕ, zero, suc, List, [], ◌∷◌, Some, None, length, refl, arith}
use Rattle.std.proofs.lemmas.Option.{same_Some}
use Rattle.csv.specs.Records.{field_at}
use Rattle.point_list.specs.Faults.{six_fields}

-- A row of a point list has a field at each index below its number of fields.
pub field-there : (fields : List (List ℕ)) (i : ℕ) → i < length fields → field_at fields i ≡ None → ⊥
unfolding field_at
field-there [] i within e = omega (arith, within)
field-there (f ∷ fs) zero within e = cc e
field-there (f ∷ fs) (suc i) within e = field-there fs i (omega (arith, within)) e

pub six-of-fields : (fields : List (List ℕ)) (a b c d e f : List ℕ) → length fields ≡ 6 → field_at fields 0 ≡ Some a → field_at fields 1 ≡ Some b → field_at fields 2 ≡ Some c
    → field_at fields 3 ≡ Some d → field_at fields 4 ≡ Some e → field_at fields 5 ≡ Some f
    → six_fields fields ≡ Some (record { name = a; function = b; area = c; address = d; kind = e; scale = f })
unfolding field_at
six-of-fields [] a b c d e f size ha hb hc hd he hf = absurd (omega (arith, size))
six-of-fields (x0 ∷ []) a b c d e f size ha hb hc hd he hf = absurd (omega (arith, size))
six-of-fields (x0 ∷ x1 ∷ []) a b c d e f size ha hb hc hd he hf = absurd (omega (arith, size))
six-of-fields (x0 ∷ x1 ∷ x2 ∷ []) a b c d e f size ha hb hc hd he hf = absurd (omega (arith, size))
six-of-fields (x0 ∷ x1 ∷ x2 ∷ x3 ∷ []) a b c d e f size ha hb hc hd he hf = absurd (omega (arith, size))
six-of-fields (x0 ∷ x1 ∷ x2 ∷ x3 ∷ x4 ∷ []) a b c d e f size ha hb hc hd he hf = absurd (omega (arith, size))
six-of-fields (x0 ∷ x1 ∷ x2 ∷ x3 ∷ x4 ∷ x5 ∷ []) a b c d e f size ha hb hc hd he hf =
    rw (same_Some _ _ ha, same_Some _ _ hb, same_Some _ _ hc, same_Some _ _ hd, same_Some _ _ he, same_Some _ _ hf) refl
six-of-fields (x0 ∷ x1 ∷ x2 ∷ x3 ∷ x4 ∷ x5 ∷ x6 ∷ xs) a b c d e f size ha hb hc hd he hf = absurd (omega (arith, size))

-- If a row of a point list does not have six fields, `six_fields` returns `None`.
pub not-six : (fields : List (List ℕ)) → (length fields ≡ 6 → ⊥) → six_fields fields ≡ None
not-six [] h = refl
not-six (x0 ∷ []) h = refl
not-six (x0 ∷ x1 ∷ []) h = refl
not-six (x0 ∷ x1 ∷ x2 ∷ []) h = refl
not-six (x0 ∷ x1 ∷ x2 ∷ x3 ∷ []) h = refl
not-six (x0 ∷ x1 ∷ x2 ∷ x3 ∷ x4 ∷ []) h = refl
not-six (x0 ∷ x1 ∷ x2 ∷ x3 ∷ x4 ∷ x5 ∷ []) h = absurd (h refl)
not-six (x0 ∷ x1 ∷ x2 ∷ x3 ∷ x4 ∷ x5 ∷ x6 ∷ xs) h = refl
