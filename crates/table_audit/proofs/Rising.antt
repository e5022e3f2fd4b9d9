-- Lemmas on the checks of voids (cancellations of entries): the indices of their entries are
-- strictly increasing, and no void is earlier than its entry.
use Rattle.std.proofs.Common.{◌≡◌, ℕ, suc, ◌+◌, ◌<◌, ◌≤◌, ◌⊎◌, nat_lt, nat_le, Bool, true, false, ◌&&◌, List, ◌∷◌, drop, length, get_or, refl, sym, ap, ◌∙◌, inl, inr, arith, add-one}
use Rattle.std.proofs.Math.Seq.{drop-cons}
use Rattle.std.proofs.Math.ListN.{drop_of_length-le}
use Rattle.std.proofs.lemmas.Bool.{and_parts}
use Rattle.std.proofs.lemmas.Bool.Decides.{nat_tests}
use Rattle.meter_journal.specs.declared.audit.rows.TableRow.{TableRow}
use Rattle.table_audit.specs.declared.rows.VoidRow.{VoidRow}
use Rattle.table_audit.specs.Lawful.{rises, is_timely, are_timely}

lt_is : (a b : ℕ) → a < b → nat_lt a b ≡ true
lt_is a b h = grind (arith, nat_tests)

le_is : (a b : ℕ) → a ≤ b → nat_le a b ≡ true
le_is a b h = grind (arith, nat_tests)

lt_not : (a b : ℕ) → b ≤ a → nat_lt a b ≡ false
lt_not a b h = grind (arith, nat_tests)

le_not : (a b : ℕ) → b < a → nat_le a b ≡ false
le_not a b h = grind (arith, nat_tests)

and_false : (b c : Bool) → b && false && c ≡ false
and_false true c = refl
and_false false c = refl

goes_on : (after most : ℕ) (v : VoidRow) (vs : List VoidRow) → after < v.place → v.place ≤ most → rises after most (v ∷ vs) ≡ rises v.place most vs
goes_on after most v vs h g =
    ap (λ b. b && nat_le v.place most && rises v.place most vs) (lt_is after v.place h) ∙ ap (λ b. b && rises v.place most vs) (le_is v.place most g)

stops : (after most : ℕ) (v : VoidRow) (vs : List VoidRow) → (v.place ≤ after) ⊎ (most < v.place) → rises after most (v ∷ vs) ≡ false
stops after most v vs (inl low) = ap (λ b. b && nat_le v.place most && rises v.place most vs) (lt_not after v.place low)
stops after most v vs (inr high) =
    ap (λ b. nat_lt after v.place && b && rises v.place most vs) (le_not v.place most high) ∙ and_false (nat_lt after v.place) (rises v.place most vs)

-- Suppose that the check for increasing indices has accepted the voids before position `i` of a
-- list. If the index of the void at `i` is in range and greater than the previous index, the check
-- continues after `i`.
pub rises_more : (voids : List VoidRow) (i after most : ℕ) (d : VoidRow) → i < length voids → rises 1 most voids ≡ rises after most (drop i voids)
    → after < (get_or voids i d).place → (get_or voids i d).place ≤ most → rises 1 most voids ≡ rises (get_or voids i d).place most (drop (i + 1) voids)
rises_more voids i after most d lt h low high =
    h ∙ ap (rises after most) (drop-cons voids i d lt) ∙ goes_on after most (get_or voids i d) (drop (suc i) voids) low high
    ∙ ap (λ n. rises (get_or voids i d).place most (drop n voids)) (sym (add-one i))

-- Suppose that the check for increasing indices has accepted the voids before position `i` of a
-- list. If the index of the void at `i` is out of range or not greater than the previous index, the
-- check fails.
pub rises_not : (voids : List VoidRow) (i after most : ℕ) (d : VoidRow) → i < length voids → rises 1 most voids ≡ rises after most (drop i voids)
    → ((get_or voids i d).place ≤ after) ⊎ (most < (get_or voids i d).place) → rises 1 most voids ≡ true → ⊥
rises_not voids i after most d lt h astray all =
    let none : rises 1 most voids ≡ false =
    h ∙ ap (rises after most) (drop-cons voids i d lt) ∙ stops after most (get_or voids i d) (drop (suc i) voids) astray in
    let f : false ≡ true = sym none ∙ all in absurd (cc)

pub all_rise : (voids : List VoidRow) (i after most : ℕ) → length voids ≤ i → rises 1 most voids ≡ rises after most (drop i voids)
    → rises 1 most voids ≡ true
all_rise voids i after most le h = h ∙ ap (rises after most) (drop_of_length-le voids le)

-- Suppose that no void before position `i` of a list is earlier than its entry. Then the check
-- continues after `i` if the void at `i` is not early, and fails if it is.

timely_at : (entries : List TableRow) (voids : List VoidRow) (i : ℕ) (d : VoidRow) → i < length voids → are_timely entries voids ≡ are_timely entries (drop i voids)
    → are_timely entries voids ≡ is_timely entries (get_or voids i d) && are_timely entries (drop (i + 1) voids)
timely_at entries voids i d lt h =
    h ∙ ap (are_timely entries) (drop-cons voids i d lt)
    ∙ ap (λ n. is_timely entries (get_or voids i d) && are_timely entries (drop n voids)) (sym (add-one i))

pub timely_more : (entries : List TableRow) (voids : List VoidRow) (i : ℕ) (v d : VoidRow) → i < length voids → v ≡ get_or voids i d
    → are_timely entries voids ≡ are_timely entries (drop i voids) → is_timely entries v ≡ true → are_timely entries voids ≡ are_timely entries (drop (i + 1) voids)
timely_more entries voids i v d lt is h timely =
    timely_at entries voids i d lt h
    ∙ ap (λ b. b && are_timely entries (drop (i + 1) voids)) (sym (ap (is_timely entries) is) ∙ timely)

pub timely_not : (entries : List TableRow) (voids : List VoidRow) (i : ℕ) (v d : VoidRow) → i < length voids → v ≡ get_or voids i d
    → are_timely entries voids ≡ are_timely entries (drop i voids) → (is_timely entries v ≡ true → ⊥) → are_timely entries voids ≡ true → ⊥
timely_not entries voids i v d lt is h early all =
    early (ap (is_timely entries) is ∙ (and_parts (is_timely entries (get_or voids i d)) (are_timely entries (drop (i + 1) voids)) (sym (timely_at entries voids i d lt h) ∙ all)).0)

pub all_timely : (entries : List TableRow) (voids : List VoidRow) (i : ℕ) → length voids ≤ i → are_timely entries voids ≡ are_timely entries (drop i voids)
    → are_timely entries voids ≡ true
all_timely entries voids i le h = h ∙ ap (are_timely entries) (drop_of_length-le voids le)
