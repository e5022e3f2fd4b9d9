-- Lemmas: the comparison of two lists of interval rows (energies of quarter hours) finds their
-- first difference, or that they are equal. One list is computed from a meter's entries, and the
-- other is stored in the database.
use Rattle.std.proofs.Common.{◌≡◌, ℕ, zero, suc, ◌<◌, ◌≤◌, ◌==◌, nat_lt, Bool, true, false, if◌then◌else◌, List, [], ◌∷◌, ◌++◌, length, get_or, take, drop, Option, Some, None, refl, sym, ap, subst, ◌∙◌, arith, eq-eqb}
use Rattle.std.proofs.Math.Seq.{drop-cons}
use Rattle.std.proofs.Math.ListN.{drop_of_length-le}
use Rattle.std.proofs.lemmas.Bool.{cond-true, cond-false, eqb-true}
use Rattle.std.proofs.lemmas.Bool.Decides.{nat_tests}
use Rattle.std.proofs.lemmas.List.{take-append-drop, length-take-le, take_all}
use Rattle.interval_core.specs.declared.shares.Share.{Share}
use Rattle.meter_journal.specs.declared.audit.intervals.IntervalFault.{IntervalFault}
use Rattle.meter_journal.specs.declared.audit.intervals.IntervalFault.TheVariants as fault
use Rattle.meter_journal.specs.Audit.Comparing.{fault_between, next_fault, difference_after, IsFirst}

-- If two lists of interval rows (energies by quarter hour) are equal before an index and differ at
-- this index, then their first difference is at this index.
first_at : (wanted found wanted_left found_left : List Share) (i : ℕ) (f : IntervalFault)
    → take i wanted ≡ take i found → i ≤ length wanted → drop i wanted ≡ wanted_left → drop i found ≡ found_left
    → next_fault wanted_left found_left ≡ Some f → IsFirst wanted found (difference_after i f)
first_at wanted found wanted_left found_left i f same le here there h = record {
  rows = take i wanted;
  wanted_left = wanted_left;
  found_left = found_left;
  wanted_is = sym (take-append-drop i wanted) ∙ ap (λ rs. take i wanted ++ rs) here;
  found_is = sym (take-append-drop i found) ∙ ap (λ rs. rs ++ drop i found) (sym same) ∙ ap (λ rs. take i wanted ++ rs) there;
  next = h;
  is = ap (λ n. difference_after n f) (sym (length-take-le i wanted le));
}

pub missing_at : (wanted found : List Share) (i : ℕ) (d : Share) → take i wanted ≡ take i found → i < length wanted → length found ≤ i
    → IsFirst wanted found (difference_after i (fault.Missing (get_or wanted i d).start (get_or wanted i d).mwh))
missing_at wanted found i d same lt le =
    first_at wanted found (get_or wanted i d ∷ drop (suc i) wanted) [] i _ same (omega (arith, lt))
    (drop-cons wanted i d lt) (drop_of_length-le found le) refl

unwanted_at : (wanted found : List Share) (i : ℕ) (d : Share) → take i wanted ≡ take i found → i ≡ length wanted → i < length found
    → IsFirst wanted found (difference_after i (fault.Unwanted (get_or found i d).start (get_or found i d).mwh))
unwanted_at wanted found i d same all lt =
    first_at wanted found [] (get_or found i d ∷ drop (suc i) found) i _ same (omega (arith, all))
    (drop_of_length-le wanted (omega (arith, all))) (drop-cons found i d lt) refl

pub unwanted_end : (wanted found : List Share) (i : ℕ) (d : Share) → take i wanted ≡ take i found → length wanted ≤ i → i ≤ length wanted
    → length wanted < length found
    → IsFirst wanted found
    (difference_after (length wanted) (fault.Unwanted (get_or found (length wanted) d).start (get_or found (length wanted) d).mwh))
unwanted_end wanted found i d same le ge lt =
    let is : i ≡ length wanted = omega (arith, le, ge) in
    unwanted_at wanted found (length wanted) d (subst (λ n. take n wanted ≡ take n found) is same) refl lt

pub between_at : (wanted found : List Share) (i : ℕ) (d e : Share) (f : IntervalFault) → take i wanted ≡ take i found
    → i < length wanted → i < length found → fault_between (get_or wanted i d) (get_or found i e) ≡ Some f
    → IsFirst wanted found (difference_after i f)
between_at wanted found i d e f same lt within h =
    first_at wanted found (get_or wanted i d ∷ drop (suc i) wanted) (get_or found i e ∷ drop (suc i) found) i f same (omega (arith, lt))
    (drop-cons wanted i d lt) (drop-cons found i e within) h

none_reported : (b : Bool) (f : IntervalFault) (o : Option IntervalFault) → (if b then Some f else o) ≡ None → (b ≡ false) × (o ≡ None)
none_reported true f o h = absurd (cc)
none_reported false f o h = (refl, h)

reported_unless : (b : Bool) (f : IntervalFault) → (if b then None else Some f) ≡ None → b ≡ true
reported_unless true f h = refl
reported_unless false f h = absurd (cc)

same_start : (a b : ℕ) → nat_lt a b ≡ false → nat_lt b a ≡ false → a ≡ b
same_start a b h g = grind (arith, nat_tests)

same_share : (a b c d : ℕ) → a ≡ b → c ≡ d
    → (let r : Share = record { start = a; mwh = c } in r) ≡ record { start = b; mwh = d }
same_share a b c d h g =
    ap (λ n. let r : Share = record { start = n; mwh = c } in r) h ∙ ap (λ n. let r : Share = record { start = b; mwh = n } in r) g

pub same_rows : (row other : Share) → fault_between row other ≡ None → row ≡ other
same_rows row other h =
    let one = none_reported (nat_lt row.start other.start) _ _ h in
    let two = none_reported (nat_lt other.start row.start) _ _ one.1 in
    let three = reported_unless (row.mwh == other.mwh) _ two.1 in
    same_share row.start other.start row.mwh other.mwh (same_start row.start other.start one.0 two.0) (eqb-true row.mwh other.mwh three)

not_before : (n : ℕ) → nat_lt n n ≡ false
not_before n = grind (arith, nat_tests)

no_fault : (row : Share) → fault_between row row ≡ None
no_fault row =
    cond-false _ _ _ (not_before row.start) ∙ cond-false _ _ _ (not_before row.start) ∙ cond-true _ _ _ (eq-eqb row.mwh row.mwh refl)

own_default : (rows : List Share) (i : ℕ) (d e : Share) → i < length rows → get_or rows i d ≡ get_or rows i e
own_default [] i d e less = absurd (omega (arith, less))
own_default (row ∷ rows) zero d e less = refl
own_default (row ∷ rows) (suc i) d e less = own_default rows i d e (omega (arith, less))

-- If two lists of interval rows (energies by quarter hour) have different rows at one index, then
-- the lists are not equal.
pub differ_at : (wanted found : List Share) (i : ℕ) (d e : Share) (f : IntervalFault) → i < length wanted
    → fault_between (get_or wanted i d) (get_or found i e) ≡ Some f → found ≡ wanted → ⊥
differ_at wanted found i d e f lt h is =
    let row : Share = get_or wanted i d in
    let other : get_or found i e ≡ row = ap (λ rs. get_or rs i e) is ∙ own_default wanted i e d lt in
    let reported : None ≡ Some f = sym (no_fault row) ∙ ap (fault_between row) (sym other) ∙ h in
    absurd (cc)

pub lengths_differ : (wanted found : List Share) → length found < length wanted → found ≡ wanted → ⊥
lengths_differ wanted found lt is = absurd (omega (arith, lt, ap (λ (rs : List Share). length rs) is))

pub lengths_differ_too : (wanted found : List Share) → length wanted < length found → found ≡ wanted → ⊥
lengths_differ_too wanted found lt is = absurd (omega (arith, lt, ap (λ (rs : List Share). length rs) is))

-- If two lists have equal first `i` rows, and neither list has more than `i` rows, the lists are
-- equal.
pub all_same : (wanted found : List Share) (i : ℕ) → take i wanted ≡ take i found → length wanted ≤ i → length found ≤ i → found ≡ wanted
all_same wanted found i same le within = sym (take_all i found within) ∙ sym same ∙ take_all i wanted le
