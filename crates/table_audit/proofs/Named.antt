-- Lemmas on adding the discrepancies that an audit found for one meter to the findings about the
-- earlier meters.
use Rattle.std.proofs.Common.{◌≡◌, ◌↔◌, ◌+◌, ◌-◌, ◌<◌, ◌≤◌, ◌^◌, ℕ, zero, suc, min, Bool, true, false, List, [], ◌∷◌, ◌++◌, None, map, take, length, get_or, IsTrue, refl, sym, ap, subst, ◌∙◌, append_assoc, arith}
use Rattle.std.proofs.lemmas.List.{take_all, take_at, take_more, length-map, length-append, length-take, length-take-le, map-append}
use Rattle.sqlite.specs.Order.{Row}
use Rattle.table_audit.specs.declared.differences.Difference.{Difference}
use Rattle.table_audit.specs.declared.differences.Differences.{Differences}
use Rattle.table_audit.specs.declared.differences.TheConstants.{MOST}
use Rattle.table_audit.specs.declared.findings.Finding.{Finding}
use Rattle.table_audit.specs.declared.findings.Findings.{Findings}
use Rattle.table_audit.specs.declared.rows.MeterRows.{MeterRows}
use Rattle.table_audit.specs.Meters.{IsFineMeter, up_to_most}
use Rattle.table_audit.specs.Named.{difference_of, IsUnder, KeepsFirst, of_none, IsReported}
use Rattle.table_audit.specs.Reporting.{Reports}
use Rattle.table_audit.proofs.LookedAt.{all_more}

-- Lemmas on lists that store only the first `n` findings of an audit. If a finding is added to the
-- stored ones only while they are fewer than `n`, they remain the first `n` of all findings.

pub kept_below : {X : Type 0} (n : ℕ) (xs : List X) (x : X) → length xs < n → xs ++ x ∷ [] ≡ take n (xs ++ x ∷ [])
kept_below n xs x lt = let long = length-append xs (x ∷ []) in sym (take_all n (xs ++ x ∷ []) (omega (arith, long, lt)))

pub kept_full : {X : Type 0} (n : ℕ) (xs : List X) (x : X) → length xs ≤ n → n ≤ length xs → xs ≡ take n (xs ++ x ∷ [])
kept_full n xs x few full = sym (take_at xs (x ∷ []) n (omega (arith, few, full)))

take_again : {X : Type 0} (n : ℕ) (xs : List X) (x : X) → take n (take n xs ++ x ∷ []) ≡ take n (xs ++ x ∷ [])
take_again zero xs x = refl
take_again (suc n) [] x = refl
take_again (suc n) (y ∷ ys) x = ap (λ l. y ∷ l) (take_again n ys x)

none_taken : {X : Type 0} (n : ℕ) (xs : List X) → 0 < n → take n xs ≡ [] → xs ≡ []
none_taken n [] lt none = refl
none_taken n (x ∷ xs) lt none =
    let long : min n (length (x ∷ xs)) ≡ 0 = sym (length-take n (x ∷ xs)) ∙ ap length none in absurd (omega (arith, lt, long))

pub both_none : {X : Type 0} (xs ys : List X) → xs ++ ys ≡ [] → (xs ≡ []) × (ys ≡ [])
both_none [] ys none = (refl, none)
both_none (x ∷ xs) ys none = absurd (let f : x ∷ (xs ++ ys) ≡ [] = none in cc)

none_mapped : {X Y : Type 0} (f : X → Y) (xs : List X) → map f xs ≡ [] → xs ≡ []
none_mapped f [] none = refl
none_mapped f (x ∷ xs) none = absurd (let g : f x ∷ map f xs ≡ [] = none in cc)

-- Lemmas on adding the discrepancies of a meter to the findings of an audit, one by one.

pub append_none : {X : Type 0} (xs : List X) → xs ++ [] ≡ xs
append_none [] = refl
append_none (x ∷ xs) = ap (λ l. x ∷ l) (append_none xs)

pub none_kept : (meter : List ℕ) (differences : List Difference) (old : Findings) → length old.first.items ≤ MOST → KeepsFirst meter (take 0 differences) old old
none_kept meter differences old few = record {
  added = [];
  same = refl;
  named = tt;
  kept = sym (take_all MOST old.first.items few) ∙ ap (λ (l : List Finding). take MOST l) (sym (append_none old.first.items));
}

pub kept_more : (meter : List ℕ) (differences : List Difference) (i : ℕ) (d : Difference) (finding : Finding) (old mid new : Findings)
    → i < length differences → KeepsFirst meter (take i differences) old mid
    → IsUnder meter finding → finding.difference ≡ get_or differences i d → new.first.items ≡ take MOST (mid.first.items ++ finding ∷ [])
    → KeepsFirst meter (take (i + 1) differences) old new
kept_more meter differences i d finding old mid new lt kept under same put = record {
  added = kept.added ++ finding ∷ [];
  same = map-append difference_of kept.added (finding ∷ []) ∙ ap (λ (ds : List Difference). ds ++ finding.difference ∷ []) kept.same
      ∙ ap (λ (x : Difference). take i differences ++ x ∷ []) same ∙ sym (take_more differences i d lt);
  named = all_more (IsUnder meter) kept.added finding kept.named under;
  kept = put ∙ ap (λ (xs : List Finding). take MOST (xs ++ finding ∷ [])) kept.kept ∙ take_again MOST (old.first.items ++ kept.added) finding
      ∙ ap (λ (xs : List Finding). take MOST xs) (append_assoc old.first.items kept.added (finding ∷ []));
}

pub kept_length : (meter : List ℕ) (differences : List Difference) (i : ℕ) (old new : Findings) → i ≤ length differences
    → KeepsFirst meter (take i differences) old new → length new.first.items ≡ min MOST (length old.first.items + i)
kept_length meter differences i old new le kept =
    let added : length kept.added ≡ i =
    sym (length-map kept.added difference_of) ∙ ap (λ (ds : List Difference). length ds) kept.same ∙ length-take-le i differences le in
    ap (λ (fs : List Finding). length fs) kept.kept ∙ length-take MOST (old.first.items ++ kept.added)
    ∙ ap (min MOST) (length-append old.first.items kept.added ∙ ap (λ n. length old.first.items + n) added)

pub more_counted : (old mid new long now i : ℕ) → mid ≡ up_to_most (old + (long + i - MOST)) → now ≡ min MOST (long + i)
    → new ≡ up_to_most (mid + (now + 1 - MOST)) → new ≡ up_to_most (old + (long + (i + 1) - MOST))
more_counted old mid new long now i was have is = omega (arith, was, have, is)

pub all_counted : (old mid new long i more : ℕ) → mid ≡ up_to_most (old + (long + i - MOST)) → new ≡ up_to_most (mid + more)
    → new ≡ up_to_most (old + (long + i - MOST) + more)
all_counted old mid new long i more was is = omega (arith, was, is)

pub all_kept : (meter : List ℕ) (differences : List Difference) (i : ℕ) (old mid new : Findings) → length differences ≤ i
    → KeepsFirst meter (take i differences) old mid → new.first ≡ mid.first → KeepsFirst meter differences old new
all_kept meter differences i old mid new le kept same = record {
  added = kept.added;
  same = kept.same ∙ take_all i differences le;
  named = kept.named;
  kept = ap (λ v. v.items) same ∙ kept.kept;
}

-- After the discrepancies of a meter are added, an audit has no finding if and only if the earlier
-- findings and these discrepancies are both empty.

none_reported_named : (meter : List ℕ) (differences : List Difference) (old new : Findings) → KeepsFirst meter differences old new
    → (new.first.items ≡ []) ↔ ((old.first.items ≡ []) × (differences ≡ []))
none_reported_named meter differences old new kept = (
  λ none.
      let two = both_none old.first.items kept.added (none_taken MOST (old.first.items ++ kept.added) (omega arith) (sym kept.kept ∙ none)) in
      (two.0, sym kept.same ∙ ap (λ (fs : List Finding). map difference_of fs) two.1),
  λ two.
      let added : kept.added ≡ [] = none_mapped difference_of kept.added (kept.same ∙ two.1) in
      kept.kept ∙ ap (λ (fs : List Finding). take MOST (fs ++ kept.added)) two.0 ∙ ap (λ (fs : List Finding). take MOST fs) added
      ∙ take_all MOST [] (omega arith),
)

reports_none : (fine : Bool) (old new : Differences) → old.first.items ≡ [] → Reports fine old new → IsTrue fine ↔ (new.first.items ≡ [])
reports_none true old new none same = (λ _. ap (λ (d : Differences). d.first.items) same ∙ none, λ _. refl)
reports_none false old new none some = (
  λ is. absurd (let f : false ≡ true = is in cc),
  λ none. absurd (let long : length new.first.items ≡ 0 = ap (λ (ds : List Difference). length ds) none in omega (arith, long, some)),
)

pub reported_named : (place : ℕ) (row : Row) (rows : MeterRows) (meter : List ℕ) (fine : Bool) (before found : Differences) (given : List Difference)
    (old new last : Findings) → given ≡ found.first.items → last.first ≡ new.first
    → before.first.items ≡ [] → IsTrue fine ↔ IsFineMeter place row rows → Reports fine before found
    → KeepsFirst meter given old new → (last.first.items ≡ []) ↔ ((old.first.items ≡ []) × IsFineMeter place row rows)
reported_named place row rows meter fine before found given old new last given_is last_is none same reports kept =
    let reported = none_reported_named meter found.first.items old new (subst (λ (ds : List Difference). KeepsFirst meter ds old new) given_is kept) in
    let as_fine = reports_none fine before found none reports in
    let items : last.first.items ≡ new.first.items = ap (λ v. v.items) last_is in (
      λ is. let two = reported.0 (sym items ∙ is) in (two.0, same.0 (as_fine.1 two.1)),
      λ is. items ∙ reported.1 (is.0, as_fine.0 (same.1 is.1)),
    )

-- Lemmas about discrepancies that belong to no meter. If an audit adds them to its findings one by
-- one, all of them are added, up to the greatest number of stored findings.

take_twice : {X : Type 0} (n : ℕ) (xs ys : List X) → take n (take n xs ++ ys) ≡ take n (xs ++ ys)
take_twice zero xs ys = refl
take_twice (suc n) [] ys = refl
take_twice (suc n) (x ∷ xs) ys = ap (λ l. x ∷ l) (take_twice n xs ys)

counted_then : (old mid new long now one two : ℕ) → mid ≡ up_to_most (old + (long + one - MOST)) → now ≡ min MOST (long + one)
    → new ≡ up_to_most (mid + (now + two - MOST)) → new ≡ up_to_most (old + (long + (one + two) - MOST))
counted_then old mid new long now one two was have is = omega (arith, was, have, is)

reported_length : (ds : List Difference) (old new : Findings) → IsReported ds old new → length new.first.items ≡ min MOST (length old.first.items + length ds)
reported_length ds old new reported =
    ap (λ (fs : List Finding). length fs) reported.kept ∙ length-take MOST (old.first.items ++ map of_none ds)
    ∙ ap (min MOST) (length-append old.first.items (map of_none ds) ∙ ap (λ n. length old.first.items + n) (length-map ds of_none))

pub none_reported_yet : (found : Findings) → length found.first.items ≤ MOST → found.more ≤ 2 ^ 64 - 1 → IsReported [] found found
none_reported_yet found few fits = record {
  kept = sym (take_all MOST found.first.items few) ∙ ap (λ (l : List Finding). take MOST l) (sym (append_none found.first.items));
  more = omega (arith, few, fits);
  counts = refl;
}

pub reported_then : (ds es : List Difference) (old mid new : Findings) → IsReported ds old mid → IsReported es mid new → IsReported (ds ++ es) old new
reported_then ds es old mid new one two = record {
  kept = two.kept ∙ ap (λ (fs : List Finding). take MOST (fs ++ map of_none es)) one.kept ∙ take_twice MOST (old.first.items ++ map of_none ds) (map of_none es)
      ∙ ap (λ (fs : List Finding). take MOST fs) (append_assoc old.first.items (map of_none ds) (map of_none es))
      ∙ ap (λ (fs : List Finding). take MOST (old.first.items ++ fs)) (sym (map-append of_none ds es));
  more = counted_then old.more mid.more new.more (length old.first.items) (length mid.first.items) (length ds) (length es) one.more
      (reported_length ds old mid one) two.more
      ∙ ap (λ n. up_to_most (old.more + (length old.first.items + n - MOST))) (sym (length-append ds es));
  counts = two.counts ∙ one.counts;
}

pub reported_more : (differences : List Difference) (i : ℕ) (x d : Difference) (old mid new : Findings) → i < length differences
    → IsReported (take i differences) old mid → x ≡ get_or differences i d → new.first.items ≡ take MOST (mid.first.items ++ of_none x ∷ [])
    → new.more ≡ up_to_most (mid.more + (length mid.first.items + 1 - MOST)) → new.counts ≡ mid.counts → IsReported (take (i + 1) differences) old new
reported_more differences i x d old mid new lt reported is kept more counts =
    let one : IsReported (x ∷ []) mid new = record { kept = kept; more = more; counts = counts } in
    let added : take i differences ++ x ∷ [] ≡ take (i + 1) differences =
    ap (λ (y : Difference). take i differences ++ y ∷ []) is ∙ sym (take_more differences i d lt) in
    subst (λ (ds : List Difference). IsReported ds old new) added (reported_then (take i differences) (x ∷ []) old mid new reported one)

pub reported_all : (differences : List Difference) (i : ℕ) (old new : Findings) → length differences ≤ i → IsReported (take i differences) old new → IsReported differences old new
reported_all differences i old new le reported = subst (λ (ds : List Difference). IsReported ds old new) (take_all i differences le) reported

pub reported_none : (ds : List Difference) (old new : Findings) → IsReported ds old new → new.first.items ≡ [] → (old.first.items ≡ []) × (ds ≡ [])
reported_none ds old new reported none =
    let two = both_none old.first.items (map of_none ds) (none_taken MOST (old.first.items ++ map of_none ds) (omega arith) (sym reported.kept ∙ none)) in
    (two.0, none_mapped of_none ds two.1)

pub none_so_reported : (ds : List Difference) (old new : Findings) → IsReported ds old new → old.first.items ≡ [] → ds ≡ [] → new.first.items ≡ []
none_so_reported ds old new reported none no_more =
    reported.kept ∙ ap (λ (fs : List Finding). take MOST (fs ++ map of_none ds)) none
    ∙ ap (λ (es : List Difference). take MOST (map of_none es)) no_more ∙ take_all MOST [] (omega arith)

-- If a finding of an audit names no meter, appending it to a list gives the same list as appending
-- the finding that `of_none` builds from its discrepancy.
pub with_none : (n : ℕ) (fs : List Finding) (f : Finding) → f.meter ≡ None → take n (fs ++ f ∷ []) ≡ take n (fs ++ of_none f.difference ∷ [])
with_none n fs f none = ap (λ m. let g : Finding = record { meter = m; difference = f.difference } in take n (fs ++ g ∷ [])) none
