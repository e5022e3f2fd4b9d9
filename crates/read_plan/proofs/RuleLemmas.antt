-- Proves that the computed reads follow the planning rule. Each read ends at the greatest end of
-- those items that lie within 125 registers from the start of the read.
use Rattle.std.proofs.Common.{◌≡◌, ◌∙◌, ℕ, ◌+◌, ◌<◌, ◌≤◌, List, length, get_or, take, sym, refl, ap, arith, inl, inr, subst}
use Rattle.std.specs.List.{All, AllZip, Any, Contains}
use Rattle.std.specs.List.Sorted.{IsPermutation}
use Rattle.std.proofs.lemmas.Bool.{cases_lt}
use Rattle.std.proofs.lemmas.List.{get_or-take, get_or_default, length-take-le}
use Rattle.std.proofs.lemmas.List.Sorted.{All-permutation, Contains-permutation, IsPermutation-sym}
use Rattle.std.proofs.lemmas.List.Elements.{All-weaker, AllZip-get_or, length_all_zip}
use Rattle.read_plan.specs.declared.run.Run.{Run}
use Rattle.read_plan.specs.Beginnings.{AreBeginnings, IsGreatestEnd, ReadsFrom}
use Rattle.mb_wire.specs.Spans.{code_of}
use Rattle.read_plan.specs.Plans.{BeginsAtFirstUnheld, ComesBefore, EndsAtLastInReach, FollowsRule, Holds, IsContained, IsReadable, LiesWithinReach, SameArea}
use Rattle.read_plan.proofs.PlanLemmas.{all-at, any-take, anything, first-before, same_area-sym, same_area-trans}

any-permutation : (P : Run → Type 0) (xs ys : List Run) → IsPermutation xs ys → Any P xs → Any P ys
any-permutation P xs ys moved w = let c = Contains-permutation xs ys w.1 moved (w.0, w.2, w.3) in (c.0, w.1, c.1, c.2, w.4)

pub beginnings-permutation : (xs ys found : List Run) → IsPermutation xs ys → AreBeginnings xs found → AreBeginnings ys found
beginnings-permutation xs ys found moved begins = record {
  among = All-weaker (Contains xs) (Contains ys) (λ r w. Contains-permutation xs ys r moved w) found begins.among;
  apart = begins.apart;
  reach = All-permutation (λ item. Any (λ begin. LiesWithinReach begin item) found) xs ys moved begins.reach;
}

pub greatest-permutation : (xs ys : List Run) (begin : Run) (end : ℕ) → IsPermutation xs ys → IsGreatestEnd xs begin end → IsGreatestEnd ys begin end
greatest-permutation xs ys begin end moved greatest = record {
  at_item = any-permutation (λ item. SameArea begin item × (item.end ≤ begin.first + 125) × (item.end ≡ end)) xs ys moved greatest.at_item;
  last = All-permutation (λ item. SameArea begin item → item.end ≤ begin.first + 125 → item.end ≤ end) xs ys moved greatest.last;
}

before-moved : (a b x y : Run) → SameArea a x → a.first ≡ x.first → SameArea b y → b.first ≡ y.first → ComesBefore a b → ComesBefore x y
before-moved a b x y sa ea sb eb (inl f) = let p = ap code_of sa.function in let q = ap code_of sb.function in inl (omega (arith, p, q, f))
before-moved a b x y sa ea sb eb (inr (inl h)) = let p = sa.area in let q = sb.area in let o = h.1 in inr (inl (sym sa.function ∙ h.0 ∙ sb.function, omega (arith, p, q, o)))
before-moved a b x y sa ea sb eb (inr (inr h)) = let o = h.1 in inr (inr (same_area-trans x a y (same_area-sym a x sa) (same_area-trans a b y h.0 sb), omega (arith, ea, eb, o)))

module _ (items begins reads : List Run) (readable : All IsReadable items) (from : AreBeginnings items begins) (same : length reads ≡ length begins)
    (each : (k : ℕ) → k < length begins → ReadsFrom items (get_or begins k anything) (get_or reads k anything)) where
  abbrev begin_at : ℕ → Run
  begin_at k = get_or begins k anything

  abbrev read_at : ℕ → Run
  read_at k = get_or reads k anything

  -- Suppose that an item (a register range) begins before the start of a read with the same
  -- function and area number (no read has registers of two areas). Then the item lies within 125
  -- registers from the start of an earlier read.
  earlier : (x : Run) (k : ℕ) → k < length begins → SameArea (begin_at k) x → x.first < (begin_at k).first → Any (λ b. LiesWithinReach b x) begins
      → (j : ℕ) × (j < k) × LiesWithinReach (begin_at j) x
  earlier x k within area lower w =
      let j = w.0 in
      let at : begin_at j ≡ w.1 = get_or_default begins j anything w.1 w.2 ∙ w.3 in
      let reach : LiesWithinReach (begin_at j) x = subst (λ (b : Run). LiesWithinReach b x) (sym at) w.4 in
      elim (cases_lt j k) [
        | inl below ↦ (j, below, reach)
        | inr above ↦ elim (cases_lt k j) [
          | inl less ↦
              let r = reach.from_first in
              let o = first-before (begin_at k) (begin_at j) (from.apart k j anything less w.2).0
              (same_area-trans (begin_at k) x (begin_at j) area (same_area-sym (begin_at j) x reach.same_area)) in
              absurd (omega (arith, lower, r, o))
          | inr le ↦
              let e : j ≡ k = omega (arith, above, le) in
              let r = subst (λ (n : ℕ). (begin_at n).first ≤ x.first) e reach.from_first in
              absurd (omega (arith, lower, r))
        ]
      ]

  -- A read of the plan contains each item (a range that one read must contain) that lies within 125
  -- registers from the start of this read.
  holds-reach : (x : Run) → Contains items x → (j : ℕ) → j < length begins → LiesWithinReach (begin_at j) x → Holds (read_at j) x
  holds-reach x among j within reach =
      let f = each j within in
      let e = f.first in
      let r = reach.from_first in
      record {
        same_area = same_area-trans (read_at j) (begin_at j) x (same_area-sym (begin_at j) (read_at j) f.same_area) reach.same_area;
        from_first = omega (arith, e, r);
        to_end = all-at (λ item. SameArea (begin_at j) item → item.end ≤ (begin_at j).first + 125 → item.end ≤ (read_at j).end) items f.end.last x among reach.same_area reach.in_reach;
      }

  -- Suppose that a later read starts at an item (a range of registers). Then each earlier read with
  -- the same function and area number (no read has registers of two areas) ends before the end of
  -- this item.
  unreached : (j k : ℕ) → j < k → k < length begins → SameArea (begin_at j) (begin_at k) → (read_at j).end < (begin_at k).end
  unreached j k below within area =
      let a = (from.apart j k anything below within).1 area in
      let end = (each j (omega (arith, below, within))).end.at_item in
      let few = end.4.1 in
      let is = end.4.2 in
      omega (arith, a, few, is)

  unheld : (k : ℕ) → k < length begins → IsContained (take k reads) (begin_at k) → ⊥
  unheld k within w =
      let size = length-take-le k reads (omega (arith, within, same)) in
      let j = w.0 in
      let below : j < k = omega (arith, size, w.2) in
      let within-j : j < length reads = omega (arith, below, within, same) in
      let at : read_at j ≡ w.1 = get_or_default reads j anything w.1 within-j ∙ sym (get_or-take k reads j w.1 below) ∙ w.3 in
      let contained : Holds (read_at j) (begin_at k) = subst (λ (r : Run). Holds r (begin_at k)) (sym at) w.4 in
      let f = each j (omega (arith, below, within)) in
      let far = unreached j k below within (same_area-trans (begin_at j) (read_at j) (begin_at k) f.same_area contained.same_area) in
      let e = contained.to_end in
      omega (arith, far, e)

  begins-first : (k : ℕ) → k < length begins → BeginsAtFirstUnheld items (take k reads) (read_at k)
  begins-first k within =
      let b = begin_at k in
      let r = read_at k in
      let f = each k within in
      let among = from.among k anything within in
      record {
        at_item = (among.0, b, among.1, among.2, (same_area-sym b r f.same_area, f.first, unheld k within));
        first = λ i d inside area lower.
            let x = get_or items i d in
            let is = f.first in
            let one = earlier x k within (same_area-trans b r x f.same_area area) (omega (arith, lower, is)) (from.reach i d inside) in
            let within-j : one.0 < length begins = omega (arith, one.1, within) in
            any-take (λ read. Holds read x) reads k one.0 anything one.1 (omega (arith, within, same))
            (holds-reach x (i, inside, get_or_default items i x d inside) one.0 within-j one.2);
      }

  ends-last : (k : ℕ) → k < length begins → EndsAtLastInReach items (read_at k)
  ends-last k within =
      let b = begin_at k in
      let r = read_at k in
      let f = each k within in
      let is = f.first in
      let w = f.end.at_item in
      let x = w.1 in
      let few = w.4.1 in
      let ends = w.4.2 in
      let among = from.among k anything within in
      let own : b.end ≤ r.end =
      all-at (λ item. SameArea b item → item.end ≤ b.first + 125 → item.end ≤ r.end) items f.end.last b among (record { function = refl; area = refl }) (all-at IsReadable items readable b among).1 in
      let high : b.first ≤ x.first = elim (cases_lt x.first b.first) [
        | inr ge ↦ ge
        | inl lower ↦
            let covers : Any (λ begin. LiesWithinReach begin x) begins = all-at (λ item. Any (λ begin. LiesWithinReach begin item) begins) items from.reach x (w.0, w.2, w.3) in
            let one = earlier x k within w.4.0 lower covers in
            let j = one.0 in
            let reach = one.2.in_reach in
            let far = (from.apart j k anything one.1 within).1
            (same_area-trans (begin_at j) x b one.2.same_area (same_area-sym b x w.4.0)) in
            absurd (omega (arith, reach, far, own, ends))
      ] in
      let area : SameArea r x = same_area-trans r b x (same_area-sym b r f.same_area) w.4.0 in
      record {
        at_item = (w.0, x, w.2, w.3, (record { same_area = area; from_first = omega (arith, high, is); in_reach = omega (arith, few, is) }, ends));
        last = λ i d inside reach.
            let e = reach.in_reach in
            f.end.last i d inside (same_area-trans b r (get_or items i d) f.same_area reach.same_area) (omega (arith, e, is));
      }

  pub follows-rule : FollowsRule items reads
  follows-rule = record {
    ordered = λ i j d below within.
        let at-i : get_or reads i d ≡ read_at i = get_or_default reads i d anything (omega (arith, below, within)) in
        let at-j : get_or reads j d ≡ read_at j = get_or_default reads j d anything within in
        let within-j : j < length begins = omega (arith, within, same) in
        let f = each i (omega (arith, below, within-j)) in
        let g = each j within-j in
        rw (at-i, at-j) (before-moved (begin_at i) (begin_at j) (read_at i) (read_at j) f.same_area f.first g.same_area g.first (from.apart i j anything below within-j).0);
    begins = λ k d within. rw (get_or_default reads k d anything within) (begins-first k (omega (arith, within, same)));
    ends = λ k d within. rw (get_or_default reads k d anything within) (ends-last k (omega (arith, within, same)));
    contained = λ i d inside.
        let x = get_or items i d in
        let w = from.reach i d inside in
        let j = w.0 in
        let at : begin_at j ≡ w.1 = get_or_default begins j anything w.1 w.2 ∙ w.3 in
        let reach : LiesWithinReach (begin_at j) x = subst (λ (b : Run). LiesWithinReach b x) (sym at) w.4 in (
          j,
          read_at j,
          omega (arith, w.2, same),
          get_or_default reads j (read_at j) anything (omega (arith, w.2, same)),
          holds-reach x (i, inside, get_or_default items i x d inside) j w.2 reach,
        );
  }

-- Suppose that Modbus reads begin and end as computed from sorted items (register ranges). Then
-- they satisfy `FollowsRule`, the contract of read planning, for these items in any order.
pub rule-of-sorted : (items sorted ended begins reads : List Run) → IsPermutation items sorted → IsPermutation items ended → All IsReadable items → AreBeginnings sorted begins
    → AllZip (ReadsFrom ended) begins reads → FollowsRule items reads
rule-of-sorted items sorted ended begins reads same-sorted same-ended readable from zipped =
    let back = IsPermutation-sym items ended same-ended in
    follows-rule items begins reads readable (beginnings-permutation sorted items begins (IsPermutation-sym items sorted same-sorted) from)
    (sym (length_all_zip (ReadsFrom ended) begins reads zipped))
    (λ k within.
    let f = AllZip-get_or (ReadsFrom ended) begins reads k anything anything zipped within in
    record { same_area = f.same_area; first = f.first; end = greatest-permutation ended items (get_or begins k anything) (get_or reads k anything).end back f.end })

-- Each item (register range) at which a read starts is in the list of items, however the list is
-- sorted.
pub beginnings-among : (items sorted ended begins : List Run) → IsPermutation items sorted → IsPermutation items ended → AreBeginnings sorted begins → All (Contains ended) begins
beginnings-among items sorted ended begins same-sorted same-ended from =
    All-weaker (Contains sorted) (Contains ended)
    (λ r w. Contains-permutation items ended r same-ended (Contains-permutation sorted items r (IsPermutation-sym items sorted same-sorted) w)) begins from.among

pub beginnings-keep : (P : Run → Type 0) (items sorted begins : List Run) → IsPermutation items sorted → AreBeginnings sorted begins → All P items → All P begins
beginnings-keep P items sorted begins same-sorted from all =
    All-weaker (Contains sorted) P (λ r w. all-at P items all r (Contains-permutation sorted items r (IsPermutation-sym items sorted same-sorted) w)) begins from.among
