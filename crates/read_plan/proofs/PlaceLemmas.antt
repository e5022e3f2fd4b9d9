-- Proves that a binary search in reads sorted by their ends finds the first read that contains an
-- item (a range of registers that one read must contain).
use Rattle.std.proofs.Common.{◌≡◌, ◌∙◌, ℕ, ◌<◌, ◌≤◌, Bool, true, false, List, length, [], ◌∷◌, get_or, sym, refl, ap, arith, inl, inr, subst, not}
use Rattle.std.specs.List.{All}
use Rattle.std.specs.List.Sorted.{IsPartitionedBy, IsPartitionPoint}
use Rattle.std.proofs.lemmas.Bool.{cases_Bool, cases_eq, cases_lt}
use Rattle.std.proofs.lemmas.List.{get_or-map, get_or-take, get_or_default, length-map, length-take-le}
use Rattle.mb_wire.specs.Spans.{code_of}
use Rattle.read_plan.specs.declared.planned_reads.PlannedRead.{PlannedRead}
use Rattle.read_plan.specs.declared.run.Run.{Run}
use Rattle.read_plan.specs.Beginnings.{ends_by}
use Rattle.read_plan.specs.PlannedReads.{IsFirstHolding, IsPlan, Planned, read_run, read_runs}
use Rattle.read_plan.specs.Plans.{ComesBefore, EndsBefore, FollowsRule, Holds, IsContained, IsReadable, LiesWithinReach, SameArea}
use Rattle.read_plan.proofs.EndLemmas.{ends_by-false, ends_by-true}
use Rattle.read_plan.proofs.PlanLemmas.{all-at, any-take, anything, first-before, same_area-trans}

holds-ends : (r x : Run) → Holds r x → ¬ EndsBefore r x
holds-ends r x h (inl o) = let e = ap code_of h.same_area.function in omega (arith, e, o)
holds-ends r x h (inr (inl o)) = let e = h.same_area.area in let l = o.1 in omega (arith, e, l)
holds-ends r x h (inr (inr o)) = let e = h.to_end in let l = o.1 in omega (arith, e, l)

module _ (items runs : List Run) (rule : FollowsRule items runs) (readable : All IsReadable items) where
  abbrev run_at : ℕ → Run
  run_at k = get_or runs k anything

  -- Of two reads of a plan with the same function and area number, the read with the greater index
  -- ends at a higher register. Points with different area numbers are never in one read.
  ends-rise : (i j : ℕ) → i < j → j < length runs → SameArea (run_at i) (run_at j) → (run_at i).end < (run_at j).end
  ends-rise i j below within area =
      let r = run_at i in
      let s = run_at j in
      let at = (rule.begins j anything within).at_item in
      let b = at.1 in
      let first = at.4.1 in
      let few = all-at IsReadable items readable b (at.0, at.2, at.3) in
      let reach : LiesWithinReach s b = record { same_area = at.4.0; from_first = omega (arith, first); in_reach = omega (arith, few.1, first) } in
      let low = all-at (λ x. LiesWithinReach s x → x.end ≤ s.end) items (rule.ends j anything within).last b (at.0, at.2, at.3) reach in
      let lower = first-before r s (rule.ordered i j anything below within) area in
      elim (cases_lt r.end b.end) [
        | inl l ↦ omega (arith, l, low)
        | inr ge ↦
            let contained : Holds r b = record { same_area = same_area-trans r s b area at.4.0; from_first = omega (arith, lower, first); to_end = ge } in
            absurd (at.4.2 (any-take (λ read. Holds read b) runs j i anything below (omega (arith, within)) contained))
      ]

  -- If a read of a plan ends before an item (a register range), each read with a smaller index ends
  -- before the item too.
  ends-before-back : (i j : ℕ) (x : Run) → i < j → j < length runs → EndsBefore (run_at j) x → EndsBefore (run_at i) x
  ends-before-back i j x below within ends = by (rule.ordered i j anything below within) ends
    where
      by : ComesBefore (run_at i) (run_at j) → EndsBefore (run_at j) x → EndsBefore (run_at i) x
      by (inl c) (inl e) = inl (omega (arith, c, e))
      by (inl c) (inr (inl e)) = let f = ap code_of e.0 in inl (omega (arith, c, f))
      by (inl c) (inr (inr e)) = let f = ap code_of e.0.function in inl (omega (arith, c, f))
      by (inr (inl c)) (inl e) = let f = ap code_of c.0 in inl (omega (arith, e, f))
      by (inr (inl c)) (inr (inl e)) = let a = c.1 in let b = e.1 in inr (inl (c.0 ∙ e.0, omega (arith, a, b)))
      by (inr (inl c)) (inr (inr e)) = let a = c.1 in let b = e.0.area in inr (inl (c.0 ∙ e.0.function, omega (arith, a, b)))
      by (inr (inr c)) (inl e) = let f = ap code_of c.0.function in inl (omega (arith, e, f))
      by (inr (inr c)) (inr (inl e)) = let a = c.0.area in let b = e.1 in inr (inl (c.0.function ∙ e.0, omega (arith, a, b)))
      by (inr (inr c)) (inr (inr e)) =
          let rises = ends-rise i j below within c.0 in
          let b = e.1 in
          inr (inr (same_area-trans (run_at i) (run_at j) x c.0 e.0, omega (arith, rises, b)))

  -- Suppose that some read contains an item (a range of registers), and that exactly the first
  -- `count` reads end before it. Then read number `count`, counted from 0, is the first that
  -- contains the item.
  first-holding : (x : Run) (count : ℕ) → IsContained runs x → ((k : ℕ) → k < count → k < length runs → EndsBefore (run_at k) x)
      → ((k : ℕ) → count ≤ k → k < length runs → ¬ EndsBefore (run_at k) x) → IsFirstHolding runs x count
  first-holding x count contained before after =
      let h = contained.0 in
      let at : run_at h ≡ contained.1 = get_or_default runs h anything contained.1 contained.2 ∙ contained.3 in
      let holds : Holds (run_at h) x = subst (λ (r : Run). Holds r x) (sym at) contained.4 in
      let high : count ≤ h = elim (cases_lt h count) [ inl l ↦ absurd (holds-ends (run_at h) x holds (before h l contained.2)) | inr ge ↦ ge ] in
      let within : count < length runs = omega (arith, high, contained.2) in
      let r = run_at count in
      let not-before = after count (omega arith) within in
      let here : Holds r x = elim (cases_lt count h) [
        | inr ge ↦ subst (λ (n : ℕ). Holds (run_at n) x) (let e : h ≡ count = omega (arith, high, ge) in e) holds
        | inl less ↦ earlier (run_at h) r x (rule.ordered count h anything less contained.2) holds not-before
      ] in
      record {
        within = within;
        holds = λ d. rw (get_or_default runs count d anything within) here;
        first = λ w.
            let size = length-take-le count runs (omega (arith, within)) in
            let j = w.0 in
            let below : j < count = omega (arith, size, w.2) in
            let inside : j < length runs = omega (arith, below, within) in
            let is : run_at j ≡ w.1 = get_or_default runs j anything w.1 inside ∙ sym (get_or-take count runs j w.1 below) ∙ w.3 in
            holds-ends (run_at j) x (subst (λ (s : Run). Holds s x) (sym is) w.4) (before j below inside);
      }
    where
      earlier : (s r x : Run) → ComesBefore r s → Holds s x → ¬ EndsBefore r x → Holds r x
      earlier s r x (inl c) h never = let f = ap code_of h.same_area.function in absurd (never (inl (omega (arith, c, f))))
      earlier s r x (inr (inl c)) h never = let a = h.same_area.area in let b = c.1 in absurd (never (inr (inl (c.0 ∙ h.same_area.function, omega (arith, a, b)))))
      earlier s r x (inr (inr c)) h never =
          let area = same_area-trans r s x c.0 h.same_area in
          let a = c.1 in
          let b = h.from_first in
          record {
            same_area = area;
            from_first = omega (arith, a, b);
            to_end = elim (cases_lt r.end x.end) [ inl l ↦ absurd (never (inr (inr (area, l)))) | inr ge ↦ ge ];
          }

module _ (items : List Run) (reads : List PlannedRead) (rule : FollowsRule items (read_runs reads)) (readable : All IsReadable items) (x : Run) where
  abbrev not_yet : PlannedRead → Bool
  not_yet read = not (ends_by x (read_run read))

  at-run : (k : ℕ) (d : PlannedRead) → k < length reads → get_or (read_runs reads) k anything ≡ read_run (get_or reads k d)
  at-run k d within = get_or-map read_run reads k d anything within

  ends-of : (read : PlannedRead) → not_yet read ≡ true → EndsBefore (read_run read) x
  ends-of read e = elim (cases_Bool (ends_by x (read_run read))) [ inl t ↦ cc (rw t at e) | inr f ↦ ends_by-false x (read_run read) f ]

  ends-not : (read : PlannedRead) → not_yet read ≡ false → ¬ EndsBefore (read_run read) x
  ends-not read e = elim (cases_Bool (ends_by x (read_run read))) [ inl t ↦ ends_by-true x (read_run read) t | inr f ↦ cc (rw f at e) ]

  pub reads-partitioned : IsPartitionedBy not_yet reads
  reads-partitioned i j d below within e = elim (cases_eq i j) [
    | inl same ↦ ap (λ (k : ℕ). not_yet (get_or reads k d)) same ∙ e
    | inr other ↦
        let size = length-map reads read_run in
        let less : i < j = omega (arith, below, other) in
        let later = subst (λ (r : Run). EndsBefore r x) (sym (at-run j d within)) (ends-of (get_or reads j d) e) in
        let back = ends-before-back items (read_runs reads) rule readable i j x less (omega (arith, within, size)) later in
        let here : EndsBefore (read_run (get_or reads i d)) x = subst (λ (r : Run). EndsBefore r x) (at-run i d (omega (arith, less, within))) back in
        elim (cases_Bool (not_yet (get_or reads i d))) [ inl t ↦ t | inr f ↦ absurd (ends-not (get_or reads i d) f here) ]
  ]

  pub found-first : (count : ℕ) → IsContained (read_runs reads) x → IsPartitionPoint (λ read. not_yet read ≡ true) (λ read. not_yet read ≡ false) reads count
      → IsFirstHolding (read_runs reads) x count
  found-first count contained point =
      let size = length-map reads read_run in
      by-first reads refl
    where
      by-first : (rs : List PlannedRead) → rs ≡ reads → IsFirstHolding (read_runs reads) x count
      by-first [] e = absurd (omega (arith, contained.2, length-map reads read_run, ap length e))
      by-first (d ∷ ds) e =
          let size = length-map reads read_run in
          first-holding items (read_runs reads) rule readable x count contained
          (λ k below within.
          let inside : k < length reads = omega (arith, within, size) in
          subst (λ (r : Run). EndsBefore r x) (sym (at-run k d inside)) (ends-of (get_or reads k d) (point.0 k d (omega arith) below)))
          (λ k above within ends.
          let inside : k < length reads = omega (arith, within, size) in
          ends-not (get_or reads k d) (point.1 k d above inside) (subst (λ (r : Run). EndsBefore r x) (at-run k d inside) ends))

-- The properties of the search result for a point: the read that contains the point, and the
-- point's offset in this read.
pub record PlaceFacts (plan : Planned) (point count : ℕ) (x : Run) : Type 0 where
  pub read_within : count < length plan.reads
  pub point_within : point < length plan.starts
  pub first : IsFirstHolding (read_runs plan.reads) x count
  pub before : (d : PlannedRead) → (get_or plan.reads count d).span.address ≤ get_or plan.starts point 0

pub plan-partitioned : (plan : Planned) → IsPlan plan → (x : Run) → IsPartitionedBy (λ read. not (ends_by x (read_run read))) plan.reads
plan-partitioned plan is x = reads-partitioned plan.items plan.reads is.rule is.readable x

pub place-facts : (plan : Planned) (point count : ℕ) (x : Run) → IsPlan plan → point < length plan.items → x ≡ get_or plan.items point x
    → IsPartitionPoint (λ read. not (ends_by x (read_run read)) ≡ true) (λ read. not (ends_by x (read_run read)) ≡ false) plan.reads count → PlaceFacts plan point count x
place-facts plan point count x is within at stop =
    let contained : IsContained (read_runs plan.reads) x = subst (λ (r : Run). IsContained (read_runs plan.reads) r) (sym at) (is.rule.contained point x within) in
    let found = found-first plan.items plan.reads is.rule is.readable x count contained stop in
    let size = length-map plan.reads read_run in
    let same = is.each in
    let inside : count < length plan.reads = omega (arith, found.within, size) in
    let begun = is.begun point x within in
    let low : x.first ≤ get_or plan.starts point 0 = subst (λ (r : Run). r.first ≤ get_or plan.starts point 0) (sym at) begun.0 in
    record {
      read_within = inside;
      point_within = omega (arith, within, same);
      first = found;
      before = λ e.
          let is-run = get_or-map read_run plan.reads count e anything inside in
          let first = subst (λ (r : Run). r.first ≤ x.first) is-run (found.holds anything).from_first in
          omega (arith, first, low);
    }
