-- Proves that reads by the planning rule form a valid plan if each item (a point and its scale
-- factor, which one read must contain) fits in one read. By the rule, each read begins at the first
-- uncovered register and covers as much as possible.
use Rattle.std.proofs.Common.{◌≤◌, List, get_or, arith}
use Rattle.std.specs.List.{All, Any}
use Rattle.read_plan.specs.declared.run.Run.{Run}
use Rattle.read_plan.specs.Plans.{FollowsRule, IsInArea, IsLawful, IsReadable, LiesWithinReach, SameArea}
use Rattle.read_plan.proofs.PlanLemmas.{all-at, same_area-sym, same_area-trans}

any-weaker : (P Q : Run → Type 0) (xs : List Run) → ((x : Run) → P x → Q x) → Any P xs → Any Q xs
any-weaker P Q xs f w = (w.0, w.1, w.2, w.3, f w.1 w.4)

module _ (points items reads : List Run) (rule : FollowsRule items reads) (readable : All IsReadable items) where
  reads-readable : All IsReadable reads
  reads-readable k d within =
      let r = get_or reads k d in
      let at = (rule.begins k d within).at_item in
      let b = at.1 in
      let few = all-at IsReadable items readable b (at.0, at.2, at.3) in
      let first = at.4.1 in
      let reach : LiesWithinReach r b = record { same_area = at.4.0; from_first = omega (arith, first); in_reach = omega (arith, few.1, first) } in
      let low = all-at (λ i. LiesWithinReach r i → i.end ≤ r.end) items (rule.ends k d within).last b (at.0, at.2, at.3) reach in
      let end = (rule.ends k d within).at_item in
      let high = end.4.0.in_reach in
      let is = end.4.1 in
      (omega (arith, first, few.0, low), omega (arith, high, is))

  pub reads-inside : All (λ i. i.end ≤ 65536) items → All (λ r. r.end ≤ 65536) reads
  reads-inside inside k d within =
      let end = (rule.ends k d within).at_item in
      let is = end.4.1 in
      let low = all-at (λ i. i.end ≤ 65536) items inside end.1 (end.0, end.2, end.3) in
      omega (arith, is, low)

  reads-in-areas : All (IsInArea points) items → All (IsInArea points) reads
  reads-in-areas areas k d within =
      let r = get_or reads k d in
      let at = (rule.begins k d within).at_item in
      let b = at.1 in
      let first = at.4.1 in
      let end = (rule.ends k d within).at_item in
      let i = end.1 in
      let is = end.4.1 in
      record {
        after_first = any-weaker (λ p. SameArea p b × p.first ≤ b.first) (λ p. SameArea p r × p.first ≤ r.first) points
            (λ p h. let o = h.1 in (same_area-trans p b r h.0 (same_area-sym r b at.4.0), omega (arith, first, o)))
            (all-at (IsInArea points) items areas b (at.0, at.2, at.3)).after_first;
        before_last = any-weaker (λ p. SameArea p i × i.end ≤ p.end) (λ p. SameArea p r × r.end ≤ p.end) points
            (λ p h. let o = h.1 in (same_area-trans p i r h.0 (same_area-sym r i end.4.0.same_area), omega (arith, is, o)))
            (all-at (IsInArea points) items areas i (end.0, end.2, end.3)).before_last;
      }

  pub rule-lawful : All (IsInArea points) items → IsLawful points items reads
  rule-lawful areas = record { readable = reads-readable; in_areas = reads-in-areas areas; contained = rule.contained }
