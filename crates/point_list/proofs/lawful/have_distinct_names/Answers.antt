use Rattle.std.proofs.Common.{◌≡◌, ◌≢◌, ◌∙◌, ℕ, List, IsTrue, ap, false, rules, subst, sym, take, true}
use Rattle.std.specs.List.{All, AllPairs}
use Rattle.std.proofs.lemmas.List.{take_all}
use Rattle.point_list.specs.declared.point.ListedPoint.{ListedPoint}
use Rattle.point_list.proofs.DistinctLemmas.{distinct-earlier, distinct-more}
use Rattle.point_list.proofs.lawful.have_distinct_names.Goals as goal

true-holds : IsTrue true
true-holds = search rules

false-fails : IsTrue false → ⊥
false-fails h = search rules

pub loop-i-preserved : goal.loop-i-preserved
loop-i-preserved c =
    let points = c.args.points.now in
    let x = c.index-points-i.result in
    let name : c.as_bytes.result.now ≡ x.name = c.as_bytes.ensures.bytes ∙ ap (λ (p : ListedPoint). p.name) (sym c.index-points-i.is) in
    let all : All (λ p. p.name ≢ c.as_bytes.result.now) (take c.loop-i.i points) = c.if-not-have_other_names.ensures.0 true-holds in
    distinct-more points c.loop-i.i x c.loop-i-test.true c.index-points-i.is c.loop-i.invariant
    (subst (λ (bytes : List ℕ). All (λ p. p.name ≢ bytes) (take c.loop-i.i points)) name all)

pub returns-then-not-have_other_names : goal.returns-then-not-have_other_names
returns-then-not-have_other_names c = (
  (λ t. absurd (false-fails t)),
  (λ pairs.
      let points = c.args.points.now in
      let x = c.index-points-i.result in
      let name : c.as_bytes.result.now ≡ x.name = c.as_bytes.ensures.bytes ∙ ap (λ (p : ListedPoint). p.name) (sym c.index-points-i.is) in
      c.if-not-have_other_names.ensures.1
      (subst (λ (bytes : List ℕ). All (λ p. p.name ≢ bytes) (take c.loop-i.i points)) (sym name)
      (distinct-earlier points c.loop-i.i x c.loop-i-test.true c.index-points-i.is pairs))),
)

pub returns : goal.returns
returns c = (
  (λ t. subst (λ (points : List ListedPoint). AllPairs (λ a b. a.name ≢ b.name) points) (take_all c.loop-i.i c.args.points.now c.loop-i-test.false) c.loop-i.invariant),
  (λ pairs. true-holds),
)
