-- Proves that the planning rule allows only one list of reads. By the rule, each read begins at the
-- first uncovered register and covers as much as possible.
use Rattle.std.proofs.Common.{◌≡◌, ◌∙◌, ℕ, zero, suc, ◌+◌, ◌<◌, ◌≤◌, List, [], ◌∷◌, ◌++◌, length, get_or, take, sym, refl, ap, subst, arith, inl, inr}
use Rattle.std.specs.List.{All, AllPairs}
use Rattle.std.proofs.lemmas.Bool.{cases_lt}
use Rattle.std.proofs.lemmas.List.{get_or_default, take_more}
use Rattle.std.proofs.Math.Seq.{take-length}
use Rattle.mb_wire.specs.Spans.{code_of}
use Rattle.mb_wire.specs.declared.span.ReadFunction.{ReadFunction}
use Rattle.mb_wire.specs.declared.span.ReadFunction.TheVariants.{HoldingRegisters}
use Rattle.read_plan.specs.declared.run.Run.{Run}
use Rattle.read_plan.specs.Plans.{SameArea, Holds, IsContained, ComesBefore, LiesWithinReach, EndsAtLastInReach, FollowsRule}
use Rattle.read_plan.proofs.BeginningLemmas.{before-or-same}
use Rattle.read_plan.proofs.PlanLemmas.{any-take, same_area-sym, same_area-trans}

same_function : (a b : Run) → a.function ≡ b.function → code_of a.function ≡ code_of b.function
same_function a b same = ap code_of same

-- If a read begins after the first register of an item (a range that one read must contain), then
-- the read does not contain the item.
too_late : (x r item : Run) → SameArea x item → item.first ≡ x.first → ComesBefore x r → Holds r item → ⊥
too_late x r item same first (inl lt) holds =
    omega (arith, same_function x item same.function, same_function r item holds.same_area.function, lt)
too_late x r item same first (inr (inl h)) holds = omega (arith, same.area, holds.same_area.area, h.1)
too_late x r item same first (inr (inr h)) holds = omega (arith, first, holds.from_first, h.1)

after_both : (x y r : Run) → ComesBefore x y → ComesBefore y r → ComesBefore x r
after_both x y r (inl a) (inl b) = inl (omega (arith, a, b))
after_both x y r (inl a) (inr (inl b)) = inl (omega (arith, a, same_function y r b.0))
after_both x y r (inl a) (inr (inr b)) = inl (omega (arith, a, same_function y r b.0.function))
after_both x y r (inr (inl a)) (inl b) = inl (omega (arith, same_function x y a.0, b))
after_both x y r (inr (inl a)) (inr (inl b)) = inr (inl (a.0 ∙ b.0, omega (arith, a.1, b.1)))
after_both x y r (inr (inl a)) (inr (inr b)) = inr (inl (a.0 ∙ b.0.function, omega (arith, a.1, b.0.area)))
after_both x y r (inr (inr a)) (inl b) = inl (omega (arith, same_function x y a.0.function, b))
after_both x y r (inr (inr a)) (inr (inl b)) = inr (inl (a.0.function ∙ b.0, omega (arith, a.0.area, b.1)))
after_both x y r (inr (inr a)) (inr (inr b)) = inr (inr (same_area-trans x y r a.0 b.0, omega (arith, a.1, b.1)))

-- In a list of reads sorted by function, area number and first register, a range that comes before
-- one read also comes before each later read. No read has registers of two areas.
before_later : (ys : List Run) (x : Run) (k j : ℕ) (d : Run) → AllPairs ComesBefore ys → k ≤ j → j < length ys
    → ComesBefore x (get_or ys k d) → ComesBefore x (get_or ys j d)
before_later ys x k j d ordered le lt before =
    elim (cases_lt k j) [
      | inl less ↦ after_both x (get_or ys k d) (get_or ys j d) before (ordered k j d less lt)
      | inr ge ↦ subst (λ (n : ℕ). ComesBefore x (get_or ys n d)) (omega (arith, le, ge)) before
    ]

-- If every item of a list is contained in some read, then the item with the index `k` is contained
-- in some read.
contained_item : (reads items : List Run) (item : Run) (k : ℕ) → All (IsContained reads) items → k < length items → get_or items k item ≡ item
    → IsContained reads item
contained_item reads items item k all lt is = subst (IsContained reads) is (all k item lt)

-- Suppose that two plans follow the planning rule (each read begins at the first uncovered register
-- and covers as much as possible) and have the same first `k` reads. Then the next read of the
-- first plan does not come before that of the second (by function, area number and first register;
-- no read has registers of two areas).
not_before : (items xs ys : List Run) (k : ℕ) (d : Run) → FollowsRule items xs → FollowsRule items ys → k < length xs → k < length ys
    → take k xs ≡ take k ys → ComesBefore (get_or xs k d) (get_or ys k d) → ⊥
not_before items xs ys k d hx hy there here same before =
    let x : Run = get_or xs k d in
    let w = (hx.begins k d there).at_item in
    let item : Run = w.1 in
    let contained : IsContained ys item = contained_item ys items item w.0 hy.contained w.2 w.3 in
    elim (cases_lt contained.0 k) [
      | inl less ↦ w.4.2
          (subst (λ (l : List Run). IsContained l item) (sym same)
          (any-take (λ (read : Run). Holds read item) ys k contained.0 contained.1 less (omega (arith, here))
          (subst (λ (r : Run). Holds r item) (sym contained.3) contained.4)))
      | inr ge ↦
          let later : ComesBefore x (get_or ys contained.0 d) = before_later ys x k contained.0 d hy.ordered ge contained.2 before in
          let is : get_or ys contained.0 d ≡ contained.1 = get_or_default ys contained.0 d contained.1 contained.2 ∙ contained.3 in
          too_late x contained.1 item w.4.0 w.4.1 (subst (ComesBefore x) is later) contained.4
    ]

ends_no_later : (items : List Run) (x y : Run) → SameArea x y → x.first ≡ y.first → EndsAtLastInReach items x → EndsAtLastInReach items y → x.end ≤ y.end
ends_no_later items x y same first ex ey =
    let w = ex.at_item in
    let item : Run = w.1 in
    let reach : LiesWithinReach y item = record {
      same_area = same_area-trans y x item (same_area-sym x y same) w.4.0.same_area;
      from_first = omega (arith, w.4.0.from_first, first);
      in_reach = omega (arith, w.4.0.in_reach, first);
    } in
    let no_later : item.end ≤ y.end =
    subst (λ (r : Run). LiesWithinReach y r → r.end ≤ y.end) w.3 (ey.last w.0 item w.2) reach in
    omega (arith, no_later, w.4.1)

same_run : (x y : Run) → SameArea x y → x.first ≡ y.first → x.end ≡ y.end → x ≡ y
same_run x y same first end =
    ap (λ (t : ReadFunction). let r : Run = record { function = t; area = x.area; first = x.first; end = x.end } in r) same.function
    ∙ ap (λ n. let r : Run = record { function = y.function; area = n; first = x.first; end = x.end } in r) same.area
    ∙ ap (λ n. let r : Run = record { function = y.function; area = y.area; first = n; end = x.end } in r) first
    ∙ ap (λ n. let r : Run = record { function = y.function; area = y.area; first = y.first; end = n } in r) end

same_read : (items xs ys : List Run) (k : ℕ) (d : Run) → FollowsRule items xs → FollowsRule items ys → k < length xs → k < length ys
    → take k xs ≡ take k ys → get_or xs k d ≡ get_or ys k d
same_read items xs ys k d hx hy there here same =
    let x : Run = get_or xs k d in
    let y : Run = get_or ys k d in
    elim (before-or-same x y) [
      | inl before ↦ absurd (not_before items xs ys k d hx hy there here same before)
      | inr (inl after) ↦ absurd (not_before items ys xs k d hy hx here there (sym same) after)
      | inr (inr both) ↦
          let low = ends_no_later items x y both.0 both.1 (hx.ends k d there) (hy.ends k d here) in
          let high = ends_no_later items y x (same_area-sym x y both.0) (sym both.1) (hy.ends k d here) (hx.ends k d there) in
          same_run x y both.0 both.1 (omega (arith, low, high))
    ]

a_run : Run
a_run = record { function = HoldingRegisters; area = 0; first = 0; end = 0 }

same_front : (items xs ys : List Run) (k : ℕ) → FollowsRule items xs → FollowsRule items ys → k ≤ length xs → k ≤ length ys → take k xs ≡ take k ys
same_front items xs ys zero hx hy there here = refl
same_front items xs ys (suc k) hx hy there here =
    let same : take k xs ≡ take k ys = same_front items xs ys k hx hy (omega (arith, there)) (omega (arith, here)) in
    let in_xs : k < length xs = omega (arith, there) in
    let in_ys : k < length ys = omega (arith, here) in
    let next : k + 1 ≡ suc k = omega arith in
    ap (λ n. take n xs) (sym next) ∙ take_more xs k a_run in_xs
    ∙ ap (λ (l : List Run). l ++ get_or xs k a_run ∷ []) same
    ∙ ap (λ (r : Run). take k ys ++ r ∷ []) (same_read items xs ys k a_run hx hy in_xs in_ys same)
    ∙ sym (take_more ys k a_run in_ys) ∙ ap (λ n. take n ys) next

-- If two plans for the same items (register ranges) follow the planning rule, neither has fewer
-- reads than the other. By the rule, each read begins at the first uncovered register and covers as
-- much as possible.
no_longer : (items xs ys : List Run) → FollowsRule items xs → FollowsRule items ys → length xs < length ys → ⊥
no_longer items xs ys hx hy less =
    let n : ℕ = length xs in
    let same : xs ≡ take n ys = sym (take-length xs) ∙ same_front items xs ys n hx hy (omega arith) (omega (arith, less)) in
    let w = (hy.begins n a_run less).at_item in
    w.4.2 (subst (λ (l : List Run). IsContained l w.1) same (contained_item xs items w.1 w.0 hx.contained w.2 w.3))

pub rule_is_one : (items xs ys : List Run) → FollowsRule items xs → FollowsRule items ys → xs ≡ ys
rule_is_one items xs ys hx hy =
    elim (cases_lt (length xs) (length ys)) [
      | inl less ↦ absurd (no_longer items xs ys hx hy less)
      | inr ge ↦ elim (cases_lt (length ys) (length xs)) [
        | inl less ↦ absurd (no_longer items ys xs hy hx less)
        | inr le ↦
            let n : length xs ≡ length ys = omega (arith, ge, le) in
            sym (take-length xs) ∙ same_front items xs ys (length xs) hx hy (omega arith) (omega (arith, n))
            ∙ ap (λ k. take k ys) n ∙ take-length ys
      ]
    ]
