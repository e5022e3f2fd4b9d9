-- Proves that a binary search in items (register ranges) sorted by their ends finds the greatest
-- end within 125 registers from the start of a read.
use Rattle.std.proofs.Common.{◌≡◌, ◌∙◌, ℕ, ◌+◌, ◌-◌, ◌<◌, ◌≤◌, ◌⊎◌, true, false, List, length, get_or, sym, refl, ap, arith, inl, inr, subst, eqb, ltb, leb}
use Rattle.std.specs.Prelude.{◌&&◌, ◌||◌}
use Rattle.std.specs.List.{AllPairs, Contains}
use Rattle.std.specs.List.Sorted.{IsPartitionedBy, IsPartitionPoint}
use Rattle.std.proofs.lemmas.Bool.{cases_lt, cases_eq, cases_Bool, false≢true}
use Rattle.std.proofs.lemmas.Bool.Decides.{nat_tests}
use Rattle.std.proofs.lemmas.List.{get_or_default}
use Rattle.read_plan.specs.declared.run.Run.{Run}
use Rattle.read_plan.specs.Beginnings.{IsGreatestEnd, ends_by}
use Rattle.mb_wire.specs.Spans.{code_of}
use Rattle.read_plan.specs.Plans.{EndsBefore, SameArea}
use Rattle.read_plan.proofs.BeginningLemmas.{same-function}

test-true : (f g a b x y : ℕ) → f ≡ g → a ≡ b → x ≤ y → (ltb f g || eqb f g && (ltb a b || eqb a b && leb x y)) ≡ true
test-true f g a b x y ef ea le = grind (arith, nat_tests)

test-false : (f g a b x y : ℕ) → (ltb f g || eqb f g && (ltb a b || eqb a b && leb x y)) ≡ false
    → (g < f) ⊎ ((f ≡ g) × (b < a)) ⊎ ((f ≡ g) × (a ≡ b) × (y < x))
test-false f g a b x y e = elim (cases_lt g f) [
  | inl l ↦ inl l
  | inr le ↦ elim (cases_lt f g) [
    | inl l ↦ absurd (grind (arith, nat_tests))
    | inr ge ↦ elim (cases_lt b a) [
      | inl l ↦ inr (inl (omega (arith, le, ge), l))
      | inr le2 ↦ elim (cases_lt a b) [
        | inl l ↦ absurd (grind (arith, nat_tests))
        | inr ge2 ↦ elim (cases_lt y x) [
          | inl l ↦ inr (inr (omega (arith, le, ge), omega (arith, le2, ge2), l))
          | inr le3 ↦ absurd (grind (arith, nat_tests))
        ]
      ]
    ]
  ]
]

pub ends_by-from : (run limit : Run) → SameArea run limit → run.end ≤ limit.end → ends_by run limit ≡ true
ends_by-from run limit s le = test-true (code_of run.function) (code_of limit.function) run.area limit.area run.end limit.end (ap code_of s.function) s.area le

pub ends_by-false : (run limit : Run) → ends_by run limit ≡ false → EndsBefore limit run
ends_by-false run limit e = elim (test-false (code_of run.function) (code_of limit.function) run.area limit.area run.end limit.end e) [
  | inl l ↦ inl l
  | inr (inl h) ↦ inr (inl (sym (same-function run.function limit.function h.0), h.1))
  | inr (inr h) ↦ inr (inr (record { function = sym (same-function run.function limit.function h.0); area = sym h.1 }, h.2))
]

pub ends_by-true : (run limit : Run) → ends_by run limit ≡ true → ¬ EndsBefore limit run
ends_by-true run limit e (inl l) = grind (arith, nat_tests)
ends_by-true run limit e (inr (inl h)) = let f = ap code_of h.0 in let l = h.1 in grind (arith, nat_tests)
ends_by-true run limit e (inr (inr h)) = let f = ap code_of h.0.function in let a = h.0.area in let l = h.1 in grind (arith, nat_tests)

-- Suppose that ranges are ordered by function, area number (no read has registers of two areas) and
-- last register. If the range `l` ends before the range `x`, and the range `y` does not end before
-- `x`, then `l` ends before `y`.
pub ends-before-further : (l x y : Run) → EndsBefore l x → ¬ EndsBefore y x → EndsBefore l y
ends-before-further l x y (inl f) never = inl (elim (cases_lt (code_of y.function) (code_of x.function)) [ inl o ↦ absurd (never (inl o)) | inr ge ↦ omega (arith, f, ge) ])
ends-before-further l x y (inr (inl h)) never =
    let t = ap code_of h.0 in
    let a = h.1 in
    elim (cases_lt (code_of y.function) (code_of x.function)) [
      | inl o ↦ absurd (never (inl o))
      | inr ge ↦ elim (cases_lt (code_of x.function) (code_of y.function)) [
        | inl o ↦ inl (omega (arith, t, o))
        | inr le ↦
            let s = same-function y.function x.function (omega (arith, ge, le)) in
            elim (cases_lt y.area x.area) [ inl o ↦ absurd (never (inr (inl (s, o)))) | inr high ↦ inr (inl (h.0 ∙ sym s, omega (arith, a, high))) ]
      ]
    ]
ends-before-further l x y (inr (inr h)) never =
    let t = ap code_of h.0.function in
    let a = h.0.area in
    let e = h.1 in
    elim (cases_lt (code_of y.function) (code_of x.function)) [
      | inl o ↦ absurd (never (inl o))
      | inr ge ↦ elim (cases_lt (code_of x.function) (code_of y.function)) [
        | inl o ↦ inl (omega (arith, t, o))
        | inr le ↦
            let s = same-function y.function x.function (omega (arith, ge, le)) in
            elim (cases_lt y.area x.area) [
              | inl o ↦ absurd (never (inr (inl (s, o))))
              | inr high ↦ elim (cases_lt x.area y.area) [
                | inl o ↦ inr (inl (h.0.function ∙ sym s, omega (arith, a, o)))
                | inr low ↦
                    let n : y.area ≡ x.area = omega (arith, high, low) in
                    elim (cases_lt y.end x.end) [
                      | inl o ↦ absurd (never (inr (inr (record { function = s; area = n }, o))))
                      | inr far ↦ inr (inr (record { function = h.0.function ∙ sym s; area = a ∙ sym n }, omega (arith, e, far)))
                    ]
              ]
            ]
      ]
    ]

-- In a list of ranges sorted by their ends, the ranges that end at or before a limit are the first
-- elements.
pub ends-partitioned : (ended : List Run) (limit : Run) → AllPairs (λ a b. ¬ EndsBefore b a) ended → IsPartitionedBy (λ r. ends_by r limit) ended
ends-partitioned ended limit ordered i j d below within e = elim (cases_eq i j) [
  | inl same ↦ ap (λ (k : ℕ). ends_by (get_or ended k d) limit) same ∙ e
  | inr other ↦
      let x = get_or ended i d in
      let y = get_or ended j d in
      elim (cases_Bool (ends_by x limit)) [
        | inl passes ↦ passes
        | inr false' ↦ absurd (ends_by-true y limit e (ends-before-further limit x y (ends_by-false x limit false') (ordered i j d (omega (arith, below, other)) within)))
      ]
]

-- Suppose that a range lies between two ranges in the order by function, area number (no read has
-- registers of two areas) and last register. If these two have the same function and area number,
-- the range has them too.
area-between : (b i l : Run) → SameArea b l → ¬ EndsBefore l i → ¬ EndsBefore i b → SameArea b i
area-between b i l s after before =
    let f = ap code_of s.function in
    let a = s.area in
    elim (cases_lt (code_of l.function) (code_of i.function)) [
      | inl o ↦ absurd (after (inl o))
      | inr le ↦ elim (cases_lt (code_of i.function) (code_of b.function)) [
        | inl o ↦ absurd (before (inl o))
        | inr ge ↦
            let t : b.function ≡ i.function = same-function b.function i.function (omega (arith, f, le, ge)) in
            elim (cases_lt l.area i.area) [
              | inl o ↦ absurd (after (inr (inl (sym s.function ∙ t, o))))
              | inr low ↦ elim (cases_lt i.area b.area) [ inl o ↦ absurd (before (inr (inl (sym t, o)))) | inr high ↦ record { function = t; area = omega (arith, a, low, high) } ]
            ]
      ]
    ]

-- In a list of items (register ranges) sorted by their ends, the last item that ends at or before a
-- limit has the greatest such end. The limit is 125 registers after the start of the read.
pub greatest-end : (ended : List Run) (begin limit : Run) (count : ℕ) → AllPairs (λ a b. ¬ EndsBefore b a) ended → SameArea begin limit → limit.end ≡ begin.first + 125
    → Contains ended begin → begin.end ≤ begin.first + 125 → count ≤ length ended
    → IsPartitionPoint (λ r. ends_by r limit ≡ true) (λ r. ends_by r limit ≡ false) ended count
    → (0 < count) × ((d : Run) → IsGreatestEnd ended begin (get_or ended (count - 1) d).end)
greatest-end ended begin limit count ordered area is among few bound point =
    let own : ends_by begin limit ≡ true = ends_by-from begin limit area (omega (arith, is, few)) in
    let front : (x : Run) (k : ℕ) → k < length ended → get_or ended k x ≡ x → ends_by x limit ≡ true → k < count = λ x k inside at yes. elim (cases_lt k count) [
      | inl below ↦ below
      | inr above ↦ absurd (false≢true (sym (point.1 k x above inside) ∙ ap (λ (r : Run). ends_by r limit) at ∙ yes))
    ] in
    let k = among.0 in
    let below : k < count = front begin k among.1 among.2 own in
    let some : 0 < count = omega (arith, below) in (
      some,
      (λ d.
          let m = count - 1 in
          let last = get_or ended m d in
          let inside : m < length ended = omega (arith, some, bound) in
          let not-after : (x : Run) (j : ℕ) → j < count → get_or ended j x ≡ x → ¬ EndsBefore last x = λ x j front-j at before. elim (cases_eq j m) [
            | inl e ↦
                let same : last ≡ x = get_or_default ended m d x inside ∙ ap (λ (n : ℕ). get_or ended n x) (sym e) ∙ at in
                irreflexive x (subst (λ (r : Run). EndsBefore r x) same before)
            | inr other ↦
                let at-d : get_or ended j d ≡ x = get_or_default ended j d x (omega (arith, front-j, bound)) ∙ at in
                ordered j m d (omega (arith, front-j, other)) inside (subst (λ (r : Run). EndsBefore last r) (sym at-d) before)
          ] in
          let passes : ends_by last limit ≡ true = point.0 m d (omega arith) (omega (arith, some)) in
          let same : SameArea begin last = area-between begin last limit area (ends_by-true last limit passes) (not-after begin k below among.2) in
          let reach : last.end ≤ limit.end = elim (cases_lt limit.end last.end) [
            | inl o ↦ absurd (ends_by-true last limit passes (inr (inr (record { function = sym area.function ∙ same.function; area = sym area.area ∙ same.area }, o))))
            | inr le ↦ le
          ] in
          record {
            at_item = (m, last, inside, get_or_default ended m last d inside, (same, omega (arith, reach, is), refl));
            last = λ j e inside-j same-x fits.
                let x = get_or ended j e in
                let x-limit : SameArea x limit = record { function = sym same-x.function ∙ area.function; area = sym same-x.area ∙ area.area } in
                let at : get_or ended j x ≡ x = get_or_default ended j x e inside-j in
                let front-x = front x j inside-j at (ends_by-from x limit x-limit (omega (arith, fits, is))) in
                elim (cases_lt last.end x.end) [
                  | inl o ↦ absurd (not-after x j front-x at (inr (inr (record { function = sym same.function ∙ same-x.function; area = sym same.area ∙ same-x.area }, o))))
                  | inr le ↦ le
                ];
          }),
    )
  where
    irreflexive : (x : Run) → EndsBefore x x → ⊥
    irreflexive x (inl o) = omega (arith, o)
    irreflexive x (inr (inl h)) = let o = h.1 in omega (arith, o)
    irreflexive x (inr (inr h)) = let o = h.1 in omega (arith, o)
