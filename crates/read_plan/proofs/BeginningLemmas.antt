-- Lemmas about the items (register ranges that one read must contain) at which reads start. Either
-- the next item lies within 125 registers from the start of the last read so far, or a new read
-- starts at this item.
use Rattle.std.proofs.Common.{◌≡◌, ◌∙◌, ℕ, ◌+◌, ◌-◌, ◌<◌, ◌≤◌, ◌⊎◌, List, [], ◌∷◌, ◌++◌, length, get_or, take, sym, refl, ap, arith, inl, inr, subst}
use Rattle.std.specs.List.{AllPairs, Any, Contains}
use Rattle.std.proofs.lemmas.Bool.{cases_lt, cases_eq}
use Rattle.std.proofs.lemmas.List.{get_or-take, get_or_default, length-take-le, take_more}
use Rattle.std.proofs.lemmas.List.Elements.{All-push, All-weaker, Contains-append_left, Contains-push}
use Rattle.std.proofs.lemmas.List.Quantifiers.{Any-push, all_pairs_push}
use Rattle.mb_wire.specs.declared.span.ReadFunction.{ReadFunction}
use Rattle.mb_wire.specs.declared.span.ReadFunction.TheVariants.{HoldingRegisters, InputRegisters}
use Rattle.read_plan.specs.declared.run.Run.{Run}
use Rattle.read_plan.specs.Beginnings.{AreBeginnings, BeginsApart}
use Rattle.mb_wire.specs.Spans.{code_of}
use Rattle.read_plan.specs.Plans.{ComesBefore, IsReadable, LiesWithinReach, SameArea}
use Rattle.read_plan.proofs.PlanLemmas.{same_area-sym, same_area-trans}

pub same-function : (a b : ReadFunction) → code_of a ≡ code_of b → a ≡ b
same-function HoldingRegisters HoldingRegisters e = refl
same-function HoldingRegisters InputRegisters e = absurd (omega (arith, e))
same-function InputRegisters HoldingRegisters e = absurd (omega (arith, e))
same-function InputRegisters InputRegisters e = refl

-- Of two register ranges, there are two cases. Either one comes before the other by function, area
-- number and first register, or both have the same function, area number and first register. (No
-- read has registers of two areas.)
pub before-or-same : (a b : Run) → ComesBefore a b ⊎ (ComesBefore b a ⊎ (SameArea a b × (a.first ≡ b.first)))
before-or-same a b = elim (cases_lt (code_of a.function) (code_of b.function)) [
  | inl l ↦ inl (inl l)
  | inr ge ↦ elim (cases_lt (code_of b.function) (code_of a.function)) [
    | inl l ↦ inr (inl (inl l))
    | inr le ↦
        let t : a.function ≡ b.function = same-function a.function b.function (omega (arith, ge, le)) in
        elim (cases_lt a.area b.area) [
          | inl l ↦ inl (inr (inl (t, l)))
          | inr ge2 ↦ elim (cases_lt b.area a.area) [
            | inl l ↦ inr (inl (inr (inl (sym t, l))))
            | inr le2 ↦
                let s : SameArea a b = record { function = t; area = omega (arith, ge2, le2) } in
                elim (cases_lt a.first b.first) [
                  | inl l ↦ inl (inr (inr (s, l)))
                  | inr ge3 ↦ elim (cases_lt b.first a.first) [
                    | inl l ↦ inr (inl (inr (inr (same_area-sym a b s, l))))
                    | inr le3 ↦ inr (inr (s, omega (arith, ge3, le3)))
                  ]
                ]
          ]
        ]
  ]
]

-- Suppose that a range lies between two ranges in the order by function, area number and first
-- register. If these two have the same function and area number, the range has them too. Points
-- with different area numbers are never in one Modbus read.
pub same-between : (a l x : Run) → ComesBefore a l → ¬ ComesBefore x l → SameArea a x → SameArea a l
same-between a l x (inl f) never s = absurd (never (inl (subst (λ (t : ReadFunction). code_of t < code_of l.function) s.function f)))
same-between a l x (inr (inl h)) never s = absurd (never (inr (inl (sym s.function ∙ h.0, subst (λ (n : ℕ). n < l.area) s.area h.1))))
same-between a l x (inr (inr h)) never s = h.0

pub not-before : (a x : Run) → ¬ ComesBefore x a → SameArea a x → a.first ≤ x.first
not-before a x never s = elim (cases_lt x.first a.first) [ inl l ↦ absurd (never (inr (inr (same_area-sym a x s, l)))) | inr ge ↦ ge ]

-- If a list of ranges is sorted by function, area number and first register, then an element of the
-- list is never ordered before an element with a smaller index. (No read has registers of two
-- areas.)
pub in-front : (sorted : List Run) (n : ℕ) (x : Run) → n < length sorted → x ≡ get_or sorted n x → AllPairs (λ a b. ¬ ComesBefore b a) sorted
    → (a : Run) → Contains (take n sorted) a → ¬ ComesBefore x a
in-front sorted n x within is ordered a w less =
    let size = length-take-le n sorted (omega (arith, within)) in
    let below : w.0 < n = omega (arith, size, w.1) in
    let same : get_or sorted w.0 x ≡ a = get_or_default sorted w.0 x a (omega (arith, below, within)) ∙ sym (get_or-take n sorted w.0 a below) ∙ w.2 in
    ordered w.0 n x below within (subst (λ (r : Run). ComesBefore r (get_or sorted w.0 x)) is (subst (λ (r : Run). ComesBefore x r) (sym same) less))

-- If an item (a register range) does not lie within 125 registers from the start of the last read
-- so far, the same is true for each earlier read.
pub apart-from-each : (sorted found : List Run) (n : ℕ) (x : Run) → n < length sorted → x ≡ get_or sorted n x → AllPairs (λ a b. ¬ ComesBefore b a) sorted
    → IsReadable x → AreBeginnings (take n sorted) found → ((d : Run) → 0 < length found → ¬ LiesWithinReach (get_or found (length found - 1) d) x)
    → (k : ℕ) (d : Run) → k < length found → BeginsApart (get_or found k d) x
apart-from-each sorted found n x within is ordered readable so_far beyond k d below =
    let a = get_or found k d in
    let m = length found - 1 in
    let l = get_or found m d in
    let some : m < length found = omega (arith, below) in
    let after_a : ¬ ComesBefore x a = in-front sorted n x within is ordered a (so_far.among k d below) in
    let after_l : ¬ ComesBefore x l = in-front sorted n x within is ordered l (so_far.among m d some) in
    let far_l : SameArea l x → l.first + 125 < x.end = λ s. elim (cases_lt (l.first + 125) x.end) [
      | inl far ↦ far
      | inr near ↦ absurd (beyond d (omega (arith, below)) (record { same_area = s; from_first = not-before l x after_l s; in_reach = near }))
    ] in
    let far : SameArea a x → a.first + 125 < x.end = λ s. elim (cases_eq k m) [
      | inl e ↦
          let same : l ≡ a = ap (λ (i : ℕ). get_or found i d) (sym e) in
          subst (λ (r : Run). SameArea r x → r.first + 125 < x.end) same far_l s
      | inr ne ↦
          let before_l : ComesBefore a l = (so_far.apart k m d (omega (arith, ne, below)) some).0 in
          let s_l : SameArea a l = same-between a l x before_l after_l s in
          let lower : a.first < l.first = elim (cases_lt a.first l.first) [ inl o ↦ o | inr ge ↦ absurd (not-lower a l before_l s_l ge) ] in
          let beyond_l = far_l (same_area-trans l a x (same_area-sym a l s_l) s) in
          omega (arith, lower, beyond_l)
    ] in
    elim (before-or-same a x) [
      | inl before ↦ (before, far)
      | inr (inl after) ↦ absurd (after_a after)
      | inr (inr same) ↦
          let f = far same.0 in
          let e = same.1 in
          let r = readable.1 in
          absurd (omega (arith, f, e, r))
    ]
  where
    not-lower : (a l : Run) → ComesBefore a l → SameArea a l → l.first ≤ a.first → ⊥
    not-lower a l (inl f) s ge = let e = ap code_of s.function in omega (arith, e, f)
    not-lower a l (inr (inl h)) s ge = let e = s.area in let o = h.1 in omega (arith, e, o)
    not-lower a l (inr (inr h)) s ge = let o = h.1 in omega (arith, ge, o)

-- Suppose that the next item (a register range) does not lie within 125 registers from the start of
-- the last planned read. Then, by the definition of where reads begin, a new read starts at this
-- item.
pub beginnings-push : (sorted found : List Run) (n : ℕ) (x : Run) → n < length sorted → x ≡ get_or sorted n x → AllPairs (λ a b. ¬ ComesBefore b a) sorted
    → IsReadable x → AreBeginnings (take n sorted) found → ((d : Run) → 0 < length found → ¬ LiesWithinReach (get_or found (length found - 1) d) x)
    → AreBeginnings (take (n + 1) sorted) (found ++ (x ∷ []))
beginnings-push sorted found n x within is ordered readable so_far beyond =
    let more : take (n + 1) sorted ≡ take n sorted ++ (x ∷ []) = take_more sorted n x within ∙ ap (λ (r : Run). take n sorted ++ (r ∷ [])) (sym is) in
    let reaches : LiesWithinReach x x = record { same_area = record { function = refl; area = refl }; from_first = omega arith; in_reach = readable.1 } in
    subst (λ (xs : List Run). AreBeginnings xs (found ++ (x ∷ []))) (sym more) (record {
      among = All-push (Contains (take n sorted ++ (x ∷ []))) found x
          (All-weaker (Contains (take n sorted)) (Contains (take n sorted ++ (x ∷ []))) (λ r w. Contains-append_left (take n sorted) (x ∷ []) r w) found so_far.among)
          (Contains-push (take n sorted) x);
      apart = all_pairs_push BeginsApart found x so_far.apart (apart-from-each sorted found n x within is ordered readable so_far beyond);
      reach = All-push (λ item. Any (λ begin. LiesWithinReach begin item) (found ++ (x ∷ []))) (take n sorted) x
          (All-weaker (λ item. Any (λ begin. LiesWithinReach begin item) found) (λ item. Any (λ begin. LiesWithinReach begin item) (found ++ (x ∷ [])))
          (λ item w. any-append (λ begin. LiesWithinReach begin item) found (x ∷ []) w) (take n sorted) so_far.reach)
          (Any-push (λ begin. LiesWithinReach begin x) found x reaches);
    })
  where
    any-append : (P : Run → Type 0) (xs ys : List Run) → Any P xs → Any P (xs ++ ys)
    any-append P xs ys w = let c = Contains-append_left xs ys w.1 (w.0, w.2, w.3) in (c.0, w.1, c.1, c.2, w.4)

-- Suppose that the next item (a register range) lies within 125 registers from the start of a
-- planned read. Then, by the definition of where reads begin, no new read starts at this item.
pub beginnings-skip : (sorted found : List Run) (n : ℕ) (x : Run) → n < length sorted → x ≡ get_or sorted n x
    → AreBeginnings (take n sorted) found → Any (λ begin. LiesWithinReach begin x) found → AreBeginnings (take (n + 1) sorted) found
beginnings-skip sorted found n x within is so_far reached =
    let more : take (n + 1) sorted ≡ take n sorted ++ (x ∷ []) = take_more sorted n x within ∙ ap (λ (r : Run). take n sorted ++ (r ∷ [])) (sym is) in
    subst (λ (xs : List Run). AreBeginnings xs found) (sym more) (record {
      among = All-weaker (Contains (take n sorted)) (Contains (take n sorted ++ (x ∷ []))) (λ r w. Contains-append_left (take n sorted) (x ∷ []) r w) found so_far.among;
      apart = so_far.apart;
      reach = All-push (λ item. Any (λ begin. LiesWithinReach begin item) found) (take n sorted) x so_far.reach reached;
    })
