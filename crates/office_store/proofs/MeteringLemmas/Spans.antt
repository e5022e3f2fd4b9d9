-- Proofs about selecting rows in a time span: limiting the span to the latest timestamp that the
-- store allows selects the same rows.
use Rattle.std.proofs.Common.{◌≡◌, ℕ, ◌+◌, ◌≤◌, ◌&&◌, min, nat_le, nat_lt, Bool, true, false, cond, inl, inr, List, [], ◌∷◌, ◌++◌, filter, Option, Some, None, refl, sym, ap, ap₂, subst, ◌∙◌, arith, le-leb, leb-true, leb-false, lt-ltb, le-ltb, ltb-true, ltb-false}
use Rattle.std.specs.List.{AllByRecursion, flat_map, find}
use Rattle.std.proofs.lemmas.Bool.{cases_Bool, cond-true, cond-false, lt-leb}
use Rattle.std.proofs.lemmas.Option.{same_Some}
use Rattle.std.proofs.lemmas.List.Elements.{recursion_from_All, All-from_recursion}
use Rattle.std.proofs.lemmas.List.Sorted.{All-permutation, IsPermutation-sym, IsPermutation-reverse}
use Rattle.sqlite_keyed.proofs.ListLemmas.{IsPermutation-flat_map}
use Rattle.interval_core.specs.declared.shares.Share.{Share}
use Rattle.office_events.specs.declared.facts.Opening.{Opening}
use Rattle.office_events.specs.declared.facts.Fact.{Fact}
use Rattle.office_books.specs.Facts.{same, openings_in, opening_of}
use Rattle.office_books.specs.Intervals.{rows_of_opening, rows_of_installed, rows_of_meter, rows_of_register}
use Rattle.office_books.specs.Lawful.{AreLawful}
use Rattle.office_books.specs.Registers.{RegistersAreInTurn}
use Rattle.office_books.proofs.Lookups.{same_itself}
use Rattle.store_tables.specs.Limits.{latest_moment}

-- Lemmas that no quarter hour with energy starts after the latest timestamp that the store allows.

abbrev InTime : Share → Type 0
InTime share = share.start ≤ latest_moment

first_part : (xs ys : List Share) → AllByRecursion InTime (xs ++ ys) → AllByRecursion InTime xs
first_part [] ys h = tt
first_part (x ∷ xs) ys h = (h.0, first_part xs ys h.1)

last_part : (xs ys : List Share) → AllByRecursion InTime (xs ++ ys) → AllByRecursion InTime ys
last_part [] ys h = h
last_part (x ∷ xs) ys h = last_part xs ys h.1

module _ (rows : Opening → List Share) (p q : Opening → Bool) where
  later : (x : Opening) (os : List Opening) → AllByRecursion InTime (flat_map rows (filter p (x ∷ os))) → AllByRecursion InTime (flat_map rows (filter p os))
  later x os h = elim (cases_Bool (p x)) [
    | inl on ↦ last_part (rows x) (flat_map rows (filter p os)) (subst (λ l. AllByRecursion InTime (flat_map rows l)) (cond-true _ _ _ on) h)
    | inr off ↦ subst (λ l. AllByRecursion InTime (flat_map rows l)) (cond-false _ _ _ off) h
  ]

  of_found : (os : List Opening) (o : Opening) → find q os ≡ Some o → p o ≡ true → AllByRecursion InTime (flat_map rows (filter p os)) → AllByRecursion InTime (rows o)
  of_found [] o is on h = absurd (let e = is in cc)
  of_found (x ∷ os) o is on h = elim (cases_Bool (q x)) [
    | inl hit ↦
        let this : x ≡ o = same_Some x o (sym (cond-true _ _ _ hit) ∙ is) in
        subst (λ y. AllByRecursion InTime (rows y)) this
        (first_part (rows x) (flat_map rows (filter p os))
        (subst (λ l. AllByRecursion InTime (flat_map rows l)) (cond-true _ _ _ (ap p this ∙ on)) h))
    | inr miss ↦ of_found os o (sym (cond-false _ _ _ miss) ∙ is) on (later x os h)
  ]

module _ (turn : RegistersAreInTurn) (facts : List Fact) (lawful : AreLawful facts) where
  pub register_in_time : (register : List ℕ) → AllByRecursion InTime (rows_of_register facts register)
  register_in_time register = recursion_from_All InTime _ (turn facts register lawful).moments

  found_in_time : (meter : List ℕ) (found : Option Opening) → opening_of facts meter ≡ found → AllByRecursion InTime (rows_of_installed facts found)
  found_in_time meter None is = tt
  found_in_time meter (Some o) is =
      let here : Opening → Bool = λ x. same x.register o.register in
      let turned = IsPermutation-flat_map (rows_of_opening facts) _ _ (IsPermutation-reverse (filter here (openings_in facts))) in
      let all : AllByRecursion InTime (flat_map (rows_of_opening facts) (filter here (openings_in facts))) =
      recursion_from_All InTime _ (All-permutation InTime _ _ (IsPermutation-sym _ _ turned) (All-from_recursion InTime _ (register_in_time o.register))) in
      of_found (rows_of_opening facts) here (λ x. same x.meter meter) (openings_in facts) o is (same_itself o.register) all

  pub meter_in_time : (meter : List ℕ) → AllByRecursion InTime (rows_of_meter facts meter)
  meter_in_time meter = found_in_time meter (opening_of facts meter) refl

-- Lemmas that limiting a time span to the latest timestamp that the store allows removes no row
-- from the result.

module _ {X : Type 0} (moment : X → ℕ) (from till low high : ℕ) (low_is : low ≡ min from (latest_moment + 1)) (high_is : high ≡ min till (latest_moment + 1)) where
  abbrev asked : X → Bool
  asked x = nat_le from (moment x) && nat_lt (moment x) till

  abbrev bounded : X → Bool
  bounded x = nat_le low (moment x) && nat_lt (moment x) high

  same_low : (n : ℕ) → n ≤ latest_moment → nat_le low n ≡ nat_le from n
  same_low n le = elim (cases_Bool (nat_le from n)) [
    | inl on ↦ le-leb low n (omega (arith, le, low_is, leb-true from n on)) ∙ sym on
    | inr off ↦ lt-leb low n (omega (arith, le, low_is, leb-false from n off)) ∙ sym off
  ]

  same_high : (n : ℕ) → n ≤ latest_moment → nat_lt n high ≡ nat_lt n till
  same_high n le = elim (cases_Bool (nat_lt n till)) [
    | inl on ↦ lt-ltb n high (omega (arith, le, high_is, ltb-true n till on)) ∙ sym on
    | inr off ↦ le-ltb n high (omega (arith, le, high_is, ltb-false n till off)) ∙ sym off
  ]

  pub bounded_rows : (rows : List X) → AllByRecursion (λ x. moment x ≤ latest_moment) rows → filter bounded rows ≡ filter asked rows
  bounded_rows [] h = refl
  bounded_rows (x ∷ xs) h =
      ap₂ (λ b l. cond b (x ∷ l) l) (ap₂ (λ a b. a && b) (same_low (moment x) h.0) (same_high (moment x) h.0)) (bounded_rows xs h.1)

-- Lemmas that filtering rows by two tests in sequence returns the rows that pass both tests.

both_if : {X : Type 0} (a b : Bool) (x : X) (p q : X → Bool) (xs : List X) → q x ≡ b → filter (λ y. p y && q y) xs ≡ filter q (filter p xs)
    → cond (a && b) (x ∷ filter (λ y. p y && q y) xs) (filter (λ y. p y && q y) xs) ≡ filter q (cond a (x ∷ filter p xs) (filter p xs))
both_if true true x p q xs is rest = ap (λ l. x ∷ l) rest ∙ sym (cond-true _ _ _ is)
both_if true false x p q xs is rest = rest ∙ sym (cond-false _ _ _ is)
both_if false b x p q xs is rest = rest

pub one_by_one : {X : Type 0} (p q : X → Bool) (xs : List X) → filter (λ x. p x && q x) xs ≡ filter q (filter p xs)
one_by_one p q [] = refl
one_by_one p q (x ∷ xs) = both_if (p x) (q x) x p q xs refl (one_by_one p q xs)
