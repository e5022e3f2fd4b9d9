-- Proofs that a query of `installations` finds the meter's current state (last entry and total
-- energy) that the store's records have.
use Rattle.std.proofs.Common.{◌≡◌, ℕ, ◌+◌, Bool, true, false, cond, List, [], ◌∷◌, map, filter, length, Option, Some, None, refl, sym, ap, subst, ◌∙◌, IsPermutation, arith}
use Rattle.std.specs.List.{AllByRecursion}
use Rattle.std.proofs.lemmas.Option.{same_Some}
use Rattle.std.proofs.lemmas.List.Sorted.{All-permutation}
use Rattle.std.proofs.lemmas.List.Elements.{All-from_recursion, recursion_from_All}
use Rattle.sqlite_keyed.proofs.ListLemmas.{all_weaker}
use Rattle.office_events.specs.declared.facts.Opening.{Opening}
use Rattle.office_events.specs.declared.facts.Fact.{Fact}
use Rattle.office_books.specs.Facts.{openings_in, opening_of}
use Rattle.office_books.specs.Lawful.{AreLawful}
use Rattle.office_books.specs.Meters.{installation_of}
use Rattle.office_books.proofs.Lookups.{same_text, each_found}
use Rattle.office_books.proofs.FoundOpenings.{openings_apart}
use Rattle.store_tables.specs.Answer.{IsFound}
use Rattle.store_tables.specs.Meters.Rows.{Installed, Ranged, is_meter, is_range_of}
use Rattle.office_store.specs.Rows.{placed, installed_row, last_row, ranged}

passing_step : {X : Type 0} (b : Bool) (p : X → Bool) (Q : X → Type 0) (x : X) (xs : List X) → p x ≡ b → (p x ≡ true → Q x) → AllByRecursion Q xs
    → AllByRecursion Q (cond b (x ∷ xs) xs)
passing_step true p Q x xs is here more = (here is, more)
passing_step false p Q x xs is here more = more

passing_have : {X : Type 0} (p : X → Bool) (Q : X → Type 0) (xs : List X) → AllByRecursion (λ x. p x ≡ true → Q x) xs → AllByRecursion Q (filter p xs)
passing_have p Q [] h = tt
passing_have p Q (x ∷ xs) h = passing_step (p x) p Q x (filter p xs) refl h.0 (passing_have p Q xs h.1)

-- If all rows that pass a test have a property, the row that a query with this test finds has the
-- property.
pub found_has : {X A : Type 0} (passes : X → Bool) (IsSeen : X → A → Type 0) (Q : X → Type 0) (rows : List X) (a : A)
    → AllByRecursion (λ x. passes x ≡ true → Q x) rows → IsFound passes IsSeen rows (Some a) → (x : X) × IsSeen x a × Q x
found_has passes IsSeen Q rows a all found =
    let x = found.0 in
    let have = recursion_from_All Q (x ∷ found.2)
    (All-permutation Q (filter passes rows) (x ∷ found.2) found.3 (All-from_recursion Q (filter passes rows) (passing_have passes Q rows all))) in
    (x, found.1, have.0)

all_placed : {X Y : Type 0} (row : ℕ → X → Y) (Q : Y → Type 0) (xs : List X) → AllByRecursion (λ x. (place : ℕ) → Q (row place x)) xs → AllByRecursion Q (placed row xs)
all_placed row Q [] h = tt
all_placed row Q (x ∷ xs) h = (h.0 (length xs + 1), all_placed row Q xs h.1)

all_mapped : {X Y : Type 0} (f : X → Y) (Q : Y → Type 0) (xs : List X) → AllByRecursion (λ x. Q (f x)) xs → AllByRecursion Q (map f xs)
all_mapped f Q [] h = tt
all_mapped f Q (x ∷ xs) h = (h.0, all_mapped f Q xs h.1)

module _ (facts : List Fact) (lawful : AreLawful facts) (meter : List ℕ) (o : Opening) (there : opening_of facts meter ≡ Some o) where
  each_by_name : AllByRecursion (λ (x : Opening). opening_of facts x.meter ≡ Some x) (openings_in facts)
  each_by_name = recursion_from_All _ _ (each_found (λ (x : Opening). x.meter) (openings_in facts) (openings_apart facts lawful))

  this : (x : Opening) → opening_of facts x.meter ≡ Some x → x.meter ≡ meter → x ≡ o
  this x found is = same_Some x o (sym found ∙ (ap (opening_of facts) is ∙ there))

  installed_one : (x : Opening) → opening_of facts x.meter ≡ Some x → (place : ℕ) → is_meter meter (installed_row facts place x) ≡ true
      → (let i : Installed = installed_row facts place x in i.row.last ≡ last_row (installation_of facts o))
  installed_one x found place passes = ap (λ (y : Opening). last_row (installation_of facts y)) (this x found (same_text x.meter meter passes))

  installed_all : AllByRecursion (λ (i : Installed). is_meter meter i ≡ true → i.row.last ≡ last_row (installation_of facts o)) (placed (installed_row facts) (openings_in facts))
  installed_all =
      all_placed (installed_row facts) (λ (i : Installed). is_meter meter i ≡ true → i.row.last ≡ last_row (installation_of facts o)) (openings_in facts)
      (all_weaker _ _ installed_one (openings_in facts) each_by_name)

  ranged_one : (x : Opening) → opening_of facts x.meter ≡ Some x → is_range_of meter (ranged x) ≡ true → x.range ≡ o.range
  ranged_one x found passes = ap (λ (y : Opening). y.range) (this x found (same_text x.meter meter passes))

  ranged_all : AllByRecursion (λ (r : Ranged). is_range_of meter r ≡ true → r.range ≡ o.range) (map ranged (openings_in facts))
  ranged_all =
      all_mapped ranged (λ (r : Ranged). is_range_of meter r ≡ true → r.range ≡ o.range) (openings_in facts)
      (all_weaker _ _ ranged_one (openings_in facts) each_by_name)

  -- If a query finds a meter's row in `installations`, the row has the meter's last entry and total
  -- energy according to the store's records.
  pub stands_found : {A : Type 0} (IsSeen : Installed → A → Type 0) (a : A) → IsFound (is_meter meter) IsSeen (placed (installed_row facts) (openings_in facts)) (Some a)
      → (i : Installed) × IsSeen i a × (i.row.last ≡ last_row (installation_of facts o))
  stands_found IsSeen a found = found_has (is_meter meter) IsSeen (λ (i : Installed). i.row.last ≡ last_row (installation_of facts o)) (placed (installed_row facts) (openings_in facts)) a installed_all found

  pub range_found : {A : Type 0} (IsSeen : Ranged → A → Type 0) (a : A) → IsFound (is_range_of meter) IsSeen (map ranged (openings_in facts)) (Some a)
      → (r : Ranged) × IsSeen r a × (r.range ≡ o.range)
  range_found IsSeen a found = found_has (is_range_of meter) IsSeen (λ (r : Ranged). r.range ≡ o.range) (map ranged (openings_in facts)) a ranged_all found
