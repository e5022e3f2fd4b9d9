-- Lemmas on successive database files for which the check that each file continues the meters of
-- the files before it reports no difference.
use Rattle.std.proofs.Common.{◌≡◌, ℕ, ◌+◌, ◌-◌, ◌≤◌, Bool, true, false, cond, List, [], ◌∷◌, ◌++◌, length, Some, None, refl, sym, ap, subst, ◌∙◌, inl, inr, arith}
use Rattle.std.specs.Prelude.{string_bytes, nat_le}
use Rattle.std.specs.List.{AllByRecursion, filter, find, flat_map}
use Rattle.std.specs.Option.{option_map_or}
use Rattle.std.proofs.lemmas.Bool.{cases_Bool, cond-true, cond-false}
use Rattle.std.proofs.lemmas.Bool.Decides.{nat_tests}
use Rattle.std.proofs.lemmas.List.Elements.{filter-append}
use Rattle.std.proofs.lemmas.Slice.Eq.{bytes_eq-Decides}
use Rattle.energy_core.specs.declared.limits.TheConstants.{MAX_TOTAL}
use Rattle.table_seals.specs.declared.filed.FiledMeter.{FiledMeter}
use Rattle.table_seals.specs.Joins.{Known, known_with, is_meter, joins_by, joins_of, joins_between, joins_of_all, left_after, stay_within, zone_of}
use Rattle.table_seals.specs.JoinLaws.{EachGoesOn, IsOfMeters, IsOneMeter, JoinedFilesAreOne, MeterGoesOn, energy_of, known_with_all, named}
use Rattle.table_seals.proofs.Joined.{joined_meters_go_on}

no_parts : {X : Type 0} (xs ys : List X) → xs ++ ys ≡ [] → (xs ≡ []) × (ys ≡ [])
no_parts [] ys h = (refl, h)
no_parts (x ∷ xs) ys h = absurd (cc)

-- Lemmas on a search for the first meter of a list that passes a test. The search finds the first
-- element of the filtered list.

module _ (passes : FiledMeter → Bool) where
  abbrev passing : List FiledMeter → List FiledMeter
  passing meters = filter passes meters

  -- If the first meter that passes a test is `old`, then a search with this test finds `old`.
  pub first_found : (meters older : List FiledMeter) (old : FiledMeter) → passing meters ≡ old ∷ older → find passes meters ≡ Some old
  first_found [] older old h = absurd (cc)
  first_found (meter ∷ meters) older old h =
      elim (cases_Bool (passes meter)) [
        | inl on ↦
            let same : meter ∷ passing meters ≡ old ∷ older = sym (cond-true _ _ _ on) ∙ h in
            let is : meter ≡ old = cc in
            cond-true _ _ _ on ∙ ap Some is
        | inr off ↦ cond-false _ _ _ off ∙ first_found meters older old (sym (cond-false _ _ _ off) ∙ h)
      ]

  -- If all meters in a list have a property, then the first meter that passes a given test has this
  -- property.
  pub first_holds : (P : FiledMeter → Type 0) (meters older : List FiledMeter) (new : FiledMeter) → passing meters ≡ new ∷ older
      → AllByRecursion P meters → P new × (passes new ≡ true)
  first_holds P [] older new h all = absurd (cc)
  first_holds P (meter ∷ meters) older new h all =
      elim (cases_Bool (passes meter)) [
        | inl on ↦
            let same : meter ∷ passing meters ≡ new ∷ older = sym (cond-true _ _ _ on) ∙ h in
            let is : meter ≡ new = cc in
            (subst P is all.0, subst (λ m. passes m ≡ true) is on)
        | inr off ↦ first_holds P meters older new (sym (cond-false _ _ _ off) ∙ h) all.1
      ]

-- Suppose that the check that a file continues the meters of the earlier files reports no
-- difference for a list of meters. Then it reports none for each meter in the list.
nothing_of_each : (known meters : List FiledMeter) → flat_map (joins_of known) meters ≡ [] → AllByRecursion (λ new. joins_of known new ≡ []) meters
nothing_of_each known [] h = tt
nothing_of_each known (meter ∷ meters) h =
    let parts = no_parts (joins_of known meter) (flat_map (joins_of known) meters) h in
    (parts.0, nothing_of_each known meters parts.1)

-- Lemmas that the total energy of a meter in several files is within the limit of one meter's
-- energy if the check of this limit succeeds.

same_name : (name : List ℕ) (meter : FiledMeter) → is_meter name meter ≡ true → string_bytes meter.meter ≡ name
same_name name meter h = (bytes_eq-Decides (string_bytes meter.meter) name).0 h

more_stay : (most : ℕ) (name : List ℕ) (meter : FiledMeter) (meters : List FiledMeter)
    → ((left : ℕ) → stay_within left name meters ≡ true → energy_of (named name meters) ≤ left)
    → is_meter name meter ≡ true → stay_within most name (meter ∷ meters) ≡ true → meter.standing.total + energy_of (named name meters) ≤ most
more_stay most name meter meters rest on h =
    let total : ℕ = meter.standing.total in
    let after : left_after most name meter ≡ cond (nat_le total most) (Some (most - total)) None = cond-true _ _ _ on in
    elim (cases_Bool (nat_le total most)) [
      | inl le ↦
          let left : left_after most name meter ≡ Some (most - total) = after ∙ cond-true _ _ _ le in
          let stays : stay_within (most - total) name meters ≡ true =
          sym (ap (λ o. option_map_or (λ l. stay_within l name meters) o false) left) ∙ h in
          let within : energy_of (named name meters) ≤ most - total = rest (most - total) stays in
          let fits : total ≤ most = grind (arith, nat_tests, le) in
          omega (arith, within, fits)
      | inr gt ↦
          let none : left_after most name meter ≡ None = after ∙ cond-false _ _ _ gt in
          let f : false ≡ true = sym (ap (λ o. option_map_or (λ l. stay_within l name meters) o false) none) ∙ h in
          absurd (cc)
    ]

pub energies_stay : (most : ℕ) (name : List ℕ) (meters : List FiledMeter) → stay_within most name meters ≡ true → energy_of (named name meters) ≤ most
energies_stay most name [] h = omega arith
energies_stay most name (meter ∷ meters) h =
    elim (cases_Bool (is_meter name meter)) [
      | inl on ↦
          subst (λ ms. energy_of ms ≤ most) (sym (cond-true _ _ _ on))
          (more_stay most name meter meters (λ left. energies_stay left name meters) on h)
      | inr off ↦
          let left : left_after most name meter ≡ Some most = cond-false _ _ _ off in
          let stays : stay_within most name meters ≡ true =
          sym (ap (λ o. option_map_or (λ l. stay_within l name meters) o false) left) ∙ h in
          subst (λ ms. energy_of ms ≤ most) (sym (cond-false _ _ _ off)) (energies_stay most name meters stays)
    ]

-- Suppose that the meters of a given name continue from file to file. If another file has at most
-- one meter of this name, and the check that it continues the earlier meters reports no difference,
-- the meters still continue.
one_more : (name : List ℕ) (known next : Known) (new old : List FiledMeter) → IsOfMeters next → joins_between known next ≡ []
    → IsOneMeter name known → named name next.meters ≡ new → named name known.meters ≡ old → length new ≤ 1
    → EachGoesOn (new ++ old) × (energy_of (new ++ old) ≤ MAX_TOTAL)
one_more name known next [] old of nothing one at before few =
    (subst EachGoesOn before one.goes_on, subst (λ ms. energy_of ms ≤ MAX_TOTAL) before one.energy)
one_more name known next (new ∷ []) [] of nothing one at before few =
    let within : new.standing.total ≤ MAX_TOTAL =
    (first_holds (is_meter name) (λ m. m.standing.total ≤ MAX_TOTAL) next.meters [] new at of.totals).0 in
    (tt, omega (arith, within))
one_more name known next (new ∷ []) (old ∷ older) of nothing one at before few =
    let first = no_parts (zone_of known next ++ flat_map (joins_of known.meters) next.meters) _ nothing in
    let second = no_parts (zone_of known next) (flat_map (joins_of known.meters) next.meters) first.0 in
    let this = first_holds (is_meter name) (λ m. joins_of known.meters m ≡ []) next.meters [] new at (nothing_of_each known.meters next.meters second.1) in
    let is : string_bytes new.meter ≡ name = same_name name new this.1 in
    let found : find (is_meter (string_bytes new.meter)) known.meters ≡ Some old =
    ap (λ n. find (is_meter n) known.meters) is ∙ first_found (is_meter name) known.meters older old before in
    let reported : joins_by known.meters new (Some old) ≡ [] = ap (joins_by known.meters new) (sym found) ∙ this.0 in
    let goes : MeterGoesOn known.meters old new = (joined_meters_go_on known.meters old new).0 reported in
    let all : energy_of (named (string_bytes new.meter) (new ∷ known.meters)) ≤ MAX_TOTAL =
    energies_stay MAX_TOTAL (string_bytes new.meter) (new ∷ known.meters) goes.within in
    let whole : named (string_bytes new.meter) (new ∷ known.meters) ≡ new ∷ old ∷ older =
    ap (λ n. named n (new ∷ known.meters)) is ∙ cond-true _ _ _ this.1 ∙ ap (λ ms. new ∷ ms) before in (
      (goes.goes_on, subst EachGoesOn before one.goes_on),
      subst (λ ms. energy_of ms ≤ MAX_TOTAL) whole all,
    )
one_more name known next (new ∷ another ∷ more) old of nothing one at before few = absurd (omega (arith, few))

next_is_one : (name : List ℕ) (known next : Known) → IsOfMeters next → joins_between known next ≡ [] → IsOneMeter name known
    → IsOneMeter name (known_with known next)
next_is_one name known next of nothing one =
    let both : named name (next.meters ++ known.meters) ≡ named name next.meters ++ named name known.meters =
    filter-append (is_meter name) next.meters known.meters in
    let so = one_more name known next (named name next.meters) (named name known.meters) of nothing one refl refl (of.apart name) in
    record {
      goes_on = subst EachGoesOn (sym both) so.0;
      energy = subst (λ ms. energy_of ms ≤ MAX_TOTAL) (sym both) so.1;
    }

all_are_one : (name : List ℕ) (known : Known) (later : List Known) → AllByRecursion IsOfMeters later → joins_of_all known later ≡ []
    → IsOneMeter name known → IsOneMeter name (known_with_all known later)
all_are_one name known [] of nothing one = one
all_are_one name known (next ∷ later) of nothing one =
    let parts = no_parts (joins_between known next) (joins_of_all (known_with known next) later) nothing in
    all_are_one name (known_with known next) later of.1 parts.1 (next_is_one name known next of.0 parts.0 one)

-- Lemmas on the meters of the first of several database files, which continue no earlier meters.

first_one : (name : List ℕ) (first : Known) (meters : List FiledMeter) → IsOfMeters first → named name first.meters ≡ meters → length meters ≤ 1
    → EachGoesOn meters × (energy_of meters ≤ MAX_TOTAL)
first_one name first [] of is few = (tt, omega arith)
first_one name first (meter ∷ []) of is few =
    let within : meter.standing.total ≤ MAX_TOTAL =
    (first_holds (is_meter name) (λ m. m.standing.total ≤ MAX_TOTAL) first.meters [] meter is of.totals).0 in
    (tt, omega (arith, within))
first_one name first (meter ∷ another ∷ more) of is few = absurd (omega (arith, few))

pub joined_files_are_one : JoinedFilesAreOne
joined_files_are_one first later of_first of_later nothing name =
    let so = first_one name first (named name first.meters) of_first refl (of_first.apart name) in
    all_are_one name first later of_later nothing (record { goes_on = so.0; energy = so.1 })
