-- Proofs about a query for an accounting register (a named energy counter of a device). It returns
-- the rows of the meters that were installed at the register, in order of installation.
use Rattle.std.proofs.Common.{◌≡◌, ℕ, zero, suc, ◌+◌, ◌<◌, ◌≤◌, List, [], ◌∷◌, ◌++◌, map, filter, take, length, get_or, Some, refl, sym, ap, subst, ◌∙◌, arith, add-one, take_all}
use Rattle.std.specs.List.{AllByRecursion}
use Rattle.std.proofs.lemmas.List.{length-map}
use Rattle.sqlite.specs.Order.{Row}
use Rattle.sqlite_keyed.proofs.ListLemmas.{all-filter, ascending-filter}
use Rattle.office_events.specs.declared.facts.Opening.{Opening}
use Rattle.office_events.specs.declared.facts.Fact.{Fact}
use Rattle.office_events.specs.declared.questions.Installation.{Installation}
use Rattle.office_books.specs.Facts.{same, openings_in, opening_of}
use Rattle.office_books.specs.Intervals.{installations_at}
use Rattle.office_books.specs.Lawful.{AreLawful}
use Rattle.office_books.specs.Meters.{installation_of}
use Rattle.store_tables.specs.Answer.{FirstFirst}
use Rattle.store_tables.specs.Asking.{Shows}
use Rattle.store_tables.specs.Meters.Rows.{Installed, IsInstalled, IsSoundInstalled, installed_place, installed_shown, is_at}
use Rattle.store_tables.specs.declared.meters.rows.Installation as stored
use Rattle.office_store.specs.Rows.{placed, installed_row}
use Rattle.office_store.specs.Finding.Each.{AreEach}
use Rattle.office_store.specs.Metering.Meters.{IsRowOf, IsStanding}
use Rattle.office_store.specs.Metering.RegisterMeters.{rows_at, AreRowsOf}
use Rattle.office_store.specs.Metering.Sound.{HasReadableMeters}
use Rattle.office_store.proofs.FindingLemmas.Each.{each_filter, each_length, each_same}
use Rattle.office_store.proofs.FindingLemmas.Rows.{all_reverse, each_reverse, in_turn, placed_falls}
use Rattle.office_store.proofs.MeteringLemmas.Found.{alone}

-- A query by accounting register (a named energy counter) returns the rows of the register's meters
-- in the order of installation.

pub meters_shown : (facts : List Fact) (register : List ℕ) (rows : List Row) → Shows (is_at register) (FirstFirst installed_place) installed_shown (placed (installed_row facts) (openings_in facts)) rows
    → rows ≡ map installed_shown (rows_at register facts)
meters_shown facts register rows h =
    let all = placed (installed_row facts) (openings_in facts) in
    h.2 ∙ ap (map installed_shown) (in_turn installed_place (filter (is_at register) all) h.0
    (ascending-filter _ (is_at register) all (placed_falls (installed_row facts) installed_place (λ place o. refl) (openings_in facts))) h.1.all h.1.order)

pub rows_sound : (facts : List Fact) (register : List ℕ) → HasReadableMeters facts → AllByRecursion IsSoundInstalled (rows_at register facts)
rows_sound facts register sound = all_reverse IsSoundInstalled _ (all-filter IsSoundInstalled (is_at register) (placed (installed_row facts) (openings_in facts)) sound.installations)

-- True if a row of `installations` encodes an opening (the record that installs a meter), and the
-- meter has no other opening.
record IsInstalledAs (facts : List Fact) (row : Installed) (opening : Opening) : Type 0 where
  place : ℕ
  is : row ≡ installed_row facts place opening
  alone : opening_of facts opening.meter ≡ Some opening

each_installed : (facts : List Fact) (os : List Opening) → AllByRecursion (λ (o : Opening). opening_of facts o.meter ≡ Some o) os → AreEach (IsInstalledAs facts) (placed (installed_row facts) os) os
each_installed facts [] h = tt
each_installed facts (o ∷ os) h = (record { place = length os + 1; is = refl; alone = h.0 }, each_installed facts os h.1)

pub rows_are : (facts : List Fact) (register : List ℕ) (rows : List stored.Installation) → AreLawful facts → AreEach IsInstalled (rows_at register facts) rows → AreRowsOf facts (installations_at facts register) rows
rows_are facts register rows lawful h =
    each_same (IsInstalledAs facts) IsInstalled (IsRowOf facts) (λ y o v is seen. record { place = is.place; row = subst (λ (x : Installed). IsInstalled x v) is.is seen; alone = is.alone })
    (rows_at register facts) (installations_at facts register) rows
    (each_reverse (IsInstalledAs facts) _ _
    (each_filter (IsInstalledAs facts) (is_at register) (λ (o : Opening). same o.register register) (λ y o is. ap (is_at register) is.is)
    (placed (installed_row facts) (openings_in facts)) (openings_in facts) (each_installed facts (openings_in facts) (alone facts lawful)))) h

-- Lemmas that for each row of `installations` that encodes a meter's opening, the store's records
-- have this opening (the record that installs the meter).

module _ (facts : List Fact) where
  pub row_there : (openings : List Opening) (rows : List stored.Installation) (i : ℕ) (row : stored.Installation) → AreRowsOf facts openings rows → i < length rows → row ≡ get_or rows i row
      → (o : Opening) × IsRowOf facts o row
  row_there [] [] i row each lt is = absurd (omega (arith, lt))
  row_there [] (r ∷ rows) i row each lt is = absurd each
  row_there (o ∷ openings) [] i row each lt is = absurd each
  row_there (o ∷ openings) (r ∷ rows) zero row each lt is = (o, subst (IsRowOf facts o) (sym is) each.0)
  row_there (o ∷ openings) (r ∷ rows) (suc i) row each lt is = row_there openings rows i row each.1 (omega (arith, lt)) is

  next_stands : (openings : List Opening) (rows : List stored.Installation) (i : ℕ) (row : stored.Installation) (found : Installation) → AreRowsOf facts openings rows → i < length rows → row ≡ get_or rows i row → IsStanding row facts found
      → take i (map (installation_of facts) openings) ++ found ∷ [] ≡ take (suc i) (map (installation_of facts) openings)
  next_stands [] [] i row found each lt is stands = absurd (omega (arith, lt))
  next_stands [] (r ∷ rows) i row found each lt is stands = absurd each
  next_stands (o ∷ openings) [] i row found each lt is stands = absurd each
  next_stands (o ∷ openings) (r ∷ rows) zero row found each lt is stands = ap (λ (x : Installation). x ∷ []) (stands o (subst (IsRowOf facts o) (sym is) each.0))
  next_stands (o ∷ openings) (r ∷ rows) (suc i) row found each lt is stands = ap (λ (l : List Installation). installation_of facts o ∷ l) (next_stands openings rows i row found each.1 (omega (arith, lt)) is stands)

  pub one_more_stands : (openings : List Opening) (rows : List stored.Installation) (i : ℕ) (row : stored.Installation) (found : Installation) (before after : List Installation) → AreRowsOf facts openings rows → i < length rows → row ≡ get_or rows i row
      → IsStanding row facts found → before ≡ take i (map (installation_of facts) openings) → after ≡ before ++ found ∷ [] → after ≡ take (i + 1) (map (installation_of facts) openings)
  one_more_stands openings rows i row found before after each lt is stands so_far put =
      put ∙ ap (λ (l : List Installation). l ++ found ∷ []) so_far ∙ next_stands openings rows i row found each lt is stands ∙ ap (λ n. take n (map (installation_of facts) openings)) (sym (add-one i))

  pub all_stand : (openings : List Opening) (rows : List stored.Installation) (i : ℕ) (found : List Installation) → AreRowsOf facts openings rows → length rows ≤ i → found ≡ take i (map (installation_of facts) openings)
      → found ≡ map (installation_of facts) openings
  all_stand openings rows i found each past is =
      let same_length = each_length (IsRowOf facts) openings rows each in
      let mapped = length-map openings (installation_of facts) in
      is ∙ take_all i (map (installation_of facts) openings) (omega (arith, same_length, mapped, past))
