-- Proofs that the SQL tables `entries`, `intervals` and `installations` encode the store's records
-- after a meter entry other than the meter's first one was recorded.
use Rattle.std.proofs.Common.{◌≡◌, ◌≢◌, ℕ, ◌+◌, Bool, true, false, cond, inl, inr, List, [], ◌∷◌, map, filter, Option, Some, None, bytes_eq, refl, sym, ap, subst, ◌∙◌, IsPermutation, arith}
use Rattle.std.specs.List.{AllByRecursion}
use Rattle.std.proofs.lemmas.Bool.{cases_Bool, cond-true, cond-false}
use Rattle.std.proofs.lemmas.Option.{same_Some}
use Rattle.std.proofs.lemmas.List.Sorted.{IsPermutation-cons}
use Rattle.std.proofs.lemmas.List.Elements.{recursion_from_All}
use Rattle.interval_core.specs.declared.shares.Share.{Share}
use Rattle.interval_core.specs.Share.{shares_of}
use Rattle.meter_journal.specs.declared.lines.EntryRow as journal
use Rattle.meter_journal.specs.Intervals.{with_each}
use Rattle.office_events.specs.declared.facts.Opening.{Opening}
use Rattle.office_events.specs.declared.facts.Fact.{Fact}
use Rattle.office_books.specs.Facts.{same, openings_in, opening_of}
use Rattle.office_books.specs.Intervals.{rows_of_opening, rows_of_installed, rows_of_meter}
use Rattle.office_books.specs.Lawful.{AreLawful}
use Rattle.office_books.specs.Meters.{line_of, rows_of, installation_of}
use Rattle.office_books.specs.Laws.{MetersAreKept}
use Rattle.office_books.specs.Ranges.{InstallationsAreInRange}
use Rattle.office_books.specs.Steps.{Stays}
use Rattle.office_books.proofs.Lookups.{same_text, same_itself, same_turned, each_found}
use Rattle.office_books.proofs.FoundOpenings.{openings_apart}
use Rattle.office_books.proofs.Stepping.{named, installed_so}
use Rattle.store_tables.specs.Content.{Content, HasRows, Edits, with_row, changed_where}
use Rattle.store_tables.specs.Meters.Trees.{installations}
use Rattle.store_tables.specs.Meters.Rows.{Installed, installed_columns, is_meter}
use Rattle.store_tables.specs.Entries.Trees.{entries}
use Rattle.store_tables.specs.Entries.Rows.{Entered, entry_columns, is_of as is_entry_of}
use Rattle.office_store.specs.Intervals.Trees.{intervals}
use Rattle.office_store.specs.Intervals.Rows.{Interval, interval_columns, is_of as is_interval_of}
use Rattle.office_store.specs.Intervals.StepShares.{with_shares, BooksShares}
use Rattle.sqlite_keyed.proofs.ListLemmas.{all_weaker}
use Rattle.office_store.specs.Rows.{placed, installed_as, installed_row, entered_rows, entries_at, entries_of, interval_of}
use Rattle.office_store.specs.Tables.{AreEntries, AreIntervals}
use Rattle.office_store.proofs.Placed.{placed_changed}
use Rattle.office_store.proofs.Booked.{AreApart, booked, others_booked}
use Rattle.office_store.proofs.Energy.{opening_apart, rows_small, found_recorded}

-- True if the record `f` leaves the data of every meter other than `meter` unchanged.
abbrev pub SparesOthers : (f : Fact) → (facts : List Fact) → (meter : List ℕ) → Type 0
SparesOthers f facts meter = (o : Opening) → same meter o.meter ≡ false → Stays f facts o

module _ (f : Fact) (facts : List Fact) (meter : List ℕ) (same_found : (m : List ℕ) → opening_of (f ∷ facts) m ≡ opening_of facts m) (spares : SparesOthers f facts meter) where
  entries_spared : (m : List ℕ) (found : Option Opening) → same meter m ≡ false → opening_of facts m ≡ found → entries_at (f ∷ facts) found ≡ entries_at facts found
  entries_spared m None off is = refl
  entries_spared m (Some o) off is =
      ap (entered_rows o) (spares o (ap (same meter) (named facts m o is) ∙ off)).rows

  pub other_entries : (m : List ℕ) → same meter m ≡ false → entries_of (f ∷ facts) m ≡ entries_of facts m
  other_entries m off = ap (entries_at (f ∷ facts)) (same_found m) ∙ entries_spared m (opening_of facts m) off refl

  intervals_spared : (m : List ℕ) (found : Option Opening) → same meter m ≡ false → opening_of facts m ≡ found → rows_of_installed (f ∷ facts) found ≡ rows_of_installed facts found
  intervals_spared m None off is = refl
  intervals_spared m (Some o) off is = (spares o (ap (same meter) (named facts m o is) ∙ off)).intervals

  pub other_intervals : (m : List ℕ) → same meter m ≡ false → rows_of_meter (f ∷ facts) m ≡ rows_of_meter facts m
  other_intervals m off = ap (rows_of_installed (f ∷ facts)) (same_found m) ∙ intervals_spared m (opening_of facts m) off refl

  module _ (o : Opening) (there : opening_of facts meter ≡ Some o) where
    own_name : o.meter ≡ meter
    own_name = named facts meter o there

    -- After a meter entry is stored, the rows of `entries` encode the old meter entries and the new
    -- entry.
    pub entry_added : (row : journal.EntryRow) (new : Entered) (content after : Content) → rows_of (f ∷ facts) o ≡ row ∷ rows_of facts o
        → entered_rows o (row ∷ rows_of facts o) ≡ new ∷ entered_rows o (rows_of facts o) → new.meter ≡ meter
        → Edits entries entry_columns (with_row new) content after → AreEntries facts content → AreEntries (f ∷ facts) after
    entry_added row new content after grows first of e a = record {
      rows = new ∷ a.rows;
      there = e.rows a.rows a.there;
      each = λ m. elim (cases_Bool (same meter m)) [
        | inl is ↦ own m (same_text meter m is)
        | inr off ↦
            subst (IsPermutation (filter (is_entry_of m) (new ∷ a.rows))) (sym (other_entries m off))
            (subst (λ l. IsPermutation l (entries_of facts m)) (sym (cond-false _ _ _ (ap (λ t. bytes_eq t m) of ∙ off))) (a.each m))
      ];
    }
      where
        whole : entries_of (f ∷ facts) meter ≡ new ∷ entries_of facts meter
        whole =
            ap (entries_at (f ∷ facts)) (same_found meter ∙ there) ∙ ap (entered_rows o) grows ∙ first
            ∙ ap (λ l. new ∷ l) (sym (ap (entries_at facts) there))

        own : (m : List ℕ) → meter ≡ m → IsPermutation (filter (is_entry_of m) (new ∷ a.rows)) (entries_of (f ∷ facts) m)
        own m is =
            subst (λ t. IsPermutation (filter (is_entry_of t) (new ∷ a.rows)) (entries_of (f ∷ facts) t)) is
            (subst (IsPermutation (filter (is_entry_of meter) (new ∷ a.rows))) (sym whole)
            (subst (λ l. IsPermutation l (new ∷ entries_of facts meter)) (sym (cond-true _ _ _ (ap (λ t. bytes_eq t meter) of ∙ same_itself meter)))
            (IsPermutation-cons new _ _ (a.each meter))))

    -- Lemmas that, after a meter entry is stored, the rows of `intervals` also have the energy up
    -- to this entry.
    module _ (kept : MetersAreKept) (ranges : InstallationsAreInRange) where
      pub energy_added : (shares : List Share) (content after : Content) → AreLawful facts → AreLawful (f ∷ facts)
          → rows_of_opening (f ∷ facts) o ≡ with_each shares (rows_of_opening facts o)
          → BooksShares meter shares content after → AreIntervals facts content → AreIntervals (f ∷ facts) after
      energy_added shares content after was lawful grows e a = record {
        rows = with_shares meter shares a.rows;
        there = e.rows a.rows a.there (rows_small kept ranges (f ∷ facts) (with_shares meter shares a.rows) lawful each);
        each = each;
      }
        where
          apart : AreApart (rows_of_opening facts o)
          apart = opening_apart kept ranges facts o was (found_recorded (λ (x : Opening). same x.meter meter) (openings_in facts) o there)

          of_meter : rows_of_meter facts meter ≡ rows_of_opening facts o
          of_meter = ap (rows_of_installed facts) there

          whole : rows_of_meter (f ∷ facts) meter ≡ with_each shares (rows_of_opening facts o)
          whole = ap (rows_of_installed (f ∷ facts)) (same_found meter ∙ there) ∙ grows

          mine : IsPermutation (filter (is_interval_of meter) (with_shares meter shares a.rows)) (map (interval_of meter) (rows_of_meter (f ∷ facts) meter))
          mine = subst (λ rs. IsPermutation (filter (is_interval_of meter) (with_shares meter shares a.rows)) (map (interval_of meter) rs)) (sym whole)
              (booked meter shares a.rows (rows_of_opening facts o) apart
              (subst (λ rs. IsPermutation (filter (is_interval_of meter) a.rows) (map (interval_of meter) rs)) of_meter (a.each meter)))

          each : (m : List ℕ) → IsPermutation (filter (is_interval_of m) (with_shares meter shares a.rows)) (map (interval_of m) (rows_of_meter (f ∷ facts) m))
          each m = elim (cases_Bool (same meter m)) [
            | inl is ↦ subst (λ t. IsPermutation (filter (is_interval_of t) (with_shares meter shares a.rows)) (map (interval_of t) (rows_of_meter (f ∷ facts) t))) (same_text meter m is) mine
            | inr off ↦
                subst (λ rs. IsPermutation (filter (is_interval_of m) (with_shares meter shares a.rows)) (map (interval_of m) rs)) (sym (other_intervals m off))
                (subst (λ l. IsPermutation l (map (interval_of m) (rows_of_meter facts m))) (sym (others_booked meter m shares a.rows off)) (a.each m))
          ]

    -- Lemmas that, after a meter entry is stored, only this meter's row of `installations` is
    -- changed.
    module _ (change : Installed → Installed) (changed : (place : ℕ) → installed_row (f ∷ facts) place o ≡ change (installed_row facts place o)) where
      one_changed : (x : Opening) → opening_of facts x.meter ≡ Some x → (place : ℕ)
          → installed_row (f ∷ facts) place x ≡ cond (is_meter meter (installed_row facts place x)) (change (installed_row facts place x)) (installed_row facts place x)
      one_changed x found place = elim (cases_Bool (same x.meter meter)) [
        | inl is ↦
            let here : Some x ≡ Some o = sym found ∙ (ap (opening_of facts) (same_text x.meter meter is) ∙ there) in
            let this : o ≡ x = sym (same_Some x o here) in
            subst (λ y. installed_row (f ∷ facts) place y ≡ change (installed_row facts place y)) this (changed place) ∙ sym (cond-true _ _ _ is)
        | inr off ↦
            ap (λ row. installed_as place row) (spares x (same_turned meter x.meter ∙ off)).installation ∙ sym (cond-false _ _ _ off)
      ]

      pub installations_changed : AreLawful facts → placed (installed_row (f ∷ facts)) (openings_in facts) ≡ changed_where (is_meter meter) change (placed (installed_row facts) (openings_in facts))
      installations_changed lawful =
          placed_changed (is_meter meter) change (installed_row facts) (installed_row (f ∷ facts)) (openings_in facts)
          (all_weaker _ _ one_changed (openings_in facts)
          (recursion_from_All _ _ (each_found (λ (x : Opening). x.meter) (openings_in facts) (openings_apart facts lawful))))
