-- Properties of the loop that lists the entries of a meter in order: each iteration adds the next
-- entry if it is requested and the list is not full.
use Rattle.std.proofs.Common.{◌≡◌, ℕ, zero, suc, ◌+◌, ◌<◌, ◌≤◌, Bool, true, false, List, [], ◌∷◌, ◌++◌, reverse, take, length, get_or, inl, inr, refl, ap, ◌∙◌, arith, nat_le, append-nil}
use Rattle.std.specs.List.{filter}
use Rattle.std.proofs.lemmas.Bool.{cases_Bool, cond-true, cond-false}
use Rattle.std.proofs.lemmas.List.{reverse-append, take_all, take_more}
use Rattle.std.proofs.lemmas.List.Elements.{filter-append}
use Rattle.meter_journal.specs.declared.lines.EntryRow.{EntryRow}
use Rattle.meter_journal.specs.Lists.{latest_first}
use Rattle.office_events.specs.declared.facts.Opening.{Opening}
use Rattle.office_books.proofs.Lists.{reverse_cons}
use Rattle.office_books.specs.declared.entries.MeterEntry.{MeterEntry}
use Rattle.office_books.specs.declared.entries.MeterEntry.TheVariants as entry
use Rattle.office_books.specs.Entries.{place_of, scale_after, listed_rows, first_from}

take_push : {X : Type 0} (n : ℕ) (xs : List X) (x : X) → length (take n xs) < n → take n (xs ++ x ∷ []) ≡ take n xs ++ x ∷ []
take_push zero xs x lt = absurd (omega (arith, lt))
take_push (suc n) [] x lt = ap (λ l. x ∷ l) (take_all n [] (omega arith))
take_push (suc n) (y ∷ ys) x lt = ap (λ l. y ∷ l) (take_push n ys x (omega (arith, lt)))

take_full : {X : Type 0} (n : ℕ) (xs : List X) (x : X) → n ≤ length (take n xs) → take n (xs ++ x ∷ []) ≡ take n xs
take_full zero xs x le = refl
take_full (suc n) [] x le = absurd (omega (arith, le))
take_full (suc n) (y ∷ ys) x le = ap (λ l. y ∷ l) (take_full n ys x (omega (arith, le)))

pub none_listed : (from most : ℕ) → first_from from most [] ≡ []
none_listed from most = take_all most [] (omega arith)

module _ (from most : ℕ) (before : List MeterEntry) (e : MeterEntry) where
  abbrev asked : MeterEntry → Bool
  asked x = nat_le from (place_of x)

  chosen : asked e ≡ true → filter asked (before ++ e ∷ []) ≡ filter asked before ++ e ∷ []
  chosen is = filter-append asked before (e ∷ []) ∙ ap (λ l. filter asked before ++ l) (cond-true _ _ _ is)

  passed_over : asked e ≡ false → filter asked (before ++ e ∷ []) ≡ filter asked before
  passed_over is = filter-append asked before (e ∷ []) ∙ ap (λ l. filter asked before ++ l) (cond-false _ _ _ is) ∙ append-nil (filter asked before)

  pub one_listed : asked e ≡ true → length (first_from from most before) < most → first_from from most (before ++ e ∷ []) ≡ first_from from most before ++ e ∷ []
  one_listed is lt = ap (take most) (chosen is) ∙ take_push most (filter asked before) e lt

  pub too_early : asked e ≡ false → first_from from most (before ++ e ∷ []) ≡ first_from from most before
  too_early is = ap (take most) (passed_over is)

  pub enough : most ≤ length (first_from from most before) → first_from from most (before ++ e ∷ []) ≡ first_from from most before
  enough le = elim (cases_Bool (asked e)) [
    | inl is ↦ ap (take most) (chosen is) ∙ take_full most (filter asked before) e le
    | inr is ↦ too_early is
  ]

-- The first `i + 1` rows, listed with the latest first, are the row at index `i`, followed by the
-- first `i` rows with the latest first.

pub turned_rows : (rows : List EntryRow) (i : ℕ) (d : EntryRow) → i < length rows → latest_first (take (i + 1) rows) ≡ get_or rows i d ∷ latest_first (take i rows)
turned_rows rows i d lt = ap reverse (take_more rows i d lt) ∙ reverse-append (take i rows) (get_or rows i d ∷ [])

pub next_listed : (opening : Opening) (rows : List EntryRow) (i : ℕ) (d : EntryRow) → i < length rows
    → reverse (listed_rows opening (latest_first (take (i + 1) rows)))
    ≡ reverse (listed_rows opening (latest_first (take i rows))) ++ entry.Later (get_or rows i d) (scale_after opening (get_or rows i d ∷ latest_first (take i rows))) ∷ []
next_listed opening rows i d lt =
    ap (λ (rs : List EntryRow). reverse (listed_rows opening rs)) (turned_rows rows i d lt)
    ∙ reverse_cons (entry.Later (get_or rows i d) (scale_after opening (get_or rows i d ∷ latest_first (take i rows)))) (listed_rows opening (latest_first (take i rows)))
