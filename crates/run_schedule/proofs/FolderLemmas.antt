-- Lemmas that the search for the files of periods before the current one (such as `2026-10`) finds
-- all of them. The search goes through the file names in a folder one by one.
use Rattle.std.proofs.Common.{◌≡◌, ◌⊎◌, inl, inr, ℕ, zero, suc, ◌+◌, ◌<◌, ◌≤◌, List, [], ◌∷◌, ◌++◌, Vec, drop, take, get_or, length, refl, sym, ap, ◌∙◌, subst, arith, append_assoc, append-nil}
use Rattle.std.specs.declared.alloc.Global.{Global}
use Rattle.std.proofs.lemmas.List.{drop_more, map_more}
use Rattle.energy_report.specs.declared.form.Period.{Period}
use Rattle.run_schedule.specs.Periods.Folders.{AddsEarlier, AreEarlier, IsEarlier, texts_in}
use Rattle.run_schedule.specs.Periods.Led.{number_in}
use Rattle.run_schedule.specs.Periods.Names.{IsNamed}
use Rattle.run_schedule.proofs.LedLemmas.{same_text}

-- The texts of a list's names from the index `i` on are the text of name `i`, followed by the texts
-- of the later names.
pub next_text : (names : List (Vec ℕ Global)) (i : ℕ) (name : Vec ℕ Global) (text : List ℕ) → i < length names → name ≡ get_or names i name → text ≡ name.items
    → texts_in (drop i names) ≡ text ∷ texts_in (drop (i + 1) names)
next_text names i name text within at is =
    ap texts_in (drop_more names i name within) ∙ ap (λ (t : List ℕ). t ∷ texts_in (drop (i + 1) names)) (ap (λ (n : Vec ℕ Global). n.items) (sym at) ∙ sym is)

-- The texts of a list's first `i + 1` names are the texts of the first `i` names, followed by the
-- text of the name with the index `i`.
pub one_more : (names : List (Vec ℕ Global)) (i : ℕ) (name : Vec ℕ Global) (text : List ℕ) → i < length names → name ≡ get_or names i name → text ≡ name.items
    → texts_in (take (i + 1) names) ≡ texts_in (take i names) ++ text ∷ []
one_more names i name text within at is =
    map_more (λ (n : Vec ℕ Global). n.items) names i name within
    ∙ ap (λ (t : List ℕ). texts_in (take i names) ++ t ∷ []) (ap (λ (n : Vec ℕ Global). n.items) (sym at) ∙ sym is)

-- If an index is past the end of a list of names, no names are left from that index on.
pub none_left : (names : List (Vec ℕ Global)) (i : ℕ) → length names ≤ i → texts_in (drop i names) ≡ []
none_left names i past = ap texts_in (drop_past names i past)
  where
    drop_past : (ns : List (Vec ℕ Global)) (k : ℕ) → length ns ≤ k → drop k ns ≡ []
    drop_past [] zero past = refl
    drop_past [] (suc k) past = refl
    drop_past (n ∷ ns) zero past = absurd (omega (arith, past))
    drop_past (n ∷ ns) (suc k) past = drop_past ns k (omega (arith, past))

module _ (file : List ℕ) (period : Period) (current : List ℕ) where
  -- A file name has at most one period (such as `2026-11`). If that period is not before the period
  -- `current`, then the name has no period before `current`.
  pub not_earlier : (name text : List ℕ) → IsNamed file period name text → (number_in text < number_in current → ⊥)
      → (other : List ℕ) → IsEarlier file period current name other → ⊥
  not_earlier name text named late other is =
      late (subst (λ (t : List ℕ). number_in t < number_in current) (same_text file other text (is.named.named ∙ sym named.named)) is.before)

  -- States a loop invariant of the search for earlier periods (such as `2026-10`) in file names.
  -- The periods `so_far`, followed by the earlier periods in the names `left`, are the earlier
  -- periods in all names.
  abbrev pub Completes : (all so_far left : List (List ℕ)) → Type 0
  Completes all so_far left = (rest : List (List ℕ)) → AreEarlier file period current left rest → AreEarlier file period current all (so_far ++ rest)

  pub completes_more : (all so_far new left : List (List ℕ)) (name : List ℕ) → Completes all so_far (name ∷ left)
      → AddsEarlier file period current name so_far new → Completes all new left
  completes_more all so_far new left name before (inl none) = λ rest are.
      subst (λ (ts : List (List ℕ)). AreEarlier file period current all (ts ++ rest)) (sym none.1) (before rest (inl (none.0, are)))
  completes_more all so_far new left name before (inr some) = λ rest are.
      subst (λ (ts : List (List ℕ)). AreEarlier file period current all ts)
      (sym (ap (λ (ts : List (List ℕ)). ts ++ rest) some.2 ∙ append_assoc so_far (some.0 ∷ []) rest))
      (before (some.0 ∷ rest) (inr (some.0, rest, refl, some.1, are)))

  -- If no file names are left to search, then `texts` has the periods before the current period
  -- (such as `2026-11`) in all names.
  pub all_done : (all texts : List (List ℕ)) → Completes all texts [] → AreEarlier file period current all texts
  all_done all texts done = subst (λ (ts : List (List ℕ)). AreEarlier file period current all ts) (append-nil texts) (done [] refl)
