-- Lemmas: a search through the file names, one by one, finds the store's current file, in which the
-- program records energy.
use Rattle.std.proofs.Common.{◌≡◌, ◌⊎◌, inl, inr, ℕ, ◌+◌, ◌<◌, ◌≤◌, nat_lt, Bool, true, false, List, [], ◌∷◌, ◌++◌, Some, None, refl, sym, ap, ◌∙◌, subst, arith}
use Rattle.std.specs.Prelude.{Option, codes, Contains, ◌||◌}
use Rattle.std.specs.Borrow.{Bor}
use Rattle.std.specs.declared.vec.Vec.{Vec}
use Rattle.std.proofs.lemmas.Bool.{ltb-true, ltb-false}
use Rattle.std.proofs.lemmas.List.{append_cancel_left, append_cancel_right}
use Rattle.std.proofs.lemmas.List.Elements.{Contains-append_left, Contains-push, Contains-push_cases}
use Rattle.energy_report.specs.declared.form.Period.{Period}
use Rattle.run_schedule.specs.Periods.Names.{IsPeriodIn, file_of, spells, stem_of, suffix_of}
use Rattle.run_schedule.specs.Periods.Led.{IsFileOf, IsLast, IsLed, IsReportedBy, gives_way, other_length, rank, reports}

either : (a b : Bool) → (a || b) ≡ true → (a ≡ true) ⊎ (b ≡ true)
either true b is = inl refl
either false b is = inr is

or_right : (a b : Bool) → b ≡ true → (a || b) ≡ true
or_right true b is = refl
or_right false b is = is

or_left : (a b : Bool) → a ≡ true → (a || b) ≡ true
or_left true b is = refl
or_left false b is = absurd (cc)

-- Suppose that a file name contains no period of the configured length (such as a month). Then a
-- search for both lengths has the result of the search for the alternative length (such as a year).
pub reported_by_other : (file : List ℕ) (length : Period) (name : List ℕ) (r : Option (Bor (List ℕ))) → IsPeriodIn file length name None
    → IsPeriodIn file (other_length length) name r → IsReportedBy file length name r
reported_by_other file length name (Some text) own is = record {
  reported = or_right (spells length text.now) (spells (other_length length) text.now) is.spelled;
  named = is.named;
}
reported_by_other file length name None own other = λ text is.
    elim (either (spells length text) (spells (other_length length) text) is.reported) as (λ _. ⊥) [
      | inl spelled ↦ own text (record { spelled = spelled; named = is.named })
      | inr spelled ↦ other text (record { spelled = spelled; named = is.named })
    ]

-- If the file names of two periods (such as `2026-11`) are equal, then the two periods are equal.
pub same_text : (file text other : List ℕ) → file_of file text ≡ file_of file other → text ≡ other
same_text file text other both =
    let fronts : stem_of file ++ codes "-" ++ text ≡ stem_of file ++ codes "-" ++ other = append_cancel_right _ _ (suffix_of file) both in
    append_cancel_left (stem_of file ++ codes "-") text other fronts

pub keeps_untold : {Z : Type 0} (file : List ℕ) (length : Period) (name : List ℕ) (led : Option (Vec ℕ Z)) → IsReportedBy file length name None
    → (names : List (List ℕ)) → IsLed file length names led → IsLed file length (names ++ name ∷ []) led
keeps_untold file length name None untold names old = λ text reported there.
    elim (Contains-push_cases names name (file_of file text) there) as (λ _. ⊥) [
      | inl before ↦ old text reported before
      | inr same ↦ untold text (record { reported = reported; named = sym same })
    ]
keeps_untold file length name (Some led) untold names old = record {
  reported = old.reported;
  there = Contains-append_left names (name ∷ []) _ old.there;
  last = λ other reported there.
      elim (Contains-push_cases names name (file_of file other) there) as (λ _. rank length other ≤ rank length led.items) [
        | inl before ↦ old.last other reported before
        | inr same ↦ absurd (untold other (record { reported = reported; named = sym same }))
      ];
}

not_more : (length : Period) (text other : List ℕ) (least : ℕ) → text ≡ other → rank length text ≤ least → rank length other ≤ least
not_more length text other least same below = subst (λ (t : List ℕ). rank length t ≤ least) same below

pub keeps_led : {Z : Type 0} (file : List ℕ) (length : Period) (name text : List ℕ) (led : Option (Vec ℕ Z)) → IsFileOf file length name text
    → gives_way led length text ≡ false → (names : List (List ℕ)) → IsLed file length names led → IsLed file length (names ++ name ∷ []) led
keeps_led file length name text None is stays names old = absurd (cc)
keeps_led file length name text (Some led) is stays names old = record {
  reported = old.reported;
  there = Contains-append_left names (name ∷ []) _ old.there;
  last = λ other reported there.
      elim (Contains-push_cases names name (file_of file other) there) as (λ _. rank length other ≤ rank length led.items) [
        | inl before ↦ old.last other reported before
        | inr same ↦ not_more length text other (rank length led.items) (same_text file text other (is.named ∙ same))
            (ltb-false (rank length led.items) (rank length text) stays)
      ];
}

below : (a b c : ℕ) → a ≤ b → b < c → a ≤ c
below a b c first second = omega (arith, first, second)

pub leads : {Z : Type 0} (file : List ℕ) (length : Period) (name text : List ℕ) (led : Option (Vec ℕ Z)) → IsFileOf file length name text
    → gives_way led length text ≡ true → (names : List (List ℕ)) → IsLed file length names led → IsLast file length (names ++ name ∷ []) text
leads file length name text None is gives names old = record {
  reported = is.reported;
  there = subst (λ (n : List ℕ). Contains (names ++ name ∷ []) n) (sym is.named) (Contains-push names name);
  last = λ other reported there.
      elim (Contains-push_cases names name (file_of file other) there) as (λ _. rank length other ≤ rank length text) [
        | inl before ↦ absurd (old other reported before)
        | inr same ↦ not_more length text other (rank length text) (same_text file text other (is.named ∙ same)) (omega arith)
      ];
}
leads file length name text (Some led) is gives names old = record {
  reported = is.reported;
  there = subst (λ (n : List ℕ). Contains (names ++ name ∷ []) n) (sym is.named) (Contains-push names name);
  last = λ other reported there.
      elim (Contains-push_cases names name (file_of file other) there) as (λ _. rank length other ≤ rank length text) [
        | inl before ↦ below (rank length other) (rank length led.items) (rank length text) (old.last other reported before)
            (ltb-true (rank length led.items) (rank length text) gives)
        | inr same ↦ not_more length text other (rank length text) (same_text file text other (is.named ∙ same)) (omega arith)
      ];
}
