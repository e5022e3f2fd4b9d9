-- Proofs that the search for the nearest meter entry that is not voided (cancelled), which queries
-- one index after another, returns the index of this entry.
use Rattle.std.proofs.Common.{◌≡◌, ◌≤◌, ◌<◌, ◌+◌, ℕ, Bool, true, false, inl, inr, List, Ok, Err, Result, IsErrAnd, refl, sym, subst, ◌∙◌, arith}
use Rattle.std.specs.Prelude.{nat_lt}
use Rattle.std.proofs.lemmas.Bool.{cases_Bool}
use Rattle.std.proofs.lemmas.Bool.Decides.{nat_tests}
use Rattle.sqlite.specs.Order.{Row}
use Rattle.sqlite.specs.State.{State}
use Rattle.store_tables.specs.declared.faults.RowFault.{RowFault}
use Rattle.store_tables.specs.Content.{Content, HasRows}
use Rattle.store_tables.specs.Entries.Rows.{Voided, voided_columns}
use Rattle.store_tables.specs.Entries.Trees.{voids}
use Rattle.office_store.specs.Going.{Goes, Reported}
use Rattle.office_store.proofs.GoingLemmas.{goes_then, then_failed, reported_less, nothing_done}
use Rattle.office_store.specs.Voids.Places.{ReportsOf, names, ReportsVoided, AreVoided, IsBefore, IsAfter}

module _ (meter : List ℕ) where
  -- True if a search for a meter's nearest valid entry changed no table, and all of the meter's
  -- entries with indices above `low` and below `high` are voided (cancelled).
  abbrev pub Passed : (low high : ℕ) → Content → Content → Type 0
  Passed low high = Reported voids voided_columns (λ (vs : List Voided) (u : Unit {0}). AreVoided meter low high vs) tt

  abbrev Asked : (place : ℕ) → Bool → Content → Content → Type 0
  Asked place is = Reported voids voided_columns (ReportsVoided meter place) is

  pub not_begun : (low high : ℕ) → high ≤ low + 1 → (a : State) → Goes {X = Unit {0}} {E = RowFault} a a (Ok tt) (Passed low high)
  not_begun low high none a =
      nothing_done a tt (Passed low high) (λ content. record { same = refl; answers = λ vs has place above below. absurd (omega (arith, none, above, below)) })

  lower : (low p high : ℕ) (vs : List Voided) → low + 1 ≡ p → AreVoided meter p high vs → true ≡ names meter p vs → AreVoided meter low high vs
  lower low p high vs next are is place above below = elim (cases_Bool (nat_lt p place)) [
    | inl later ↦ are place (grind (arith, nat_tests, later)) below
    | inr here ↦ let same : p ≡ place = grind (arith, nat_tests, here, above, next) in subst (λ q. names meter q vs ≡ true) same (sym is)
  ]

  higher : (low p high : ℕ) (vs : List Voided) → p + 1 ≡ high → AreVoided meter low p vs → true ≡ names meter p vs → AreVoided meter low high vs
  higher low p high vs next are is place above below = elim (cases_Bool (nat_lt place p)) [
    | inl earlier ↦ are place above (grind (arith, nat_tests, earlier))
    | inr here ↦ let same : p ≡ place = grind (arith, nat_tests, here, below, next) in subst (λ q. names meter q vs ≡ true) same (sym is)
  ]

  both : (low high more less p : ℕ) (a b c : State) → ((vs : List Voided) → AreVoided meter low high vs → true ≡ names meter p vs → AreVoided meter more less vs)
      → Goes {X = Unit {0}} {E = RowFault} a b (Ok tt) (Passed low high) → Goes {X = Bool} {E = RowFault} b c (Ok true) (Asked p true) → Goes {X = Unit {0}} {E = RowFault} a c (Ok tt) (Passed more less)
  both low high more less p a b c widens one two =
      reported_less {D = RowFault} a c true tt (Passed more less) (Passed more less) (λ content after is. is)
      (goes_then {D = RowFault} a b c tt (Ok true) (Passed low high) (Asked p true) (Passed more less) one two
      (λ before mid after (was : Passed low high before mid) (asked : Asked p true mid after). record {
        same = asked.same ∙ was.same;
        answers = λ vs has. widens vs (was.answers vs has) (asked.answers vs (subst (λ (c : Content). HasRows voids voided_columns vs c) (sym was.same) has));
      }))

  pub went_down : (low high p : ℕ) (a b c : State) (is : Bool) → is ≡ true → low + 1 ≡ p → Goes {X = Unit {0}} {E = RowFault} a b (Ok tt) (Passed p high) → Goes {X = Bool} {E = RowFault} b c (Ok is) (Asked p is)
      → Goes {X = Unit {0}} {E = RowFault} a c (Ok tt) (Passed low high)
  went_down low high p a b c is passed next one two =
      both p high low high p a b c (λ vs. lower low p high vs next) one (subst (λ (x : Bool). Goes {X = Bool} {E = RowFault} b c (Ok x) (Asked p x)) passed two)

  pub went_up : (low high p : ℕ) (a b c : State) (is : Bool) → is ≡ true → p + 1 ≡ high → Goes {X = Unit {0}} {E = RowFault} a b (Ok tt) (Passed low p) → Goes {X = Bool} {E = RowFault} b c (Ok is) (Asked p is)
      → Goes {X = Unit {0}} {E = RowFault} a c (Ok tt) (Passed low high)
  went_up low high p a b c is passed next one two =
      both low p low high p a b c (λ vs. higher low p high vs next) one (subst (λ (x : Bool). Goes {X = Bool} {E = RowFault} b c (Ok x) (Asked p x)) passed two)

  -- If a query fails during the search for a meter entry, the search returns the error of this
  -- query.
  pub walk_failed : {X A : Type 0} (T : RowFault → Type 0) (a b c : State) (e : RowFault) (r : Result A RowFault) (low high : ℕ) (Q : Content → Content → Type 0) (Answers : List X → A → Type 0) (tree : ℕ) (columns : X → Row)
      → Goes {X = Unit {0}} {E = RowFault} a b (Ok tt) (Passed low high) → Goes {X = Bool} b c (Err e) Q → IsErrAnd r T → Goes a c r (ReportsOf r tree columns Answers)
  walk_failed T a b c e (Ok x) low high Q Answers tree columns one two is = absurd is
  walk_failed T a b c e (Err d) low high Q Answers tree columns one two is = then_failed a b c tt e d (Passed low high) Q (ReportsOf (Err d) tree columns Answers) one two

  -- If the downward search reaches a meter entry that is not voided (cancelled), it returns the
  -- index of this entry.
  pub stands_before : (place p : ℕ) (a b c : State) (is : Bool) → is ≡ false → 1 ≤ p → p < place → Goes {X = Unit {0}} {E = RowFault} a b (Ok tt) (Passed p place) → Goes {X = Bool} {E = RowFault} b c (Ok is) (Asked p is)
      → Goes {X = ℕ} {E = RowFault} a c (Ok p) (Reported voids voided_columns (IsBefore meter place) p)
  stands_before place p a b c is off first less one two =
      reported_less {D = RowFault} a c is p (Reported voids voided_columns (IsBefore meter place) p) (Reported voids voided_columns (IsBefore meter place) p) (λ content after t. t)
      (goes_then {D = RowFault} a b c tt (Ok is) (Passed p place) (Asked p is) (Reported voids voided_columns (IsBefore meter place) p) one two
      (λ before mid after (was : Passed p place before mid) (asked : Asked p is mid after). record {
        same = asked.same ∙ was.same;
        answers = λ vs has. record {
          opening = first;
          lower = less;
          between = was.answers vs has;
          stands = inr (sym (asked.answers vs (subst (λ (c : Content). HasRows voids voided_columns vs c) (sym was.same) has)) ∙ off);
        };
      }))

  pub opening_before : (place low : ℕ) (a b : State) → 2 ≤ place → low ≤ 1 → Goes {X = Unit {0}} {E = RowFault} a b (Ok tt) (Passed low place)
      → Goes {X = ℕ} {E = RowFault} a b (Ok 1) (Reported voids voided_columns (IsBefore meter place) 1)
  opening_before place low a b late under one =
      reported_less {D = RowFault} a b tt 1 (Passed low place) (Reported voids voided_columns (IsBefore meter place) 1)
      (λ content after (was : Passed low place content after). record {
        same = was.same;
        answers = λ vs has. record { opening = omega arith; lower = omega (arith, late); between = λ q above below. was.answers vs has q (omega (arith, under, above)) below; stands = inl refl };
      }) one

  pub stands_after : (place p : ℕ) (a b c : State) (is : Bool) → is ≡ false → place < p → Goes {X = Unit {0}} {E = RowFault} a b (Ok tt) (Passed place p) → Goes {X = Bool} {E = RowFault} b c (Ok is) (Asked p is)
      → Goes {X = ℕ} {E = RowFault} a c (Ok p) (Reported voids voided_columns (IsAfter meter place) p)
  stands_after place p a b c is off more one two =
      reported_less {D = RowFault} a c is p (Reported voids voided_columns (IsAfter meter place) p) (Reported voids voided_columns (IsAfter meter place) p) (λ content after t. t)
      (goes_then {D = RowFault} a b c tt (Ok is) (Passed place p) (Asked p is) (Reported voids voided_columns (IsAfter meter place) p) one two
      (λ before mid after (was : Passed place p before mid) (asked : Asked p is mid after). record {
        same = asked.same ∙ was.same;
        answers = λ vs has. record {
          higher = more;
          between = was.answers vs has;
          stands = sym (asked.answers vs (subst (λ (c : Content). HasRows voids voided_columns vs c) (sym was.same) has)) ∙ off;
        };
      }))
