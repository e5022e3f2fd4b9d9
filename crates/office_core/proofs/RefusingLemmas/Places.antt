-- Lemmas about the sequence numbers of a meter's entries (its readings, resets and so on, in
-- order).
use Rattle.std.proofs.Common.{◌≡◌, ℕ, suc, ◌+◌, ◌<◌, ◌≤◌, nat_le, ◌==◌, ◌&&◌, true, false, not, List, [], ◌∷◌, length, refl, sym, ap, subst, ◌∙◌, inl, inr, Option, Some, None, is_some, arith}
use Rattle.std.specs.Option.{option_map, option_and_then}
use Rattle.std.proofs.lemmas.Bool.{cond-true, cond-false, cases_Bool, eqb-true, eqb-false, le-leb, lt-leb}
use Rattle.std.proofs.lemmas.Bool.Decides.{nat_tests}
use Rattle.energy_core.specs.declared.entries.Last.{Last}
use Rattle.meter_journal.specs.declared.lines.EntryRow.{EntryRow}
use Rattle.meter_journal.specs.Lists.{AreNumbered}
use Rattle.meter_journal.specs.Journal as journal
use Rattle.meter_journal.specs.Journal.{Journal, Line, Entered, Held, Voided, with_void, struck, rolled, is_reading, row_at, Around, passed}
use Rattle.energy_core.specs.Account.{last_of}
use Rattle.office_events.specs.declared.facts.Fact.{Fact}
use Rattle.office_events.specs.declared.facts.Opening.{Opening}
use Rattle.office_events.specs.declared.questions.EntryContext.{EntryContext}
use Rattle.office_events.specs.declared.questions.Installation.{Installation}
use Rattle.office_books.specs.Facts.{opening_of}
use Rattle.office_books.specs.Meters.{opened, journal_of, rows_of, place_in, entry_at, installation_of, meter_of}
use Rattle.office_books.specs.Refusals.{has_place, is_not_voidable, verdict_at}
use Rattle.office_core.specs.declared.refusing.voids.Spot.TheVariants as spot
use Rattle.office_core.specs.Refusing.Spots.{IsAt, IsJudgedAs}

rolled_place : (last : Last) (row : EntryRow) → (rolled last row).place ≡ row.place
rolled_place last row = elim (cases_Bool (row.stands && is_reading row.kind)) [
  | inl h ↦ ap (λ (r : EntryRow). r.place) (cond-true _ _ _ h)
  | inr h ↦ ap (λ (r : EntryRow). r.place) (cond-false _ _ _ h)
]

-- A void (cancellation) of a meter's entry leaves the number of the meter's entry rows unchanged.
void_length : (opening : Last) (place : ℕ) (rows : List EntryRow) → length (with_void opening place rows) ≡ length rows
void_length opening place [] = refl
void_length opening place (row ∷ rows) = elim (cases_Bool (row.place == place)) [
  | inl h ↦ ap length (cond-true _ _ _ h)
  | inr h ↦ ap length (cond-false _ _ _ h) ∙ ap suc (void_length opening place rows)
]

void_numbered : (opening : Last) (place : ℕ) (rows : List EntryRow) → AreNumbered rows → AreNumbered (with_void opening place rows)
void_numbered opening place [] h = tt
void_numbered opening place (row ∷ rows) h = elim (cases_Bool (row.place == place)) [
  | inl here ↦ subst AreNumbered (sym (cond-true _ _ _ here)) h
  | inr off ↦
      let rest : List EntryRow = with_void opening place rows in
      let last : Last = last_of opening (journal.entries_in rest) in
      let is : (rolled last row).place ≡ length rest + 2 =
      rolled_place last row ∙ h.0 ∙ ap (λ n. n + 2) (sym (void_length opening place rows)) in
      subst AreNumbered (sym (cond-false _ _ _ off)) (is, void_numbered opening place rows h.1)
]

-- The entry rows of a meter's journal (history) have consecutive sequence numbers from 2.
numbered : (opening : Last) (lines : Journal) → AreNumbered (journal.rows_of opening lines)
numbered opening [] = tt
numbered opening (Entered k e ∷ lines) = (refl, numbered opening lines)
numbered opening (Held reading cause ∷ lines) = numbered opening lines
numbered opening (Voided place ∷ lines) = void_numbered opening place (journal.rows_of opening lines) (numbered opening lines)

at_last : (place n : ℕ) → place ≡ n + 2 → true ≡ nat_le 2 place && nat_le place (suc n + 1)
at_last place n is = grind (arith, nat_tests, is)

at_others : (place n : ℕ) → (place ≡ n + 2 → ⊥) → nat_le 2 place && nat_le place (n + 1) ≡ nat_le 2 place && nat_le place (suc n + 1)
at_others place n off = grind (arith, nat_tests, off)

mapped : {X Y : Type 0} (f : X → Y) (o : Option X) → is_some (option_map f o) ≡ is_some o
mapped f None = refl
mapped f (Some x) = refl

-- If a sequence number is from 2 to the number of a meter's entry rows plus 1, then one of these
-- rows has this number.
row_there : (place : ℕ) (rows : List EntryRow) → AreNumbered rows
    → is_some (row_at place rows) ≡ nat_le 2 place && nat_le place (length rows + 1)
row_there place [] h = grind (arith, nat_tests)
row_there place (row ∷ rows) h =
    let is : row.place ≡ length rows + 2 = h.0 in
    elim (cases_Bool (row.place == place)) [
      | inl here ↦
          let same : row.place ≡ place = eqb-true row.place place here in
          ap is_some (cond-true _ _ _ here) ∙ at_last place (length rows) (sym same ∙ is)
      | inr off ↦
          let other : row.place ≡ place → ⊥ = eqb-false row.place place off in
          ap is_some (cond-false _ _ _ off) ∙ mapped (passed row) (row_at place rows) ∙ row_there place rows h.1
          ∙ at_others place (length rows) (λ e. other (is ∙ sym e))
    ]

none_of : {X : Type 0} (o : Option X) → is_some o ≡ false → None ≡ o
none_of None h = refl
none_of (Some x) h = absurd (cc)

-- If a sequence number is below 2, then no entry row of a meter has this number.
no_row : (place : ℕ) (rows : List EntryRow) → AreNumbered rows → place < 2 → None ≡ row_at place rows
no_row place rows h low = none_of (row_at place rows) (row_there place rows h ∙ ap (λ b. b && nat_le place (length rows + 1)) (lt-leb 2 place low))

no_entry_of : (facts : List Fact) (place : ℕ) (opening : Option Opening) → place < 2
    → None ≡ option_and_then (λ o. option_map (place_in facts o) (row_at place (rows_of facts o))) opening
no_entry_of facts place None low = refl
no_entry_of facts place (Some o) low =
    ap (λ around. option_map (place_in facts o) around) (no_row place (rows_of facts o) (numbered (opened o) (journal_of facts o.meter)) low)

no_entry : (facts : List Fact) (given : Option (List ℕ)) (place : ℕ) → place < 2 → None ≡ option_and_then (λ m. entry_at facts m place) given
no_entry facts None place low = refl
no_entry facts (Some m) place low = no_entry_of facts place (opening_of facts m) low

entry_there_of : (facts : List Fact) (place : ℕ) (opening : Option Opening) → 2 ≤ place
    → is_some (option_and_then (λ o. option_map (place_in facts o) (row_at place (rows_of facts o))) opening) ≡ has_place facts place opening
entry_there_of facts place None high = refl
entry_there_of facts place (Some o) high =
    mapped (place_in facts o) (row_at place (rows_of facts o))
    ∙ row_there place (rows_of facts o) (numbered (opened o) (journal_of facts o.meter))
    ∙ ap (λ b. b && nat_le place (length (rows_of facts o) + 1)) (le-leb 2 place high ∙ sym (le-leb 1 place (omega (arith, high))))

-- A meter has an entry with a sequence number of at least 2 if and only if the test `has_place` is
-- true: the number is at most the number of the meter's entries.
entry_there : (facts : List Fact) (given : Option (List ℕ)) (place : ℕ) → 2 ≤ place
    → is_some (option_and_then (λ m. entry_at facts m place) given) ≡ has_place facts place (option_and_then (opening_of facts) given)
entry_there facts None place high = refl
entry_there facts (Some m) place high = entry_there_of facts place (opening_of facts m) high

no_place_0 : (facts : List Fact) (opening : Option Opening) → true ≡ not (has_place facts 0 opening)
no_place_0 facts None = refl
no_place_0 facts (Some o) = refl

pub nothing_at_0 : (facts : List Fact) (given : Option (List ℕ)) (place : ℕ) → place ≡ 0 → IsAt facts given place spot.Nothing
nothing_at_0 facts given place is = record {
  there = no_place_0 facts (option_and_then (opening_of facts) given) ∙ ap (λ n. not (has_place facts n (option_and_then (opening_of facts) given))) (sym is);
  voidable = ap is_not_voidable (no_entry facts given place (omega (arith, is)));
  verdict = ap verdict_at (no_entry facts given place (omega (arith, is)));
}

opened_there : (facts : List Fact) (opening : Option Opening) (row : Installation) → option_map (installation_of facts) opening ≡ Some row
    → false ≡ not (has_place facts 1 opening)
opened_there facts None row is = absurd (cc)
opened_there facts (Some o) row is = ap not (sym (le-leb 1 (length (rows_of facts o) + 1) (omega arith)))

pub opening_at_1 : (facts : List Fact) (m : List ℕ) (place : ℕ) (row : Installation) → place ≡ 1 → meter_of facts m ≡ Some row
    → IsAt facts (Some m) place spot.Opening
opening_at_1 facts m place row is found = record {
  there = opened_there facts (opening_of facts m) row found ∙ ap (λ n. not (has_place facts n (opening_of facts m))) (sym is);
  voidable = ap is_not_voidable (no_entry facts (Some m) place (omega (arith, is)));
  verdict = ap verdict_at (no_entry facts (Some m) place (omega (arith, is)));
}

pub nothing_at : (facts : List Fact) (m : List ℕ) (place : ℕ) → 2 ≤ place → IsJudgedAs (entry_at facts m place) None → IsAt facts (Some m) place spot.Nothing
nothing_at facts m place high judged = record {
  there = ap not judged.there ∙ ap not (entry_there facts (Some m) place high);
  voidable = judged.voidable;
  verdict = judged.verdict;
}

pub entry_at_place : (facts : List Fact) (m : List ℕ) (place : ℕ) (row : EntryContext) → 2 ≤ place → IsJudgedAs (entry_at facts m place) (Some row)
    → IsAt facts (Some m) place (spot.Entry row)
entry_at_place facts m place row high judged = record {
  there = ap not judged.there ∙ ap not (entry_there facts (Some m) place high);
  voidable = judged.voidable;
  verdict = judged.verdict;
}
