-- Lemmas on the journal of a meter, which is its history of entries, rejected readings and voids
-- (withdrawals of entries). New lines that void no entry before a sequence number leave the entries
-- before it unchanged.
use Rattle.std.proofs.Common.{◌≡◌, ℕ, ◌+◌, ◌<◌, ◌≤◌, ◌==◌, nat_lt, true, false, ◌&&◌, List, [], ◌∷◌, ◌++◌, length, refl, sym, ap, ◌∙◌, inl, inr, Some, arith}
use Rattle.std.proofs.lemmas.Bool.{cases_Bool, cond-true, cond-false, eqb-true}
use Rattle.std.proofs.lemmas.Bool.Decides.{nat_tests}
use Rattle.energy_core.specs.declared.entries.Last.{Last}
use Rattle.energy_core.specs.Account.{last_of}
use Rattle.meter_journal.specs.declared.lines.Installed.{Installed}
use Rattle.meter_journal.specs.declared.lines.EntryRow.{EntryRow}
use Rattle.meter_journal.specs.Books.{IsWellInstalled}
use Rattle.meter_journal.specs.Fitting.{AreFitting}
use Rattle.meter_journal.specs.Journal.{Entered, Held, Voided, Journal, Around, is_reading, entries_in, rolled, struck, with_void, rows_of, passed, row_at}
use Rattle.meter_journal.specs.Lists.{AreNumbered}
use Rattle.meter_journal.specs.Standing.{entered_count}
use Rattle.meter_journal.proofs.AsEntered.{rows_are_kept}
use Rattle.meter_journal.proofs.Keeping.{mapped_some}
use Rattle.run_http.specs.Copies.{entries_before}

-- States that each void (withdrawal of an entry) among the journal's lines names an entry with the
-- sequence number `place` or a higher number.
abbrev pub LinesFrom : (place : ℕ) → Journal → Type 0
LinesFrom place [] = Unit {0}
LinesFrom place (Entered k e ∷ lines) = LinesFrom place lines
LinesFrom place (Held reading cause ∷ lines) = LinesFrom place lines
LinesFrom place (Voided named ∷ lines) = (place ≤ named) × LinesFrom place lines

not_below : (n place : ℕ) → place ≤ n → nat_lt n place ≡ false
not_below n place le = grind (arith, nat_tests, le)

is_below : (n place : ℕ) → n < place → nat_lt n place ≡ true
is_below n place lt = grind (arith, nat_tests, lt)

-- If an entry has the sequence number `place` or a higher number, then it is not among the entries
-- before `place`.
dropped : (place : ℕ) (row : EntryRow) (rows : List EntryRow) → place ≤ row.place → entries_before place (row ∷ rows) ≡ entries_before place rows
dropped place row rows le = cond-false _ _ _ (not_below row.place place le)

rolled_place : (last : Last) (row : EntryRow) → (rolled last row).place ≡ row.place
rolled_place last row =
    elim (cases_Bool (row.stands && is_reading row.kind)) [
      | inl e ↦ ap (λ (r : EntryRow). r.place) (cond-true _ _ _ e)
      | inr e ↦ ap (λ (r : EntryRow). r.place) (cond-false _ _ _ e)
    ]

-- If a meter has an entry with the sequence number `named`, then `named` is below the next unused
-- sequence number.
place_below : (named : ℕ) (rows : List EntryRow) (a : Around) → AreNumbered rows → row_at named rows ≡ Some a → named < length rows + 2
place_below named [] a h there = absurd (cc)
place_below named (row ∷ rows) a h there =
    elim (cases_Bool (row.place == named)) [
      | inl at ↦ let is : row.place ≡ named = eqb-true row.place named at in omega (arith, is, h.0)
      | inr off ↦
          let found = mapped_some (passed row) (row_at named rows) a (sym (cond-false _ _ _ off) ∙ there) in
          let rest = place_below named rows found.0 h.1 found.1 in omega (arith, rest)
    ]

-- If an entry is voided (withdrawn), then all entries with lower sequence numbers are unchanged.
void_leaves : (opening : Last) (place named : ℕ) (rows : List EntryRow) (a : Around) → place ≤ named → AreNumbered rows
    → row_at named rows ≡ Some a → entries_before place (with_void opening named rows) ≡ entries_before place rows
void_leaves opening place named [] a le h there = absurd (cc)
void_leaves opening place named (row ∷ rows) a le h there =
    elim (cases_Bool (row.place == named)) [
      | inl at ↦
          let is : row.place ≡ named = eqb-true row.place named at in
          let following : place ≤ row.place = omega (arith, is, le) in
          ap (entries_before place) (cond-true _ _ _ at) ∙ dropped place (struck row) rows following ∙ sym (dropped place row rows following)
      | inr off ↦
          let found = mapped_some (passed row) (row_at named rows) a (sym (cond-false _ _ _ off) ∙ there) in
          let lt = place_below named rows found.0 h.1 found.1 in
          let following : place ≤ row.place = omega (arith, lt, le, h.0) in
          let rest : List EntryRow = with_void opening named rows in
          let next : EntryRow = rolled (last_of opening (entries_in rest)) row in
          let next_after : place ≤ next.place = omega (arith, following, rolled_place (last_of opening (entries_in rest)) row) in
          ap (entries_before place) (cond-false _ _ _ off) ∙ dropped place next rest next_after
          ∙ void_leaves opening place named rows found.0 le h.1 found.1 ∙ sym (dropped place row rows following)
    ]

more_entered : (more lines : Journal) → entered_count lines ≤ entered_count (more ++ lines)
more_entered [] lines = omega arith
more_entered (Entered k e ∷ more) lines = omega (arith, more_entered more lines)
more_entered (Held reading cause ∷ more) lines = more_entered more lines
more_entered (Voided named ∷ more) lines = more_entered more lines

below_fit : (meter : Installed) (more lines : Journal) → AreFitting meter (more ++ lines) → AreFitting meter lines
below_fit meter [] lines h = h
below_fit meter (line ∷ more) lines h = below_fit meter more lines h.1

-- If new lines of a meter's journal void (withdraw) no entry before the sequence number `place`,
-- the entries before `place` are unchanged. The number `place` is that of an entry, or the next
-- unused one.
pub entries_stay : (meter : Installed) (place : ℕ) (more lines : Journal) → IsWellInstalled meter → AreFitting meter (more ++ lines)
    → place ≤ entered_count lines + 2 → LinesFrom place more
    → entries_before place (rows_of meter.opening (more ++ lines)) ≡ entries_before place (rows_of meter.opening lines)
entries_stay meter place [] lines well h le from = refl
entries_stay meter place (Entered k e ∷ more) lines well h le from =
    let rows : List EntryRow = rows_of meter.opening (more ++ lines) in
    let count : length rows ≡ entered_count (more ++ lines) = (rows_are_kept meter (more ++ lines) well h.1).count in
    let row : EntryRow = record { place = length rows + 2; kind = k; entry = e; stands = true } in
    let following : place ≤ row.place = omega (arith, count, le, more_entered more lines) in
    dropped place row rows following ∙ entries_stay meter place more lines well h.1 le from
entries_stay meter place (Held reading cause ∷ more) lines well h le from = entries_stay meter place more lines well h.1 le from
entries_stay meter place (Voided named ∷ more) lines well h le from =
    let rows : List EntryRow = rows_of meter.opening (more ++ lines) in
    void_leaves meter.opening place named rows h.0.around from.0 (rows_are_kept meter (more ++ lines) well h.1).places h.0.there
    ∙ entries_stay meter place more lines well h.1 le from.1

-- Lemmas: the entries of a meter with sequence numbers below a given number are the meter's first
-- entries.

pub all_below : (place : ℕ) (rows : List EntryRow) → AreNumbered rows → length rows + 1 < place → entries_before place rows ≡ rows
all_below place [] h lt = refl
all_below place (row ∷ rows) h lt =
    cond-true _ _ _ (is_below row.place place (omega (arith, lt, h.0))) ∙ ap (λ rs. row ∷ rs) (all_below place rows h.1 (omega (arith, lt)))

pub first_ones : (place : ℕ) (rows : List EntryRow) → AreNumbered rows → (newer : List EntryRow) × (rows ≡ newer ++ entries_before place rows)
first_ones place [] h = ([], refl)
first_ones place (row ∷ rows) h =
    elim (cases_Bool (nat_lt row.place place)) [
      | inl e ↦
          let lt : row.place < place = grind (arith, nat_tests, e) in
          ([], sym (all_below place (row ∷ rows) h (omega (arith, lt, h.0))))
      | inr e ↦
          let rest = first_ones place rows h.1 in
          (row ∷ rest.0, ap (λ rs. row ∷ rs) rest.1 ∙ ap (λ rs. row ∷ rest.0 ++ rs) (sym (cond-false _ _ _ e)))
    ]
