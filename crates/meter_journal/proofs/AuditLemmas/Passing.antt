-- Lemmas: if the rules for meter entries accept an entry row, then the table row that encodes it
-- passes the check of a meter's tables.
use Rattle.std.proofs.Common.{◌≡◌, ◌≢◌, ℕ, ℤ, ◌+◌, ◌<◌, ◌≤◌, ◌==◌, nat_lt, nat_le, Bool, true, false, not, ◌&&◌, List, ◌∷◌, length, Option, Some, None, Result, Ok, IsOk, refl, sym, ap, subst, ◌∙◌, inl, inr, arith, eq-eqb}
use Rattle.std.specs.Ordering.{int_eq}
use Rattle.std.proofs.lemmas.Bool.{cases_Bool, cond-true, cond-false}
use Rattle.std.proofs.lemmas.Bool.Decides.{nat_tests, Decides-int_eq}
use Rattle.energy_core.specs.declared.entries.Last.{Last}
use Rattle.energy_core.specs.declared.entries.Step.{Step}
use Rattle.energy_core.specs.declared.entries.Entry.{Entry}
use Rattle.energy_core.specs.declared.entries.Entry.TheVariants as entry
use Rattle.energy_core.specs.declared.verdicts.Verdict.TheVariants as verdict
use Rattle.energy_core.specs.Admission.{entered}
use Rattle.energy_core.proofs.Acceptance.{accepted_is_entered}
use Rattle.meter_journal.specs.declared.lines.Installed.{Installed}
use Rattle.meter_journal.specs.declared.lines.EntryKind.{EntryKind}
use Rattle.meter_journal.specs.declared.lines.EntryKind.TheVariants as kind
use Rattle.meter_journal.specs.declared.lines.EntryRow.{EntryRow}
use Rattle.meter_journal.specs.Books.{IsWellInstalled, last_after}
use Rattle.meter_journal.specs.Fitting.{reading_at, IsAcceptedAs, EntryFits}
use Rattle.meter_journal.specs.Journal.{is_reading, entries_in}
use Rattle.meter_journal.proofs.Keeping.{last_under}
use Rattle.meter_journal.specs.declared.audit.checks.Check.{Check}
use Rattle.meter_journal.specs.declared.audit.faults.RowFault.{RowFault}
use Rattle.meter_journal.specs.declared.audit.rows.TableRow.{TableRow}
use Rattle.meter_journal.specs.Audit.Rows.{kind_as, scale_after, table_row}
use Rattle.meter_journal.specs.Audit.Fitting.{is_ended, last_stands, WasReading, MayCome, AllFit}
use Rattle.meter_journal.specs.Audit.Passing.{kind_in, entry_in, has_unused, is_off_scale, shape_by, shape_of, fault_by, terms_of, reading_fault, stood_fault, voided_fault, unless, following, passed_by, passed}
use Rattle.meter_journal.specs.Audit.Laws.{check_after, FittingRowsPass}
use Rattle.meter_journal.proofs.AuditLemmas.Alone.{fitting_account}

kind_there : (k : EntryKind) → kind_in (kind_as k) ≡ Some k
kind_there kind.Reading = refl
kind_there kind.Manual = refl
kind_there kind.Closing = refl
kind_there kind.Reset = refl
kind_there kind.Rescale = refl

pub shape_is : (check : Check) (reported : TableRow) (k : EntryKind) → reported.place ≡ check.place + 1 → kind_in reported.kind ≡ Some k
    → check.is_ended ≡ false → reported.is_voided && not (is_reading k) ≡ false → has_unused k reported ≡ false → is_off_scale check k reported ≡ false
    → shape_of check reported ≡ Ok k
shape_is check reported k place kind unended voidable used scale =
    cond-true _ _ _ (eq-eqb reported.place (check.place + 1) place) ∙ ap (shape_by check reported) kind ∙ cond-false _ _ _ unended
    ∙ cond-false _ _ _ voidable ∙ cond-false _ _ _ used ∙ cond-false _ _ _ scale

differs : (a b : ℤ) → a ≡ b → not (int_eq a b) ≡ false
differs a b h = ap not ((Decides-int_eq a b).1 h)

pub passes_standing : (meter : Installed) (check : Check) (reported : TableRow) (k : EntryKind) (next : Last) (step : Step)
    → shape_of check reported ≡ Ok k → reported.is_voided ≡ false → reading_fault meter check k reported ≡ None
    → entered meter.range check.total check.last (entry_in k reported) ≡ Ok (next, step)
    → IsOk (passed meter check reported)
passes_standing meter check reported k next step shape stands none booked =
    subst IsOk (sym (
    ap (passed_by meter check reported) shape ∙ cond-false _ _ _ stands
    ∙ ap (λ o. unless o (following check k reported (entered meter.range check.total check.last (entry_in k reported)))) none
    ∙ ap (following check k reported) booked
    )) refl

pub passes_voided : (meter : Installed) (check : Check) (reported : TableRow) (k : EntryKind)
    → shape_of check reported ≡ Ok k → reported.is_voided ≡ true → voided_fault meter check reported ≡ None
    → stood_fault meter check k reported ≡ None → IsOk (passed meter check reported)
passes_voided meter check reported k shape v none stood =
    let next : Check = record check { place = reported.place; stands = false } in
    let answer : Result (Check × Option Step) RowFault = Ok (next, None) in
    subst IsOk (sym (
    ap (passed_by meter check reported) shape ∙ cond-true _ _ _ v
    ∙ ap (λ o. unless o (unless (stood_fault meter check k reported) answer)) none ∙ ap (λ o. unless o answer) stood
    )) refl

zero_not : (n : ℕ) → n ≢ 0 → (n == 0) ≡ false
zero_not n h = grind (arith, nat_tests)

not_le : (a b : ℕ) → b < a → nat_le a b ≡ false
not_le a b h = grind (arith, nat_tests)

not_lt : (a b : ℕ) → b ≤ a → nat_lt a b ≡ false
not_lt a b h = grind (arith, nat_tests)

no_voided_fault : (meter : Installed) (check : Check) (reported : TableRow) → WasReading meter.range check.last reported.moment reported.raw reported.rolls
    → voided_fault meter check reported ≡ None
no_voided_fault meter check reported h =
    cond-false _ _ _ (zero_not reported.raw h.accumulated) ∙ cond-false _ _ _ (not_le meter.range reported.raw h.below)
    ∙ cond-false _ _ _ (not_le reported.moment check.last.at h.later) ∙ cond-false _ _ _ (not_lt 1 reported.rolls h.once)

no_reading_fault : (rolls step : ℕ) → fault_by rolls (verdict.Accepted rolls step) ≡ None
no_reading_fault rolls step = cond-true _ _ _ (eq-eqb rolls rolls refl)

-- Suppose that the rules for valid readings accept a voided (cancelled) reading directly after a
-- valid row. Then the check of a meter's tables finds no fault in the reading.
no_stood_fault : (meter : Installed) (rows : List EntryRow) (reported : TableRow)
    → (last_stands rows ≡ true → IsAcceptedAs meter (entries_in rows) reported.moment reported.raw reported.rolls)
    → stood_fault meter (check_after meter rows) kind.Reading reported ≡ None
no_stood_fault meter rows reported h =
    elim (cases_Bool (last_stands rows)) [
      | inl on ↦
          let was : IsAcceptedAs meter (entries_in rows) reported.moment reported.raw reported.rolls = h on in
          cond-true _ _ _ on ∙ ap (fault_by reported.rolls) was.accepted ∙ no_reading_fault reported.rolls was.step
      | inr off ↦ cond-false _ _ _ off
    ]

abbrev row_with : (place : ℕ) → EntryKind → Entry → Bool → EntryRow
row_with place k e stands = record { place = place; kind = k; entry = e; stands = stands }

-- The table row (the column values) that encodes the meter entry `row`. The entries before it, in
-- `rows`, determine the scale factor in the row.
abbrev reported_after : Installed → List EntryRow → EntryRow → TableRow
reported_after meter rows row = table_row (scale_after meter (row ∷ rows)) row

passes : (meter : Installed) (rows : List EntryRow) (place : ℕ) (stands : Bool) (k : EntryKind) (e : Entry) → IsWellInstalled meter → AllFit meter rows
    → place ≡ length rows + 2 → is_ended rows ≡ false → MayCome meter (entries_in rows) stands k e
    → (stands ≡ false → last_stands rows ≡ true → EntryFits meter (entries_in rows) k e)
    → IsOk (passed meter (check_after meter rows) (reported_after meter rows (row_with place k e stands)))
passes meter rows place true kind.Reading (entry.Step at raw rolls) well fit at_place unended h was =
    let check : Check = check_after meter rows in
    let l : Last = last_after meter (entries_in rows) in
    let reported : TableRow = reported_after meter rows (row_with place kind.Reading (entry.Step at raw rolls) true) in
    let under = last_under meter (entries_in rows) well.raw (fitting_account meter rows well fit).follow in
    passes_standing meter check reported kind.Reading _ _
    (shape_is check reported kind.Reading (omega (arith, at_place)) refl unended refl refl (differs l.sf l.sf refl))
    refl (ap (fault_by rolls) h.accepted ∙ no_reading_fault rolls h.step)
    (accepted_is_entered meter.range (terms_of meter check) l (reading_at l at raw) rolls h.step under h.accepted)
passes meter rows place true kind.Manual (entry.Step at raw rolls) well fit at_place unended h was =
    let check : Check = check_after meter rows in
    let l : Last = last_after meter (entries_in rows) in
    let reported : TableRow = reported_after meter rows (row_with place kind.Manual (entry.Step at raw rolls) true) in
    passes_standing meter check reported kind.Manual h.next h.step
    (shape_is check reported kind.Manual (omega (arith, at_place)) refl unended refl refl (differs l.sf l.sf refl)) refl refl h.entered
passes meter rows place true kind.Closing (entry.Step at raw rolls) well fit at_place unended h was =
    let check : Check = check_after meter rows in
    let l : Last = last_after meter (entries_in rows) in
    let reported : TableRow = reported_after meter rows (row_with place kind.Closing (entry.Step at raw rolls) true) in
    passes_standing meter check reported kind.Closing h.next h.step
    (shape_is check reported kind.Closing (omega (arith, at_place)) refl unended refl refl (differs l.sf l.sf refl)) refl refl h.entered
passes meter rows place true kind.Reset (entry.Change at before new sf) well fit at_place unended h was =
    let check : Check = check_after meter rows in
    let l : Last = last_after meter (entries_in rows) in
    let reported : TableRow = reported_after meter rows (row_with place kind.Reset (entry.Change at before new sf) true) in
    passes_standing meter check reported kind.Reset h.0.next h.0.step
    (shape_is check reported kind.Reset (omega (arith, at_place)) refl unended refl refl (differs sf l.sf h.1)) refl refl h.0.entered
passes meter rows place true kind.Rescale (entry.Change at before new sf) well fit at_place unended h was =
    let check : Check = check_after meter rows in
    let reported : TableRow = reported_after meter rows (row_with place kind.Rescale (entry.Change at before new sf) true) in
    passes_standing meter check reported kind.Rescale h.next h.step
    (shape_is check reported kind.Rescale (omega (arith, at_place)) refl unended refl refl refl) refl refl h.entered
passes meter rows place true kind.Reading (entry.Change at before new sf) well fit at_place unended h was = absurd h
passes meter rows place true kind.Manual (entry.Change at before new sf) well fit at_place unended h was = absurd h
passes meter rows place true kind.Closing (entry.Change at before new sf) well fit at_place unended h was = absurd h
passes meter rows place true kind.Reset (entry.Step at raw rolls) well fit at_place unended h was = absurd h
passes meter rows place true kind.Rescale (entry.Step at raw rolls) well fit at_place unended h was = absurd h
passes meter rows place false kind.Reading (entry.Step at raw rolls) well fit at_place unended h was =
    let check : Check = check_after meter rows in
    let l : Last = last_after meter (entries_in rows) in
    let reported : TableRow = reported_after meter rows (row_with place kind.Reading (entry.Step at raw rolls) false) in
    passes_voided meter check reported kind.Reading
    (shape_is check reported kind.Reading (omega (arith, at_place)) refl unended refl refl (differs l.sf l.sf refl)) refl
    (no_voided_fault meter check reported h) (no_stood_fault meter rows reported (λ on. was refl on))
passes meter rows place false kind.Reading (entry.Change at before new sf) well fit at_place unended h was = absurd h
passes meter rows place false kind.Manual e well fit at_place unended h was = absurd h
passes meter rows place false kind.Closing e well fit at_place unended h was = absurd h
passes meter rows place false kind.Reset e well fit at_place unended h was = absurd h
passes meter rows place false kind.Rescale e well fit at_place unended h was = absurd h

pub fitting_rows_pass : FittingRowsPass
fitting_rows_pass meter rows check row well taken fits =
    subst (λ (c : Check). IsOk (passed meter c (reported_after meter rows row))) (sym taken.check_is)
    (passes meter rows row.place row.stands row.kind row.entry well taken.fit fits.place fits.unended fits.entry
    fits.voided_after)
