-- Lemmas: the invariant of the check of a meter's tables still holds after the check passes one
-- more table row, or removes interval rows that it has compared.
use Rattle.std.proofs.Common.{◌≡◌, ℕ, zero, suc, take, drop, length, ◌+◌, ◌≤◌, ◌==◌, true, false, if◌then◌else◌, List, [], ◌∷◌, ◌++◌, Option, Some, None, Result, Ok, refl, sym, ap, subst, ◌∙◌, inl, inr, arith, append_assoc, append-nil, length-drop}
use Rattle.std.proofs.lemmas.Bool.{cases_Bool, cond-true, cond-false}
use Rattle.std.proofs.lemmas.List.{take-append-drop}
use Rattle.std.proofs.lemmas.List.Sums.{sum_by-cons}
use Rattle.std.proofs.lemmas.Option.{same_Some}
use Rattle.energy_core.specs.declared.entries.Last.{Last}
use Rattle.energy_core.specs.declared.entries.Step.{Step}
use Rattle.energy_core.specs.declared.entries.Entry.{Entry}
use Rattle.energy_core.specs.Account.{step_to}
use Rattle.energy_core.specs.Laws.{IsShareable}
use Rattle.interval_core.specs.declared.shares.Share.{Share}
use Rattle.interval_core.specs.Share.{shares_of}
use Rattle.interval_core.specs.Account.{SharesAddUp, energy_of}
use Rattle.meter_journal.specs.declared.lines.Installed.{Installed}
use Rattle.meter_journal.specs.declared.lines.EntryRow.{EntryRow}
use Rattle.meter_journal.specs.Books.{IsWellInstalled, last_after, steps_after}
use Rattle.meter_journal.specs.Intervals.{with_shares, rows_of_steps}
use Rattle.meter_journal.specs.Journal.{entries_in}
use Rattle.meter_journal.proofs.Joining.{merged_sum}
use Rattle.meter_journal.proofs.Keeping.{entries_standing, entries_struck}
use Rattle.meter_journal.specs.declared.audit.checks.Check.{Check}
use Rattle.meter_journal.specs.declared.audit.faults.RowFault.{RowFault}
use Rattle.meter_journal.specs.declared.audit.progress.Progress.{Progress}
use Rattle.meter_journal.specs.declared.audit.rows.TableRow.{TableRow}
use Rattle.meter_journal.specs.Audit.Rows.{scale_after, table_row}
use Rattle.meter_journal.specs.Audit.Passing.{IsSoundCheck, passed}
use Rattle.meter_journal.specs.Audit.Laws.{PassedRowsFit, HasTaken, IsTaken}
use Rattle.meter_journal.specs.Audit.Going.{HasGone, IsSoundProgress, settled_in, DropsDone}

-- Merging quarter-hour energies (shares) into a list of interval rows leaves all rows except the
-- last unchanged.
pub joins_last : (done : List Share) (row : Share) (rows shares : List Share)
    → with_shares (done ++ row ∷ rows) shares ≡ done ++ with_shares (row ∷ rows) shares
joins_last [] row rows shares = refl
joins_last (first ∷ []) row rows shares = refl
joins_last (first ∷ second ∷ done) row rows shares = ap (λ rs. first ∷ rs) (joins_last (second ∷ done) row rows shares)

joins : (done rows shares : List Share) → (rows ≡ [] → done ≡ []) → with_shares (done ++ rows) shares ≡ done ++ with_shares rows shares
joins done [] shares begun =
    let none : done ≡ [] = begun refl in
    subst (λ (ds : List Share). with_shares (ds ++ []) shares ≡ ds ++ with_shares [] shares) (sym none) refl
joins done (row ∷ rows) shares begun = joins_last done row rows shares

joined_some : (row share : Share) (shares : List Share) → with_shares (row ∷ []) (share ∷ shares) ≡ [] → ⊥
joined_some row share shares h =
    elim (cases_Bool (row.start == share.start)) [
      | inl same ↦ let e = sym (cond-true _ _ _ same) ∙ h in absurd (cc)
      | inr other ↦ let e = sym (cond-false _ _ _ other) ∙ h in absurd (cc)
    ]

-- If merging quarter-hour energies (shares) into a list of interval rows results in an empty list,
-- then the list was empty before.
still_some : (rows shares : List Share) → with_shares rows shares ≡ [] → rows ≡ []
still_some [] shares h = refl
still_some (row ∷ []) [] h = absurd (cc)
still_some (row ∷ []) (share ∷ shares) h = absurd (joined_some row share shares h)
still_some (row ∷ next ∷ rows) shares h = absurd (cc)

step_of : (range : ℕ) (last : Last) (row : EntryRow) (step : Step)
    → Some step ≡ (if row.stands then Some (step_to range last row.entry) else None) → (row.stands ≡ true) × (step ≡ step_to range last row.entry)
step_of range last row step h =
    elim (cases_Bool row.stands) [
      | inl on ↦ (on, same_Some _ _ (h ∙ cond-true _ _ _ on))
      | inr off ↦ absurd (let f : Some step ≡ None = h ∙ cond-false _ _ _ off in cc)
    ]

struck_of : (range : ℕ) (last : Last) (row : EntryRow)
    → None ≡ (if row.stands then Some (step_to range last row.entry) else None) → row.stands ≡ false
struck_of range last row h =
    elim (cases_Bool row.stands) [
      | inl on ↦ absurd (let f : None ≡ Some (step_to range last row.entry) = h ∙ cond-true _ _ _ on in cc)
      | inr off ↦ off
    ]

pub goes_standing : PassedRowsFit → (meter : Installed) (old new : Progress) (reported : TableRow) (next : Check) (step : Step) → IsWellInstalled meter
    → passed meter old.check reported ≡ Ok (next, Some step) → new.check ≡ next
    → new.wanted.items ≡ with_shares old.wanted.items (shares_of step)
    → (before : List TableRow) (done : List Share) → HasGone meter before done old → HasGone meter (reported ∷ before) done new
goes_standing law meter old new reported next step well passes check_is wanted_is before done gone =
    let t : IsTaken meter gone.rows reported next (Some step) = law meter gone.rows old.check reported next (Some step) well gone.taken passes in
    let es : List Entry = entries_in gone.rows in
    let s = step_of meter.range (last_after meter es) t.row step t.step_is in
    let is : entries_in (t.row ∷ gone.rows) ≡ t.row.entry ∷ es = entries_standing t.row gone.rows s.0 in
    record {
      rows = t.row ∷ gone.rows;
      taken = subst (λ (c : Check). HasTaken meter (t.row ∷ gone.rows) c) (sym check_is) t.taken;
      reported_is = ap (λ (x : TableRow). x ∷ before) t.reported_is
          ∙ ap (λ (ts : List TableRow). table_row (scale_after meter (t.row ∷ gone.rows)) t.row ∷ ts) gone.reported_is;
      intervals = ap (λ (rs : List Share). done ++ rs) wanted_is
          ∙ sym (joins done old.wanted.items (shares_of step) gone.begun)
          ∙ ap (λ (rs : List Share). with_shares rs (shares_of step)) gone.intervals
          ∙ ap (λ (x : Step). with_shares (rows_of_steps (steps_after meter es)) (shares_of x)) s.1
          ∙ ap (λ (xs : List Entry). rows_of_steps (steps_after meter xs)) (sym is);
      begun = λ none. gone.begun (still_some old.wanted.items (shares_of step) (sym wanted_is ∙ none));
    }

pub goes_voided : PassedRowsFit → (meter : Installed) (old new : Progress) (reported : TableRow) (next : Check) → IsWellInstalled meter
    → passed meter old.check reported ≡ Ok (next, None) → new.check ≡ next → new.wanted.items ≡ old.wanted.items
    → (before : List TableRow) (done : List Share) → HasGone meter before done old → HasGone meter (reported ∷ before) done new
goes_voided law meter old new reported next well passes check_is wanted_is before done gone =
    let t : IsTaken meter gone.rows reported next None = law meter gone.rows old.check reported next None well gone.taken passes in
    let es : List Entry = entries_in gone.rows in
    let off = struck_of meter.range (last_after meter es) t.row t.step_is in
    let is : entries_in (t.row ∷ gone.rows) ≡ es = entries_struck t.row gone.rows off in
    record {
      rows = t.row ∷ gone.rows;
      taken = subst (λ (c : Check). HasTaken meter (t.row ∷ gone.rows) c) (sym check_is) t.taken;
      reported_is = ap (λ (x : TableRow). x ∷ before) t.reported_is
          ∙ ap (λ (ts : List TableRow). table_row (scale_after meter (t.row ∷ gone.rows)) t.row ∷ ts) gone.reported_is;
      intervals = ap (λ (rs : List Share). done ++ rs) wanted_is ∙ gone.intervals
          ∙ ap (λ (xs : List Entry). rows_of_steps (steps_after meter xs)) (sym is);
      begun = λ none. gone.begun (sym wanted_is ∙ none);
    }

pub within_more : SharesAddUp → (old new : List Share) (step : Step) (total next : ℕ) → IsShareable step → energy_of old ≤ total
    → next ≡ total + step.mwh → new ≡ with_shares old (shares_of step) → energy_of new ≤ next
within_more law old new step total next shareable le next_is new_is =
    omega (arith, le, next_is, ap energy_of new_is, merged_sum old (shares_of step), (law step shareable.later).whole)

pub passed_as : (r : Result (Check × Option Step) RowFault) (next : Check) (step step' : Option Step)
    → (let q : Result (Check × Option Step) RowFault = Ok (next, step) in q) ≡ r → step ≡ step' → r ≡ Ok (next, step')
passed_as r next step step' h is =
    sym h ∙ ap (λ (o : Option Step). let q : Result (Check × Option Step) RowFault = Ok (next, o) in q) is

-- The interval rows (energies of quarter hours) that remain after the first `n` rows are removed
-- have at most the energy of all rows.
less_left : (n : ℕ) (rows : List Share) → energy_of (drop n rows) ≤ energy_of rows
less_left zero rows = omega (arith)
less_left (suc n) [] = omega (arith)
less_left (suc n) (row ∷ rows) =
    let whole : energy_of (row ∷ rows) ≡ row.mwh + energy_of rows = sum_by-cons (λ (share : Share). share.mwh) row rows in
    let left : energy_of (drop (suc n) (row ∷ rows)) ≡ energy_of (drop n rows) = refl in
    omega (arith, whole, left, less_left n rows)

-- If rows are removed from the front of the pending interval rows (those still to be compared), the
-- invariant of the check of a meter's tables still holds.
pub left_is_sound : (n : ℕ) (meter : Installed) (old new : Progress) → new.check ≡ old.check → new.wanted.items ≡ drop n old.wanted.items
    → IsSoundProgress meter old → IsSoundProgress meter new
left_is_sound n meter old new same left sound = record {
  check = subst (λ (check : Check). IsSoundCheck meter check) (sym same) sound.check;
  within = omega (arith, sound.within, less_left n old.wanted.items, ap energy_of left, ap (λ (check : Check). check.total) same);
}

-- If removing all interval rows (energies by quarter hour) except the last leaves no row, then the
-- list was empty before.
none_left : (rows : List Share) → drop (settled_in rows) rows ≡ [] → rows ≡ []
none_left [] h = refl
none_left (row ∷ rows) h =
    absurd (omega (
      arith,
      length-drop (settled_in (row ∷ rows)) (row ∷ rows),
      ap (λ (rs : List Share). length rs) h,
    ))

-- The function `drop_done` moves interval rows (energies by quarter hour) from the pending rows
-- (still to be compared) to the compared rows. It moves the rows that no later entry can change.
pub drops_done : (old new : Progress) → new.check ≡ old.check
    → new.wanted.items ≡ drop (settled_in old.wanted.items) old.wanted.items → DropsDone old new
drops_done old new same left meter reported done gone =
    let rows : List Share = old.wanted.items in
    let n : ℕ = settled_in rows in
    record {
      rows = gone.rows;
      taken = subst (λ (check : Check). HasTaken meter gone.rows check) (sym same) gone.taken;
      reported_is = gone.reported_is;
      intervals = ap (λ (rs : List Share). (done ++ take n rows) ++ rs) left
          ∙ append_assoc done (take n rows) (drop n rows)
          ∙ ap (λ (rs : List Share). done ++ rs) (take-append-drop n rows)
          ∙ gone.intervals;
      begun = λ none.
          let empty : rows ≡ [] = none_left rows (sym left ∙ none) in
          ap (λ (rs : List Share). done ++ take (settled_in rs) rs) empty
          ∙ append-nil done ∙ gone.begun empty;
    }
