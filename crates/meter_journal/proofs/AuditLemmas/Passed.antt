-- Lemmas: if a table row passes the check of a meter's tables, then it encodes an entry row that
-- the rules for meter entries accept.
use Rattle.std.proofs.Common.{◌≡◌, ◌≢◌, ℕ, ℤ, ◌+◌, ◌<◌, ◌≤◌, ◌==◌, nat_lt, nat_le, Bool, true, false, not, ◌&&◌, if◌then◌else◌, List, ◌∷◌, length, Option, Some, None, Result, Ok, Err, refl, sym, ap, subst, ◌∙◌, inl, inr, arith}
use Rattle.std.specs.Ordering.{int_eq}
use Rattle.std.proofs.lemmas.Bool.{cases_Bool, cond-true, cond-false, eqb-true}
use Rattle.std.proofs.lemmas.Bool.Decides.{nat_tests, Decides-int_eq}
use Rattle.std.proofs.lemmas.Option.{same_Some}
use Rattle.energy_core.specs.declared.entries.Last.{Last}
use Rattle.energy_core.specs.declared.entries.Step.{Step}
use Rattle.energy_core.specs.declared.entries.Entry.{Entry}
use Rattle.energy_core.specs.declared.admission.TermFault.{TermFault}
use Rattle.energy_core.specs.declared.verdicts.Verdict.{Verdict}
use Rattle.energy_core.specs.declared.verdicts.Verdict.TheVariants as verdict
use Rattle.energy_core.specs.Account.{after, energy_of, AllFollow}
use Rattle.energy_core.specs.Admission.{entered}
use Rattle.energy_core.proofs.Bookings.{booked_where_entered}
use Rattle.meter_journal.specs.declared.lines.Installed.{Installed}
use Rattle.meter_journal.specs.declared.lines.EntryKind.{EntryKind}
use Rattle.meter_journal.specs.declared.lines.EntryKind.TheVariants as kind
use Rattle.meter_journal.specs.declared.lines.EntryRow.{EntryRow}
use Rattle.meter_journal.specs.Books.{IsWellInstalled, last_after, total_after}
use Rattle.meter_journal.specs.Fitting.{EntryFits}
use Rattle.meter_journal.specs.Journal.{is_reading, is_closing, entries_in}
use Rattle.meter_journal.proofs.Keeping.{entries_standing, entries_struck}
use Rattle.meter_journal.proofs.Voiding.{whole_with}
use Rattle.meter_journal.specs.declared.audit.checks.Check.{Check}
use Rattle.meter_journal.specs.declared.audit.faults.RowFault.{RowFault}
use Rattle.meter_journal.specs.declared.audit.rows.RowKind.{RowKind}
use Rattle.meter_journal.specs.declared.audit.rows.RowKind.TheVariants as row_kind
use Rattle.meter_journal.specs.declared.audit.rows.TableRow.{TableRow}
use Rattle.meter_journal.specs.Audit.Rows.{kind_as, scale_after, table_row}
use Rattle.meter_journal.specs.Audit.Fitting.{is_ended, WasReading, VoidedFits, MayCome, RowFits, AllFit}
use Rattle.meter_journal.specs.Audit.Passing.{kind_in, entry_in, has_unused, is_off_scale, shape_by, shape_of, fault_by, reading_fault, stood_fault, voided_fault, unless, following, stood, voided, passed_by, passed}
use Rattle.meter_journal.specs.Audit.Laws.{check_after, IsTaken, PassedRowsFit}
use Rattle.meter_journal.proofs.AuditLemmas.Alone.{fitting_account}

not_refused : {X : Type 0} (b : Bool) (f : RowFault) (r : Result X RowFault) (x : X) → (if b then Err f else r) ≡ Ok x
    → (b ≡ false) × (r ≡ Ok x)
not_refused true f r x h = absurd (cc)
not_refused false f r x h = (refl, h)

as_wanted : {X : Type 0} (b : Bool) (f : RowFault) (r : Result X RowFault) (x : X) → (if b then r else Err f) ≡ Ok x
    → (b ≡ true) × (r ≡ Ok x)
as_wanted true f r x h = (refl, h)
as_wanted false f r x h = absurd (cc)

no_fault : {X : Type 0} (o : Option RowFault) (r : Result X RowFault) (x : X) → unless o r ≡ Ok x → (o ≡ None) × (r ≡ Ok x)
no_fault None r x h = (refl, h)
no_fault (Some f) r x h = absurd (cc)

none_reported : (b : Bool) (f : RowFault) (o : Option RowFault) → (if b then Some f else o) ≡ None → (b ≡ false) × (o ≡ None)
none_reported true f o h = absurd (cc)
none_reported false f o h = (refl, h)

same_Ok : {X E : Type 0} (x y : X) → (let r : Result X E = Ok x in r) ≡ Ok y → x ≡ y
same_Ok x y h = cc

record IsShaped (check : Check) (row : TableRow) (k : EntryKind) : Type 0 where
  place : row.place ≡ check.place + 1
  kind_is : row.kind ≡ kind_as k
  unended : check.is_ended ≡ false
  voidable : row.is_voided && not (is_reading k) ≡ false
  used : has_unused k row ≡ false
  scale : is_off_scale check k row ≡ false

kind_back : (row : RowKind) (k : EntryKind) → kind_in row ≡ Some k → row ≡ kind_as k
kind_back row_kind.Opening k h = absurd (cc)
kind_back row_kind.Reading k h = ap kind_as (same_Some kind.Reading k h)
kind_back row_kind.Manual k h = ap kind_as (same_Some kind.Manual k h)
kind_back row_kind.Closing k h = ap kind_as (same_Some kind.Closing k h)
kind_back row_kind.Reset k h = ap kind_as (same_Some kind.Reset k h)
kind_back row_kind.Rescale k h = ap kind_as (same_Some kind.Rescale k h)

shaped_by : (check : Check) (row : TableRow) (k : EntryKind) (o : Option EntryKind) → kind_in row.kind ≡ o
    → row.place ≡ check.place + 1 → shape_by check row o ≡ Ok k → IsShaped check row k
shaped_by check row k None is place h = absurd (cc)
shaped_by check row k (Some found) is place h =
    let one = not_refused check.is_ended _ _ k h in
    let two = not_refused (row.is_voided && not (is_reading found)) _ _ k one.1 in
    let three = not_refused (has_unused found row) _ _ k two.1 in
    let four = not_refused (is_off_scale check found row) _ _ k three.1 in
    let same : found ≡ k = same_Ok found k four.1 in
    subst (IsShaped check row) same (record {
      place = place;
      kind_is = kind_back row.kind found is;
      unended = one.0;
      voidable = two.0;
      used = three.0;
      scale = four.0;
    })

shaped : (check : Check) (row : TableRow) (k : EntryKind) → shape_of check row ≡ Ok k → IsShaped check row k
shaped check row k h =
    let placed = as_wanted (row.place == check.place + 1) _ _ k h in
    shaped_by check row k (kind_in row.kind) refl (eqb-true row.place (check.place + 1) placed.0) placed.1

abbrev reported_with : (place : ℕ) → RowKind → (moment raw rolls after : ℕ) → ℤ → Bool → TableRow
reported_with place k moment raw rolls after sf v = record {
  place = place;
  kind = k;
  moment = moment;
  raw = raw;
  rolls = rolls;
  after = after;
  sf = sf;
  is_voided = v;
}

same_reported : (place moment raw : ℕ) (k k' : RowKind) (rolls rolls' after after' : ℕ) (sf sf' : ℤ) (v v' : Bool)
    → k ≡ k' → rolls ≡ rolls' → after ≡ after' → sf ≡ sf' → v ≡ v'
    → reported_with place k moment raw rolls after sf v ≡ reported_with place k' moment raw rolls' after' sf' v'
same_reported place moment raw k k' rolls rolls' after after' sf sf' v v' hk hr ha hs hv =
    ap (λ x. reported_with place x moment raw rolls after sf v) hk ∙ ap (λ x. reported_with place k' moment raw x after sf v) hr
    ∙ ap (λ x. reported_with place k' moment raw rolls' x sf v) ha ∙ ap (λ x. reported_with place k' moment raw rolls' after' x v) hs
    ∙ ap (λ x. reported_with place k' moment raw rolls' after' sf' x) hv

not_not : (b : Bool) → b ≡ not (not b)
not_not true = refl
not_not false = refl

unused : (n : ℕ) → not (n == 0) ≡ false → n ≡ 0
unused n h = grind (arith, nat_tests)

-- The entry row of a meter that a row of the entry table encodes, if the table row has the kind
-- `k`.
abbrev row_in : EntryKind → TableRow → EntryRow
row_in k reported = record { place = reported.place; kind = k; entry = entry_in k reported; stands = not reported.is_voided }

reported_by : (k : EntryKind) (reported : TableRow) (sf : ℤ) → reported.kind ≡ kind_as k → has_unused k reported ≡ false → reported.sf ≡ sf
    → reported ≡ table_row sf (row_in k reported)
reported_by kind.Reading reported sf hk used hs = same_reported reported.place reported.moment reported.raw reported.kind row_kind.Reading reported.rolls reported.rolls reported.after 0 reported.sf sf reported.is_voided (not (not reported.is_voided)) hk refl (unused reported.after used) hs (not_not reported.is_voided)
reported_by kind.Manual reported sf hk used hs = same_reported reported.place reported.moment reported.raw reported.kind row_kind.Manual reported.rolls reported.rolls reported.after 0 reported.sf sf reported.is_voided (not (not reported.is_voided)) hk refl (unused reported.after used) hs (not_not reported.is_voided)
reported_by kind.Closing reported sf hk used hs = same_reported reported.place reported.moment reported.raw reported.kind row_kind.Closing reported.rolls reported.rolls reported.after 0 reported.sf sf reported.is_voided (not (not reported.is_voided)) hk refl (unused reported.after used) hs (not_not reported.is_voided)
reported_by kind.Reset reported sf hk used hs = same_reported reported.place reported.moment reported.raw reported.kind row_kind.Reset reported.rolls 0 reported.after reported.after reported.sf sf reported.is_voided (not (not reported.is_voided)) hk (unused reported.rolls used) refl hs (not_not reported.is_voided)
reported_by kind.Rescale reported sf hk used hs = same_reported reported.place reported.moment reported.raw reported.kind row_kind.Rescale reported.rolls 0 reported.after reported.after reported.sf sf reported.is_voided (not (not reported.is_voided)) hk (unused reported.rolls used) refl hs (not_not reported.is_voided)

same_scale : (a b : ℤ) → not (int_eq a b) ≡ false → a ≡ b
same_scale a b h = (Decides-int_eq a b).0 (grind arith)

-- If a table row passes the check of a meter's tables, its scale factor column is the counter's
-- scale factor after the row's entry.
scale_following : (k : EntryKind) (reported : TableRow) (check : Check) → is_off_scale check k reported ≡ false
    → reported.sf ≡ (after check.last (entry_in k reported)).sf
scale_following kind.Reading reported check h = same_scale reported.sf check.last.sf h
scale_following kind.Manual reported check h = same_scale reported.sf check.last.sf h
scale_following kind.Closing reported check h = same_scale reported.sf check.last.sf h
scale_following kind.Reset reported check h = refl
scale_following kind.Rescale reported check h = refl

read_kind : (P : EntryKind → Type 0) → P kind.Reading → (k : EntryKind) → is_reading k ≡ true → P k
read_kind P h kind.Reading is = h
read_kind P h kind.Manual is = absurd (cc)
read_kind P h kind.Closing is = absurd (cc)
read_kind P h kind.Reset is = absurd (cc)
read_kind P h kind.Rescale is = absurd (cc)

-- If a voided (cancelled) row passes the check of a meter's tables, then it is a reading.
voided_read : (v : Bool) (k : EntryKind) → v ≡ true → v && not (is_reading k) ≡ false → is_reading k ≡ true
voided_read true k is h = not_not (is_reading k) ∙ ap not h
voided_read false k is h = absurd (cc)

not_zero : (n : ℕ) → (n == 0) ≡ false → n ≢ 0
not_zero n h = grind (arith, nat_tests)

above : (a b : ℕ) → nat_le a b ≡ false → b < a
above a b h = grind (arith, nat_tests)

at_most : (a b : ℕ) → nat_lt a b ≡ false → b ≤ a
at_most a b h = grind (arith, nat_tests)

was_reading : (meter : Installed) (check : Check) (reported : TableRow) → voided_fault meter check reported ≡ None
    → WasReading meter.range check.last reported.moment reported.raw reported.rolls
was_reading meter check reported h =
    let one = none_reported (reported.raw == 0) _ _ h in
    let two = none_reported (nat_le meter.range reported.raw) _ _ one.1 in
    let three = none_reported (nat_le reported.moment check.last.at) _ _ two.1 in
    let four = none_reported (nat_lt 1 reported.rolls) _ _ three.1 in
    record {
      accumulated = not_zero reported.raw one.0;
      below = above meter.range reported.raw two.0;
      later = above reported.moment check.last.at three.0;
      once = at_most 1 reported.rolls four.0;
    }

accepted_by : (rolls : ℕ) (v : Verdict) → fault_by rolls v ≡ None → (step : ℕ) × (v ≡ verdict.Accepted rolls step)
accepted_by rolls (verdict.Held why) h = absurd (cc)
accepted_by rolls (verdict.Accepted wanted step) h =
    elim (cases_Bool (rolls == wanted)) [
      | inl same ↦ (step, ap (λ n. verdict.Accepted n step) (sym (eqb-true rolls wanted same)))
      | inr other ↦ absurd (let f : Some _ ≡ None = sym (cond-false _ _ _ other) ∙ h in cc)
    ]

-- States that the rules for meter entries accepted the entry of a table row. `next` is the state of
-- the check of the meter's tables after the entry. `step` is the step (the energy) from the last
-- valid (not voided) entry to it.
record IsAfter (check : Check) (k : EntryKind) (reported : TableRow) (answer : Result (Last × Step) TermFault) (next : Check) (step : Option Step) : Type 0 where
  last : Last
  gone : Step
  answered : answer ≡ Ok (last, gone)
  next_is : next
      ≡ record { place = reported.place; last = last; total = check.total + gone.mwh; is_ended = is_closing k; stands = true }
  step_is : step ≡ Some gone

booked_after : (check : Check) (k : EntryKind) (reported : TableRow) (answer : Result (Last × Step) TermFault) (next : Check) (step : Option Step)
    → following check k reported answer ≡ Ok (next, step) → IsAfter check k reported answer next step
booked_after check k reported (Err f) next step h = absurd (cc)
booked_after check k reported (Ok (last, gone)) next step h =
    let made : Check = record {
      place = reported.place;
      last = last;
      total = check.total + gone.mwh;
      is_ended = is_closing k;
      stands = true;
    } in
    let pair : (let p : Check × Option Step = (made, Some gone) in p) ≡ (next, step) = same_Ok _ _ h in
    record {
      last = last;
      gone = gone;
      answered = refl;
      next_is = sym (ap (λ (p : Check × Option Step). p.0) pair);
      step_is = sym (ap (λ (p : Check × Option Step). p.1) pair);
    }

-- If a table row is not voided (cancelled) and has no fault, then it encodes an entry that the
-- rules for meter entries accept.
stood_fits : (meter : Installed) (rows : List EntryRow) (reported : TableRow) (k : EntryKind) (next : Last) (step : Step)
    → let check = check_after meter rows in
    is_off_scale check k reported ≡ false → reading_fault meter check k reported ≡ None
    → entered meter.range check.total check.last (entry_in k reported) ≡ Ok (next, step)
    → EntryFits meter (entries_in rows) k (entry_in k reported)
stood_fits meter rows reported kind.Reading next step scale none booked =
    let v = accepted_by reported.rolls _ none in record { step = v.0; accepted = v.1 }
stood_fits meter rows reported kind.Manual next step scale none booked = record { next = next; step = step; entered = booked }
stood_fits meter rows reported kind.Closing next step scale none booked = record { next = next; step = step; entered = booked }
stood_fits meter rows reported kind.Reset next step scale none booked =
    (record { next = next; step = step; entered = booked }, same_scale reported.sf (last_after meter (entries_in rows)).sf scale)
stood_fits meter rows reported kind.Rescale next step scale none booked = record { next = next; step = step; entered = booked }

-- If the check of a meter's tables finds no fault in a reading, the rules for meter entries would
-- accept the reading after the rows before it.
was_accepted : (meter : Installed) (rows : List EntryRow) (reported : TableRow) (k : EntryKind) → is_reading k ≡ true
    → reading_fault meter (check_after meter rows) k reported ≡ None → EntryFits meter (entries_in rows) k (entry_in k reported)
was_accepted meter rows reported kind.Reading is none =
    let v = accepted_by reported.rolls _ none in record { step = v.0; accepted = v.1 }
was_accepted meter rows reported kind.Manual is none = absurd (cc)
was_accepted meter rows reported kind.Closing is none = absurd (cc)
was_accepted meter rows reported kind.Reset is none = absurd (cc)
was_accepted meter rows reported kind.Rescale is none = absurd (cc)

abbrev check_with : (place : ℕ) → Last → (total : ℕ) → (ended stands : Bool) → Check
check_with place last total ended stands =
    record { place = place; last = last; total = total; is_ended = ended; stands = stands }

same_check : (place place' : ℕ) (last last' : Last) (total total' : ℕ) (ended ended' stands stands' : Bool)
    → place ≡ place' → last ≡ last' → total ≡ total' → ended ≡ ended' → stands ≡ stands'
    → check_with place last total ended stands ≡ check_with place' last' total' ended' stands'
same_check place place' last last' total total' ended ended' stands stands' hp hl ht he hs =
    ap (λ x. check_with x last total ended stands) hp ∙ ap (λ x. check_with place' x total ended stands) hl
    ∙ ap (λ x. check_with place' last' x ended stands) ht ∙ ap (λ x. check_with place' last' total' x stands) he
    ∙ ap (λ x. check_with place' last' total' ended' x) hs

ended_by : (b c : Bool) → c ≡ false → b ≡ (if b then true else c)
ended_by true c h = refl
ended_by false c h = sym h

stood_taken : (meter : Installed) (rows : List EntryRow) (reported : TableRow) (k : EntryKind) (next : Check) (step : Option Step)
    → IsWellInstalled meter → AllFit meter rows → IsShaped (check_after meter rows) reported k → reported.is_voided ≡ false
    → stood meter (check_after meter rows) k reported ≡ Ok (next, step) → IsTaken meter rows reported next step
stood_taken meter rows reported k next step well fit shape stands h =
    let check : Check = check_after meter rows in
    let es : List Entry = entries_in rows in
    let e : Entry = entry_in k reported in
    let row : EntryRow = row_in k reported in
    let free = no_fault (reading_fault meter check k reported) _ (next, step) h in
    let gone = booked_after check k reported _ next step free.1 in
    let fits : EntryFits meter es k e = stood_fits meter rows reported k gone.last gone.gone shape.scale free.0 gone.answered in
    let on : row.stands ≡ true = ap not stands in
    let row_fits : RowFits meter rows row = record {
      place = omega (arith, shape.place);
      unended = shape.unended;
      entry = subst (λ b. MayCome meter es b k e) (sym on) fits;
      voided_after = λ off. absurd (let f : true ≡ false = sym on ∙ off in cc);
    } in
    let all : AllFit meter (row ∷ rows) = (row_fits, fit) in
    let is : entries_in (row ∷ rows) ≡ e ∷ es = entries_standing row rows on in
    let booked = booked_where_entered meter.range check.total check.last e gone.last gone.gone gone.answered in
    let follow : AllFollow meter.range meter.opening (e ∷ es) =
    subst (AllFollow meter.range meter.opening) is (fitting_account meter (row ∷ rows) well all).follow in
    let last : gone.last ≡ last_after meter (entries_in (row ∷ rows)) = booked.next_is ∙ sym (ap (last_after meter) is) in
    let mwh : gone.gone.mwh ≡ energy_of meter.range check.last e = ap (λ (s : Step). s.mwh) booked.step_is in
    let total : check.total + gone.gone.mwh ≡ total_after meter (entries_in (row ∷ rows)) =
    omega (arith, mwh, whole_with meter e es follow, ap (total_after meter) is) in
    record {
      row = row;
      reported_is = reported_by k reported (scale_after meter (row ∷ rows)) shape.kind_is shape.used
          (scale_following k reported check shape.scale ∙ sym (ap (λ (xs : List Entry). (last_after meter xs).sf) is));
      taken = record {
        fit = all;
        check_is = gone.next_is
            ∙ same_check reported.place (length (row ∷ rows) + 1) gone.last _ (check.total + gone.gone.mwh) _ (is_closing k) _ true _
            (omega (arith, shape.place)) last total (ended_by (is_closing k) (is_ended rows) shape.unended) (sym on);
      };
      step_is = gone.step_is ∙ ap Some booked.step_is ∙ sym (cond-true _ _ _ on);
    }

voided_taken : (meter : Installed) (rows : List EntryRow) (reported : TableRow) (k : EntryKind) (next : Check) (step : Option Step)
    → AllFit meter rows → IsShaped (check_after meter rows) reported k → reported.is_voided ≡ true
    → voided meter (check_after meter rows) k reported ≡ Ok (next, step) → IsTaken meter rows reported next step
voided_taken meter rows reported k next step fit shape v h =
    let check : Check = check_after meter rows in
    let es : List Entry = entries_in rows in
    let e : Entry = entry_in k reported in
    let row : EntryRow = row_in k reported in
    let free = no_fault (voided_fault meter check reported) _ (next, step) h in
    let stood = no_fault (stood_fault meter check k reported) _ (next, step) free.1 in
    let pair : (let p : Check × Option Step = (check_with reported.place check.last check.total check.is_ended false, None) in p) ≡ (next, step) =
    same_Ok _ _ stood.1 in
    let read : is_reading k ≡ true = voided_read reported.is_voided k v shape.voidable in
    let was : VoidedFits meter.range check.last k e =
    read_kind (λ k. VoidedFits meter.range check.last k (entry_in k reported)) (was_reading meter check reported free.0) k read in
    let off : row.stands ≡ false = ap not v in
    let row_fits : RowFits meter rows row = record {
      place = omega (arith, shape.place);
      unended = shape.unended;
      entry = subst (λ b. MayCome meter es b k e) (sym off) was;
      voided_after = λ _ on. was_accepted meter rows reported k read (sym (cond-true _ _ _ on) ∙ stood.0);
    } in
    let is : entries_in (row ∷ rows) ≡ es = entries_struck row rows off in
    let more : is_closing k ≡ false = read_kind (λ k. is_closing k ≡ false) refl k read in
    let scale : reported.sf ≡ check.last.sf =
    read_kind (λ k. is_off_scale check k reported ≡ false → reported.sf ≡ check.last.sf) (λ s. same_scale reported.sf check.last.sf s) k read shape.scale in
    record {
      row = row;
      reported_is = reported_by k reported (scale_after meter (row ∷ rows)) shape.kind_is shape.used
          (scale ∙ sym (ap (λ (xs : List Entry). (last_after meter xs).sf) is));
      taken = record {
        fit = (row_fits, fit);
        check_is = sym (ap (λ (p : Check × Option Step). p.0) pair)
            ∙ same_check reported.place (length (row ∷ rows) + 1) check.last _ check.total _ check.is_ended _ false _
            (omega (arith, shape.place)) (sym (ap (last_after meter) is)) (sym (ap (total_after meter) is))
            (sym (cond-false _ _ _ more)) (sym off);
      };
      step_is = sym (ap (λ (p : Check × Option Step). p.1) pair) ∙ sym (cond-false _ _ _ off);
    }

passed_taken : (meter : Installed) (rows : List EntryRow) (reported : TableRow) (next : Check) (step : Option Step) (shape : Result EntryKind RowFault)
    → IsWellInstalled meter → AllFit meter rows → shape_of (check_after meter rows) reported ≡ shape
    → passed_by meter (check_after meter rows) reported shape ≡ Ok (next, step) → IsTaken meter rows reported next step
passed_taken meter rows reported next step (Err f) well fit is h = absurd (cc)
passed_taken meter rows reported next step (Ok k) well fit is h =
    let shape = shaped (check_after meter rows) reported k is in
    elim (cases_Bool reported.is_voided) [
      | inl v ↦ voided_taken meter rows reported k next step fit shape v (sym (cond-true _ _ _ v) ∙ h)
      | inr stands ↦ stood_taken meter rows reported k next step well fit shape stands (sym (cond-false _ _ _ stands) ∙ h)
    ]

pub passed_rows_fit : PassedRowsFit
passed_rows_fit meter rows check reported next step well taken h =
    passed_taken meter rows reported next step (shape_of (check_after meter rows) reported) well taken.fit refl
    (subst (λ (c : Check). passed meter c reported ≡ Ok (next, step)) taken.check_is h)
