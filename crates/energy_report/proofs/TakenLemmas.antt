-- Lemmas: after each day that a report received, it has written all rows except the pending one
-- (not written yet), or a beginning of them if a write failed.
use Rattle.std.proofs.Common.{◌≡◌, ℕ, ◌+◌, ◌-◌, ◌<◌, ◌≤◌, ◌^◌, ◌==◌, Bool, true, false, cond, Option, Some, None, List, [], ◌∷◌, ◌++◌, length, refl, sym, ◌∙◌, ap, subst, append-nil, append_assoc, length-append, arith}
use Rattle.std.specs.Prelude.{min}
use Rattle.std.specs.Io.KnownBytes.{Appends}
use Rattle.std.proofs.KnownBytes.{Appends-nil, Appends-trans}
use Rattle.std.proofs.Math.Nat.{min-eq_left}
use Rattle.interval_core.specs.declared.totals.DayTotal.{DayTotal}
use Rattle.sun_points.specs.Writing.{GotPart}
use Rattle.energy_report.specs.declared.form.Period.{Period}
use Rattle.energy_report.specs.declared.form.ReportForm.{ReportForm}
use Rattle.energy_report.specs.declared.report_rows.ReportRows.{ReportRows}
use Rattle.energy_report.specs.declared.row.Row.{Row}
use Rattle.energy_report.specs.Periods.{is_same}
use Rattle.interval_core.specs.Ranges.{is_in}
use Rattle.energy_report.specs.Rows.{joined, row_of, rows_in, shown}
use Rattle.energy_report.specs.Texts.{last_text, lead, report_text, row_text}
use Rattle.energy_report.specs.Writing.{AreWritten, GotUnless, Finishes, HasTaken, IsFinished, WritesRow, WritesText, begun_text}
use Rattle.energy_report.proofs.SnocLemmas.{after, after-push, few, shown-joined, with_day, without_day}
use Rattle.energy_report.proofs.TextLemmas.{begun-append, begun-push, following, longer, whole}

-- If a list has fewer than 2^64 days, then the list without its last day also has fewer than 2^64
-- days.
fewer : (days : List DayTotal) (t : DayTotal) → length (days ++ t ∷ []) < 2 ^ 64 → length days < 2 ^ 64
fewer days t less = omega (arith, less, length-append days (t ∷ []))

clash : {P : Type 0} (b : Bool) → b ≡ false → b ≡ true → P
clash b works failed = absurd (let e : false ≡ true = sym works ∙ failed in cc e)

-- True if the new state of a report equals the old state except for the pending row, which is not
-- written yet.
pub record Keeps {W : Type 0} (old new : ReportRows W) : Type 0 where
  pub form : new.form ≡ old.form
  pub now : new.output.now ≡ old.output.now
  pub count : new.count ≡ old.count
  pub failed : new.failed ≡ old.failed

module _ {W : Type 0} (contents : W → Option (List ℕ)) where
  pub dropped : (days : List DayTotal) (t : DayTotal) (from old : ReportRows W) → old.failed ≡ true → HasTaken contents days from old
      → HasTaken contents (days ++ t ∷ []) from old
  dropped days t from old failed h = record {
    form = h.form;
    written = λ works less. clash old.failed works failed;
    broken = λ again less more.
        let P : List DayTotal → Type 0 = λ those. GotPart (report_text old.form those) (contents from.output.now) (contents old.output.now) in
        subst P (sym (append_assoc days (t ∷ []) more)) (h.broken failed (fewer days t less) (t ∷ more));
  }

  pub skipped : (days : List DayTotal) (t : DayTotal) (from old : ReportRows W) → old.failed ≡ false → is_in old.form.range t.day ≡ false
      → HasTaken contents days from old → HasTaken contents (days ++ t ∷ []) from old
  skipped days t from old works absent h = record {
    form = h.form;
    written = λ again less.
        let w = h.written works (fewer days t less) in
        let P : List Row → Type 0 = λ rows. AreWritten rows w.done old.pending in
        record { done = w.done; rows = subst P (sym (without_day old.form days t absent)) w.rows; count = w.count; text = w.text };
    broken = λ failed less. clash old.failed works failed;
  }

  -- If only the pending row of a report (the row not written yet) changes, then the written text is
  -- unchanged.
  same_text : (from : W) (done : List Row) (old new : ReportRows W) → Keeps old new → Appends (contents from) (contents old.output.now) (begun_text old.form done)
      → Appends (contents from) (contents new.output.now) (begun_text new.form done)
  same_text from done old new keeps text = rw (keeps.form, keeps.now) text

  first_open : (rows done : List Row) (pending : Option Row) → pending ≡ None → AreWritten rows done pending → (rows ≡ []) × (done ≡ [])
  first_open rows done pending none are = let P : Option Row → Type 0 = λ o. AreWritten rows done o in subst P none are

  row_open : (rows done : List Row) (pending : Option Row) (o : Row) → pending ≡ Some o → AreWritten rows done pending
      → (last : Row) × (rows ≡ done ++ last ∷ []) × (o ≡ shown last)
  row_open rows done pending o is are = let P : Option Row → Type 0 = λ o. AreWritten rows done o in subst P is are

  pub opened : (days : List DayTotal) (t : DayTotal) (from old new : ReportRows W) → old.failed ≡ false → is_in old.form.range t.day ≡ true
      → old.pending ≡ None → Keeps old new → new.pending ≡ Some (shown (row_of t)) → HasTaken contents days from old
      → HasTaken contents (days ++ t ∷ []) from new
  opened days t from old new works there none keeps pending h = record {
    form = keeps.form ∙ h.form;
    written = λ again less.
        let w = h.written works (fewer days t less) in
        let nothing = first_open (rows_in old.form days) w.done old.pending none w.rows in
        let rows : rows_in new.form (days ++ t ∷ []) ≡ [] ++ row_of t ∷ [] =
        ap (λ form. rows_in form (days ++ t ∷ [])) keeps.form ∙ with_day old.form days t there
        ∙ ap (λ those. after old.form.period those t) nothing.0 in
        let P : Option Row → Type 0 = λ o. AreWritten (rows_in new.form (days ++ t ∷ [])) [] o in
        let Q : List Row → Type 0 = λ done. Appends (contents from.output.now) (contents new.output.now) (begun_text new.form done) in
        record {
          done = [];
          rows = subst P (sym pending) (row_of t, rows, refl);
          count = keeps.count ∙ w.count ∙ ap length nothing.1;
          text = subst Q nothing.1 (same_text from.output.now w.done old new keeps w.text);
        };
    broken = λ failed less. clash old.failed works (sym keeps.failed ∙ failed);
  }

  pub together : (days : List DayTotal) (t : DayTotal) (from old new : ReportRows W) (o : Row) → old.failed ≡ false
      → is_in old.form.range t.day ≡ true → old.pending ≡ Some o → is_same old.form.period o.first t.day ≡ true → Keeps old new
      → new.pending ≡ Some (shown (joined o (row_of t))) → HasTaken contents days from old → HasTaken contents (days ++ t ∷ []) from new
  together days t from old new o works there is same keeps pending h = record {
    form = keeps.form ∙ h.form;
    written = λ again less.
        let w = h.written works (fewer days t less) in
        let p = old.form.period in
        let last = row_open (rows_in old.form days) w.done old.pending o is w.rows in
        let met : is_same p last.0.first t.day ≡ true = ap (λ (row : Row). is_same p row.first t.day) (sym last.2) ∙ same in
        let both : Row = joined last.0 (row_of t) in
        let rows : rows_in new.form (days ++ t ∷ []) ≡ w.done ++ both ∷ [] =
        ap (λ form. rows_in form (days ++ t ∷ [])) keeps.form ∙ with_day old.form days t there
        ∙ ap (λ those. after p those t) last.1 ∙ after-push p w.done last.0 [] t
        ∙ ap (λ v. w.done ++ cond v (both ∷ []) (last.0 ∷ row_of t ∷ [])) met in
        let is_shown : shown (joined o (row_of t)) ≡ shown both =
        ap (λ row. shown (joined row (row_of t))) last.2 ∙ shown-joined last.0 t in
        let P : Option Row → Type 0 = λ o. AreWritten (rows_in new.form (days ++ t ∷ [])) w.done o in
        record {
          done = w.done;
          rows = subst P (sym pending) (both, rows, is_shown);
          count = keeps.count ∙ w.count;
          text = same_text from.output.now w.done old new keeps w.text;
        };
    broken = λ failed less. clash old.failed works (sym keeps.failed ∙ failed);
  }

-- If a report has at least one row, then it still has at least one row after a day or a row is
-- added.
after-more : (p : Period) (row : Row) (rest : List Row) (t : DayTotal) (b : Bool) (next : Row) (rows : List Row)
    → (r : Row) × (rs : List Row) × (cond b (joined row next ∷ rows) (row ∷ next ∷ rows) ≡ r ∷ rs)
after-more p row rest t true next rows = (joined row next, rows, refl)
after-more p row rest t false next rows = (row, next ∷ rows, refl)

some_after : (p : Period) (row : Row) (rest : List Row) (t : DayTotal) → (r : Row) × (rs : List Row) × (after p (row ∷ rest) t ≡ r ∷ rs)
some_after p row [] t = after-more p row [] t (is_same p row.first t.day) (row_of t) []
some_after p row (next ∷ rows) t = (row, after p (next ∷ rows) t, refl)

abbrev Goes : ReportForm → (front : List Row) → List DayTotal → Type 0
Goes form front days = (r : Row) × (rs : List Row) × (rows_in form days ≡ front ++ r ∷ rs)

goes-one : (form : ReportForm) (front : List Row) (days : List DayTotal) (t : DayTotal) (b : Bool) → is_in form.range t.day ≡ b → Goes form front days
    → Goes form front (days ++ t ∷ [])
goes-one form front days t true there goes =
    let more = some_after form.period goes.0 goes.1 t in (
      more.0,
      more.1,
      with_day form days t there ∙ ap (λ rows. after form.period rows t) goes.2 ∙ after-push form.period front goes.0 goes.1 t
          ∙ ap (λ rows. front ++ rows) more.2,
    )
goes-one form front days t false absent goes = (goes.0, goes.1, without_day form days t absent ∙ goes.2)

goes-on : (form : ReportForm) (front : List Row) (days more : List DayTotal) → Goes form front days → Goes form front (days ++ more)
goes-on form front days [] goes = (goes.0, goes.1, ap (rows_in form) (append-nil days) ∙ goes.2)
goes-on form front days (t ∷ more) goes =
    let one = goes-one form front days t (is_in form.range t.day) refl goes in
    let all = goes-on form front (days ++ t ∷ []) more one in
    (all.0, all.1, ap (rows_in form) (sym (append_assoc days (t ∷ []) more)) ∙ all.2)

begun_of : (form : ReportForm) (front more : List Row) → (rest : List ℕ) × (begun_text form (front ++ more) ≡ begun_text form front ++ rest)
begun_of form [] more = (begun_text form more, refl)
begun_of form (row ∷ rows) more = (_, begun-append form row rows more)

-- After any number of days, the text that a report has written is a beginning of the complete
-- report on these days.
part_of : (form : ReportForm) (front : List Row) (days : List DayTotal) → Goes form front days
    → (rest : List ℕ) × (report_text form days ≡ begun_text form front ++ rest)
part_of form front days goes =
    let rows = front ++ goes.0 ∷ goes.1 in
    let end = last_text form (length rows) in
    let split = begun_of form front (goes.0 ∷ goes.1) in
    (split.0 ++ end, whole form days rows goes.2 ∙ ap (λ text. text ++ end) split.1 ∙ append_assoc (begun_text form front) split.0 end)

module _ {W : Type 0} (contents : W → Option (List ℕ)) where
  -- If the report received fewer than 2^64 days, then its count of written rows is exact, because
  -- the count saturates only at 2^64 - 1.
  counted : (form : ReportForm) (days : List DayTotal) (done : List Row) (last : Row) (count next : ℕ) → rows_in form days ≡ done ++ last ∷ []
      → length days < 2 ^ 64 → count ≡ length done → next ≡ min (count + 1) (2 ^ 64 - 1) → next ≡ length (done ++ last ∷ [])
  counted form days done last count next rows less is after_it =
      let total = ap length rows in
      let sum = length-append done (last ∷ []) in
      let most = few form days in
      after_it ∙ min-eq_left (let le : count + 1 ≤ 2 ^ 64 - 1 = omega (arith, total, sum, most, less, is) in le) ∙ omega (arith, sum, is)

  written_row : (from : W) (done : List Row) (last o : Row) (old mid : ReportRows W) → WritesRow contents o old mid → old.failed ≡ false → o ≡ shown last
      → old.count ≡ length done → mid.failed ≡ false → Appends (contents from) (contents old.output.now) (begun_text old.form done)
      → Appends (contents from) (contents mid.output.now) (begun_text old.form (done ++ last ∷ []))
  written_row from done last o old mid writes works is count still text =
      let P : Bool → Type 0 = λ b. GotUnless b (lead (old.count == 0) old.form ++ row_text old.form o) (contents old.output.now) (contents mid.output.now) in
      let got = subst P still (writes.written works) in
      let both = Appends-trans _ _ _ (begun_text old.form done) (lead (old.count == 0) old.form ++ row_text old.form o) text got in
      let piece : lead (old.count == 0) old.form ++ row_text old.form o ≡ lead (length done == 0) old.form ++ row_text old.form (shown last) =
      ap (λ n. lead (n == 0) old.form ++ row_text old.form o) count ∙ ap (λ row. lead (length done == 0) old.form ++ row_text old.form row) is in
      let Q : List ℕ → Type 0 = λ text. Appends (contents from) (contents mid.output.now) text in
      subst Q (ap (λ more. begun_text old.form done ++ more) piece ∙ sym (begun-push old.form done last)) both

  broken_row : (from : W) (done : List Row) (last o : Row) (old mid : ReportRows W) → WritesRow contents o old mid → old.failed ≡ false → o ≡ shown last
      → old.count ≡ length done → mid.failed ≡ true → Appends (contents from) (contents old.output.now) (begun_text old.form done)
      → GotPart (begun_text old.form (done ++ last ∷ [])) (contents from) (contents mid.output.now)
  broken_row from done last o old mid writes works is count failed text =
      let P : Bool → Type 0 = λ b. GotUnless b (lead (old.count == 0) old.form ++ row_text old.form o) (contents old.output.now) (contents mid.output.now) in
      let got = subst P failed (writes.written works) in
      let both = following (begun_text old.form done) (lead (old.count == 0) old.form ++ row_text old.form o) _ _ _ text got in
      let piece : lead (old.count == 0) old.form ++ row_text old.form o ≡ lead (length done == 0) old.form ++ row_text old.form (shown last) =
      ap (λ n. lead (n == 0) old.form ++ row_text old.form o) count ∙ ap (λ row. lead (length done == 0) old.form ++ row_text old.form row) is in
      let Q : List ℕ → Type 0 = λ text. GotPart text (contents from) (contents mid.output.now) in
      subst Q (ap (λ more. begun_text old.form done ++ more) piece ∙ sym (begun-push old.form done last)) both

  pub next_row : (days : List DayTotal) (t : DayTotal) (from old mid new : ReportRows W) (o : Row) → old.failed ≡ false
      → is_in old.form.range t.day ≡ true → old.pending ≡ Some o → is_same old.form.period o.first t.day ≡ false → WritesRow contents o old mid
      → Keeps mid new → new.pending ≡ Some (shown (row_of t)) → HasTaken contents days from old → HasTaken contents (days ++ t ∷ []) from new
  next_row days t from old mid new o works there is other writes keeps pending h =
      let form : new.form ≡ old.form = keeps.form ∙ writes.form in
      let p = old.form.period in
      let after_rows : (last : Row) (done : List Row) → rows_in old.form days ≡ done ++ last ∷ [] → o ≡ shown last
      → rows_in old.form (days ++ t ∷ []) ≡ (done ++ last ∷ []) ++ row_of t ∷ [] =
      λ last done rows shows.
      let apart : is_same p last.first t.day ≡ false = ap (λ (row : Row). is_same p row.first t.day) (sym shows) ∙ other in
      with_day old.form days t there ∙ ap (λ those. after p those t) rows ∙ after-push p done last [] t
      ∙ ap (λ v. done ++ cond v (joined last (row_of t) ∷ []) (last ∷ row_of t ∷ [])) apart ∙ sym (append_assoc done (last ∷ []) (row_of t ∷ [])) in
      record {
        form = form ∙ h.form;
        written = λ still less.
            let w = h.written works (fewer days t less) in
            let last = row_open contents (rows_in old.form days) w.done old.pending o is w.rows in
            let rows : rows_in new.form (days ++ t ∷ []) ≡ (w.done ++ last.0 ∷ []) ++ row_of t ∷ [] =
            ap (λ f. rows_in f (days ++ t ∷ [])) form ∙ after_rows last.0 w.done last.1 last.2 in
            let P : Option Row → Type 0 = λ o. AreWritten (rows_in new.form (days ++ t ∷ [])) (w.done ++ last.0 ∷ []) o in
            let got = written_row from.output.now w.done last.0 o old mid writes works last.2 w.count (sym keeps.failed ∙ still) w.text in
            record {
              done = w.done ++ last.0 ∷ [];
              rows = subst P (sym pending) (row_of t, rows, refl);
              count = keeps.count ∙ counted old.form days w.done last.0 old.count mid.count last.1 (fewer days t less) w.count writes.count;
              text = rw (form, keeps.now) got;
            };
        broken = λ failed less more.
            let w = h.written works (fewer days t less) in
            let last = row_open contents (rows_in old.form days) w.done old.pending o is w.rows in
            let got = broken_row from.output.now w.done last.0 o old mid writes works last.2 w.count (sym keeps.failed ∙ failed) w.text in
            let front = w.done ++ last.0 ∷ [] in
            let here : Goes old.form front (days ++ t ∷ []) = (row_of t, [], after_rows last.0 w.done last.1 last.2) in
            let text = part_of old.form front ((days ++ t ∷ []) ++ more) (goes-on old.form front (days ++ t ∷ []) more here) in
            let P : List ℕ → Type 0 = λ x. GotPart x (contents from.output.now) (contents mid.output.now) in
            let whole_part = subst P (sym text.1) (longer (begun_text old.form front) text.0 _ _ got) in
            rw (form, keeps.now) whole_part;
      }

  -- After a report is finished, its text is the text written so far, followed by the end of the
  -- report.
  ends : (from : W) (text last whole_text : List ℕ) (old new : ReportRows W) → WritesText contents last old new → old.failed ≡ false → text ++ last ≡ whole_text
      → Appends (contents from) (contents old.output.now) text → (b : Bool) → new.failed ≡ b
      → GotUnless b whole_text (contents from) (contents new.output.now)
  ends from text last whole_text old new writes works is got false still =
      let P : Bool → Type 0 = λ b. GotUnless b last (contents old.output.now) (contents new.output.now) in
      let Q : List ℕ → Type 0 = λ text. Appends (contents from) (contents new.output.now) text in
      subst Q is (Appends-trans _ _ _ text last got (subst P still (writes.written works)))
  ends from text last whole_text old new writes works is got true failed =
      let P : Bool → Type 0 = λ b. GotUnless b last (contents old.output.now) (contents new.output.now) in
      let Q : List ℕ → Type 0 = λ text. GotPart text (contents from) (contents new.output.now) in
      subst Q is (following text last _ _ _ got (subst P failed (writes.written works)))

  -- If an earlier write of a report failed, then `finish` writes nothing, and the written text is
  -- only a beginning of the report.
  pub ends_broken : (days : List DayTotal) (from old new : ReportRows W) → old.failed ≡ true → new.failed ≡ true → new.output.now ≡ old.output.now
      → HasTaken contents days from old → length days < 2 ^ 64 → IsFinished contents days from new
  ends_broken days from old new failed again now h less =
      let P : Bool → Type 0 = λ b. GotUnless b (report_text from.form days) (contents from.output.now) (contents new.output.now) in
      let part : GotPart (report_text old.form (days ++ [])) (contents from.output.now) (contents old.output.now) = h.broken failed less [] in
      let Q : List ℕ → Type 0 = λ text. GotPart text (contents from.output.now) (contents old.output.now) in
      let all = subst Q (ap (report_text old.form) (append-nil days) ∙ ap (λ form. report_text form days) h.form) part in
      subst P (sym again) (rw now all)

  pub ends_empty : (days : List DayTotal) (from old new : ReportRows W) → old.failed ≡ false → old.pending ≡ None
      → WritesText contents (last_text old.form old.count) old new → HasTaken contents days from old → length days < 2 ^ 64
      → IsFinished contents days from new
  ends_empty days from old new works none writes h less =
      let w = h.written works less in
      let nothing = first_open contents (rows_in old.form days) w.done old.pending none w.rows in
      let is : begun_text old.form w.done ++ last_text old.form old.count ≡ report_text from.form days =
      ap (λ n. begun_text old.form w.done ++ last_text old.form n) w.count
      ∙ ap (λ done. begun_text old.form done ++ last_text old.form (length done)) nothing.1
      ∙ sym (whole old.form days [] nothing.0) ∙ ap (λ form. report_text form days) h.form in
      ends from.output.now (begun_text old.form w.done) (last_text old.form old.count) (report_text from.form days) old new writes works is w.text new.failed refl

  ends_after : (days : List DayTotal) (from old mid new : ReportRows W) (o : Row) → old.failed ≡ false → old.pending ≡ Some o → WritesRow contents o old mid
      → WritesText contents (last_text mid.form mid.count) mid new → HasTaken contents days from old → length days < 2 ^ 64
      → (b : Bool) → mid.failed ≡ b → IsFinished contents days from new
  ends_after days from old mid new o works is row writes h less false still =
      let w = h.written works less in
      let last = row_open contents (rows_in old.form days) w.done old.pending o is w.rows in
      let rows = w.done ++ last.0 ∷ [] in
      let text = written_row from.output.now w.done last.0 o old mid row works last.2 w.count still w.text in
      let count = counted old.form days w.done last.0 old.count mid.count last.1 less w.count row.count in
      let end : begun_text old.form rows ++ last_text mid.form mid.count ≡ report_text from.form days =
      ap (λ form. begun_text old.form rows ++ last_text form mid.count) row.form
      ∙ ap (λ n. begun_text old.form rows ++ last_text old.form n) count
      ∙ sym (whole old.form days rows last.1) ∙ ap (λ form. report_text form days) h.form in
      ends from.output.now (begun_text old.form rows) (last_text mid.form mid.count) (report_text from.form days) mid new writes still end text new.failed refl
  ends_after days from old mid new o works is row writes h less true failed =
      let w = h.written works less in
      let last = row_open contents (rows_in old.form days) w.done old.pending o is w.rows in
      let rows = w.done ++ last.0 ∷ [] in
      let part = broken_row from.output.now w.done last.0 o old mid row works last.2 w.count failed w.text in
      let text = whole old.form days rows last.1 in
      let dropped_too = writes.dropped failed in
      let P : Bool → Type 0 = λ b. GotUnless b (report_text from.form days) (contents from.output.now) (contents new.output.now) in
      let Q : List ℕ → Type 0 = λ x. GotPart x (contents from.output.now) (contents mid.output.now) in
      let all = subst Q (sym text ∙ ap (λ form. report_text form days) h.form) (longer (begun_text old.form rows) (last_text old.form (length rows)) _ _ part) in
      subst P (sym dropped_too.0) (rw dropped_too.1 all)

  pub ends_row : (days : List DayTotal) (from old mid new : ReportRows W) (o : Row) → old.failed ≡ false → old.pending ≡ Some o → WritesRow contents o old mid
      → WritesText contents (last_text mid.form mid.count) mid new → HasTaken contents days from old → length days < 2 ^ 64
      → IsFinished contents days from new
  ends_row days from old mid new o works is row writes h less =
      ends_after days from old mid new o works is row writes h less mid.failed refl

  -- A new report has received the empty list of days.
  pub fresh : (new : ReportRows W) → new.failed ≡ false → new.pending ≡ None → new.count ≡ 0 → HasTaken contents [] new new
  fresh new works none count =
      let P : Option Row → Type 0 = λ o. AreWritten [] [] o in
      record {
        form = refl;
        written = λ again less. record { done = []; rows = subst P (sym none) (refl, refl); count = count; text = Appends-nil (contents new.output.now) };
        broken = λ failed less. clash new.failed works failed;
      }

module _ {W : Type 0} (contents : W → Option (List ℕ)) where
  none_finished : (days : List DayTotal) (from old new : ReportRows W) (b : Bool) → old.failed ≡ b → old.pending ≡ None
      → WritesText contents (last_text old.form old.count) old new → HasTaken contents days from old → length days < 2 ^ 64
      → IsFinished contents days from new
  none_finished days from old new false works none writes h less = ends_empty contents days from old new works none writes h less
  none_finished days from old new true failed none writes h less =
      let gone = writes.dropped failed in
      ends_broken contents days from old new failed gone.0 gone.1 h less

  pub finished_empty : (old new : ReportRows W) → old.pending ≡ None → WritesText contents (last_text old.form old.count) old new
      → Finishes contents old new
  finished_empty old new none writes = record {
    output = writes.output;
    finished = λ from days h less. none_finished days from old new old.failed refl none writes h less;
  }

  some_finished : (days : List DayTotal) (from old mid new : ReportRows W) (o : Row) (b : Bool) → old.failed ≡ b → old.pending ≡ Some o
      → WritesRow contents o old mid → WritesText contents (last_text mid.form mid.count) mid new → HasTaken contents days from old
      → length days < 2 ^ 64 → IsFinished contents days from new
  some_finished days from old mid new o false works is row writes h less = ends_row contents days from old mid new o works is row writes h less
  some_finished days from old mid new o true failed is row writes h less =
      let first = row.dropped failed in
      let second = writes.dropped first.0 in
      ends_broken contents days from old new failed second.0 (second.1 ∙ first.1) h less

  pub finished_row : (old mid new : ReportRows W) (o : Row) → old.pending ≡ Some o → WritesRow contents o old mid
      → WritesText contents (last_text mid.form mid.count) mid new → Finishes contents old new
  finished_row old mid new o is row writes = record {
    output = writes.output ∙ row.output;
    finished = λ from days h less. some_finished days from old mid new o old.failed refl is row writes h less;
  }

pub none_left : (o : Option Row) → ((x : Row) → o ≡ Some x → ⊥) → o ≡ None
none_left None other = refl
none_left (Some x) other = absurd (other x refl)
