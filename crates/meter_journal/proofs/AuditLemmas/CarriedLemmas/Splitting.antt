-- Lemmas: if the rules for meter entries accept lines of a meter's journal (history) in the old
-- database file, they accept them in a new file that continues the meter.
use Rattle.std.proofs.Common.{◌≡◌, ◌≢◌, ℕ, ◌+◌, ◌-◌, ◌<◌, ◌≤◌, ◌==◌, Bool, true, false, cond, List, [], ◌∷◌, ◌++◌, map, length, Option, Some, None, Ok, refl, sym, ap, subst, ◌∙◌, inl, inr, arith}
use Rattle.std.specs.List.{find}
use Rattle.std.specs.Option.{option_map, option_or}
use Rattle.std.proofs.lemmas.Bool.{cases_Bool, cond-true, cond-false}
use Rattle.std.proofs.lemmas.Bool.Decides.{nat_tests}
use Rattle.std.proofs.lemmas.List.Folds.{find-append}
use Rattle.std.proofs.lemmas.Option.{same_Some}
use Rattle.energy_core.specs.declared.entries.Last.{Last}
use Rattle.energy_core.specs.declared.entries.Entry.{Entry}
use Rattle.energy_core.specs.declared.entries.Entry.TheVariants as entry
use Rattle.energy_core.specs.declared.verdicts.Cause.{Cause}
use Rattle.energy_core.specs.declared.verdicts.Cause.TheVariants as cause
use Rattle.energy_core.specs.declared.verdicts.Reading.{Reading}
use Rattle.energy_core.specs.declared.verdicts.Terms.{Terms}
use Rattle.energy_core.specs.declared.verdicts.Verdict.TheVariants as verdict
use Rattle.energy_core.specs.Account.{AllFollow}
use Rattle.energy_core.specs.Admission.{entered}
use Rattle.energy_core.specs.Verdict.{applies, causes, judged, verdict_of, IsPlausible}
use Rattle.energy_core.proofs.Acceptance.{accepted_is_plausible}
use Rattle.energy_core.proofs.Bookings.{booked_where_entered, entered_where_booked}
use Rattle.meter_journal.specs.declared.lines.EntryKind.{EntryKind}
use Rattle.meter_journal.specs.declared.lines.EntryKind.TheVariants as kind
use Rattle.meter_journal.specs.declared.lines.EntryRow.{EntryRow}
use Rattle.meter_journal.specs.declared.lines.Installed.{Installed}
use Rattle.meter_journal.specs.Books.{IsWellInstalled, last_after, total_after, verdict_after}
use Rattle.meter_journal.specs.Fitting.{reading_at, IsAcceptedAs, IsEntered, EntryFits, IsPlausibleNext, IsNextPlausible, is_voidable, VoidFits, Fits, AreFitting}
use Rattle.meter_journal.specs.Journal.{Entered, Held, Voided, Journal, Around, is_closing, is_ended, entries_in, entries_of, rows_of, passed, row_at}
use Rattle.meter_journal.specs.Lists.{AreNumbered}
use Rattle.meter_journal.specs.Standing.{entered_count}
use Rattle.meter_journal.proofs.AsEntered.{rows_are_kept}
use Rattle.meter_journal.proofs.Keeping.{journals_are_kept, mapped_some}
use Rattle.meter_journal.proofs.Places.{places_were_kept}
use Rattle.meter_journal.specs.Audit.Carried.{carried, moved_line, moved_row, AllComeLater, LaterLinesAreCarried}
use Rattle.meter_journal.proofs.AuditLemmas.CarriedLemmas.Fitting.{terms_of, before_full, moved_around, next_moved}
use Rattle.meter_journal.proofs.AuditLemmas.CarriedLemmas.Over.{left_by, last_over, total_over, entries_over, moved_same, moved_other, rows_over, entries_of_both, well_carried}

-- States that the joined history of a meter in an old and a new database file has at least the
-- energy of the new file.
abbrev HasMore : Installed → (es old : List Entry) → Type 0
HasMore meter es old = total_after (left_by meter old) es ≤ total_after meter (es ++ old)

has_more : (meter : Installed) (es old : List Entry) → AllFollow meter.range (last_after meter old) es → AllFollow meter.range meter.opening old
    → HasMore meter es old
has_more meter es old h g = omega (arith, total_over meter es old h g)

accepted_there : (meter : Installed) (es old : List Entry) (at raw rolls : ℕ) → HasMore meter es old → IsAcceptedAs meter (es ++ old) at raw rolls
    → IsAcceptedAs (left_by meter old) es at raw rolls
accepted_there meter es old at raw rolls more h =
    let l : Last = last_after (left_by meter old) es in
    let terms : Terms = terms_of meter (total_after (left_by meter old) es) in
    let all : Terms = terms_of meter (total_after meter (es ++ old)) in
    let is : verdict_of meter.range all l (reading_at l at raw) ≡ verdict.Accepted rolls h.step =
    subst (λ (x : Last). verdict_of meter.range all x (reading_at x at raw) ≡ verdict.Accepted rolls h.step) (last_over meter.opening es old) h.accepted in
    let was = (accepted_is_plausible meter.range all l (reading_at l at raw) rolls h.step).0 is in
    let still : IsPlausible meter.range terms l (reading_at l at raw) = record {
      accumulated = was.0.accumulated;
      scale = was.0.scale;
      below = was.0.below;
      later = was.0.later;
      span = was.0.span;
      gap = was.0.gap;
      speed = was.0.speed;
      within = omega (arith, more, was.0.within);
    } in
    record {
      step = h.step;
      accepted = (accepted_is_plausible meter.range terms l (reading_at l at raw) rolls h.step).1 (still, was.1, was.2);
    }

entered_there : (meter : Installed) (es old : List Entry) (e : Entry) → HasMore meter es old → IsEntered meter (es ++ old) e
    → IsEntered (left_by meter old) es e
entered_there meter es old e more h =
    let l : Last = last_after (left_by meter old) es in
    let is : entered meter.range (total_after meter (es ++ old)) l e ≡ Ok (h.next, h.step) =
    subst (λ (x : Last). entered meter.range (total_after meter (es ++ old)) x e ≡ Ok (h.next, h.step)) (last_over meter.opening es old) h.entered in
    let was = booked_where_entered meter.range (total_after meter (es ++ old)) l e h.next h.step is in
    record {
      next = h.next;
      step = h.step;
      entered = entered_where_booked meter.range (total_after (left_by meter old) es) l e h.next h.step (record {
        next_is = was.next_is;
        step_is = was.step_is;
        follows = was.follows;
        within = omega (arith, was.within, more);
      });
    }

fits_there : (meter : Installed) (es old : List Entry) (k : EntryKind) (e : Entry) → HasMore meter es old → EntryFits meter (es ++ old) k e
    → EntryFits (left_by meter old) es k e
fits_there meter es old kind.Reading (entry.Step at raw rolls) more h = accepted_there meter es old at raw rolls more h
fits_there meter es old kind.Manual (entry.Step at raw rolls) more h = entered_there meter es old (entry.Step at raw rolls) more h
fits_there meter es old kind.Closing (entry.Step at raw rolls) more h = entered_there meter es old (entry.Step at raw rolls) more h
fits_there meter es old kind.Reset (entry.Change at before new sf) more h = (
  entered_there meter es old (entry.Change at before new sf) more h.0,
  h.1 ∙ ap (λ (l : Last). l.sf) (last_over meter.opening es old),
)
fits_there meter es old kind.Rescale (entry.Change at before new sf) more h = entered_there meter es old (entry.Change at before new sf) more h
fits_there meter es old kind.Reading (entry.Change at before new sf) more h = absurd h
fits_there meter es old kind.Manual (entry.Change at before new sf) more h = absurd h
fits_there meter es old kind.Closing (entry.Change at before new sf) more h = absurd h
fits_there meter es old kind.Reset (entry.Step at raw rolls) more h = absurd h
fits_there meter es old kind.Rescale (entry.Step at raw rolls) more h = absurd h

plausible_there : (meter : Installed) (es old : List Entry) (e : Entry) → HasMore meter es old → IsPlausibleNext meter (es ++ old) e
    → IsPlausibleNext (left_by meter old) es e
plausible_there meter es old (entry.Step at raw rolls) more h = (h.0, accepted_there meter es old at raw h.0 more h.1)
plausible_there meter es old (entry.Change at before new sf) more h = absurd h

held_there_too : (range : ℕ) (last : Last) (reading : Reading) (first : Option Cause) (full fuller : Bool) (c : Cause) → c ≢ cause.TotalFull
    → judged range last reading (option_or first (cond fuller (Some cause.TotalFull) None)) ≡ verdict.Held c
    → judged range last reading (option_or first (cond full (Some cause.TotalFull) None)) ≡ verdict.Held c
held_there_too range last reading (Some d) full fuller c other h = h
held_there_too range last reading None full true c other h = absurd (other (let is : c ≡ cause.TotalFull = cc in is))
held_there_too range last reading None full false c other h = absurd (cc)

held_there : (meter : Installed) (es old : List Entry) (reading : Reading) (c : Cause) → c ≢ cause.TotalFull
    → verdict_after meter (es ++ old) reading ≡ verdict.Held c → verdict_after (left_by meter old) es reading ≡ verdict.Held c
held_there meter es old reading c other h =
    let l : Last = last_after (left_by meter old) es in
    let test : ℕ → Cause → Bool = λ n. applies meter.range (terms_of meter n) l reading in
    let less : ℕ = total_after (left_by meter old) es in
    let all : ℕ = total_after meter (es ++ old) in
    let parts : (n : ℕ) → find (test n) causes ≡ option_or (find (test n) before_full) (cond (test n cause.TotalFull) (Some cause.TotalFull) None) =
    λ n. find-append (test n) before_full (cause.TotalFull ∷ []) in
    let is : verdict_of meter.range (terms_of meter all) l reading ≡ verdict.Held c =
    subst (λ (x : Last). verdict_of meter.range (terms_of meter all) x reading ≡ verdict.Held c) (last_over meter.opening es old) h in
    ap (judged meter.range l reading) (parts less)
    ∙ held_there_too meter.range l reading (find (test less) before_full) (test less cause.TotalFull) (test all cause.TotalFull) c other
    (sym (ap (judged meter.range l reading) (parts all)) ∙ is)

-- If all rows of a list have sequence numbers below `place`, then no row of the list has the number
-- `place`.
none_there : (place : ℕ) (rows : List EntryRow) → AreNumbered rows → length rows + 2 ≤ place → row_at place rows ≡ None
none_there place [] h le = refl
none_there place (row ∷ rows) h le =
    let is : row.place ≡ length rows + 2 = h.0 in
    let later : length rows + 2 < place = omega (arith, le) in
    let off : row.place == place ≡ false = grind (arith, nat_tests, is, later) in
    cond-false _ _ _ off ∙ ap (option_map (passed row)) (none_there place rows h.1 (omega (arith, le)))

found_there : (count place : ℕ) (rows old : List EntryRow) (a : Around) → row_at (place + count) old ≡ None
    → row_at (place + count) (map (moved_row count) rows ++ old) ≡ Some a
    → (x : Around) × (row_at place rows ≡ Some x) × (moved_around count old x ≡ a)
found_there count place [] old a none there = absurd (let no : None ≡ Some a = sym none ∙ there in cc)
found_there count place (row ∷ rows) old a none there =
    elim (cases_Bool (row.place == place)) [
      | inl at ↦ (
        record { before = rows; row = row; next = None },
        cond-true _ _ _ at,
        same_Some _ a (sym (cond-true _ _ _ (moved_same count place row.place at)) ∙ there),
      )
      | inr off ↦
          let found =
          mapped_some (passed (moved_row count row)) (row_at (place + count) (map (moved_row count) rows ++ old)) a
          (sym (cond-false _ _ _ (moved_other count place row.place off)) ∙ there) in
          let rest = found_there count place rows old found.0 none found.1 in
          let x : Around = rest.0 in (
            passed row x,
            cond-false _ _ _ off ∙ ap (option_map (passed row)) rest.1,
            sym (ap (λ (n : Option EntryRow).
                let y : Around = record { before = map (moved_row count) x.before ++ old; row = moved_row count x.row; next = n } in y)
                (next_moved count row x.next))
                ∙ ap (passed (moved_row count row)) rest.2 ∙ found.2,
          )
    ]

voidable_there : (count : ℕ) (row : EntryRow) (n : Option EntryRow) → is_voidable (moved_row count row) (option_map (moved_row count) n) ≡ true
    → is_voidable row n ≡ true
voidable_there count row None h = h
voidable_there count row (Some n) h = h

next_there : (meter : Installed) (count : ℕ) (before old : List EntryRow) (n : Option EntryRow) → HasMore meter (entries_in before) (entries_in old)
    → IsNextPlausible meter (entries_in (map (moved_row count) before ++ old)) (option_map (moved_row count) n)
    → IsNextPlausible (left_by meter (entries_in old)) (entries_in before) n
next_there meter count before old None more h = tt
next_there meter count before old (Some n) more h =
    plausible_there meter (entries_in before) (entries_in old) n.entry more
    (subst (λ (es : List Entry). IsPlausibleNext meter es n.entry) (entries_over count before old) h)

-- States that the lines `later` are the renumbered lines of a journal (history) in the new database
-- file that the rules for meter entries accept. The sequence numbers in voids (cancellations) are
-- raised by `count`, the number of old entries.
record IsMoved (meter : Installed) (count : ℕ) (lines later : Journal) : Type 0 where
  more : Journal
  moved : map (moved_line count) more ≡ later
  fit : AreFitting (carried meter lines) more

fitting_first : (meter : Installed) (lines later : Journal) → AreFitting meter (later ++ lines) → AreFitting meter lines
fitting_first meter lines [] h = h
fitting_first meter lines (line ∷ later) h = fitting_first meter lines later h.1

unended_there : (count : ℕ) (lines more : Journal) → is_ended (map (moved_line count) more ++ lines) ≡ false → is_ended more ≡ false
unended_there count lines [] h = refl
unended_there count lines (Entered k e ∷ more) h =
    both (is_closing k) (is_ended (map (moved_line count) more ++ lines)) (is_ended more) h (λ g. unended_there count lines more g)
  where
    both : (b rest own : Bool) → cond b true rest ≡ false → (rest ≡ false → own ≡ false) → cond b true own ≡ false
    both true rest own g on = g
    both false rest own g on = on g
unended_there count lines (Held reading c ∷ more) h = unended_there count lines more h
unended_there count lines (Voided place ∷ more) h = unended_there count lines more h

void_there : (meter : Installed) (count : ℕ) (lines more : Journal) (place : ℕ) → length (rows_of meter.opening lines) ≡ count
    → IsWellInstalled (carried meter lines)
    → AllFollow meter.range meter.opening (entries_of meter.opening lines) → AreNumbered (rows_of meter.opening lines) → 2 ≤ place
    → AreFitting (carried meter lines) more
    → VoidFits meter (map (moved_row count) (rows_of (carried meter lines).opening more) ++ rows_of meter.opening lines) (place + count)
    → VoidFits (carried meter lines) (rows_of (carried meter lines).opening more) place
void_there meter count lines more place long well before numbers two fit h =
    let M : Installed = carried meter lines in
    let rows : List EntryRow = rows_of M.opening more in
    let old : List EntryRow = rows_of meter.opening lines in
    let none : row_at (place + count) old ≡ None = none_there (place + count) old numbers (omega (arith, long, two)) in
    let found = found_there count place rows old h.around none h.there in
    let a : Around = found.0 in
    let kept = places_were_kept M more place a well fit found.1 in
    record {
      around = a;
      there = found.1;
      voidable = voidable_there count a.row a.next (subst (λ (x : Around). is_voidable x.row x.next ≡ true) (sym found.2) h.voidable);
      next = next_there meter count a.before old a.next (has_more meter (entries_in a.before) (entries_in old) kept.account.follow before)
          (subst (λ (x : Around). IsNextPlausible meter (entries_in x.before) x.next) (sym found.2) h.next);
    }

one_back : (count place : ℕ) (more : Journal) → count + 2 ≤ place
    → map (moved_line count) (Voided (place - count) ∷ more) ≡ Voided place ∷ map (moved_line count) more
one_back count place more le =
    let is : place - count + count ≡ place = omega (arith, le) in ap (λ n. Voided n ∷ map (moved_line count) more) is

split : (meter : Installed) (count : ℕ) (lines later : Journal) → length (rows_of meter.opening lines) ≡ count → IsWellInstalled (carried meter lines)
    → AllFollow meter.range meter.opening (entries_of meter.opening lines) → AreNumbered (rows_of meter.opening lines)
    → AreFitting meter (later ++ lines) → AllComeLater count later → IsMoved meter count lines later
split meter count lines [] long well before numbers h come = record { more = []; moved = refl; fit = tt }
split meter count lines (Entered k e ∷ later) long well before numbers h come =
    let M : Installed = carried meter lines in
    let rest = split meter count lines later long well before numbers h.1 come.1 in
    let more : Journal = rest.more in
    let es : List Entry = entries_of M.opening more in
    let old : List Entry = entries_of meter.opening lines in
    let fits : Fits meter (map (moved_line count) more ++ lines) (Entered k e) =
    subst (λ (ls : Journal). Fits meter (ls ++ lines) (Entered k e)) (sym rest.moved) h.0 in
    let follow = (journals_are_kept M more well rest.fit).account.follow in
    let there : EntryFits meter (es ++ old) k e =
    subst (λ (xs : List Entry). EntryFits meter xs k e) (entries_of_both meter count lines more long rest.fit) fits.1 in
    record {
      more = Entered k e ∷ more;
      moved = ap (λ (ls : Journal). Entered k e ∷ ls) rest.moved;
      fit = ((unended_there count lines more fits.0, fits_there meter es old k e (has_more meter es old follow before) there), rest.fit);
    }
split meter count lines (Held reading c ∷ later) long well before numbers h come =
    let M : Installed = carried meter lines in
    let rest = split meter count lines later long well before numbers h.1 come.1 in
    let more : Journal = rest.more in
    let es : List Entry = entries_of M.opening more in
    let old : List Entry = entries_of meter.opening lines in
    let fits : Fits meter (map (moved_line count) more ++ lines) (Held reading c) =
    subst (λ (ls : Journal). Fits meter (ls ++ lines) (Held reading c)) (sym rest.moved) h.0 in
    let there : verdict_after meter (es ++ old) reading ≡ verdict.Held c =
    subst (λ (xs : List Entry). verdict_after meter xs reading ≡ verdict.Held c) (entries_of_both meter count lines more long rest.fit) fits.1 in
    record {
      more = Held reading c ∷ more;
      moved = ap (λ (ls : Journal). Held reading c ∷ ls) rest.moved;
      fit = ((unended_there count lines more fits.0, held_there meter es old reading c come.0 there), rest.fit);
    }
split meter count lines (Voided place ∷ later) long well before numbers h come =
    let M : Installed = carried meter lines in
    let rest = split meter count lines later long well before numbers h.1 come.1 in
    let more : Journal = rest.more in
    let at : ℕ = place - count in
    let le : count + 2 ≤ place = come.0 in
    let is : at + count ≡ place = omega (arith, le) in
    let two : 2 ≤ at = omega (arith, le) in
    let fits : Fits meter (map (moved_line count) more ++ lines) (Voided (at + count)) =
    subst (λ (ls : Journal). Fits meter (ls ++ lines) (Voided (at + count))) (sym rest.moved)
    (subst (λ (n : ℕ). Fits meter (later ++ lines) (Voided n)) (sym is) h.0) in
    let there : VoidFits meter (map (moved_row count) (rows_of M.opening more) ++ rows_of meter.opening lines) (at + count) =
    subst (λ (rs : List EntryRow). VoidFits meter rs (at + count)) (rows_over meter count lines more long rest.fit) fits in
    record {
      more = Voided at ∷ more;
      moved = one_back count place more le ∙ ap (λ (ls : Journal). Voided place ∷ ls) rest.moved;
      fit = (void_there meter count lines more at long well before numbers two rest.fit there, rest.fit);
    }

pub later_lines_are_carried : LaterLinesAreCarried
later_lines_are_carried meter lines later well h come =
    let first : AreFitting meter lines = fitting_first meter lines later h in
    let all = rows_are_kept meter lines well first in
    let parts = split meter (entered_count lines) lines later all.count (well_carried meter lines well first)
    (journals_are_kept meter lines well first).account.follow all.places h come in
    record { more = parts.more; joined = ap (λ (ls : Journal). ls ++ lines) parts.moved; fit = parts.fit }
