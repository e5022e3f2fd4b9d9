-- Lemmas: if a meter's journal (history) is reduced to its valid (not voided) entries, the rules
-- for meter entries accept the resulting journal.
use Rattle.std.proofs.Common.{◌≡◌, true, false, List, [], ◌∷◌, map, refl, sym, ap, subst, ◌∙◌, inl, inr}
use Rattle.std.proofs.lemmas.Bool.{cases_Bool, cond-true, cond-false}
use Rattle.energy_core.specs.declared.entries.Last.{Last}
use Rattle.energy_core.specs.declared.entries.Entry.{Entry}
use Rattle.meter_journal.specs.declared.lines.Installed.{Installed}
use Rattle.meter_journal.specs.declared.lines.EntryRow.{EntryRow}
use Rattle.meter_journal.specs.Books.{last_after, total_after, steps_after}
use Rattle.meter_journal.specs.Intervals.{rows_of_steps}
use Rattle.meter_journal.specs.Journal.{Entered, Held, Voided, Journal, is_closing, is_ended, standing, entries_of, rows_of}
use Rattle.meter_journal.specs.Fitting.{EntryFits, AreFitting}
use Rattle.meter_journal.specs.Standing.{AllStillFit, entering, standing_alone}
use Rattle.meter_journal.specs.Laws.{VoidsLeaveNoTrace}
use Rattle.meter_journal.proofs.Keeping.{rows_are_sound}
use Rattle.meter_journal.proofs.AsEntered.{AreRowsOf, rows_are_entered, stands_on}

-- If each line of a meter's journal records the entry of one row of a list, then the journal's
-- valid (not voided) entries are exactly the entries of these rows.
entries_alone : (opening : Last) (rows : List EntryRow) → entries_of opening (entering rows) ≡ map (λ row. row.entry) rows
entries_alone opening [] = refl
entries_alone opening (row ∷ rows) = ap (λ (es : List Entry). row.entry ∷ es) (entries_alone opening rows)

-- States that no row of the list is a closing of the meter.
abbrev AllOpen : List EntryRow → Type 0
AllOpen [] = Unit {0}
AllOpen (row ∷ rows) = (is_closing row.kind ≡ false) × AllOpen rows

abbrev OpenBefore : List EntryRow → Type 0
OpenBefore [] = Unit {0}
OpenBefore (row ∷ rows) = AllOpen rows × OpenBefore rows

all_open : (whole lines : Journal) (rows : List EntryRow) → AreRowsOf whole lines rows → is_ended lines ≡ false → AllOpen rows
all_open whole [] [] h unended = tt
all_open whole [] (row ∷ rows) h unended = absurd h
all_open whole (Entered k e ∷ lines) [] h unended = absurd h
all_open whole (Entered k e ∷ lines) (row ∷ rows) h unended =
    elim (cases_Bool (is_closing k)) [
      | inl closing ↦ absurd (let f : true ≡ false = sym (cond-true _ _ _ closing) ∙ unended in cc)
      | inr more ↦ (ap is_closing h.0.kind_is ∙ more, all_open whole lines rows h.1 (sym (cond-false _ _ _ more) ∙ unended))
    ]
all_open whole (Held reading cause ∷ lines) rows h unended = all_open whole lines rows h unended
all_open whole (Voided place ∷ lines) rows h unended = all_open whole lines rows h unended

open_before : (meter : Installed) (whole lines : Journal) (rows : List EntryRow) → AreFitting meter lines → AreRowsOf whole lines rows → OpenBefore rows
open_before meter whole [] [] fit h = tt
open_before meter whole [] (row ∷ rows) fit h = absurd h
open_before meter whole (Entered k e ∷ lines) [] fit h = absurd h
open_before meter whole (Entered k e ∷ lines) (row ∷ rows) fit h =
    (all_open whole lines rows h.1 fit.0.0, open_before meter whole lines rows fit.1 h.1)
open_before meter whole (Held reading cause ∷ lines) rows fit h = open_before meter whole lines rows fit.1 h
open_before meter whole (Voided place ∷ lines) rows fit h = open_before meter whole lines rows fit.1 h

alone_unended : (rows : List EntryRow) → AllOpen rows → is_ended (entering (standing rows)) ≡ false
alone_unended [] h = refl
alone_unended (row ∷ rows) h =
    elim (cases_Bool row.stands) [
      | inl on ↦ ap (λ rs. is_ended (entering rs)) (stands_on row rows true on) ∙ cond-false _ _ _ h.0 ∙ alone_unended rows h.1
      | inr off ↦ ap (λ rs. is_ended (entering rs)) (stands_on row rows false off) ∙ alone_unended rows h.1
    ]

alone_fits : (meter : Installed) (rows : List EntryRow) → OpenBefore rows → AllStillFit meter rows → AreFitting meter (entering (standing rows))
alone_fits meter [] h still = tt
alone_fits meter (row ∷ rows) h still =
    let rest : AreFitting meter (entering (standing rows)) = alone_fits meter rows h.1 still.1 in
    elim (cases_Bool row.stands) [
      | inl on ↦
          let first : EntryFits meter (entries_of meter.opening (entering (standing rows))) row.kind row.entry =
          subst (λ (es : List Entry). EntryFits meter es row.kind row.entry) (sym (entries_alone meter.opening (standing rows))) (still.0 on) in
          subst (λ (rs : List EntryRow). AreFitting meter (entering rs)) (sym (stands_on row rows true on)) ((alone_unended rows h.0, first), rest)
      | inr off ↦ subst (λ (rs : List EntryRow). AreFitting meter (entering rs)) (sym (stands_on row rows false off)) rest
    ]

pub voids_leave_no_trace : VoidsLeaveNoTrace
voids_leave_no_trace meter lines well h =
    let rows : List EntryRow = rows_of meter.opening lines in
    let before : OpenBefore rows = open_before meter lines lines rows h (rows_are_entered meter lines h).rows in
    let same : entries_of meter.opening (standing_alone meter.opening lines) ≡ entries_of meter.opening lines = entries_alone meter.opening (standing rows) in
    record {
      fit = alone_fits meter rows before (rows_are_sound meter lines well.raw h).still;
      entries = same;
      last = ap (last_after meter) same;
      total = ap (total_after meter) same;
      intervals = ap (λ (es : List Entry). rows_of_steps (steps_after meter es)) same;
    }
