-- Lemmas: if the rules for meter entries accept a line of a meter's journal (history) in a new
-- database file, they accept it in the joined journal of both files.
use Rattle.std.proofs.Common.{◌≡◌, ℕ, ◌+◌, ◌*◌, ◌^◌, ◌<◌, ◌≤◌, ◌==◌, Bool, true, false, cond, ◌&&◌, nat_lt, if◌then◌else◌, List, [], ◌∷◌, ◌++◌, map, length, Option, Some, None, Ok, refl, sym, ap, subst, ◌∙◌, inl, inr, arith}
use Rattle.std.specs.List.{find}
use Rattle.std.specs.Option.{option_map, option_or}
use Rattle.std.proofs.lemmas.Bool.{cases_Bool, cond-true, cond-false}
use Rattle.std.proofs.lemmas.Bool.Decides.{nat_tests}
use Rattle.std.proofs.lemmas.List.Folds.{find-append}
use Rattle.std.proofs.lemmas.Option.{same_Some}
use Rattle.energy_core.specs.declared.entries.Last.{Last}
use Rattle.energy_core.specs.declared.entries.Step.{Step}
use Rattle.energy_core.specs.declared.entries.Entry.{Entry}
use Rattle.energy_core.specs.declared.entries.Entry.TheVariants as entry
use Rattle.energy_core.specs.declared.verdicts.Cause.{Cause}
use Rattle.energy_core.specs.declared.verdicts.Cause.TheVariants as cause
use Rattle.energy_core.specs.declared.verdicts.Reading.{Reading}
use Rattle.energy_core.specs.declared.verdicts.Terms.{Terms}
use Rattle.energy_core.specs.declared.verdicts.Verdict.TheVariants as verdict
use Rattle.energy_core.specs.Account.{last_of, energy_of, AllFollow}
use Rattle.energy_core.specs.Admission.{entered}
use Rattle.energy_core.specs.Value.{unit_of}
use Rattle.energy_core.specs.Verdict.{distance, applies, causes, judged, verdict_of, IsPlausible}
use Rattle.energy_core.proofs.Acceptance.{accepted_is_plausible, booked_where_accepted}
use Rattle.energy_core.proofs.Bookings.{booked_where_entered, entered_where_booked}
use Rattle.meter_journal.specs.declared.lines.EntryKind.{EntryKind}
use Rattle.meter_journal.specs.declared.lines.EntryKind.TheVariants as kind
use Rattle.meter_journal.specs.declared.lines.EntryRow.{EntryRow}
use Rattle.meter_journal.specs.declared.lines.Installed.{Installed}
use Rattle.meter_journal.specs.Books.{IsWellInstalled, last_after, total_after, verdict_after}
use Rattle.meter_journal.specs.Fitting.{reading_at, IsAcceptedAs, IsEntered, EntryFits, IsPlausibleNext, IsNextPlausible, is_free, is_voidable, VoidFits, AreFitting}
use Rattle.meter_journal.specs.Journal.{Entered, Held, Voided, Journal, Around, is_reading, is_read, is_closing, is_ended, entries_in, entries_of, rolled, with_rolls, struck, with_void, rows_of, if_standing, passed, row_at}
use Rattle.meter_journal.specs.Standing.{entered_count}
use Rattle.meter_journal.proofs.AsEntered.{rows_are_kept}
use Rattle.meter_journal.proofs.Keeping.{all_three, above, by_read, entries_standing, entries_struck, journals_are_kept, last_under, mapped_some, unrolled}
use Rattle.meter_journal.proofs.StillFitting.{rolls_of}
use Rattle.meter_journal.proofs.Voiding.{whole_with}
use Rattle.meter_journal.specs.Audit.Carried.{carried, moved_line, moved_row, StaysWithin, CarriedJournalsFit}
use Rattle.meter_journal.proofs.AuditLemmas.CarriedLemmas.Over.{left_by, last_over, total_over, entries_over, moved_same, moved_other, rows_over, entries_of_both, well_carried}

abbrev pub terms_of : Installed → (total : ℕ) → Terms
terms_of meter total = record { ceiling = meter.ceiling; total = total }

-- States that the joined journal (history) of both database files, with one more entry, has at most
-- the energy that one meter may have: 4 * 10^18 mWh.
abbrev pub HasRoom : Installed → (es old : List Entry) → Entry → Type 0
HasRoom meter es old e = total_after meter (es ++ old) + energy_of meter.range (last_after (left_by meter old) es) e ≤ 4 * 10 ^ 18

accepted_over : (meter : Installed) (es old : List Entry) (at raw rolls : ℕ) → ((last_after (left_by meter old) es).raw < meter.range)
    → HasRoom meter es old (entry.Step at raw rolls)
    → IsAcceptedAs (left_by meter old) es at raw rolls → IsAcceptedAs meter (es ++ old) at raw rolls
accepted_over meter es old at raw rolls under room h =
    let l : Last = last_after (left_by meter old) es in
    let terms : Terms = terms_of meter (total_after (left_by meter old) es) in
    let more : Terms = terms_of meter (total_after meter (es ++ old)) in
    let was = (accepted_is_plausible meter.range terms l (reading_at l at raw) rolls h.step).0 h.accepted in
    let booked = booked_where_accepted meter.range terms l (reading_at l at raw) rolls h.step under h.accepted in
    let energy : h.step ≡ energy_of meter.range l (entry.Step at raw rolls) = ap (λ (s : Step). s.mwh) booked.step_is in
    let still : IsPlausible meter.range more l (reading_at l at raw) = record {
      accumulated = was.0.accumulated;
      scale = was.0.scale;
      below = was.0.below;
      later = was.0.later;
      span = was.0.span;
      gap = was.0.gap;
      speed = was.0.speed;
      within = omega (arith, room, energy, was.2);
    } in
    let is : verdict_of meter.range more l (reading_at l at raw) ≡ verdict.Accepted rolls h.step =
    (accepted_is_plausible meter.range more l (reading_at l at raw) rolls h.step).1 (still, was.1, was.2) in
    record {
      step = h.step;
      accepted = subst (λ (x : Last). verdict_of meter.range more x (reading_at x at raw) ≡ verdict.Accepted rolls h.step)
          (sym (last_over meter.opening es old)) is;
    }

entered_over : (meter : Installed) (es old : List Entry) (e : Entry) → HasRoom meter es old e → IsEntered (left_by meter old) es e
    → IsEntered meter (es ++ old) e
entered_over meter es old e room h =
    let l : Last = last_after (left_by meter old) es in
    let was = booked_where_entered meter.range (total_after (left_by meter old) es) l e h.next h.step h.entered in
    let energy : h.step.mwh ≡ energy_of meter.range l e = ap (λ (s : Step). s.mwh) was.step_is in
    let is = entered_where_booked meter.range (total_after meter (es ++ old)) l e h.next h.step (record {
      next_is = was.next_is;
      step_is = was.step_is;
      follows = was.follows;
      within = omega (arith, room, energy);
    }) in
    record {
      next = h.next;
      step = h.step;
      entered = subst (λ (x : Last). entered meter.range (total_after meter (es ++ old)) x e ≡ Ok (h.next, h.step))
          (sym (last_over meter.opening es old)) is;
    }

pub fits_over : (meter : Installed) (es old : List Entry) (k : EntryKind) (e : Entry) → ((last_after (left_by meter old) es).raw < meter.range)
    → HasRoom meter es old e → EntryFits (left_by meter old) es k e → EntryFits meter (es ++ old) k e
fits_over meter es old kind.Reading (entry.Step at raw rolls) under room h = accepted_over meter es old at raw rolls under room h
fits_over meter es old kind.Manual (entry.Step at raw rolls) under room h = entered_over meter es old (entry.Step at raw rolls) room h
fits_over meter es old kind.Closing (entry.Step at raw rolls) under room h = entered_over meter es old (entry.Step at raw rolls) room h
fits_over meter es old kind.Reset (entry.Change at before new sf) under room h = (
  entered_over meter es old (entry.Change at before new sf) room h.0,
  h.1 ∙ sym (ap (λ (l : Last). l.sf) (last_over meter.opening es old)),
)
fits_over meter es old kind.Rescale (entry.Change at before new sf) under room h =
    entered_over meter es old (entry.Change at before new sf) room h
fits_over meter es old kind.Reading (entry.Change at before new sf) under room h = absurd h
fits_over meter es old kind.Manual (entry.Change at before new sf) under room h = absurd h
fits_over meter es old kind.Closing (entry.Change at before new sf) under room h = absurd h
fits_over meter es old kind.Reset (entry.Step at raw rolls) under room h = absurd h
fits_over meter es old kind.Rescale (entry.Step at raw rolls) under room h = absurd h

abbrev pub before_full : List Cause
before_full = cause.NotAccumulated ∷ cause.ScaleChanged ∷ cause.NotBelowRange ∷ cause.NotLater
    ∷ cause.SpanTooLong ∷ cause.GapTooLong ∷ cause.TooFast ∷ []

held_still : (range : ℕ) (last : Last) (reading : Reading) (first : Option Cause) (full fuller : Bool) (c : Cause)
    → (full ≡ true → fuller ≡ true)
    → judged range last reading (option_or first (cond full (Some cause.TotalFull) None)) ≡ verdict.Held c
    → judged range last reading (option_or first (cond fuller (Some cause.TotalFull) None)) ≡ verdict.Held c
held_still range last reading (Some d) full fuller c up h = h
held_still range last reading None true fuller c up h =
    ap (λ b. judged range last reading (cond b (Some cause.TotalFull) None)) (up refl) ∙ h
held_still range last reading None false fuller c up h = absurd (cc)

fuller_too : (limit total more step : ℕ) → total ≤ more → nat_lt limit (total + step) ≡ true → nat_lt limit (more + step) ≡ true
fuller_too limit total more step le h = grind (arith, nat_tests, le, h)

-- If the rules for meter entries reject a reading at some total energy of the meter, they reject it
-- for the same cause at any greater total energy.
held_more : (range ceiling total more : ℕ) (last : Last) (reading : Reading) (c : Cause) → total ≤ more
    → verdict_of range (record { ceiling = ceiling; total = total }) last reading ≡ verdict.Held c
    → verdict_of range (record { ceiling = ceiling; total = more }) last reading ≡ verdict.Held c
held_more range ceiling total more last reading c le h =
    let test : ℕ → Cause → Bool = λ n. applies range (record { ceiling = ceiling; total = n }) last reading in
    let first : Option Cause = find (test total) before_full in
    let parts : (n : ℕ) → find (test n) causes ≡ option_or (find (test n) before_full) (cond (test n cause.TotalFull) (Some cause.TotalFull) None) =
    λ n. find-append (test n) before_full (cause.TotalFull ∷ []) in
    ap (judged range last reading) (parts more)
    ∙ held_still range last reading first (test total cause.TotalFull) (test more cause.TotalFull) c
    (fuller_too (4 * 10 ^ 18) total more (distance range last.raw reading.raw * unit_of last.sf) le)
    (sym (ap (judged range last reading) (parts total)) ∙ h)

held_over : (meter : Installed) (es old : List Entry) (reading : Reading) (c : Cause) → total_after (left_by meter old) es ≤ total_after meter (es ++ old)
    → verdict_after (left_by meter old) es reading ≡ verdict.Held c → verdict_after meter (es ++ old) reading ≡ verdict.Held c
held_over meter es old reading c le h =
    subst (λ (l : Last). verdict_of meter.range (terms_of meter (total_after meter (es ++ old))) l reading ≡ verdict.Held c)
    (sym (last_over meter.opening es old))
    (held_more meter.range meter.ceiling (total_after (left_by meter old) es) (total_after meter (es ++ old)) (last_after (left_by meter old) es)
    reading c le h)

abbrev LeavesNext : Last → (place : ℕ) → List EntryRow → Around → Option EntryRow → Type 0
LeavesNext opening place rows a None = entries_in (with_void opening place rows) ≡ entries_in a.before
LeavesNext opening place rows a (Some next) = (next.stands ≡ true)
    × ((later : List Entry)
    × (entries_in (with_void opening place rows) ≡ later ++ (rolled (last_of opening (entries_in a.before)) next).entry ∷ entries_in a.before))

one_later : (opening : Last) (place : ℕ) (row : EntryRow) (rows : List EntryRow) (x : Around) (n : Option EntryRow) (stands : Bool)
    → row.stands ≡ stands → row.place == place ≡ false → LeavesNext opening place rows x n
    → LeavesNext opening place (row ∷ rows) (passed row x) (option_or n (cond stands (Some row) None))
one_later opening place row rows x (Some next) stands is off h =
    let rest : List EntryRow = with_void opening place rows in
    let made : EntryRow = rolled (last_of opening (entries_in rest)) row in
    let all : entries_in (with_void opening place (row ∷ rows)) ≡ entries_in (made ∷ rest) = ap entries_in (above opening place row rows off) in
    elim (cases_Bool made.stands) [
      | inl on ↦ (h.0, (made.entry ∷ h.1.0, all ∙ entries_standing made rest on ∙ ap (λ (es : List Entry). made.entry ∷ es) h.1.1))
      | inr gone ↦ (h.0, (h.1.0, all ∙ entries_struck made rest gone ∙ h.1.1))
    ]
one_later opening place row rows x None true is off h =
    let rest : List EntryRow = with_void opening place rows in
    let l : Last = last_of opening (entries_in x.before) in
    let all : entries_in (with_void opening place (row ∷ rows)) ≡ entries_in (rolled l row ∷ rest) =
    ap entries_in (above opening place row rows off) ∙ ap (λ (es : List Entry). entries_in (rolled (last_of opening es) row ∷ rest)) h in
    let on : (rolled l row).stands ≡ true = stands_rolled l row ∙ is in
    (is, ([], all ∙ entries_standing (rolled l row) rest on ∙ ap (λ (es : List Entry). (rolled l row).entry ∷ es) h))
  where
    stands_rolled : (l : Last) (row : EntryRow) → (rolled l row).stands ≡ row.stands
    stands_rolled l row =
        elim (cases_Bool (row.stands && is_reading row.kind)) [
          | inl e ↦ ap (λ (r : EntryRow). r.stands) (cond-true _ _ _ e)
          | inr e ↦ ap (λ (r : EntryRow). r.stands) (cond-false _ _ _ e)
        ]
one_later opening place row rows x None false is off h =
    let rest : List EntryRow = with_void opening place rows in
    let l : Last = last_of opening (entries_in rest) in
    ap entries_in (above opening place row rows off) ∙ ap (λ (r : EntryRow). entries_in (r ∷ rest)) (unrolled l row is)
    ∙ entries_struck row rest is ∙ h

leaves_next : (opening : Last) (place : ℕ) (rows : List EntryRow) (a : Around) → row_at place rows ≡ Some a
    → LeavesNext opening place rows a a.next
leaves_next opening place [] a there = absurd (cc)
leaves_next opening place (row ∷ rows) a there =
    elim (cases_Bool (row.place == place)) [
      | inl at ↦
          let found : Around = record { before = rows; row = row; next = None } in
          let is : found ≡ a = same_Some found a (sym (cond-true _ _ _ at) ∙ there) in
          let made : with_void opening place (row ∷ rows) ≡ struck row ∷ rows = cond-true _ _ _ at in
          subst (λ (x : Around). LeavesNext opening place (row ∷ rows) x x.next) is (ap entries_in made ∙ entries_struck (struck row) rows refl)
      | inr off ↦
          let found = mapped_some (passed row) (row_at place rows) a (sym (cond-false _ _ _ off) ∙ there) in
          subst (λ (x : Around). LeavesNext opening place (row ∷ rows) x x.next) found.2
          (one_later opening place row rows found.0 found.0.next row.stands refl off (leaves_next opening place rows found.0 found.1))
    ]

-- Adding entries never lowers the energy of a meter.
grows : (meter : Installed) (later es : List Entry) → AllFollow meter.range meter.opening (later ++ es)
    → (total_after meter es ≤ total_after meter (later ++ es)) × AllFollow meter.range meter.opening es
grows meter [] es h = (omega arith, h)
grows meter (e ∷ later) es h =
    let rest = grows meter later es h.1 in (omega (arith, rest.0, whole_with meter e (later ++ es) h), rest.1)

abbrev pub moved_around : (count : ℕ) → (old : List EntryRow) → Around → Around
moved_around count old a = record {
  before = map (moved_row count) a.before ++ old;
  row = moved_row count a.row;
  next = option_map (moved_row count) a.next;
}

pub next_moved : (count : ℕ) (row : EntryRow) (n : Option EntryRow)
    → option_or (option_map (moved_row count) n) (if_standing (moved_row count row)) ≡ option_map (moved_row count) (option_or n (if_standing row))
next_moved count row (Some n) = refl
next_moved count row None = by row.stands
  where
    by : (b : Bool) → cond b (Some (moved_row count row)) None ≡ option_map (moved_row count) (cond b (Some row) None)
    by true = refl
    by false = refl

around_over : (count place : ℕ) (rows old : List EntryRow) (a : Around) → row_at place rows ≡ Some a
    → row_at (place + count) (map (moved_row count) rows ++ old) ≡ Some (moved_around count old a)
around_over count place [] old a there = absurd (cc)
around_over count place (row ∷ rows) old a there =
    elim (cases_Bool (row.place == place)) [
      | inl at ↦
          let found : Around = record { before = rows; row = row; next = None } in
          let is : found ≡ a = same_Some found a (sym (cond-true _ _ _ at) ∙ there) in
          cond-true _ _ _ (moved_same count place row.place at) ∙ ap (λ (x : Around). Some (moved_around count old x)) is
      | inr off ↦
          let found = mapped_some (passed row) (row_at place rows) a (sym (cond-false _ _ _ off) ∙ there) in
          let x : Around = found.0 in
          cond-false _ _ _ (moved_other count place row.place off)
          ∙ ap (option_map (passed (moved_row count row))) (around_over count place rows old x found.1)
          ∙ ap (λ (n : Option EntryRow).
          let y : Around = record { before = map (moved_row count) x.before ++ old; row = moved_row count x.row; next = n } in Some y)
          (next_moved count row x.next)
          ∙ ap (λ (y : Around). Some (moved_around count old y)) found.2
    ]

voidable_over : (count : ℕ) (row : EntryRow) (n : Option EntryRow) → is_voidable row n ≡ true
    → is_voidable (moved_row count row) (option_map (moved_row count) n) ≡ true
voidable_over count row None h = h
voidable_over count row (Some n) h = h

rolled_entry : (l : Last) (n : EntryRow) (at raw rolls : ℕ) → n.stands ≡ true → is_reading n.kind ≡ true → n.entry ≡ entry.Step at raw rolls
    → (rolled l n).entry ≡ entry.Step at raw (if nat_lt raw l.raw then 1 else 0)
rolled_entry l n at raw rolls on reading is =
    ap (λ (r : EntryRow). r.entry) (cond-true _ _ _ (ap (λ b. b && is_reading n.kind) on ∙ reading)) ∙ ap (with_rolls l) is

reads : (k : EntryKind) (e : Entry) → is_read k e ≡ true → is_reading k ≡ true
reads k e h = by_read (λ k e. is_reading k ≡ true) (λ at raw rolls. refl) k e h

-- Suppose that a meter's total energy in both database files is within its limit, and that an entry
-- of the new file is voided (cancelled). If the rules then accept the next reading in the new file,
-- they also accept it in the joined history.
plausible_over : (meter : Installed) (es old : List Entry) (n : EntryRow) (e : Entry) (later : List Entry) (whole : ℕ)
    → n.entry ≡ e → n.stands ≡ true → is_reading n.kind ≡ true
    → AllFollow meter.range (last_after meter old) (later ++ (rolled (last_after (left_by meter old) es) n).entry ∷ es)
    → total_after (left_by meter old) (later ++ (rolled (last_after (left_by meter old) es) n).entry ∷ es) ≡ whole
    → total_after meter old + whole ≤ 4 * 10 ^ 18
    → ((last_after meter old).raw < meter.range) → AllFollow meter.range meter.opening old
    → IsPlausibleNext (left_by meter old) es e → IsPlausibleNext meter (es ++ old) e
plausible_over meter es old n (entry.Step at raw rolls) later whole is on reading follow total room under before h =
    let M : Installed = left_by meter old in
    let l : Last = last_after M es in
    let fewer : ℕ = if nat_lt raw l.raw then 1 else 0 in
    let next : (rolled l n).entry ≡ entry.Step at raw fewer = rolled_entry l n at raw rolls on reading is in
    let low = grows M later ((rolled l n).entry ∷ es) follow in
    let follows : AllFollow meter.range (last_after meter old) (entry.Step at raw fewer ∷ es) =
    subst (λ (e : Entry). AllFollow meter.range (last_after meter old) (e ∷ es)) next low.1 in
    let new : h.0 ≡ fewer = rolls_of M es at raw h.0 h.1 in
    let accepted : IsAcceptedAs M es at raw fewer = subst (IsAcceptedAs M es at raw) new h.1 in
    let less = ap (λ (e : Entry). total_after M (e ∷ es)) next in (
      fewer,
      accepted_over meter es old at raw fewer (last_under M es under follows.1)
          (omega (arith, low.0, less, total, room, whole_with M (entry.Step at raw fewer) es follows, total_over meter es old follows.1 before)) accepted,
    )
plausible_over meter es old n (entry.Change at before new sf) later whole is on reading follow total room under before_old h = absurd h

next_over : (meter : Installed) (count place : ℕ) (rows old : List EntryRow) (a : Around) (n : Option EntryRow)
    → (last_after meter (entries_in old)).raw < meter.range → AllFollow meter.range meter.opening (entries_in old)
    → AllFollow meter.range (last_after meter (entries_in old)) (entries_in (with_void (last_after meter (entries_in old)) place rows))
    → total_after meter (entries_in old) + total_after (left_by meter (entries_in old)) (entries_in (with_void (last_after meter (entries_in old)) place rows)) ≤ 4 * 10 ^ 18
    → is_free n ≡ true → LeavesNext (last_after meter (entries_in old)) place rows a n
    → IsNextPlausible (left_by meter (entries_in old)) (entries_in a.before) n
    → IsNextPlausible meter (entries_in (map (moved_row count) a.before ++ old)) (option_map (moved_row count) n)
next_over meter count place rows old a None under before follow room free left h = tt
next_over meter count place rows old a (Some n) under before follow room free left h =
    let M : Installed = left_by meter (entries_in old) in
    let es : List Entry = entries_in a.before in
    let l : Last = last_after M es in
    let next : Entry = (rolled l n).entry in
    let all : AllFollow meter.range M.opening (left.1.0 ++ next ∷ es) = subst (AllFollow meter.range M.opening) left.1.1 follow in
    subst (λ (es : List Entry). IsPlausibleNext meter es n.entry) (sym (entries_over count a.before old))
    (plausible_over meter es (entries_in old) n n.entry left.1.0 _ refl left.0 (reads n.kind n.entry free) all
    (sym (ap (total_after M) left.1.1)) room under before h)

pub ended_over : (count : ℕ) (lines more : Journal) → is_ended lines ≡ false → is_ended (map (moved_line count) more ++ lines) ≡ is_ended more
ended_over count lines [] h = h
ended_over count lines (Entered k e ∷ more) h = ap (λ b. cond (is_closing k) true b) (ended_over count lines more h)
ended_over count lines (Held reading c ∷ more) h = ended_over count lines more h
ended_over count lines (Voided place ∷ more) h = ended_over count lines more h

fit_over : (meter : Installed) (count : ℕ) (lines more : Journal) → length (rows_of meter.opening lines) ≡ count → IsWellInstalled (carried meter lines)
    → AllFollow meter.range meter.opening (entries_of meter.opening lines)
    → AreFitting meter lines → is_ended lines ≡ false → AreFitting (carried meter lines) more → StaysWithin meter lines more
    → AreFitting meter (map (moved_line count) more ++ lines)
fit_over meter count lines [] long well before old unended h within = old
fit_over meter count lines (Entered k e ∷ more) long well before old unended h within =
    let M : Installed = carried meter lines in
    let es : List Entry = entries_of M.opening more in
    let follow = (journals_are_kept M (Entered k e ∷ more) well h).account.follow in
    let room : HasRoom meter es (entries_of meter.opening lines) e = omega (
      arith,
      within.0,
      whole_with M e es follow,
      total_over meter es (entries_of meter.opening lines) follow.1 before,
    ) in (
      (
        ended_over count lines more unended ∙ h.0.0,
        subst (λ (es : List Entry). EntryFits meter es k e) (sym (entries_of_both meter count lines more long h.1))
            (fits_over meter es (entries_of meter.opening lines) k e (last_under M es well.raw follow.1) room h.0.1),
      ),
      fit_over meter count lines more long well before old unended h.1 within.1,
    )
fit_over meter count lines (Held reading c ∷ more) long well before old unended h within =
    let M : Installed = carried meter lines in
    let es : List Entry = entries_of M.opening more in
    let follow = (journals_are_kept M more well h.1).account.follow in
    let le : total_after M es ≤ total_after meter (es ++ entries_of meter.opening lines) =
    omega (arith, total_over meter es (entries_of meter.opening lines) follow before) in (
      (
        ended_over count lines more unended ∙ h.0.0,
        subst (λ (es : List Entry). verdict_after meter es reading ≡ verdict.Held c) (sym (entries_of_both meter count lines more long h.1))
            (held_over meter es (entries_of meter.opening lines) reading c le h.0.1),
      ),
      fit_over meter count lines more long well before old unended h.1 within.1,
    )
fit_over meter count lines (Voided place ∷ more) long well before old unended h within =
    let M : Installed = carried meter lines in
    let rows : List EntryRow = rows_of M.opening more in
    let first : List EntryRow = rows_of meter.opening lines in
    let a : Around = h.0.around in
    let may = all_three a.row.stands (is_read a.row.kind a.row.entry) (is_free a.next) h.0.voidable in
    let follow = (journals_are_kept M (Voided place ∷ more) well h).account.follow in
    let fits : VoidFits meter (map (moved_row count) rows ++ first) (place + count) = record {
      around = moved_around count first a;
      there = around_over count place rows first a h.0.there;
      voidable = voidable_over count a.row a.next h.0.voidable;
      next = next_over meter count place rows first a a.next well.raw before follow within.0 may.2 (leaves_next M.opening place rows a h.0.there) h.0.next;
    } in (
      subst (λ (rs : List EntryRow). VoidFits meter rs (place + count)) (sym (rows_over meter count lines more long h.1)) fits,
      fit_over meter count lines more long well before old unended h.1 within.1,
    )

pub carried_journals_fit : CarriedJournalsFit
carried_journals_fit meter lines more well h unended more_h within =
    fit_over meter (entered_count lines) lines more (rows_are_kept meter lines well h).count (well_carried meter lines well h)
    (journals_are_kept meter lines well h).account.follow h unended more_h within
