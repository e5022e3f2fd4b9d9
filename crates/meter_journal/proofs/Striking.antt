-- Lemmas: voiding (cancelling) an entry changes only its row, the row of the next valid entry, and
-- the steps (energies) to and from the entry.
use Rattle.std.proofs.Common.{◌≡◌, ℕ, ◌+◌, ◌<◌, ◌≤◌, ◌==◌, Bool, true, false, cond, ◌&&◌, List, [], ◌∷◌, map, length, refl, sym, ap, subst, ◌∙◌, inl, inr, ◌⊎◌, Option, Some, None, arith, eq-eqb, nat_lt, if◌then◌else◌}
use Rattle.std.specs.Option.{option_or}
use Rattle.std.proofs.lemmas.Bool.{cases_Bool, cond-true, cond-false, eqb-true}
use Rattle.std.proofs.lemmas.Bool.Decides.{nat_tests}
use Rattle.std.proofs.lemmas.Option.{same_Some}
use Rattle.energy_core.specs.declared.entries.Last.{Last}
use Rattle.energy_core.specs.declared.entries.Step.{Step}
use Rattle.energy_core.specs.declared.entries.Entry.{Entry}
use Rattle.energy_core.specs.declared.entries.Entry.TheVariants as entry
use Rattle.energy_core.specs.Account.{after, step_to, AllFollow}
use Rattle.meter_journal.specs.declared.lines.Installed.{Installed}
use Rattle.meter_journal.specs.declared.lines.EntryKind.{EntryKind}
use Rattle.meter_journal.specs.declared.lines.EntryKind.TheVariants as kind
use Rattle.meter_journal.specs.declared.lines.EntryRow.{EntryRow}
use Rattle.meter_journal.specs.Books.{last_after, steps_after}
use Rattle.meter_journal.specs.Journal.{Around, is_reading, is_read, entries_in, with_rolls, rolled, struck, with_void, if_standing, passed, row_at}
use Rattle.meter_journal.specs.Fitting.{is_free}
use Rattle.meter_journal.specs.Lists.{AreNumbered, following}
use Rattle.meter_journal.specs.Standing.{AllStillFit}
use Rattle.meter_journal.specs.Voids.{last_before, is_next, changed_by, steps_out, steps_put}
use Rattle.meter_journal.proofs.AsEntered.{settled, row_with, rolled_is}
use Rattle.meter_journal.proofs.Chains.{last_moment, not_before}
use Rattle.meter_journal.proofs.Forward.{last_on}
use Rattle.meter_journal.proofs.Keeping.{IsGap, entries_standing, entries_struck, follow_rest, above, here, unrolled, mapped_some}
use Rattle.meter_journal.proofs.StillFitting.{StandFits}

-- If the rules for meter entries accept a row, then recomputing its rollovers leaves the row
-- unchanged.
rolled_alike : (meter : Installed) (es : List Entry) (n : ℕ) (k : EntryKind) (e : Entry) (stands : Bool)
    → StandFits meter es (row_with n k e stands) → rolled (last_after meter es) (row_with n k e stands) ≡ row_with n k e stands
rolled_alike meter es n k e false fits = refl
rolled_alike meter es n k e true fits =
    rolled_is (last_after meter es) n k e ∙ ap (λ x. row_with n k x true) (settled meter es k e (fits refl))

pub rolled_same : (meter : Installed) (es : List Entry) (row : EntryRow) → StandFits meter es row → rolled (last_after meter es) row ≡ row
rolled_same meter es row fits = rolled_alike meter es row.place row.kind row.entry row.stands fits

-- Suppose that an entry is voided (cancelled). If a row is neither the voided row nor the next
-- valid row, then the void leaves it unchanged.
unchanged : (place : ℕ) (next : Option EntryRow) (l : Last) (row : EntryRow) → row.place == place ≡ false → is_next next row ≡ false
    → changed_by place next l row ≡ row
unchanged place next l row off other = cond-false _ _ _ off ∙ cond-false _ _ _ other

all_unchanged : (place : ℕ) (l : Last) (rows : List EntryRow) → AreNumbered rows → length rows + 2 ≤ place
    → map (changed_by place None l) rows ≡ rows
all_unchanged place l [] h le = refl
all_unchanged place l (row ∷ rows) h le =
    let off : row.place == place ≡ false = let is : row.place ≡ length rows + 2 = h.0 in grind (arith, nat_tests, is, le) in
    ap (λ r. r ∷ map (changed_by place None l) rows) (unchanged place None l row off refl)
    ∙ ap (λ rs. row ∷ rs) (all_unchanged place l rows h.1 (omega (arith, le)))

-- Suppose that an entry is voided (cancelled), and `next` is the next valid row after it. In a list
-- of rows that all precede `next`, only the row of the voided entry changes.
next_above : (place : ℕ) (next : EntryRow) (l : Last) (rows : List EntryRow) → AreNumbered rows → length rows + 2 ≤ next.place
    → map (changed_by place (Some next) l) rows ≡ map (changed_by place None l) rows
next_above place next l [] h le = refl
next_above place next l (row ∷ rows) h le =
    let off : row.place == next.place ≡ false = let is : row.place ≡ length rows + 2 = h.0 in grind (arith, nat_tests, is, le) in
    let same : changed_by place (Some next) l row ≡ changed_by place None l row =
    ap (λ (r : EntryRow). if row.place == place then struck row else r) (cond-false _ _ _ off) in
    ap (λ r. r ∷ map (changed_by place (Some next) l) rows) same
    ∙ ap (λ rs. changed_by place None l row ∷ rs) (next_above place next l rows h.1 (omega (arith, le)))

-- The sum of the weights `w step` of all steps (energies between entries) of a list.

abbrev pub weigh : (Step → ℕ) → List Step → ℕ
weigh w [] = 0
weigh w (step ∷ steps) = w step + weigh w steps

-- The number that the function `w` gives to the step (the energy since the last valid entry) to a
-- row's entry, or 0 if the row is voided (cancelled).
abbrev weigh_to : (Step → ℕ) → Installed → Last → EntryRow → ℕ
weigh_to w meter last row = cond row.stands (w (step_to meter.range last row.entry)) 0

weigh_row : (w : Step → ℕ) (meter : Installed) (row : EntryRow) (rows : List EntryRow)
    → weigh w (steps_after meter (entries_in (row ∷ rows)))
    ≡ weigh_to w meter (last_after meter (entries_in rows)) row + weigh w (steps_after meter (entries_in rows))
weigh_row w meter row rows =
    elim (cases_Bool row.stands) [
      | inl on ↦
          let l : Last = last_after meter (entries_in rows) in
          let here : weigh_to w meter l row ≡ w (step_to meter.range l row.entry) = cond-true _ _ _ on in
          let all = ap (λ es. weigh w (steps_after meter es)) (entries_standing row rows on) in
          omega (arith, here, all)
      | inr off ↦
          let l : Last = last_after meter (entries_in rows) in
          let here : weigh_to w meter l row ≡ 0 = cond-false _ _ _ off in
          let all = ap (λ es. weigh w (steps_after meter es)) (entries_struck row rows off) in
          omega (arith, here, all)
    ]

-- States that each step (the energy between two entries) of the list ends after it begins, and lies
-- between the times `opened` and `last`.
abbrev pub AllBetween : (opened last : ℕ) → List Step → Type 0
AllBetween opened last [] = Unit {0}
AllBetween opened last (step ∷ steps) = (opened ≤ step.from) × (step.from < step.till) × (step.till ≤ last) × AllBetween opened last steps

between_later : (opened m n : ℕ) (steps : List Step) → m ≤ n → AllBetween opened m steps → AllBetween opened n steps
between_later opened m n [] le h = tt
between_later opened m n (step ∷ steps) le h = (h.0, h.1, omega (arith, h.2, le), between_later opened m n steps le h.3)

-- States that a step (the energy between two entries) is an element of the given list of steps.
abbrev pub IsOneOf : Step → List Step → Type 0
IsOneOf step [] = ⊥
IsOneOf step (first ∷ steps) = (first ≡ step) ⊎ IsOneOf step steps

-- States that the steps (energies between entries) of the entries `es'` are those of `es`, without
-- the steps `out` and with the steps `put`.
pub record AreMoved (meter : Installed) (es es' : List Entry) (out put : List Step) : Type 0 where
  pub moves : (w : Step → ℕ) → weigh w (steps_after meter es) + weigh w put ≡ weigh w (steps_after meter es') + weigh w out
  pub within : (w : Step → ℕ) → weigh w out ≤ weigh w (steps_after meter es)
  pub was : (step : Step) → IsOneOf step out → IsOneOf step (steps_after meter es)
  pub is : (step : Step) → IsOneOf step put → IsOneOf step (steps_after meter es')
  pub out_between : AllBetween meter.opening.at (last_after meter es).at out
  pub write_between : AllBetween meter.opening.at (last_after meter es).at put

-- The steps (energies between entries) that are removed when an entry is voided (cancelled), if
-- `next` is the next valid row.
abbrev pub out_to : Installed → Around → Option EntryRow → List Step
out_to meter x next = steps_out meter (record { before = x.before; row = x.row; next = next })

abbrev pub write_to : Installed → Around → Option EntryRow → List Step
write_to meter x next = steps_put meter (record { before = x.before; row = x.row; next = next })

-- States that the voided (cancelled) entry was the last valid entry of the meter.
pub record IsLast (meter : Installed) (place : ℕ) (rows : List EntryRow) (x : Around) : Type 0 where
  pub gap : IsGap meter.opening place rows x
  pub rows_are : with_void meter.opening place rows ≡ map (changed_by place None (last_before meter.opening x)) rows

-- States that the row `next` is the next valid row after the voided (cancelled) row, and that its
-- rollovers are recomputed.
pub record IsFollowed (meter : Installed) (place : ℕ) (rows : List EntryRow) (x : Around) (next : EntryRow) : Type 0 where
  pub rows_are : with_void meter.opening place rows ≡ map (changed_by place (Some next) (last_before meter.opening x)) rows
  pub last : last_after meter (entries_in (with_void meter.opening place rows)) ≡ last_after meter (entries_in rows)
  pub below : next.place < length rows + 2
  pub moved : AreMoved meter (entries_in rows) (entries_in (with_void meter.opening place rows)) (out_to meter x (Some next)) (write_to meter x (Some next))

abbrev pub Changes : Installed → (place : ℕ) → List EntryRow → Around → Option EntryRow → Type 0
Changes meter place rows x None = IsLast meter place rows x
Changes meter place rows x (Some next) = IsFollowed meter place rows x next

-- If a row is added to a meter's list of entry rows, then the time of the last valid (not voided)
-- entry never decreases.
last_grows : (meter : Installed) (row : EntryRow) (rows : List EntryRow) → AllFollow meter.range meter.opening (entries_in (row ∷ rows))
    → (last_after meter (entries_in rows)).at ≤ (last_after meter (entries_in (row ∷ rows))).at
last_grows meter row rows h =
    elim (cases_Bool row.stands) [
      | inl on ↦
          let is : entries_in (row ∷ rows) ≡ row.entry ∷ entries_in rows = entries_standing row rows on in
          let follow : AllFollow meter.range meter.opening (row.entry ∷ entries_in rows) = subst (AllFollow meter.range meter.opening) is h in
          omega (
            arith,
            follow.0.later,
            last_moment meter row.entry (entries_in rows),
            ap (λ (es : List Entry). (last_after meter es).at) is,
          )
      | inr off ↦ omega (arith, ap (λ (es : List Entry). (last_after meter es).at) (entries_struck row rows off))
    ]

-- If a row is added to a list of entry rows, then all steps (energies between consecutive entries)
-- of the earlier rows stay.
one_below : (meter : Installed) (row : EntryRow) (rows : List EntryRow) (step : Step) → IsOneOf step (steps_after meter (entries_in rows))
    → IsOneOf step (steps_after meter (entries_in (row ∷ rows)))
one_below meter row rows step there =
    elim (cases_Bool row.stands) [
      | inl on ↦ subst (λ (es : List Entry). IsOneOf step (steps_after meter es)) (sym (entries_standing row rows on)) (inr there)
      | inr off ↦ subst (λ (es : List Entry). IsOneOf step (steps_after meter es)) (sym (entries_struck row rows off)) there
    ]

-- `IsFollowed` describes how the void (cancellation) of an entry changes the next valid row. It is
-- still true if a row is added after that row.
row_after : (meter : Installed) (place : ℕ) (row : EntryRow) (rows : List EntryRow) (x : Around) (next : EntryRow)
    → row.place == place ≡ false → AreNumbered (row ∷ rows) → StandFits meter (entries_in rows) row
    → AllFollow meter.range meter.opening (entries_in (row ∷ rows))
    → IsFollowed meter place rows x next → IsFollowed meter place (row ∷ rows) (passed row x) next
row_after meter place row rows x next off numbers fits follow h =
    let rest : List EntryRow = with_void meter.opening place rows in
    let l : Last = last_after meter (entries_in rows) in
    let kept : rolled (last_after meter (entries_in rest)) row ≡ row =
    ap (λ (k : Last). rolled k row) h.last ∙ rolled_same meter (entries_in rows) row fits in
    let made : with_void meter.opening place (row ∷ rows) ≡ row ∷ rest =
    above meter.opening place row rows off ∙ ap (λ (r : EntryRow). r ∷ rest) kept in
    let other : row.place == next.place ≡ false =
    let is : row.place ≡ length rows + 2 = numbers.0 in let lt = h.below in grind (arith, nat_tests, is, lt) in
    let change : EntryRow → EntryRow = changed_by place (Some next) (last_before meter.opening x) in
    let entries : entries_in (with_void meter.opening place (row ∷ rows)) ≡ entries_in (row ∷ rest) = ap entries_in made in
    let grown : l.at ≤ (last_after meter (entries_in (row ∷ rows))).at = last_grows meter row rows follow in
    record {
      rows_are = made ∙ ap (λ rs. row ∷ rs) h.rows_are
          ∙ ap (λ r. r ∷ map change rows) (sym (unchanged place (Some next) (last_before meter.opening x) row off other));
      last = ap (last_after meter) entries ∙ last_on meter.opening row rest ∙ ap (λ (k : Last). following k row) h.last
          ∙ sym (last_on meter.opening row rows);
      below = omega (arith, h.below);
      moved = record {
        moves = λ w.
            omega (
              arith,
              h.moved.moves w,
              weigh_row w meter row rows,
              weigh_row w meter row rest,
              ap (λ (k : Last). weigh_to w meter k row) h.last,
              ap (λ es. weigh w (steps_after meter es)) entries,
            );
        within = λ w. omega (arith, h.moved.within w, weigh_row w meter row rows);
        was = λ step there. one_below meter row rows step (h.moved.was step there);
        is = λ step there.
            subst (λ (es : List Entry). IsOneOf step (steps_after meter es)) (sym entries) (one_below meter row rest step (h.moved.is step there));
        out_between = between_later meter.opening.at l.at (last_after meter (entries_in (row ∷ rows))).at (out_to meter x (Some next)) grown h.moved.out_between;
        write_between = between_later meter.opening.at l.at (last_after meter (entries_in (row ∷ rows))).at (write_to meter x (Some next)) grown h.moved.write_between;
      };
    }

-- If the entry to be voided (cancelled) was the last valid entry (`IsLast`), this stays true after
-- a row that is not valid is added.
struck_after : (meter : Installed) (place : ℕ) (row : EntryRow) (rows : List EntryRow) (x : Around)
    → row.place == place ≡ false → row.stands ≡ false
    → IsLast meter place rows x → IsLast meter place (row ∷ rows) (passed row x)
struck_after meter place row rows x off struck h =
    let rest : List EntryRow = with_void meter.opening place rows in
    let l : Last = last_before meter.opening x in
    let made : with_void meter.opening place (row ∷ rows) ≡ row ∷ rest =
    above meter.opening place row rows off ∙ ap (λ (r : EntryRow). r ∷ rest) (unrolled (last_after meter (entries_in rest)) row struck) in
    record {
      gap = record {
        old = entries_struck row rows struck ∙ h.gap.old;
        new = ap entries_in made ∙ entries_struck row rest struck ∙ h.gap.new;
      };
      rows_are = made ∙ ap (λ rs. row ∷ rs) h.rows_are
          ∙ ap (λ r. r ∷ map (changed_by place None l) rows) (sym (unchanged place None l row off refl));
    }

-- States that the entry row is an accepted meter reading.
record IsRead (row : EntryRow) : Type 0 where
  reading : is_reading row.kind ≡ true
  at : ℕ
  raw : ℕ
  rolls : ℕ
  step : row.entry ≡ entry.Step at raw rolls

read_of : (n : ℕ) (k : EntryKind) (e : Entry) (b : Bool) → is_read k e ≡ true → IsRead (row_with n k e b)
read_of n kind.Reading (entry.Step at raw rolls) b is = record { reading = refl; at = at; raw = raw; rolls = rolls; step = refl }
read_of n kind.Reading (entry.Change at before new sf) b is = absurd (let f : false ≡ true = is in cc)
read_of n kind.Manual e b is = absurd (let f : false ≡ true = is in cc)
read_of n kind.Closing e b is = absurd (let f : false ≡ true = is in cc)
read_of n kind.Reset e b is = absurd (let f : false ≡ true = is in cc)
read_of n kind.Rescale e b is = absurd (let f : false ≡ true = is in cc)

-- A reading leaves the counter's scale factor unchanged. The state after the reading depends only
-- on the reading and on the scale factor before it.
after_step : (l l' : Last) (at raw rolls rolls' : ℕ) → l.sf ≡ l'.sf → after l (entry.Step at raw rolls) ≡ after l' (entry.Step at raw rolls')
after_step l l' at raw rolls rolls' is = ap (λ sf. let k : Last = record { at = at; raw = raw; sf = sf } in k) is

rolled_stands : (l : Last) (row : EntryRow) → row.stands ≡ true → is_reading row.kind ≡ true
    → rolled l row ≡ record row { entry = with_rolls l row.entry }
rolled_stands l row on reading = cond-true _ _ _ (ap (λ b. b && is_reading row.kind) on ∙ reading)

-- If an entry before a reading is removed, then one step (energy) to the reading replaces the two
-- steps to and from the removed entry.
next_moved : (meter : Installed) (before : List Entry) (e0 : Entry) (at raw rolls rolls' : ℕ)
    → AllFollow meter.range meter.opening (entry.Step at raw rolls ∷ e0 ∷ before)
    → AreMoved meter (entry.Step at raw rolls ∷ e0 ∷ before) (entry.Step at raw rolls' ∷ before)
    (step_to meter.range (after (last_after meter before) e0) (entry.Step at raw rolls) ∷ step_to meter.range (last_after meter before) e0 ∷ [])
    (step_to meter.range (last_after meter before) (entry.Step at raw rolls') ∷ [])
next_moved meter before e0 at raw rolls rolls' h =
    let begun = not_before meter before h.1.1 in
    let there = last_moment meter e0 before in
    let first = h.1.0.later in
    let second = h.0.later in
    record {
      moves = λ w. omega arith;
      within = λ w. omega arith;
      was = λ step there. elim there [
        | inl first ↦ inl first
        | inr more ↦ elim more [ inl second ↦ inr (inl second) | inr none ↦ absurd none ]
      ];
      is = λ step there. elim there [ inl first ↦ inl first | inr none ↦ absurd none ];
      out_between = (omega (arith, begun, there, first), second, omega arith, (begun, first, omega (arith, there, second), tt));
      write_between = (begun, omega (arith, there, first, second), omega arith, tt);
    }

-- If the voided (cancelled) entry was the last valid entry, then a valid reading that is added
-- becomes the next valid entry (`IsFollowed`).
next_after : (meter : Installed) (place : ℕ) (row : EntryRow) (rows : List EntryRow) (x : Around)
    → row.place == place ≡ false → row.stands ≡ true → is_read row.kind row.entry ≡ true → is_read x.row.kind x.row.entry ≡ true
    → AreNumbered (row ∷ rows) → AllFollow meter.range meter.opening (entries_in (row ∷ rows))
    → IsLast meter place rows x → IsFollowed meter place (row ∷ rows) (passed row x) row
next_after meter place row rows x off on is is0 numbers follow h =
    let rest : List EntryRow = with_void meter.opening place rows in
    let before : List Entry = entries_in x.before in
    let l : Last = last_after meter before in
    let read = read_of row.place row.kind row.entry row.stands is in
    let read0 = read_of x.row.place x.row.kind x.row.entry x.row.stands is0 in
    let fewer : ℕ = if nat_lt read.raw l.raw then 1 else 0 in
    let next : EntryRow = rolled l row in
    let made : with_void meter.opening place (row ∷ rows) ≡ next ∷ rest =
    above meter.opening place row rows off ∙ ap (λ es. rolled (last_after meter es) row ∷ rest) h.gap.new in
    let next_is : next ≡ record row { entry = with_rolls l row.entry } = rolled_stands l row on read.reading in
    let next_on : next.stands ≡ true = ap (λ (r : EntryRow). r.stands) next_is ∙ on in
    let next_step : next.entry ≡ entry.Step read.at read.raw fewer = ap (λ (r : EntryRow). r.entry) next_is ∙ ap (with_rolls l) read.step in
    let old : entries_in (row ∷ rows) ≡ entry.Step read.at read.raw read.rolls ∷ x.row.entry ∷ before =
    entries_standing row rows on ∙ ap (λ es. row.entry ∷ es) h.gap.old ∙ ap (λ e. e ∷ x.row.entry ∷ before) read.step in
    let new : entries_in (with_void meter.opening place (row ∷ rows)) ≡ entry.Step read.at read.raw fewer ∷ before =
    ap entries_in made ∙ entries_standing next rest next_on ∙ ap (λ es. next.entry ∷ es) h.gap.new ∙ ap (λ e. e ∷ before) next_step in
    let scale : l.sf ≡ (after l x.row.entry).sf = ap (λ e. (after l e).sf) (sym read0.step) in
    let moved = next_moved meter before x.row.entry read.at read.raw read.rolls fewer (subst (AllFollow meter.range meter.opening) old follow) in
    let change : EntryRow → EntryRow = changed_by place (Some row) l in
    let itself : change row ≡ next = cond-false _ _ _ off ∙ cond-true _ _ _ (eq-eqb row.place row.place refl) in
    record {
      rows_are = made ∙ ap (λ rs. next ∷ rs) (h.rows_are
          ∙ sym (next_above place row l rows numbers.1 (let at : row.place ≡ length rows + 2 = numbers.0 in omega (arith, at))))
          ∙ ap (λ r. r ∷ map change rows) (sym itself);
      last = ap (last_after meter) new ∙ after_step l (after l x.row.entry) read.at read.raw fewer read.rolls scale ∙ sym (ap (last_after meter) old);
      below = omega (arith, numbers.0);
      moved = subst (λ (e : Entry). AreMoved meter (entries_in (row ∷ rows)) (entries_in (with_void meter.opening place (row ∷ rows)))
          (step_to meter.range (after l x.row.entry) e ∷ step_to meter.range l x.row.entry ∷ [])
          (step_to meter.range l next.entry ∷ [])) (sym read.step)
          (subst (λ (e : Entry). AreMoved meter (entries_in (row ∷ rows)) (entries_in (with_void meter.opening place (row ∷ rows)))
          (step_to meter.range (after l x.row.entry) (entry.Step read.at read.raw read.rolls) ∷ step_to meter.range l x.row.entry ∷ [])
          (step_to meter.range l e ∷ [])) (sym next_step)
          (subst (λ (es : List Entry). AreMoved meter es (entries_in (with_void meter.opening place (row ∷ rows)))
          (step_to meter.range (after l x.row.entry) (entry.Step read.at read.raw read.rolls) ∷ step_to meter.range l x.row.entry ∷ [])
          (step_to meter.range l (entry.Step read.at read.raw fewer) ∷ [])) (sym old)
          (subst (λ (es : List Entry). AreMoved meter (entry.Step read.at read.raw read.rolls ∷ x.row.entry ∷ before) es
          (step_to meter.range (after l x.row.entry) (entry.Step read.at read.raw read.rolls) ∷ step_to meter.range l x.row.entry ∷ [])
          (step_to meter.range l (entry.Step read.at read.raw fewer) ∷ [])) (sym new) moved)));
    }

one_after : (meter : Installed) (place : ℕ) (row : EntryRow) (rows : List EntryRow) (x : Around) (n : Option EntryRow) (stands : Bool)
    → row.stands ≡ stands → row.place == place ≡ false → is_read x.row.kind x.row.entry ≡ true
    → is_free (option_or n (cond stands (Some row) None)) ≡ true
    → AreNumbered (row ∷ rows) → StandFits meter (entries_in rows) row
    → AllFollow meter.range meter.opening (entries_in (row ∷ rows))
    → Changes meter place rows x n → Changes meter place (row ∷ rows) (passed row x) (option_or n (cond stands (Some row) None))
one_after meter place row rows x (Some next) stands is off read free numbers fits follow h =
    row_after meter place row rows x next off numbers fits follow h
one_after meter place row rows x None true is off read free numbers fits follow h =
    next_after meter place row rows x off is free read numbers follow h
one_after meter place row rows x None false is off read free numbers fits follow h =
    struck_after meter place row rows x off is h

free_before : (n m : Option EntryRow) → is_free (option_or n m) ≡ true → is_free n ≡ true
free_before None m h = refl
free_before (Some next) m h = h

pub changes : (meter : Installed) (place : ℕ) (rows : List EntryRow) (a : Around)
    → row_at place rows ≡ Some a → a.row.stands ≡ true → is_read a.row.kind a.row.entry ≡ true → is_free a.next ≡ true
    → AreNumbered rows → AllStillFit meter rows → AllFollow meter.range meter.opening (entries_in rows)
    → Changes meter place rows a a.next
changes meter place [] a there on read free numbers still follow = absurd (cc)
changes meter place (row ∷ rows) a there on read free numbers still follow =
    elim (cases_Bool (row.place == place)) [
      | inl at ↦
          let found : Around = record { before = rows; row = row; next = None } in
          let is : found ≡ a = same_Some _ _ (sym (cond-true _ _ _ at) ∙ there) in
          let on_row : row.stands ≡ true = ap (λ (x : Around). x.row.stands) is ∙ on in
          let l : Last = last_before meter.opening found in
          let place_is : row.place ≡ place = eqb-true row.place place at in
          let below : length rows + 2 ≤ place = let n : row.place ≡ length rows + 2 = numbers.0 in omega (arith, n, place_is) in
          let made : with_void meter.opening place (row ∷ rows) ≡ struck row ∷ rows = cond-true _ _ _ at in
          let itself : changed_by place None l row ≡ struck row = cond-true _ _ _ at in
          subst (λ (x : Around). Changes meter place (row ∷ rows) x x.next) is (record {
            gap = here meter.opening place row rows on_row at;
            rows_are = made ∙ ap (λ rs. struck row ∷ rs) (sym (all_unchanged place l rows numbers.1 below))
                ∙ ap (λ r. r ∷ map (changed_by place None l) rows) (sym itself);
          })
      | inr off ↦
          let found = mapped_some (passed row) (row_at place rows) a (sym (cond-false _ _ _ off) ∙ there) in
          let x : Around = found.0 in
          let is : passed row x ≡ a = found.2 in
          let free_x : is_free (option_or x.next (if_standing row)) ≡ true = ap (λ (y : Around). is_free y.next) is ∙ free in
          let read_x : is_read x.row.kind x.row.entry ≡ true = ap (λ (y : Around). is_read y.row.kind y.row.entry) is ∙ read in
          let on_x : x.row.stands ≡ true = ap (λ (y : Around). y.row.stands) is ∙ on in
          let rest : Changes meter place rows x x.next =
          changes meter place rows x found.1 on_x read_x (free_before x.next (if_standing row) free_x) numbers.1 still.1
          (follow_rest meter row rows row.stands refl follow) in
          subst (λ (y : Around). Changes meter place (row ∷ rows) y y.next) is
          (one_after meter place row rows x x.next row.stands refl off read_x free_x numbers still.0 follow rest)
    ]
