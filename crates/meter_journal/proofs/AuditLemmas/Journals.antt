-- Lemmas: if the rules for meter entries accept each line of a meter's history, then they accept
-- each of its rows after the rows before it.
use Rattle.std.proofs.Common.{◌≡◌, ℕ, ◌<◌, ◌≤◌, ◌==◌, Bool, true, false, nat_lt, if◌then◌else◌, List, [], ◌∷◌, Option, Some, None, refl, sym, ap, subst, ◌∙◌, inl, inr, arith}
use Rattle.std.specs.Option.{option_or}
use Rattle.std.proofs.lemmas.Bool.{cases_Bool, cond-true, cond-false}
use Rattle.std.proofs.lemmas.Option.{same_Some}
use Rattle.energy_core.specs.declared.entries.Last.{Last}
use Rattle.energy_core.specs.declared.entries.Entry.{Entry}
use Rattle.energy_core.specs.declared.entries.Entry.TheVariants as entry
use Rattle.energy_core.specs.Account.{moment_of, AllFollow}
use Rattle.energy_core.proofs.Acceptance.{accepted_is_plausible}
use Rattle.meter_journal.specs.declared.lines.Installed.{Installed}
use Rattle.meter_journal.specs.declared.lines.EntryKind.{EntryKind}
use Rattle.meter_journal.specs.declared.lines.EntryKind.TheVariants as kind
use Rattle.meter_journal.specs.declared.lines.EntryRow.{EntryRow}
use Rattle.meter_journal.specs.Books.{IsWellInstalled, last_after}
use Rattle.meter_journal.specs.Fitting.{reading_at, IsAcceptedAs, EntryFits, IsNextPlausible, is_free, VoidFits, AreFitting}
use Rattle.meter_journal.specs.Journal.{Entered, Held, Voided, Journal, Around, is_read, is_closing, is_ended as journal_ended, entries_in, rows_of, rolled, struck, with_void, if_standing, passed, row_at}
use Rattle.meter_journal.specs.Lists.{AreNumbered}
use Rattle.meter_journal.specs.Standing.{AllStillFit}
use Rattle.meter_journal.proofs.AsEntered.{AreRowsOf, rows_are_entered, rows_are_kept}
use Rattle.meter_journal.proofs.Chains.{last_moment}
use Rattle.meter_journal.proofs.Keeping.{Leaves, all_three, entries_standing, entries_struck, follow_rest, above, by_read, unrolled, mapped_some, leaves, rows_are_sound}
use Rattle.meter_journal.proofs.StillFitting.{NextFits, rolls_of, terms_after, rolled_fits}
use Rattle.meter_journal.proofs.Voiding.{Lower}
use Rattle.meter_journal.specs.Audit.Fitting.{is_ended, last_stands, WasReading, VoidedFits, MayCome, AllFit}
use Rattle.meter_journal.specs.Audit.Laws.{RowsOfJournalsFit}

-- A meter's list of rows contains a closing if and only if its journal (the meter's history)
-- contains a closing.

ended_alike : (whole lines : Journal) (rows : List EntryRow) → AreRowsOf whole lines rows → is_ended rows ≡ journal_ended lines
ended_alike whole [] [] h = refl
ended_alike whole [] (row ∷ rows) h = absurd h
ended_alike whole (Entered k e ∷ lines) [] h = absurd h
ended_alike whole (Entered k e ∷ lines) (row ∷ rows) h =
    ap (λ x. if is_closing x then true else is_ended rows) h.0.kind_is
    ∙ ap (λ b. if is_closing k then true else b) (ended_alike whole lines rows h.1)
ended_alike whole (Held reading cause ∷ lines) rows h = ended_alike whole lines rows h
ended_alike whole (Voided place ∷ lines) rows h = ended_alike whole lines rows h

-- States that no row of the list follows a closing, the last entry of a meter.
abbrev AllUnended : List EntryRow → Type 0
AllUnended [] = Unit {0}
AllUnended (row ∷ rows) = (is_ended rows ≡ false) × AllUnended rows

all_unended : (meter : Installed) (whole lines : Journal) (rows : List EntryRow) → AreFitting meter lines → AreRowsOf whole lines rows → AllUnended rows
all_unended meter whole [] [] fit h = tt
all_unended meter whole [] (row ∷ rows) fit h = absurd h
all_unended meter whole (Entered k e ∷ lines) [] fit h = absurd h
all_unended meter whole (Entered k e ∷ lines) (row ∷ rows) fit h =
    (ended_alike whole lines rows h.1 ∙ fit.0.0, all_unended meter whole lines rows fit.1 h.1)
all_unended meter whole (Held reading cause ∷ lines) rows fit h = all_unended meter whole lines rows fit.1 h
all_unended meter whole (Voided place ∷ lines) rows fit h = all_unended meter whole lines rows fit.1 h

-- States that the rules for meter entries accept each voided (cancelled) row of the list as a
-- voided row after the valid rows before it.
abbrev AllVoidedFit : Installed → List EntryRow → Type 0
AllVoidedFit meter [] = Unit {0}
AllVoidedFit meter (row ∷ rows) =
    (row.stands ≡ false → VoidedFits meter.range (last_after meter (entries_in rows)) row.kind row.entry)
    × AllVoidedFit meter rows

one_at_most : (b : Bool) (n : ℕ) → n ≡ (if b then 1 else 0) → n ≤ 1
one_at_most true n h = omega (arith, h)
one_at_most false n h = omega (arith, h)

-- If the rules for meter entries accepted a reading, then it showed a nonzero count that the
-- counter can show, and is later than the last entry before it.
was_accepted : (meter : Installed) (es : List Entry) (at raw rolls : ℕ) → IsAcceptedAs meter es at raw rolls
    → WasReading meter.range (last_after meter es) at raw rolls
was_accepted meter es at raw rolls h =
    let l : Last = last_after meter es in
    let was = ((accepted_is_plausible meter.range (terms_after meter es) l (reading_at l at raw) rolls h.step).0 h.accepted).0 in
    record {
      accumulated = was.accumulated;
      below = was.below;
      later = was.later;
      once = one_at_most (nat_lt raw l.raw) rolls (rolls_of meter es at raw rolls h);
    }

-- If the rules for meter entries accept a reading as a valid row, then the reading is also
-- acceptable as a voided (cancelled) row.
voided_now : (meter : Installed) (es : List Entry) (k : EntryKind) (e : Entry) → is_read k e ≡ true → EntryFits meter es k e
    → VoidedFits meter.range (last_after meter es) k e
voided_now meter es =
    by_read (λ k e. EntryFits meter es k e → VoidedFits meter.range (last_after meter es) k e)
    (λ at raw rolls h. was_accepted meter es at raw rolls h)

-- If the rules for meter entries accept a voided (cancelled) row after a counter state, then they
-- also accept it after a state with an earlier time.
voided_earlier : (range : ℕ) (l l' : Last) (k : EntryKind) (e : Entry) → l'.at ≤ l.at → VoidedFits range l k e → VoidedFits range l' k e
voided_earlier range l l' kind.Reading (entry.Step at raw rolls) le h =
    record { accumulated = h.accumulated; below = h.below; later = omega (arith, h.later, le); once = h.once }
voided_earlier range l l' kind.Reading (entry.Change at before new sf) le h = absurd h
voided_earlier range l l' kind.Manual e le h = absurd h
voided_earlier range l l' kind.Closing e le h = absurd h
voided_earlier range l l' kind.Reset e le h = absurd h
voided_earlier range l l' kind.Rescale e le h = absurd h

moment_rolled : (k : EntryKind) (last : Last) (place : ℕ) (e : Entry) (stands : Bool)
    → moment_of (rolled last (record { place = place; kind = k; entry = e; stands = stands })).entry ≡ moment_of e
moment_rolled kind.Reading last place (entry.Step at raw rolls) true = refl
moment_rolled kind.Reading last place (entry.Step at raw rolls) false = refl
moment_rolled kind.Reading last place (entry.Change at before new sf) true = refl
moment_rolled kind.Reading last place (entry.Change at before new sf) false = refl
moment_rolled kind.Manual last place e true = refl
moment_rolled kind.Manual last place e false = refl
moment_rolled kind.Closing last place e true = refl
moment_rolled kind.Closing last place e false = refl
moment_rolled kind.Reset last place e true = refl
moment_rolled kind.Reset last place e false = refl
moment_rolled kind.Rescale last place e true = refl
moment_rolled kind.Rescale last place e false = refl

stands_rolled : (k : EntryKind) (last : Last) (place : ℕ) (e : Entry) (stands : Bool)
    → (rolled last (record { place = place; kind = k; entry = e; stands = stands })).stands ≡ stands
stands_rolled kind.Reading last place e true = refl
stands_rolled kind.Reading last place e false = refl
stands_rolled kind.Manual last place e true = refl
stands_rolled kind.Manual last place e false = refl
stands_rolled kind.Closing last place e true = refl
stands_rolled kind.Closing last place e false = refl
stands_rolled kind.Reset last place e true = refl
stands_rolled kind.Reset last place e false = refl
stands_rolled kind.Rescale last place e true = refl
stands_rolled kind.Rescale last place e false = refl

-- After a valid (not voided) row, the time of the last valid entry is the time of the row's entry.
moment_after : (meter : Installed) (row : EntryRow) (rows : List EntryRow) → row.stands ≡ true
    → (last_after meter (entries_in (row ∷ rows))).at ≡ moment_of row.entry
moment_after meter row rows on =
    ap (λ (es : List Entry). (last_after meter es).at) (entries_standing row rows on) ∙ last_moment meter row.entry (entries_in rows)

-- If the latest row is removed from a list of a meter's entries, the time of the last valid (not
-- voided) entry does not become later.
last_without : (meter : Installed) (row : EntryRow) (rows : List EntryRow) → AllFollow meter.range meter.opening (entries_in (row ∷ rows))
    → (last_after meter (entries_in rows)).at ≤ (last_after meter (entries_in (row ∷ rows))).at
last_without meter row rows h =
    elim (cases_Bool row.stands) [
      | inl on ↦
          let follow : AllFollow meter.range meter.opening (row.entry ∷ entries_in rows) =
          subst (AllFollow meter.range meter.opening) (entries_standing row rows on) h in
          omega (arith, follow.0.later, moment_after meter row rows on)
      | inr off ↦ omega (arith, ap (λ (es : List Entry). (last_after meter es).at) (entries_struck row rows off))
    ]

goes_back : (meter : Installed) (place : ℕ) (rows : List EntryRow) → AllFollow meter.range meter.opening (entries_in rows)
    → (last_after meter (entries_in (with_void meter.opening place rows))).at ≤ (last_after meter (entries_in rows)).at
goes_back meter place [] h = omega arith
goes_back meter place (row ∷ rows) h =
    let rest : List EntryRow = with_void meter.opening place rows in
    let l : Last = last_after meter (entries_in rest) in
    elim (cases_Bool (row.place == place)) [
      | inl at ↦
          let made : with_void meter.opening place (row ∷ rows) ≡ struck row ∷ rows = cond-true _ _ _ at in
          omega (
            arith,
            last_without meter row rows h,
            ap (λ (rs : List EntryRow). (last_after meter (entries_in rs)).at) made,
          )
      | inr off ↦
          let made = ap (λ (rs : List EntryRow). (last_after meter (entries_in rs)).at) (above meter.opening place row rows off) in
          elim (cases_Bool row.stands) [
            | inl on ↦
                omega (
                  arith,
                  made,
                  moment_after meter (rolled l row) rest (stands_rolled row.kind l row.place row.entry row.stands ∙ on),
                  moment_rolled row.kind l row.place row.entry row.stands,
                  moment_after meter row rows on,
                )
            | inr not_on ↦
                let same = ap (λ (r : EntryRow). (last_after meter (entries_in (r ∷ rest))).at) (unrolled l row not_on) in
                let new = ap (λ (es : List Entry). (last_after meter es).at) (entries_struck row rest not_on) in
                let old = ap (λ (es : List Entry). (last_after meter es).at) (entries_struck row rows not_on) in
                omega (arith, made, same, new, old, goes_back meter place rows (follow_rest meter row rows false not_on h))
          ]
    ]

-- If an entry is voided (cancelled), then the rules for meter entries still accept all voided rows
-- of the meter as voided rows.

follows_below : (meter : Installed) (row : EntryRow) (rows : List EntryRow) → AllFollow meter.range meter.opening (entries_in (row ∷ rows))
    → AllFollow meter.range meter.opening (entries_in rows)
follows_below meter row rows h = follow_rest meter row rows row.stands refl h

voided_still : (meter : Installed) (place : ℕ) (rows : List EntryRow) (a : Around) → row_at place rows ≡ Some a
    → a.row.stands ≡ true → is_read a.row.kind a.row.entry ≡ true → AllFollow meter.range meter.opening (entries_in rows)
    → AllStillFit meter rows → AllVoidedFit meter rows → AllVoidedFit meter (with_void meter.opening place rows)
voided_still meter place [] a there stands read follow still h = absurd (cc)
voided_still meter place (row ∷ rows) a there stands read follow still h =
    let rest : List EntryRow = with_void meter.opening place rows in
    let l : Last = last_after meter (entries_in rest) in
    elim (cases_Bool (row.place == place)) [
      | inl at ↦
          let made : with_void meter.opening place (row ∷ rows) ≡ struck row ∷ rows = cond-true _ _ _ at in
          let is : (let x : Around = record { before = rows; row = row; next = None } in x) ≡ a = same_Some _ _ (sym (cond-true _ _ _ at) ∙ there) in
          let row_stands : row.stands ≡ true = ap (λ (x : Around). x.row.stands) is ∙ stands in
          let row_read : is_read row.kind row.entry ≡ true = ap (λ (x : Around). is_read x.row.kind x.row.entry) is ∙ read in
          subst (AllVoidedFit meter) (sym made)
          (λ off. voided_now meter (entries_in rows) row.kind row.entry row_read (still.0 row_stands), h.1)
      | inr off ↦
          let found = mapped_some (passed row) (row_at place rows) a (sym (cond-false _ _ _ off) ∙ there) in
          let x : Around = found.0 in
          let is : passed row x ≡ a = found.2 in
          let read_x : is_read x.row.kind x.row.entry ≡ true = ap (λ (y : Around). is_read y.row.kind y.row.entry) is ∙ read in
          let stands_x : x.row.stands ≡ true = ap (λ (y : Around). y.row.stands) is ∙ stands in
          let follow_below = follows_below meter row rows follow in
          let below : AllVoidedFit meter rest = voided_still meter place rows x found.1 stands_x read_x follow_below still.1 h.1 in
          let here : (rolled l row).stands ≡ false → VoidedFits meter.range l (rolled l row).kind (rolled l row).entry =
          λ not_on.
          let off_row : row.stands ≡ false = sym (stands_rolled row.kind l row.place row.entry row.stands) ∙ not_on in
          subst (λ (r : EntryRow). VoidedFits meter.range l r.kind r.entry) (sym (unrolled l row off_row))
          (voided_earlier meter.range (last_after meter (entries_in rows)) l row.kind row.entry (goes_back meter place rows follow_below) (h.0 off_row)) in
          subst (AllVoidedFit meter) (sym (above meter.opening place row rows off)) (here, below)
    ]

all_voided_fit : (meter : Installed) (lines : Journal) → IsWellInstalled meter → AreFitting meter lines → AllVoidedFit meter (rows_of meter.opening lines)
all_voided_fit meter [] well h = tt
all_voided_fit meter (Entered k e ∷ lines) well h =
    (λ off. absurd (let f : true ≡ false = off in cc), all_voided_fit meter lines well h.1)
all_voided_fit meter (Held reading cause ∷ lines) well h = all_voided_fit meter lines well h.1
all_voided_fit meter (Voided place ∷ lines) well h =
    let rows : List EntryRow = rows_of meter.opening lines in
    let fits : VoidFits meter rows place = h.0 in
    let a : Around = fits.around in
    let may = all_three a.row.stands (is_read a.row.kind a.row.entry) (is_free a.next) fits.voidable in
    let sound = rows_are_sound meter lines well.raw h.1 in
    voided_still meter place rows a fits.there may.0 may.1 sound.account.follow sound.still (all_voided_fit meter lines well h.1)

-- States that the rules for valid readings accept each voided (cancelled) row that directly follows
-- a valid row.
abbrev AllAfterFit : Installed → List EntryRow → Type 0
AllAfterFit meter [] = Unit {0}
AllAfterFit meter (row ∷ rows) =
    (row.stands ≡ false → last_stands rows ≡ true → EntryFits meter (entries_in rows) row.kind row.entry)
    × AllAfterFit meter rows

voided_is_read : (range : ℕ) (l : Last) (k : EntryKind) (e : Entry) → VoidedFits range l k e → is_read k e ≡ true
voided_is_read range l kind.Reading (entry.Step at raw rolls) h = refl
voided_is_read range l kind.Reading (entry.Change at before new sf) h = absurd h
voided_is_read range l kind.Manual e h = absurd h
voided_is_read range l kind.Closing e h = absurd h
voided_is_read range l kind.Reset e h = absurd h
voided_is_read range l kind.Rescale e h = absurd h

-- If the rules for meter entries accept a reading after some entries, they also accept it after
-- other entries with the same last entry and at most the same energy.
accepted_lower : (meter : Installed) (es es' : List Entry) (at raw rolls : ℕ) → Lower meter es es' → IsAcceptedAs meter es at raw rolls
    → IsAcceptedAs meter es' at raw rolls
accepted_lower meter es es' at raw rolls low h =
    let same : (if nat_lt raw (last_after meter es').raw then 1 else 0) ≡ rolls =
    ap (λ (l : Last). if nat_lt raw l.raw then 1 else 0) low.last ∙ sym (rolls_of meter es at raw rolls h) in
    subst (IsAcceptedAs meter es' at raw) same
    (rolled_fits meter es es' 0 kind.Reading (entry.Step at raw rolls) true low (λ _. h) refl)

fits_lower : (meter : Installed) (es es' : List Entry) (k : EntryKind) (e : Entry) → is_read k e ≡ true → Lower meter es es'
    → EntryFits meter es k e → EntryFits meter es' k e
fits_lower meter es es' =
    by_read (λ k e. Lower meter es es' → EntryFits meter es k e → EntryFits meter es' k e)
    (λ at raw rolls low h. accepted_lower meter es es' at raw rolls low h)

next_some : (n : Option EntryRow) (row : EntryRow) → row.stands ≡ true → (next : EntryRow) × (option_or n (if_standing row) ≡ Some next)
next_some None row on = (row, cond-true _ _ _ on)
next_some (Some next) row on = (next, refl)

lower_with_next : (meter : Installed) (place : ℕ) (rows : List EntryRow) (a : Around) (n : Option EntryRow) (next : EntryRow)
    → n ≡ Some next → Leaves meter place rows a n → Lower meter (entries_in rows) (entries_in (with_void meter.opening place rows))
lower_with_next meter place rows a None next is h = absurd (cc)
lower_with_next meter place rows a (Some n) next is h = h

-- If the last row is still valid after another row is voided (cancelled), then the last row was
-- valid before the void. The void does not increase the energy of the valid entries.
last_still : (meter : Installed) (place : ℕ) (rows : List EntryRow) (a : Around) → row_at place rows ≡ Some a
    → Leaves meter place rows a a.next → last_stands (with_void meter.opening place rows) ≡ true
    → (last_stands rows ≡ true) × Lower meter (entries_in rows) (entries_in (with_void meter.opening place rows))
last_still meter place [] a there left on = absurd (cc)
last_still meter place (row ∷ rows) a there left on =
    elim (cases_Bool (row.place == place)) [
      | inl at ↦
          let made : with_void meter.opening place (row ∷ rows) ≡ struck row ∷ rows = cond-true _ _ _ at in
          absurd (let f : false ≡ true = sym (ap last_stands made) ∙ on in cc)
      | inr off ↦
          let found = mapped_some (passed row) (row_at place rows) a (sym (cond-false _ _ _ off) ∙ there) in
          let rest : List EntryRow = with_void meter.opening place rows in
          let l : Last = last_after meter (entries_in rest) in
          let stood : row.stands ≡ true =
          sym (stands_rolled row.kind l row.place row.entry row.stands) ∙ sym (ap last_stands (above meter.opening place row rows off)) ∙ on in
          let next = next_some found.0.next row stood in
          let is : a.next ≡ Some next.0 = sym (ap (λ (x : Around). x.next) found.2) ∙ next.1 in
          (stood, lower_with_next meter place (row ∷ rows) a a.next next.0 is left)
    ]

next_below : (meter : Installed) (es : List Entry) (n m : Option EntryRow) → NextFits meter es (option_or n m) → NextFits meter es n
next_below meter es None m h = tt
next_below meter es (Some n) m h = h

after_still : (meter : Installed) (place : ℕ) (rows : List EntryRow) (a : Around) → meter.opening.raw < meter.range
    → row_at place rows ≡ Some a → a.row.stands ≡ true → is_read a.row.kind a.row.entry ≡ true
    → NextFits meter (entries_in a.before) a.next → AllFollow meter.range meter.opening (entries_in rows)
    → AllStillFit meter rows → AllVoidedFit meter rows → AllAfterFit meter rows → AllAfterFit meter (with_void meter.opening place rows)
after_still meter place [] a below there stands read fits follow still voided h = absurd (cc)
after_still meter place (row ∷ rows) a below there stands read fits follow still voided h =
    let rest : List EntryRow = with_void meter.opening place rows in
    let l : Last = last_after meter (entries_in rest) in
    elim (cases_Bool (row.place == place)) [
      | inl at ↦
          let made : with_void meter.opening place (row ∷ rows) ≡ struck row ∷ rows = cond-true _ _ _ at in
          let is : (let x : Around = record { before = rows; row = row; next = None } in x) ≡ a = same_Some _ _ (sym (cond-true _ _ _ at) ∙ there) in
          let row_stands : row.stands ≡ true = ap (λ (x : Around). x.row.stands) is ∙ stands in
          subst (AllAfterFit meter) (sym made) (λ off on. still.0 row_stands, h.1)
      | inr off ↦
          let found = mapped_some (passed row) (row_at place rows) a (sym (cond-false _ _ _ off) ∙ there) in
          let x : Around = found.0 in
          let is : passed row x ≡ a = found.2 in
          let read_x : is_read x.row.kind x.row.entry ≡ true = ap (λ (y : Around). is_read y.row.kind y.row.entry) is ∙ read in
          let stands_x : x.row.stands ≡ true = ap (λ (y : Around). y.row.stands) is ∙ stands in
          let fits_x : NextFits meter (entries_in x.before) x.next =
          next_below meter (entries_in x.before) x.next (if_standing row)
          (subst (λ (y : Around). NextFits meter (entries_in y.before) y.next) (sym is) fits) in
          let follow_below = follows_below meter row rows follow in
          let left = leaves meter place rows x below found.1 stands_x read_x fits_x follow_below still.1 in
          let there_below : AllAfterFit meter rest =
          after_still meter place rows x below found.1 stands_x read_x fits_x follow_below still.1 voided.1 h.1 in
          let here : (rolled l row).stands ≡ false → last_stands rest ≡ true → EntryFits meter (entries_in rest) (rolled l row).kind (rolled l row).entry =
          λ not_on on.
          let off_row : row.stands ≡ false = sym (stands_rolled row.kind l row.place row.entry row.stands) ∙ not_on in
          let last = last_still meter place rows x found.1 left.0 on in
          let was_read : is_read row.kind row.entry ≡ true =
          voided_is_read meter.range (last_after meter (entries_in rows)) row.kind row.entry (voided.0 off_row) in
          subst (λ (r : EntryRow). EntryFits meter (entries_in rest) r.kind r.entry) (sym (unrolled l row off_row))
          (fits_lower meter (entries_in rows) (entries_in rest) row.kind row.entry was_read last.1 (h.0 off_row last.0)) in
          subst (AllAfterFit meter) (sym (above meter.opening place row rows off)) (here, there_below)
    ]

next_where_free : (meter : Installed) (es : List Entry) (next : Option EntryRow) → is_free next ≡ true → IsNextPlausible meter es next
    → NextFits meter es next
next_where_free meter es None free h = tt
next_where_free meter es (Some next) free h = (free, h)

all_after_fit : (meter : Installed) (lines : Journal) → IsWellInstalled meter → AreFitting meter lines → AllAfterFit meter (rows_of meter.opening lines)
all_after_fit meter [] well h = tt
all_after_fit meter (Entered k e ∷ lines) well h =
    (λ off. absurd (let f : true ≡ false = off in cc), all_after_fit meter lines well h.1)
all_after_fit meter (Held reading cause ∷ lines) well h = all_after_fit meter lines well h.1
all_after_fit meter (Voided place ∷ lines) well h =
    let rows : List EntryRow = rows_of meter.opening lines in
    let fits : VoidFits meter rows place = h.0 in
    let a : Around = fits.around in
    let may = all_three a.row.stands (is_read a.row.kind a.row.entry) (is_free a.next) fits.voidable in
    let sound = rows_are_sound meter lines well.raw h.1 in
    after_still meter place rows a well.raw fits.there may.0 may.1 (next_where_free meter (entries_in a.before) a.next may.2 fits.next)
    sound.account.follow sound.still (all_voided_fit meter lines well h.1) (all_after_fit meter lines well h.1)

may_come : (meter : Installed) (es : List Entry) (stands : Bool) (k : EntryKind) (e : Entry) → (stands ≡ true → EntryFits meter es k e)
    → (stands ≡ false → VoidedFits meter.range (last_after meter es) k e) → MayCome meter es stands k e
may_come meter es true k e on off = on refl
may_come meter es false k e on off = off refl

all_fit : (meter : Installed) (rows : List EntryRow) → AreNumbered rows → AllUnended rows → AllStillFit meter rows → AllVoidedFit meter rows
    → AllAfterFit meter rows → AllFit meter rows
all_fit meter [] numbers unended still voided following = tt
all_fit meter (row ∷ rows) numbers unended still voided following = (
  record {
    place = numbers.0;
    unended = unended.0;
    entry = may_come meter (entries_in rows) row.stands row.kind row.entry still.0 voided.0;
    voided_after = following.0;
  },
  all_fit meter rows numbers.1 unended.1 still.1 voided.1 following.1,
)

pub rows_of_journals_fit : RowsOfJournalsFit
rows_of_journals_fit meter lines well h =
    let rows : List EntryRow = rows_of meter.opening lines in
    all_fit meter rows (rows_are_kept meter lines well h).places
    (all_unended meter lines lines rows h (rows_are_entered meter lines h).rows)
    (rows_are_sound meter lines well.raw h).still (all_voided_fit meter lines well h) (all_after_fit meter lines well h)
