-- Lemmas: if a meter continues from an old database file into a new file, the tables of both files
-- together are those of one meter.
use Rattle.std.proofs.Common.{◌≡◌, ℕ, ◌+◌, ◌-◌, ◌<◌, Bool, true, false, cond, List, [], ◌∷◌, ◌++◌, map, take, length, append_assoc, refl, sym, ap, subst, ◌∙◌, arith}
use Rattle.std.specs.Prelude.{ℤ}
use Rattle.std.proofs.lemmas.List.{length-append}
use Rattle.std.proofs.Math.Seq.{take-append_seam}
use Rattle.energy_core.specs.declared.entries.Entry.{Entry}
use Rattle.energy_core.specs.declared.entries.Last.{Last}
use Rattle.energy_core.specs.Account.{AllFollow}
use Rattle.energy_core.proofs.Soundness.{accounts_are_sound}
use Rattle.interval_core.specs.declared.shares.Share.{Share}
use Rattle.interval_core.specs.Account.{SharesAddUp, IsAscending, starts_of}
use Rattle.meter_journal.specs.declared.lines.EntryKind.{EntryKind}
use Rattle.meter_journal.specs.declared.lines.EntryRow.{EntryRow}
use Rattle.meter_journal.specs.declared.lines.Installed.{Installed}
use Rattle.meter_journal.specs.Books.{IsWellInstalled, last_after, total_after, steps_after}
use Rattle.meter_journal.specs.Fitting.{EntryFits}
use Rattle.meter_journal.specs.Intervals.{with_shares, rows_of_steps}
use Rattle.meter_journal.specs.Journal.{is_closing, entries_in}
use Rattle.meter_journal.proofs.InTime.{in_time}
use Rattle.meter_journal.proofs.Keeping.{last_under}
use Rattle.meter_journal.proofs.Merging.{rows_are_accounts}
use Rattle.meter_journal.specs.declared.audit.rows.TableRow.{TableRow}
use Rattle.meter_journal.specs.Audit.Fitting.{VoidedFits, MayCome, RowFits, AllFit, is_ended, last_stands}
use Rattle.meter_journal.specs.Audit.Rows.{scale_after, table_row, opening_row, later_rows}
use Rattle.meter_journal.proofs.AuditLemmas.Alone.{fitting_account}
use Rattle.meter_journal.specs.Audit.Carried.{moved_row, AreCountedOnce}
use Rattle.meter_journal.specs.Audit.CarriedTables.{carried_from, joined_rows, moved_reported, without_opening, EntriesStayWithin, CarriedTablesAreOne, CarriedTablesAreFine}
use Rattle.meter_journal.proofs.AuditLemmas.CarriedLemmas.Fitting.{HasRoom, fits_over}
use Rattle.meter_journal.proofs.AuditLemmas.CarriedLemmas.Over.{left_by, last_over, follow_over, steps_over, total_over, entries_over, place_over}
use Rattle.meter_journal.proofs.AuditLemmas.CarriedLemmas.Quarters.{rows_of_both, counted_once}

-- If the rules for meter entries accept the meter's rows in the old database file, then the meter's
-- opening (first entry) in the new file is valid.
well_from : (meter : Installed) (old : List EntryRow) → IsWellInstalled meter → AllFit meter old → IsWellInstalled (carried_from meter old)
well_from meter old well h =
    let sound = accounts_are_sound meter.range meter.opening (entries_in old) _ _ well.raw well.scale (fitting_account meter old well h) in
    record { raw = sound.raw; scale = sound.scale }

scale_over : (meter : Installed) (count : ℕ) (rows old : List EntryRow)
    → scale_after meter (map (moved_row count) rows ++ old) ≡ scale_after (carried_from meter old) rows
scale_over meter count rows old =
    ap (λ (es : List Entry). (last_after meter es).sf) (entries_over count rows old)
    ∙ ap (λ (l : Last). l.sf) (last_over meter.opening (entries_in rows) (entries_in old))

later_over : (meter : Installed) (count : ℕ) (rows old : List EntryRow)
    → later_rows meter (map (moved_row count) rows ++ old) ≡ map (moved_reported count) (later_rows (carried_from meter old) rows) ++ later_rows meter old
later_over meter count [] old = refl
later_over meter count (row ∷ rows) old =
    ap (λ (sf : ℤ). table_row sf (moved_row count row) ∷ later_rows meter (map (moved_row count) rows ++ old)) (scale_over meter count (row ∷ rows) old)
    ∙ ap (λ (reported : List TableRow). table_row (scale_after (carried_from meter old) (row ∷ rows)) (moved_row count row) ∷ reported)
    (later_over meter count rows old)

opening_left_out : (reported : List TableRow) (first : TableRow) → without_opening (reported ++ first ∷ []) ≡ reported
opening_left_out reported first =
    let long : length (reported ++ first ∷ []) ≡ length reported + 1 = length-append reported (first ∷ []) in
    let less : length (reported ++ first ∷ []) - 1 ≡ length reported = omega (arith, long) in
    ap (λ n. take n (reported ++ first ∷ [])) less ∙ take-append_seam reported (first ∷ [])

ended_over : (count : ℕ) (rows old : List EntryRow) → is_ended old ≡ false → is_ended (map (moved_row count) rows ++ old) ≡ is_ended rows
ended_over count [] old h = h
ended_over count (row ∷ rows) old h = ap (λ b. cond (is_closing row.kind) true b) (ended_over count rows old h)

pub carried_tables_are_one : SharesAddUp → CarriedTablesAreOne
carried_tables_are_one law meter old new well h unended new_h =
    let now : Installed = carried_from meter old in
    let count : ℕ = length old in
    let es : List Entry = entries_in new in
    let before : List Entry = entries_in old in
    let entries : entries_in (joined_rows old new) ≡ es ++ before = entries_over count new old in
    let reported : List TableRow = later_rows now new in
    let first : TableRow = opening_row meter.opening in
    let follow_old : AllFollow meter.range meter.opening before = (fitting_account meter old well h).follow in
    let follow_new : AllFollow meter.range now.opening es = (fitting_account now new (well_from meter old well h) new_h).follow in
    let follow : AllFollow meter.range meter.opening (es ++ before) = follow_over meter.range meter.opening es before follow_new follow_old in
    let rows : List Share = rows_of_steps (steps_after meter before) in
    let shares : List Share = rows_of_steps (steps_after now es) in
    let intervals : rows_of_steps (steps_after meter (es ++ before)) ≡ with_shares rows shares =
    ap rows_of_steps (steps_over meter.range meter.opening es before) ∙ rows_of_both (steps_after now es) (steps_after meter before) in
    let all : rows_of_steps (steps_after meter (entries_in (joined_rows old new))) ≡ with_shares rows shares =
    ap (λ (xs : List Entry). rows_of_steps (steps_after meter xs)) entries ∙ intervals in
    let ascending : IsAscending (starts_of (with_shares rows shares)) =
    subst (λ (rs : List Share). IsAscending (starts_of rs)) intervals
    (rows_are_accounts law (steps_after meter (es ++ before)) (in_time meter (es ++ before) follow)).in_order in
    record {
      entries = ap (λ (ts : List TableRow). ts ++ first ∷ []) (later_over meter count new old)
          ∙ append_assoc (map (moved_reported count) reported) (later_rows meter old) (first ∷ [])
          ∙ ap (λ (ts : List TableRow). map (moved_reported count) ts ++ (later_rows meter old ++ first ∷ []))
          (sym (opening_left_out reported (opening_row now.opening)));
      last = ap (last_after meter) entries ∙ last_over meter.opening es before;
      total = ap (total_after meter) entries ∙ total_over meter es before follow_new follow_old;
      intervals = all;
      once = subst (AreCountedOnce rows shares) (sym all) (counted_once rows shares ascending);
      ended = ended_over count new old unended;
    }

-- Lemmas: if the rules for meter entries accept a meter's rows in each of two database files, and
-- the energy stays within its limit, they accept the joined rows.

come_over : (meter : Installed) (es old : List Entry) (stands : Bool) (k : EntryKind) (e : Entry) → ((last_after (left_by meter old) es).raw < meter.range)
    → HasRoom meter es old e → MayCome (left_by meter old) es stands k e → MayCome meter (es ++ old) stands k e
come_over meter es old true k e under room h = fits_over meter es old k e under room h
come_over meter es old false k e under room h =
    subst (λ (l : Last). VoidedFits meter.range l k e) (sym (last_over meter.opening es old)) h

after_standing : (count : ℕ) (rows old : List EntryRow) → last_stands (map (moved_row count) rows ++ old) ≡ true → last_stands rows ≡ true
after_standing count [] old h = refl
after_standing count (row ∷ rows) old h = h

all_over : (meter : Installed) (old new : List EntryRow) → IsWellInstalled (carried_from meter old) → AllFollow meter.range meter.opening (entries_in old)
    → AllFit meter old → is_ended old ≡ false → AllFit (carried_from meter old) new → EntriesStayWithin meter old new
    → AllFit meter (map (moved_row (length old)) new ++ old)
all_over meter old [] well before fit unended h within = fit
all_over meter old (row ∷ rows) well before fit unended h within =
    let now : Installed = carried_from meter old in
    let es : List Entry = entries_in rows in
    let first : List Entry = entries_in old in
    let count : ℕ = length old in
    let follow : AllFollow meter.range now.opening es = (fitting_account now rows well h.1).follow in
    let under : (last_after now es).raw < meter.range = last_under now es well.raw follow in
    let room : HasRoom meter es first row.entry = omega (arith, within.0, total_over meter es first follow before) in
    let entries : entries_in (map (moved_row count) rows ++ old) ≡ es ++ first = entries_over count rows old in
    let fits : RowFits meter (map (moved_row count) rows ++ old) (moved_row count row) = record {
      place = ap (λ n. n + count) h.0.place ∙ sym (place_over count rows old refl);
      unended = ended_over count rows old unended ∙ h.0.unended;
      entry = subst (λ (xs : List Entry). MayCome meter xs row.stands row.kind row.entry) (sym entries)
          (come_over meter es first row.stands row.kind row.entry under room h.0.entry);
      voided_after = λ struck stands.
          subst (λ (xs : List Entry). EntryFits meter xs row.kind row.entry) (sym entries)
          (fits_over meter es first row.kind row.entry under room (h.0.voided_after struck (after_standing count rows old stands)));
    } in
    (fits, all_over meter old rows well before fit unended h.1 within.1)

pub carried_tables_are_fine : CarriedTablesAreFine
carried_tables_are_fine meter old new well h unended new_h within =
    record {
      rows = joined_rows old new;
      fit = all_over meter old new (well_from meter old well h) (fitting_account meter old well h).follow h unended new_h within;
      are = refl;
    }
