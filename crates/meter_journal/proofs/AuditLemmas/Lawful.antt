-- Lemmas: consistent tables of a meter (those of a list of entry rows that the rules for meter
-- entries accept) are the tables of a history that the rules accept.
use Rattle.std.proofs.Common.{◌≡◌, ℕ, Bool, true, false, if◌then◌else◌, List, [], ◌∷◌, refl, sym, ap, ◌∙◌, inl, inr}
use Rattle.std.proofs.lemmas.Bool.{cases_Bool, cond-false}
use Rattle.energy_core.specs.declared.entries.Entry.{Entry}
use Rattle.energy_core.specs.declared.entries.Last.{Last}
use Rattle.interval_core.specs.Account.{energy_of}
use Rattle.meter_journal.specs.declared.lines.Installed.{Installed}
use Rattle.meter_journal.specs.declared.lines.EntryKind.{EntryKind}
use Rattle.meter_journal.specs.declared.lines.EntryKind.TheVariants as kind
use Rattle.meter_journal.specs.declared.lines.EntryRow.{EntryRow}
use Rattle.meter_journal.specs.Books.{last_after, total_after, steps_after, total_in, interval_rows}
use Rattle.meter_journal.specs.Intervals.{rows_of_steps}
use Rattle.meter_journal.specs.Journal.{Journal, is_closing, is_ended as has_closing, standing, entries_in, rows_of}
use Rattle.meter_journal.specs.Laws.{IntervalRowsAddUp}
use Rattle.meter_journal.specs.Standing.{entering}
use Rattle.meter_journal.proofs.AsEntered.{stands_on}
use Rattle.meter_journal.specs.Audit.Fitting.{is_ended, VoidedFits, MayCome, AllFit, Tables}
use Rattle.meter_journal.specs.Audit.Laws.{FineTablesAreLawful, LawfulTablesAreFine}
use Rattle.meter_journal.proofs.AuditLemmas.Alone.{matching_rows_are_independent}
use Rattle.meter_journal.proofs.AuditLemmas.Journals.{rows_of_journals_fit}

-- A voided (cancelled) row is never a closing, the last entry of a meter.
voided_goes_on : (range : ℕ) (last : Last) (k : EntryKind) (e : Entry) → VoidedFits range last k e → is_closing k ≡ false
voided_goes_on range last kind.Reading e h = refl
voided_goes_on range last kind.Manual e h = absurd h
voided_goes_on range last kind.Closing e h = absurd h
voided_goes_on range last kind.Reset e h = absurd h
voided_goes_on range last kind.Rescale e h = absurd h

came_voided : (meter : Installed) (es : List Entry) (stands : Bool) (k : EntryKind) (e : Entry) → MayCome meter es stands k e
    → stands ≡ false → VoidedFits meter.range (last_after meter es) k e
came_voided meter es true k e h is = absurd (let f : true ≡ false = is in cc)
came_voided meter es false k e h is = h

pub alone_ended : (meter : Installed) (rows : List EntryRow) → AllFit meter rows → is_ended rows ≡ has_closing (entering (standing rows))
alone_ended meter [] h = refl
alone_ended meter (row ∷ rows) h =
    let rest : is_ended rows ≡ has_closing (entering (standing rows)) = alone_ended meter rows h.1 in
    elim (cases_Bool row.stands) [
      | inl on ↦
          ap (λ b. if is_closing row.kind then true else b) rest ∙ sym (ap (λ rs. has_closing (entering rs)) (stands_on row rows true on))
      | inr off ↦
          let more : is_closing row.kind ≡ false =
          voided_goes_on meter.range (last_after meter (entries_in rows)) row.kind row.entry
          (came_voided meter (entries_in rows) row.stands row.kind row.entry h.0.entry off) in
          cond-false _ _ _ more ∙ rest ∙ sym (ap (λ rs. has_closing (entering rs)) (stands_on row rows false off))
    ]

pub fine_tables_are_lawful : IntervalRowsAddUp → FineTablesAreLawful
fine_tables_are_lawful law meter tables well fine =
    let rows : List EntryRow = fine.rows in
    let alone = matching_rows_are_independent meter rows fine.fit in
    let lines : Journal = entering (standing rows) in
    let total : tables.total ≡ total_in meter lines =
    ap (λ (t : Tables). t.total) fine.are ∙ ap (total_after meter) (sym alone.entries) in
    let intervals : tables.intervals ≡ interval_rows meter lines =
    ap (λ (t : Tables). t.intervals) fine.are ∙ ap (λ (es : List Entry). rows_of_steps (steps_after meter es)) (sym alone.entries) in
    record {
      lines = lines;
      fit = alone.fit;
      last = ap (λ (t : Tables). t.last) fine.are ∙ ap (last_after meter) (sym alone.entries);
      total = total;
      intervals = intervals;
      ended = ap (λ (t : Tables). t.ended) fine.are ∙ alone_ended meter rows fine.fit;
      adds_up = ap energy_of intervals ∙ law meter lines well alone.fit ∙ sym total;
    }

pub lawful_tables_are_fine : LawfulTablesAreFine
lawful_tables_are_fine meter lines well h =
    record { rows = rows_of meter.opening lines; fit = rows_of_journals_fit meter lines well h; are = refl }
