-- Lemmas: the joint report of several database files about a meter shows the state after one
-- history of entries. The meter continues from each file into the next.
use Rattle.std.proofs.Common.{◌≡◌, ℕ, ◌+◌, ◌≤◌, false, List, [], ◌∷◌, ◌++◌, map, refl, sym, ap, subst, ◌∙◌, arith}
use Rattle.energy_core.specs.declared.entries.Entry.{Entry}
use Rattle.energy_core.specs.declared.entries.Last.{Last}
use Rattle.energy_core.specs.declared.limits.TheConstants.{MAX_TOTAL}
use Rattle.interval_core.specs.declared.shares.Share.{Share}
use Rattle.interval_core.specs.Account.{energy_of}
use Rattle.meter_journal.specs.declared.lines.EntryRow.{EntryRow}
use Rattle.meter_journal.specs.declared.lines.Installed.{Installed}
use Rattle.meter_journal.specs.Books.{IsWellInstalled, last_after, total_after, steps_after, last_in, total_in, interval_rows}
use Rattle.meter_journal.specs.Fitting.{AreFitting}
use Rattle.meter_journal.specs.Intervals.{with_shares, rows_of_steps}
use Rattle.meter_journal.specs.Journal.{Entered, Journal, is_ended as has_closing, entries_of, standing}
use Rattle.meter_journal.specs.Laws.{IntervalRowsAddUp}
use Rattle.meter_journal.specs.Standing.{entered_count, entering}
use Rattle.meter_journal.proofs.Keeping.{journals_are_kept}
use Rattle.meter_journal.proofs.Voiding.{whole_with}
use Rattle.meter_journal.specs.Audit.Carried.{carried, moved_line, joined_journal, StaysWithin, GoesOn}
use Rattle.meter_journal.specs.Audit.CarriedFiles.{GoesOnAs, InFile, GoOn, reported_by_both, entry_from_all_rows, FilesAreOneHistory}
use Rattle.meter_journal.specs.Audit.Fitting.{Tables, AreFine}
use Rattle.meter_journal.proofs.AuditLemmas.Alone.{matching_rows_are_independent}
use Rattle.meter_journal.proofs.AuditLemmas.Lawful.{alone_ended}
use Rattle.meter_journal.proofs.AuditLemmas.CarriedLemmas.Fitting.{carried_journals_fit, ended_over}
use Rattle.meter_journal.proofs.AuditLemmas.CarriedLemmas.Over.{well_carried}
use Rattle.meter_journal.proofs.AuditLemmas.CarriedLemmas.Quarters.{carries_go_on}

-- States that the tables of a meter report the state after a list of entries that were recorded one
-- after another. None of these entries is voided (cancelled).
record AreEntered (meter : Installed) (tables : Tables) : Type 0 where
  pub rows : List EntryRow
  pub fit : AreFitting meter (entering rows)
  pub last : tables.last ≡ last_in meter (entering rows)
  pub total : tables.total ≡ total_in meter (entering rows)
  pub intervals : tables.intervals ≡ interval_rows meter (entering rows)
  pub ended : tables.ended ≡ has_closing (entering rows)

-- If one database file's tables of a meter are consistent (those of entries that the rules for
-- meter entries accept), they report a meter's state after a list of entries. None of these entries
-- is voided (cancelled).
fine_entered : (meter : Installed) (tables : Tables) → AreFine meter tables → AreEntered meter tables
fine_entered meter tables fine =
    let alone = matching_rows_are_independent meter fine.rows fine.fit in
    record {
      rows = standing fine.rows;
      fit = alone.fit;
      last = ap (λ (t : Tables). t.last) fine.are ∙ ap (last_after meter) (sym alone.entries);
      total = ap (λ (t : Tables). t.total) fine.are ∙ ap (total_after meter) (sym alone.entries);
      intervals = ap (λ (t : Tables). t.intervals) fine.are
          ∙ ap (λ (es : List Entry). rows_of_steps (steps_after meter es)) (sym alone.entries);
      ended = ap (λ (t : Tables). t.ended) fine.are ∙ alone_ended meter fine.rows fine.fit;
    }

moved_entering : (count : ℕ) (rows : List EntryRow) → map (moved_line count) (entering rows) ≡ entering rows
moved_entering count [] = refl
moved_entering count (row ∷ rows) = ap (λ (lines : Journal). Entered row.kind row.entry ∷ lines) (moved_entering count rows)

entering_both : (new old : List EntryRow) → entering new ++ entering old ≡ entering (new ++ old)
entering_both [] old = refl
entering_both (row ∷ new) old = ap (λ (lines : Journal). Entered row.kind row.entry ∷ lines) (entering_both new old)

-- If a meter's energy after the last entry is within the limit, its energy after each earlier entry
-- is too. No entry lowers the energy.
within : (meter : Installed) (lines : Journal) (rows : List EntryRow) → IsWellInstalled (carried meter lines)
    → AreFitting (carried meter lines) (entering rows)
    → total_in meter lines + total_in (carried meter lines) (entering rows) ≤ MAX_TOTAL
    → StaysWithin meter lines (entering rows)
within meter lines [] well fit le = tt
within meter lines (row ∷ rows) well fit le =
    let now : Installed = carried meter lines in
    let follow = (journals_are_kept now (entering (row ∷ rows)) well fit).account.follow in (
      le,
      within meter lines rows well fit.1
          (omega (arith, le, whole_with now row.entry (entries_of now.opening (entering rows)) follow)),
    )

same_meter : (m n : Installed) → m.range ≡ n.range → m.ceiling ≡ n.ceiling → m.opening ≡ n.opening → m ≡ n
same_meter m n range ceiling opening =
    ap (λ r. let x : Installed = record { range = r; ceiling = m.ceiling; opening = m.opening } in x) range
    ∙ ap (λ c. let x : Installed = record { range = n.range; ceiling = c; opening = m.opening } in x) ceiling
    ∙ ap (λ (l : Last). let x : Installed = record { range = n.range; ceiling = n.ceiling; opening = l } in x) opening

joined_entered : (meter : Installed) (old new : Tables) (rows more : List EntryRow) → IsWellInstalled meter
    → AreFitting meter (entering rows)
    → old.total ≡ total_in meter (entering rows) → old.intervals ≡ interval_rows meter (entering rows) → old.ended ≡ has_closing (entering rows)
    → old.ended ≡ false
    → AreFitting (carried meter (entering rows)) (entering more)
    → new.last ≡ last_in (carried meter (entering rows)) (entering more)
    → new.total ≡ total_in (carried meter (entering rows)) (entering more)
    → new.intervals ≡ interval_rows (carried meter (entering rows)) (entering more)
    → new.ended ≡ has_closing (entering more)
    → old.total + new.total ≤ MAX_TOTAL
    → AreEntered meter (reported_by_both old new)
joined_entered meter old new rows more well fit total intervals ended unended more_fit more_last more_total more_intervals more_ended le =
    let lines : Journal = entering rows in
    let later : Journal = entering more in
    let now : Installed = carried meter lines in
    let count : ℕ = entered_count lines in
    let open_then : has_closing lines ≡ false = sym ended ∙ unended in
    let same : joined_journal lines later ≡ entering (more ++ rows) =
    ap (λ (ls : Journal). ls ++ lines) (moved_entering count more) ∙ entering_both more rows in
    let goes : GoesOn meter lines later = carries_go_on meter lines later well fit more_fit in
    let stays : StaysWithin meter lines later =
    within meter lines more (well_carried meter lines well fit) more_fit (omega (arith, le, total, more_total)) in
    let whole : old.total + new.total ≡ total_in meter (joined_journal lines later) = omega (arith, total, more_total, goes.total) in
    let closed : has_closing (map (moved_line count) later ++ lines) ≡ has_closing later = ended_over count lines later open_then in
    record {
      rows = more ++ rows;
      fit = subst (AreFitting meter) same (carried_journals_fit meter lines later well fit open_then more_fit stays);
      last = more_last ∙ sym goes.last ∙ ap (last_in meter) same;
      total = whole ∙ ap (total_in meter) same;
      intervals = ap (λ (ss : List Share). with_shares ss new.intervals) intervals
          ∙ ap (with_shares (interval_rows meter lines)) more_intervals ∙ sym goes.intervals ∙ ap (interval_rows meter) same;
      ended = more_ended ∙ sym closed ∙ ap has_closing same;
    }

one_more : (meter : Installed) (old : Tables) (new : InFile) → IsWellInstalled meter → AreEntered meter old
    → old.ended ≡ false → new.meter.range ≡ meter.range → new.meter.ceiling ≡ meter.ceiling → new.meter.opening ≡ old.last
    → AreEntered new.meter new.tables → old.total + new.tables.total ≤ MAX_TOTAL
    → AreEntered meter (reported_by_both old new.tables)
one_more meter old new well before unended range ceiling opening h le =
    let now : Installed = carried meter (entering before.rows) in
    let same : new.meter ≡ now = same_meter new.meter now range ceiling (opening ∙ before.last) in
    let there : AreEntered now new.tables = subst (λ (m : Installed). AreEntered m new.tables) same h in
    joined_entered meter old new.tables before.rows there.rows well before.fit before.total before.intervals before.ended unended
    there.fit there.last there.total there.intervals there.ended le

total_grows : (old : Tables) (later : List InFile) → old.total ≤ (entry_from_all_rows old later).total
total_grows old [] = omega arith
total_grows old (new ∷ later) = omega (arith, total_grows (reported_by_both old new.tables) later)

-- If a meter continues from each database file in the next, the joint report of all files shows the
-- state after some recorded entries.
all_entered : (meter : Installed) (so_far : Tables) (old : InFile) (later : List InFile) → IsWellInstalled meter
    → AreEntered meter so_far → so_far.last ≡ old.tables.last → so_far.ended ≡ old.tables.ended
    → old.meter.range ≡ meter.range → old.meter.ceiling ≡ meter.ceiling
    → GoOn old later → (entry_from_all_rows so_far later).total ≤ MAX_TOTAL
    → AreEntered meter (entry_from_all_rows so_far later)
all_entered meter so_far old [] well before last ended range ceiling goes le = before
all_entered meter so_far old (new ∷ later) well before last ended range ceiling goes le =
    let first : GoesOnAs old.meter old.tables.last old.tables.ended new.meter = goes.0 in
    let here : so_far.total + new.tables.total ≤ MAX_TOTAL = omega (arith, le, total_grows (reported_by_both so_far new.tables) later) in
    let both : AreEntered meter (reported_by_both so_far new.tables) =
    one_more meter so_far new well before (ended ∙ first.unended) (first.range ∙ range) (first.ceiling ∙ ceiling) (first.opening ∙ sym last)
    (fine_entered new.meter new.tables goes.1) here in
    all_entered meter (reported_by_both so_far new.tables) new later well both refl refl (first.range ∙ range) (first.ceiling ∙ ceiling) goes.2 le

pub files_are_one_history : IntervalRowsAddUp → FilesAreOneHistory
files_are_one_history law first later well fine goes le =
    let tables : Tables = entry_from_all_rows first.tables later in
    let all : AreEntered first.meter tables =
    all_entered first.meter first.tables first later well (fine_entered first.meter first.tables fine) refl refl refl refl goes le in
    record {
      lines = entering all.rows;
      fit = all.fit;
      last = all.last;
      total = all.total;
      intervals = all.intervals;
      ended = all.ended;
      adds_up = ap energy_of all.intervals ∙ law first.meter (entering all.rows) well all.fit ∙ sym all.total;
    }
