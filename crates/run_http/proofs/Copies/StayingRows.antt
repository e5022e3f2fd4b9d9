-- Lemmas: if later records void (withdraw) no entry of a meter below a sequence number, then
-- earlier quarter hours keep their energy. These are the quarter hours before that of the last
-- valid (not voided) entry below this number.
use Rattle.std.proofs.Common.{◌≡◌, ℕ, ◌+◌, ◌≤◌, cond, List, [], ◌∷◌, ◌++◌, length, map, sym, ap, subst, ◌∙◌, Some, None, arith}
use Rattle.std.specs.Prelude.{All}
use Rattle.std.proofs.lemmas.Bool.{cond-false}
use Rattle.std.specs.List.{cons_option}
use Rattle.std.proofs.lemmas.List.{map-append}
use Rattle.std.proofs.lemmas.List.Elements.{filter-append, filter_map-append, All-head, All-tail}
use Rattle.energy_core.specs.declared.entries.Entry.{Entry}
use Rattle.energy_core.specs.Account.{AllFollow}
use Rattle.interval_core.specs.declared.shares.Share.{Share}
use Rattle.interval_core.specs.Account.{SharesAddUp}
use Rattle.meter_journal.specs.declared.lines.Installed.{Installed}
use Rattle.meter_journal.specs.declared.lines.EntryRow.{EntryRow}
use Rattle.meter_journal.specs.Books.{IsWellInstalled, last_after, last_in, steps_after, interval_rows}
use Rattle.meter_journal.specs.Fitting.{AreFitting}
use Rattle.meter_journal.specs.Intervals.{rows_of_steps}
use Rattle.meter_journal.specs.Journal as journal
use Rattle.meter_journal.specs.Standing.{entered_count}
use Rattle.meter_journal.proofs.AsEntered.{rows_are_kept}
use Rattle.meter_journal.proofs.Chains.{rows_lie_within, voids_go_no_further}
use Rattle.meter_journal.proofs.InTime.{in_time}
use Rattle.meter_journal.proofs.Keeping.{journals_are_kept}
use Rattle.meter_journal.proofs.Merging.{has_rows}
use Rattle.office_events.specs.declared.facts.Opening.{Opening}
use Rattle.office_events.specs.declared.facts.Fact.{Fact}
use Rattle.office_events.specs.declared.facts.Fact.TheVariants as fact
use Rattle.office_books.specs.Facts.{same, moment_limit, openings_in, opening_of, latest_in}
use Rattle.office_books.specs.Intervals.{rows_of_installed, rows_of_meter}
use Rattle.office_books.specs.Lawful.{AreLawful}
use Rattle.office_books.specs.Meters.{held_line, line_of, opened, installed, journal_of}
use Rattle.office_books.proofs.InTurn.{last_is_recorded}
use Rattle.office_books.proofs.Journals.{by_name, none_and_some, installed_fits, well}
use Rattle.office_books.proofs.Lookups.{same_text, find_passes}
use Rattle.office_books.specs.Spans.{rows_within}
use Rattle.office_books.specs.declared.spans.Span.TheVariants.{Between}
use Rattle.run_http.specs.Copies.{rows_before, entries_before, next_place, quarter_of, changes_of, changes_from, VoidsFrom, StaysBefore, RowsBeforeStay, EntriesComeAfter}
use Rattle.run_http.proofs.Copies.StayingEntries.{LinesFrom, entries_stay, all_below, first_ones}
use Rattle.run_http.proofs.Copies.StayingShares.{entries_leave, before_earlier, rows_part, all_before}

-- Lemmas: if lines added to a meter's journal (its history) void no entry before the sequence
-- number `place`, some energies stay the same. They are of the quarter hours before that of the
-- last valid entry below `place`.

entries_joined : (newer older : List EntryRow) → journal.entries_in (newer ++ older) ≡ journal.entries_in newer ++ journal.entries_in older
entries_joined newer older =
    let own : EntryRow → Entry = λ row. row.entry in
    ap (map own) (filter-append (λ (row : EntryRow). row.stands) newer older) ∙ map-append own (journal.standing newer) (journal.standing older)

-- The start of the quarter hour with the last valid (not voided) entry before the sequence number
-- `place`.
abbrev pub quarter_before : Installed → (place : ℕ) → journal.Journal → ℕ
quarter_before meter place lines =
    quarter_of (last_after meter (journal.entries_in (entries_before place (journal.rows_of meter.opening lines)))).at

-- The entries with sequence numbers below `place` determine all interval rows before the quarter
-- hour of the last valid one of these entries.
rows_of_first : SharesAddUp → (meter : Installed) (place : ℕ) (lines : journal.Journal) → IsWellInstalled meter → AreFitting meter lines
    → let base = journal.entries_in (entries_before place (journal.rows_of meter.opening lines)) in
    rows_before (quarter_of (last_after meter base).at) (interval_rows meter lines)
    ≡ rows_before (quarter_of (last_after meter base).at) (rows_of_steps (steps_after meter base))
rows_of_first law meter place lines own h =
    let rows : List EntryRow = journal.rows_of meter.opening lines in
    let base : List Entry = journal.entries_in (entries_before place rows) in
    let first = first_ones place rows (rows_are_kept meter lines own h).places in
    let parts : journal.entries_in rows ≡ journal.entries_in first.0 ++ base =
    ap journal.entries_in first.1 ∙ entries_joined first.0 (entries_before place rows) in
    let follow : AllFollow meter.range meter.opening (journal.entries_in first.0 ++ base) =
    subst (AllFollow meter.range meter.opening) parts (journals_are_kept meter lines own h).account.follow in
    ap (λ es. rows_before (quarter_of (last_after meter base).at) (rows_of_steps (steps_after meter es))) parts
    ∙ entries_leave law meter (journal.entries_in first.0) base follow

record StayInJournal (meter : Installed) (place : ℕ) (more lines : journal.Journal) : Type 0 where
  entries : entries_before place (journal.rows_of meter.opening (more ++ lines)) ≡ entries_before place (journal.rows_of meter.opening lines)
  moment : quarter_before meter place (more ++ lines) ≡ quarter_before meter place lines
  rows : (from : ℕ) → from ≤ quarter_before meter place lines
      → rows_before from (interval_rows meter (more ++ lines)) ≡ rows_before from (interval_rows meter lines)
  whole : (from till : ℕ) → from ≤ quarter_before meter place lines → (last_in meter (more ++ lines)).at ≤ till → interval_rows meter (more ++ lines)
      ≡ rows_before from (interval_rows meter lines) ++ rows_within (Between from till) (interval_rows meter (more ++ lines))

lines_fit : (meter : Installed) (more lines : journal.Journal) → AreFitting meter (more ++ lines) → AreFitting meter lines
lines_fit meter [] lines h = h
lines_fit meter (line ∷ more) lines h = lines_fit meter more lines h.1

stay_in_journal : SharesAddUp → (meter : Installed) (place : ℕ) (more lines : journal.Journal) → IsWellInstalled meter
    → AreFitting meter (more ++ lines) → place ≤ length (journal.rows_of meter.opening lines) + 2 → LinesFrom place more
    → StayInJournal meter place more lines
stay_in_journal law meter place more lines own h le void =
    let fits : AreFitting meter lines = lines_fit meter more lines h in
    let count : length (journal.rows_of meter.opening lines) ≡ entered_count lines = (rows_are_kept meter lines own fits).count in
    let same = entries_stay meter place more lines own h (omega (arith, count, le)) void in
    let of_entries : List EntryRow → List Share = λ first. let base = journal.entries_in first in
    rows_before (quarter_of (last_after meter base).at) (rows_of_steps (steps_after meter base)) in
    let moment : quarter_before meter place (more ++ lines) ≡ quarter_before meter place lines =
    ap (λ (first : List EntryRow). quarter_of (last_after meter (journal.entries_in first)).at) same in
    let reported : List Share = interval_rows meter (more ++ lines) in
    let stay : rows_before (quarter_before meter place lines) reported ≡ rows_before (quarter_before meter place lines) (interval_rows meter lines) =
    ap (λ n. rows_before n reported) (sym moment) ∙ rows_of_first law meter place (more ++ lines) own h
    ∙ ap of_entries same ∙ sym (rows_of_first law meter place lines own fits) in
    let earlier : (from : ℕ) → from ≤ quarter_before meter place lines → rows_before from reported ≡ rows_before from (interval_rows meter lines) =
    λ from upto. sym (before_earlier (quarter_before meter place lines) from reported upto) ∙ ap (rows_before from) stay
    ∙ before_earlier (quarter_before meter place lines) from (interval_rows meter lines) upto in
    let rising = (has_rows law (steps_after meter (journal.entries_of meter.opening (more ++ lines)))
    (in_time meter (journal.entries_of meter.opening (more ++ lines)) (journals_are_kept meter (more ++ lines) own h).account.follow)).rising in
    record {
      entries = same;
      moment = moment;
      rows = earlier;
      whole = λ from till upto last.
          let before = all_before meter.opening.at (last_in meter (more ++ lines)).at till reported (rows_lie_within law meter (more ++ lines) own h) last in
          rows_part from till reported rising before ∙ ap (λ rs. rs ++ rows_within (Between from till) reported) (earlier from upto);
    }

-- Lemmas on quarter hours whose energy stays the same when records are added to the store.

moments_bounded : (facts : List Fact) → AreLawful facts → latest_in facts ≤ moment_limit
moments_bounded [] h = omega arith
moments_bounded (f ∷ facts) h = omega (arith, h.0.1, moments_bounded facts h.1)

-- If records are added to the store, then the opening entry of a meter (its first entry) is
-- unchanged.
still_opened : (further facts : List Fact) (meter : List ℕ) (opening : Opening) → AreLawful (further ++ facts) → opening_of facts meter ≡ Some opening
    → opening_of (further ++ facts) meter ≡ Some opening
still_opened [] facts meter o h there = there
still_opened (fact.Device d ∷ further) facts meter o h there = still_opened further facts meter o h.1 there
still_opened (fact.List l ∷ further) facts meter o h there = still_opened further facts meter o h.1 there
still_opened (fact.Register r ∷ further) facts meter o h there = still_opened further facts meter o h.1 there
still_opened (fact.Opening p ∷ further) facts meter o h there =
    let before : opening_of (further ++ facts) meter ≡ Some o = still_opened further facts meter o h.1 there in
    by_name p.meter meter
    (λ e name. none_and_some (opening_of (further ++ facts) meter) o
    (subst (λ (t : List ℕ). opening_of (further ++ facts) t ≡ None) name h.0.0.new) before)
    (λ e. cond-false _ _ _ e ∙ before)
still_opened (fact.Entry b ∷ further) facts meter o h there = still_opened further facts meter o h.1 there
still_opened (fact.Hold b ∷ further) facts meter o h there = still_opened further facts meter o h.1 there
still_opened (fact.Void v ∷ further) facts meter o h there = still_opened further facts meter o h.1 there
still_opened (fact.Poll p ∷ further) facts meter o h there = still_opened further facts meter o h.1 there
still_opened (fact.Outcome e ∷ further) facts meter o h there = still_opened further facts meter o h.1 there
still_opened (fact.Reply r ∷ further) facts meter o h there = still_opened further facts meter o h.1 there

-- Suppose that all voids (withdrawals) in a meter's journal name entries with sequence numbers from
-- `place` on. One more record keeps this true, unless it belongs to this meter and voids an entry
-- before `place`.
one_more : (place : ℕ) (line : journal.Line) (lines : journal.Journal) (meter m : List ℕ) → LinesFrom place lines
    → (meter ≡ m → LinesFrom place (line ∷ lines)) → LinesFrom place (cons_option (cond (same meter m) (Some line) None) lines)
one_more place line lines meter m rest here =
    by_name meter m
    (λ e name. subst (λ b. LinesFrom place (cons_option (cond b (Some line) None) lines)) (sym e) (here name))
    (λ e. subst (λ b. LinesFrom place (cons_option (cond b (Some line) None) lines)) (sym e) rest)

lines_from : (further : List Fact) (meter : List ℕ) (place : ℕ) → All (VoidsFrom meter place) further → LinesFrom place (journal_of further meter)
lines_from [] meter place h = tt
lines_from (fact.Device d ∷ further) meter place h = lines_from further meter place (All-tail (VoidsFrom meter place) (fact.Device d) further h)
lines_from (fact.List l ∷ further) meter place h = lines_from further meter place (All-tail (VoidsFrom meter place) (fact.List l) further h)
lines_from (fact.Register r ∷ further) meter place h = lines_from further meter place (All-tail (VoidsFrom meter place) (fact.Register r) further h)
lines_from (fact.Opening p ∷ further) meter place h = lines_from further meter place (All-tail (VoidsFrom meter place) (fact.Opening p) further h)
lines_from (fact.Entry b ∷ further) meter place h =
    let rest = lines_from further meter place (All-tail (VoidsFrom meter place) (fact.Entry b) further h) in
    one_more place (journal.Entered b.kind b.entry) (journal_of further meter) b.meter meter rest (λ name. rest)
lines_from (fact.Hold b ∷ further) meter place h =
    let rest = lines_from further meter place (All-tail (VoidsFrom meter place) (fact.Hold b) further h) in
    one_more place (held_line b) (journal_of further meter) b.meter meter rest (λ name. rest)
lines_from (fact.Void v ∷ further) meter place h =
    let rest = lines_from further meter place (All-tail (VoidsFrom meter place) (fact.Void v) further h) in
    let at = All-head (VoidsFrom meter place) (fact.Void v) further h in
    one_more place (journal.Voided v.place) (journal_of further meter) v.meter meter rest (λ name. (at name, rest))
lines_from (fact.Poll p ∷ further) meter place h = lines_from further meter place (All-tail (VoidsFrom meter place) (fact.Poll p) further h)
lines_from (fact.Outcome e ∷ further) meter place h = lines_from further meter place (All-tail (VoidsFrom meter place) (fact.Outcome e) further h)
lines_from (fact.Reply r ∷ further) meter place h = lines_from further meter place (All-tail (VoidsFrom meter place) (fact.Reply r) further h)

-- Suppose that the records `further`, added after the records `facts`, void (withdraw) no entry of
-- the meter with a sequence number below `place`. Then the quarter hours before that of the last
-- valid (not voided) entry below `place` keep their energy (`StaysBefore`).
stays_before : SharesAddUp → (further facts : List Fact) (o : Opening) (place : ℕ) → AreLawful (further ++ facts) → opening_of facts o.meter ≡ Some o
    → place ≤ next_place facts o → All (VoidsFrom o.meter place) further → StaysBefore further facts o.meter o place
stays_before law further facts o place h there le void =
    let later : List Fact = further ++ facts in
    let lines : journal.Journal = journal_of facts o.meter in
    let more : journal.Journal = journal_of further o.meter in
    let parts : journal_of later o.meter ≡ more ++ lines = filter_map-append (line_of o.meter) further facts in
    let still : opening_of later o.meter ≡ Some o = still_opened further facts o.meter o h there in
    let stay : StayInJournal (installed o) place more lines =
    stay_in_journal law (installed o) place more lines (well later o h still)
    (subst (AreFitting (installed o)) parts (installed_fits later o h still)) le (lines_from further o.meter place void) in
    let moment : ℕ = quarter_before (installed o) place lines in
    let moment_is : changes_from facts o.meter place ≡ moment = ap (changes_of facts place) there in
    let moment_later : changes_from later o.meter place ≡ quarter_before (installed o) place (more ++ lines) =
    ap (changes_of later place) still ∙ ap (quarter_before (installed o) place) parts in
    let rows_are : rows_of_meter facts o.meter ≡ interval_rows (installed o) lines = ap (rows_of_installed facts) there in
    let rows_later : rows_of_meter later o.meter ≡ interval_rows (installed o) (more ++ lines) =
    ap (rows_of_installed later) still ∙ ap (interval_rows (installed o)) parts in
    let last : (last_in (installed o) (more ++ lines)).at ≤ moment_limit =
    omega (
      arith,
      last_is_recorded voids_go_no_further later o h still,
      moments_bounded later h,
      ap (λ ls. (last_in (installed o) ls).at) parts,
    ) in
    record {
      entries = ap (λ ls. entries_before place (journal.rows_of (opened o) ls)) parts ∙ stay.entries;
      moment = moment_later ∙ stay.moment ∙ sym moment_is;
      rows = λ from upto.
          ap (rows_before from) rows_later ∙ stay.rows from (omega (arith, upto, moment_is)) ∙ sym (ap (rows_before from) rows_are);
      whole = λ from till upto limit.
          rows_later ∙ stay.whole from till (omega (arith, upto, moment_is)) (omega (arith, last, limit))
          ∙ ap (λ rs. rows_before from rs ++ rows_within (Between from till) (interval_rows (installed o) (more ++ lines))) (sym rows_are)
          ∙ ap (λ rs. rows_before from (rows_of_meter facts o.meter) ++ rows_within (Between from till) rs) (sym rows_later);
    }

pub own_name : (facts : List Fact) (meter : List ℕ) (o : Opening) → opening_of facts meter ≡ Some o → o.meter ≡ meter
own_name facts meter o there = same_text o.meter meter (find_passes (λ (p : Opening). same p.meter meter) (openings_in facts) o there)

pub rows_before_stay : SharesAddUp → RowsBeforeStay
rows_before_stay law further facts meter o place h there le void =
    let name : o.meter ≡ meter = own_name facts meter o there in
    subst (λ (m : List ℕ). StaysBefore further facts m o place) name
    (stays_before law further facts o place h (subst (λ (m : List ℕ). opening_of facts m ≡ Some o) (sym name) there) le
    (subst (λ (m : List ℕ). All (VoidsFrom m place) further) (sym name) void))

pub entries_come_after : EntriesComeAfter
entries_come_after facts meter o h there =
    let own : opening_of facts o.meter ≡ Some o = subst (λ (m : List ℕ). opening_of facts m ≡ Some o) (sym (own_name facts meter o there)) there in
    let rows : List EntryRow = journal.rows_of (opened o) (journal_of facts o.meter) in
    let numbers = (rows_are_kept (installed o) (journal_of facts o.meter) (well facts o h own) (installed_fits facts o h own)).places in
    let all : entries_before (length rows + 2) rows ≡ rows = all_below (length rows + 2) rows numbers (omega arith) in
    ap (changes_of facts (length rows + 2)) there
    ∙ ap (λ (first : List EntryRow). quarter_of (last_after (installed o) (journal.entries_in first)).at) all
