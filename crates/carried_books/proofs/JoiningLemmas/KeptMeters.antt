-- Lemmas: if the next database file's data of a meter are added to its collected data, the result
-- is the meter's data over all files. The data are the entries, quarter hours and rejected readings
-- for the meter's statement (report).
use Rattle.std.proofs.Common.{◌≡◌, ℕ, ◌+◌, ◌-◌, ◌^◌, ◌<◌, ◌&&◌, nat_le, Bool, true, false, cond, List, [], ◌∷◌, ◌++◌, take, drop, length, None, inl, inr, refl, sym, ap, subst, ◌∙◌, append-nil, append_assoc, arith}
use Rattle.std.specs.Prelude.{filter, min}
use Rattle.std.specs.List.{count_by, sum_by}
use Rattle.std.proofs.lemmas.Bool.{cases_Bool, cond-false, cond-true}
use Rattle.std.proofs.lemmas.List.{drop-drop}
use Rattle.std.proofs.lemmas.List.Elements.{filter-append}
use Rattle.std.proofs.lemmas.List.Sums.{sum_by-append}
use Rattle.energy_core.specs.declared.verdicts.Cause.{Cause}
use Rattle.energy_core.specs.declared.verdicts.Cause.TheVariants as cause
use Rattle.energy_report.specs.Energies.{AddsShare, IsFresh}
use Rattle.energy_report.specs.Held.{held_for, held_within, is_held_within}
use Rattle.energy_report.specs.HeldSinks.{CountsReading, HasCountedNone}
use Rattle.energy_report.specs.RowLines.{counted}
use Rattle.energy_report.specs.declared.energy_within.EnergyWithin.{EnergyWithin}
use Rattle.energy_report.specs.declared.held_within.RejectedWithin.{RejectedWithin}
use Rattle.energy_report.specs.Statements.{energy_within, tally_of}
use Rattle.energy_report.specs.declared.meter_statement.MeterStatement.{MeterStatement}
use Rattle.energy_report.specs.declared.tallies.EntryTally.{EntryTally}
use Rattle.energy_report.proofs.EnergyLemmas.{added_up}
use Rattle.energy_report.proofs.HeldLemmas.{counted_all}
use Rattle.interval_core.specs.Ranges.{has_day, has_moment}
use Rattle.interval_core.specs.Zone.{day_at}
use Rattle.interval_core.specs.declared.day_range.DayRange.{DayRange}
use Rattle.interval_core.specs.declared.limits.TheConstants.{LAST_MOMENT}
use Rattle.interval_core.specs.declared.shares.Share.{Share}
use Rattle.interval_core.specs.declared.zone.Zone.{Zone}
use Rattle.office_books.specs.Entries.{all_entries, entries_from}
use Rattle.office_books.specs.Holds.{holds_of, holds_within}
use Rattle.office_books.specs.Rows.{TakesAll}
use Rattle.office_books.specs.Spans.{is_within, rows_within}
use Rattle.office_books.specs.declared.entries.MeterEntry.{MeterEntry}
use Rattle.office_books.specs.declared.spans.Span.{Span}
use Rattle.office_books.specs.declared.spans.Span.TheVariants.{All as Whole, Between}
use Rattle.office_books.proofs.Pieces.{last_piece, one_piece_more}
use Rattle.office_core.specs.DayRange.{span_of}
use Rattle.office_core.proofs.Around.{has_each}
use Rattle.office_events.specs.declared.facts.Fact.{Fact}
use Rattle.office_events.specs.declared.facts.HeldReading.{HeldReading}
use Rattle.office_events.specs.declared.questions.Installation.{Installation}
use Rattle.office_books.specs.Facts.{opening_of}
use Rattle.office_books.specs.Intervals.{rows_of_meter}
use Rattle.carried_books.specs.Joining.Statements.{MeterOver, TalliesOn, ReportsPart, both_held, both_of, kept_of, meter_in, own_entries, with_part}
use Rattle.carried_books.specs.declared.joining.kept_meters.KeptMeter.{KeptMeter}
use Rattle.carried_books.proofs.CarryingLemmas.Lasts.{piece_of}

abbrev skipped : Bool → ℕ
skipped goes_on = cond goes_on 1 0

own_of : (goes_on : Bool) (entries : List MeterEntry) → own_entries goes_on entries ≡ drop (skipped goes_on) entries
own_of true entries = refl
own_of false entries = refl

module _ (zone : Zone) (range : DayRange) (facts : List Fact) (meter : List ℕ) (goes_on : Bool) where
  abbrev pub its_own : List MeterEntry
  its_own = own_entries goes_on (all_entries facts meter)

  piece_is : (n first : ℕ) (piece : List MeterEntry) → first ≡ cond goes_on 2 1 → piece ≡ entries_from facts meter (n + first) 65536
      → piece ≡ take 65536 (drop n its_own)
  piece_is n first piece is are =
      let k = skipped goes_on in
      let place : n + first ≡ n + k + 1 = elim goes_on as (λ b. first ≡ cond b 2 1 → n + first ≡ n + cond b 1 0 + 1) [
        | true ↦ λ e. omega (arith, e)
        | false ↦ λ e. omega (arith, e)
      ] is in
      let both : k + n ≡ n + k = omega arith in
      are ∙ ap (λ p. entries_from facts meter p 65536) place ∙ piece_of None facts (opening_of facts meter) (n + k) 65536
      ∙ ap (take 65536) (ap (λ c. drop c (all_entries facts meter)) (sym both) ∙ sym (drop-drop n k (all_entries facts meter))
      ∙ ap (drop n) (sym (own_of goes_on (all_entries facts meter))))

  -- States that the tally (counts of entries) `now` counts all entries that the tally `old` counts.
  -- In addition, `now` counts the first `n` of those entries of the meter that no earlier database
  -- file has.
  abbrev pub HasTallied : (n : ℕ) → (old now : EntryTally) → Type 0
  HasTallied n old now = TalliesOn zone range (take n its_own) old now

  pub tally_none : (old : EntryTally) → HasTallied 0 old old
  tally_none old = λ before is. is ∙ ap (tally_of zone range) (sym (append-nil before))

  pub tally_more : (n first : ℕ) (piece : List MeterEntry) (old now more : EntryTally) → first ≡ cond goes_on 2 1
      → piece ≡ entries_from facts meter (n + first) 65536 → HasTallied n old now → TalliesOn zone range piece now more → HasTallied (n + 65536) old more
  tally_more n first piece old now more is are had took = λ before from.
      took (before ++ take n its_own) (had before from)
      ∙ ap (tally_of zone range) (append_assoc before (take n its_own) piece
      ∙ ap (λ (those : List MeterEntry). before ++ those)
      (ap (λ (those : List MeterEntry). take n its_own ++ those) (piece_is n first piece is are) ∙ one_piece_more n 65536 its_own))

  pub tally_all : (n first : ℕ) (piece : List MeterEntry) (old now more : EntryTally) → first ≡ cond goes_on 2 1
      → piece ≡ entries_from facts meter (n + first) 65536 → HasTallied n old now → TalliesOn zone range piece now more → length piece < 65536
      → TalliesOn zone range its_own old more
  tally_all n first piece old now more is are had took few = λ before from.
      let items = piece_is n first piece is are in
      took (before ++ take n its_own) (had before from)
      ∙ ap (tally_of zone range) (append_assoc before (take n its_own) piece
      ∙ ap (λ (those : List MeterEntry). before ++ those)
      (ap (λ (those : List MeterEntry). take n its_own ++ those) items
      ∙ last_piece n 65536 its_own (subst (λ (those : List MeterEntry). length those < 65536) items few)))

all_held : (holds : List HeldReading) → holds_within Whole holds ≡ holds
all_held [] = refl
all_held (held ∷ holds) = ap (λ (those : List HeldReading). held ∷ those) (all_held holds)

-- The statement (report) of a meter in one database file has the counts of its rejected readings
-- and its energy in this file.
pub held_reported : (zone : Zone) (range : DayRange) (holds : List HeldReading) (from to : RejectedWithin) → HasCountedNone zone range from
    → TakesAll CountsReading from (holds_within Whole holds) to → to.counts ≡ held_within zone range holds
held_reported zone range holds from to fresh took =
    counted_all zone range holds from to fresh (subst (λ (those : List HeldReading). TakesAll CountsReading from those to) (all_held holds) took)

all_pass : {X : Type 0} (xs : List X) → filter (λ x. true) xs ≡ xs
all_pass [] = refl
all_pass (x ∷ xs) = ap (λ l. x ∷ l) (all_pass xs)

by_test : (asked : Span) (rows : List Share) → rows_within asked rows ≡ filter (λ row. is_within asked row.start) rows
by_test Whole rows = sym (all_pass rows)
by_test (Between from till) rows = refl

fails_too : (p q : Bool) → (p ≡ true → q ≡ true) → q ≡ false → p ≡ false
fails_too true q implies isnt = absurd (let e : false ≡ true = sym isnt ∙ implies refl in cc e)
fails_too false q implies isnt = refl

filter_among : {X : Type 0} (p q : X → Bool) → ((x : X) → p x ≡ true → q x ≡ true) → (xs : List X) → filter p (filter q xs) ≡ filter p xs
filter_among p q implies [] = refl
filter_among p q implies (x ∷ xs) =
    let rest = filter_among p q implies xs in
    elim (cases_Bool (q x)) [
      | inl is ↦ ap (filter p) (cond-true _ _ _ is) ∙ ap (λ l. cond (p x) (x ∷ l) l) rest
      | inr isnt ↦ ap (filter p) (cond-false _ _ _ isnt) ∙ rest ∙ sym (cond-false _ _ _ (fails_too (p x) (q x) (implies x) isnt))
    ]

and_second : (a b : Bool) → (a && b) ≡ true → b ≡ true
and_second true b is = is
and_second false b is = absurd (cc is)

pub energy_reported : (zone : Zone) (range : DayRange) (rows : List Share) (from to : EnergyWithin) → IsFresh zone range from
    → TakesAll AddsShare from (rows_within (span_of range) rows) to → to.mwh ≡ energy_within zone range rows
energy_reported zone range rows from to fresh took =
    added_up zone range (rows_within (span_of range) rows) from to fresh took
    ∙ ap (λ (those : List Share). min (sum_by (λ row. row.mwh) those) (2 ^ 128 - 1))
    (ap (filter (λ row. has_moment zone range row.start)) (by_test (span_of range) rows)
    ∙ filter_among (λ (row : Share). has_moment zone range row.start) (λ row. is_within (span_of range) row.start)
    (λ row has. has_each range.from range.till zone row.start (and_second (nat_le row.start LAST_MOMENT) (has_day range (day_at zone row.start)) has)) rows)

-- If two numbers are capped at `most`, then the capped sum of the capped numbers equals the capped
-- sum of the numbers.
capped_both : (most a b : ℕ) → min (min a most + min b most) most ≡ min (a + b) most
capped_both most a b = omega arith

energy_both : (zone : Zone) (range : DayRange) (rows more : List Share)
    → energy_within zone range (rows ++ more) ≡ min (energy_within zone range rows + energy_within zone range more) (2 ^ 128 - 1)
energy_both zone range rows more =
    let has : Share → Bool = λ row. has_moment zone range row.start in
    let mwh : Share → ℕ = λ row. row.mwh in
    ap (λ n. min n (2 ^ 128 - 1)) (ap (sum_by mwh) (filter-append has rows more) ∙ sum_by-append mwh (filter has rows) (filter has more))
    ∙ sym (capped_both (2 ^ 128 - 1) (sum_by mwh (filter has rows)) (sum_by mwh (filter has more)))

held_for_both : (zone : Zone) (range : DayRange) (holds more : List HeldReading) (why : Cause)
    → held_for zone range (holds ++ more) why ≡ counted (held_for zone range holds why + held_for zone range more why)
held_for_both zone range holds more why =
    let is : HeldReading → Bool = is_held_within zone range why in
    ap counted (sum_by-append (λ (held : HeldReading). cond (is held) 1 0) holds more) ∙ sym (capped_both 18446744073709551615 (count_by is holds) (count_by is more))

held_both : (zone : Zone) (range : DayRange) (holds more : List HeldReading)
    → held_within zone range (holds ++ more) ≡ both_held (held_within zone range holds) (held_within zone range more)
held_both zone range holds more = λ i. record {
  not_accumulated = held_for_both zone range holds more cause.NotAccumulated i;
  scale_changed = held_for_both zone range holds more cause.ScaleChanged i;
  not_later = held_for_both zone range holds more cause.NotLater i;
  span_too_long = held_for_both zone range holds more cause.SpanTooLong i;
  gap_too_long = held_for_both zone range holds more cause.GapTooLong i;
  too_fast = held_for_both zone range holds more cause.TooFast i;
  total_full = held_for_both zone range holds more cause.TotalFull i;
  not_below_range = held_for_both zone range holds more cause.NotBelowRange i;
}

-- If two statements (reports on a meter) have equal fields, then the statements are equal.
pub reported_alike : {a b : MeterStatement} → a.meter ≡ b.meter → a.entries ≡ b.entries → a.mwh ≡ b.mwh → a.held ≡ b.held → a ≡ b
reported_alike meter entries mwh held = λ i. record { meter = meter i; entries = entries i; mwh = mwh i; held = held i }

kept_alike : {a b : KeptMeter} → a.stands ≡ b.stands → a.reported ≡ b.reported → a ≡ b
kept_alike stands reported = λ i. record { stands = stands i; reported = reported i }

module _ (zone : Zone) (range : DayRange) (facts : List Fact) (row : Installation) where
  -- If a meter continues in the next database file, adding its data in this file gives its
  -- collected data over all files.
  pub reports_both : (old new : KeptMeter) (part : MeterStatement) (m : MeterOver) → old ≡ kept_of zone range m → new ≡ with_part old row part
      → ReportsPart zone range row.opening.meter true facts old.reported.entries part → new ≡ kept_of zone range (both_of m (meter_in facts row))
  reports_both old new part m reported is more =
      let entries = more.entries m.entries (ap (λ (k : KeptMeter). k.reported.entries) reported) in
      let mwh = ap (λ n. min (energy_within zone range m.rows + n) (2 ^ 128 - 1)) more.energy
      ∙ sym (energy_both zone range m.rows (rows_of_meter facts row.opening.meter)) in
      let held = ap (both_held (held_within zone range m.holds)) more.held ∙ sym (held_both zone range m.holds (holds_of facts row.opening.meter)) in
      is ∙ ap (λ (k : KeptMeter). with_part k row part) reported ∙ kept_alike refl (reported_alike refl entries mwh held)

  -- If a meter begins in the next database file, then its data in this file are the collected data
  -- of the meter over all files.
  pub reports_first : (new : KeptMeter) (none : EntryTally) → none ≡ tally_of zone range [] → new.stands ≡ row
      → ReportsPart zone range row.opening.meter false facts none new.reported → new ≡ kept_of zone range (meter_in facts row)
  reports_first new none is stands more = kept_alike stands (reported_alike more.meter_is (more.entries [] is) more.energy more.held)
