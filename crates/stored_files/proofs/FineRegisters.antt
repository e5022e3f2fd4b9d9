-- Lemmas on the meters of an accounting register (an energy counter) in whose rows an audit finds
-- no discrepancy: their interval rows (energy by quarter hour) can be added up by civil day.
use Rattle.std.proofs.Common.{◌≡◌, ℕ, suc, ◌+◌, ◌*◌, ◌^◌, ◌≤◌, Bool, true, false, not, List, [], ◌∷◌, ◌++◌, length, Option, Some, Ok, Err, Result, inl, inr, refl, sym, ap, ◌∙◌, arith, filter}
use Rattle.std.specs.Prelude.{All, bytes_eq}
use Rattle.std.specs.List.{AllByRecursion, flat_map, list_all}
use Rattle.std.proofs.lemmas.Bool.{and_parts, or_cases, cond_both, not-true, both_ways}
use Rattle.std.proofs.lemmas.List.Elements.{All-nil, All-append, All-filter, All-weaker}
use Rattle.std.proofs.lemmas.List.Filters.{sum_by-filter_both}
use Rattle.std.proofs.lemmas.List.Kept.{IsNonDecreasingBy-filter}
use Rattle.std.proofs.lemmas.List.Sums.{sum_by-append}
use Rattle.std.proofs.lemmas.Slice.Eq.{bytes_eq-Decides}
use Rattle.interval_core.specs.declared.shares.Share.{Share}
use Rattle.interval_core.specs.Account.{energy_of}
use Rattle.meter_journal.specs.Changes.{LiesWithin}
use Rattle.office_books.specs.Facts.{moment_limit}
use Rattle.office_books.specs.Registers.{CanBeFolded}
use Rattle.office_books.specs.Spans.{is_within, rows_within}
use Rattle.office_books.specs.declared.spans.Span.{Span}
use Rattle.office_books.specs.declared.spans.Span.TheVariants.{All as AllTimes, Between}
use Rattle.office_core.proofs.Summing.{added_up}
use Rattle.sqlite.specs.Order.{column}
use Rattle.store_tables.specs.Content.{Content}
use Rattle.store_tables.specs.Limits.{greatest_place}
use Rattle.store_tables.specs.Columns.{first_in}
use Rattle.store_tables.specs.declared.faults.RowFault.{RowFault}
use Rattle.table_audit.specs.Meters.{LookedAt, IsLookedUp, AreFineFrom, span_in, spans_in}
use Rattle.table_audit.specs.Polls.{ReportsUpTo}
use Rattle.table_audit.specs.Reading.{name_in}
use Rattle.table_audit.specs.Spans.{follows, is_closed_by, never_overlap}
use Rattle.table_audit.specs.declared.findings.Findings.{Findings}
use Rattle.table_audit.specs.declared.spans.MeterSpan.{MeterSpan}
use Rattle.stored_files.specs.FineFiles.{AddsAllUp, AreWhole, FineRegistersAreInTurn, is_at, is_called, shares_at, shares_of}
use Rattle.stored_files.proofs.FineMeters.{FromJournals, IsInOrder, in_order, placed_within}
use Rattle.stored_files.proofs.RowOrder.{EndsAfter, NeverFall, never_append, never_decreasing, end_after}

-- Lemmas on one more meter before other meters, which is at the register or not.

by_register : (P : List Share → Type 0) (register : List ℕ) (one : LookedAt) (others : List LookedAt)
    → (is_at register one ≡ true → P (shares_of one.rows ++ shares_at register others)) → (is_at register one ≡ false → P (shares_at register others))
    → P (shares_at register (one ∷ others))
by_register P register one others here elsewhere =
    let rest : List LookedAt = filter (is_at register) others in
    cond_both (is_at register one) (one ∷ rest) rest (λ (l : List LookedAt). P (flat_map (λ one. shares_of one.rows) l)) here elsewhere

spans_more : (one : LookedAt) (others : List LookedAt) (span : MeterSpan) → span_in one.row one.rows ≡ Some span
    → spans_in (one ∷ others) ≡ span ∷ spans_in others
spans_more one others span is = rw is refl

-- A meter at the register that is called `register` has this name in its installation time.
named_so : (register : List ℕ) (one : LookedAt) (span : MeterSpan) → name_in (column one.row 2) ≡ Some span.register → is_at register one ≡ true
    → span.register ≡ register
named_so register one span is at =
    let same : bytes_eq span.register register ≡ true = sym (ap (is_called register) is) ∙ at in
    (bytes_eq-Decides span.register register).0 same

-- If a later meter at the same register follows a meter, then this meter was closed by then.
closed_then : (earlier later : MeterSpan) → earlier.register ≡ later.register → follows earlier later ≡ true → is_closed_by earlier.closed later.opened ≡ true
closed_then earlier later same follow =
    let equal : bytes_eq earlier.register later.register ≡ true = (bytes_eq-Decides earlier.register later.register).1 same in
    elim (or_cases (not (bytes_eq earlier.register later.register)) (is_closed_by earlier.closed later.opened) follow) [
      | inl other ↦ absurd (both_ways (bytes_eq earlier.register later.register) (not-true (bytes_eq earlier.register later.register) other) equal)
      | inr closed ↦ closed
    ]

-- Lemmas: the rows of the meters of a register are in order of time.

all_after : (register : List ℕ) (last : ℕ) (span : MeterSpan) → span.register ≡ register
    → ((opened : ℕ) → is_closed_by span.closed opened ≡ true → last ≤ opened)
    → (looked : List LookedAt) → AllByRecursion IsInOrder looked → list_all (follows span) (spans_in looked) ≡ true
    → All (EndsAfter last) (shares_at register looked)
all_after register last span at closed [] all follow = All-nil (EndsAfter last)
all_after register last span at closed (one ∷ others) all follow =
    let this : IsInOrder one = all.0 in
    let both = and_parts (follows span this.span) (list_all (follows span) (spans_in others))
    (sym (ap (λ (l : List MeterSpan). list_all (follows span) l) (spans_more one others this.span this.span_is)) ∙ follow) in
    let rest : All (EndsAfter last) (shares_at register others) = all_after register last span at closed others all.1 both.1 in
    by_register (All (EndsAfter last)) register one others
    (λ here.
    let same : span.register ≡ this.span.register = at ∙ sym (named_so register one this.span this.register_is here) in
    let le : last ≤ this.span.opened = closed this.span.opened (closed_then span this.span same both.0) in
    All-append (EndsAfter last) (shares_of one.rows) (shares_at register others)
    (end_after last this.span.opened this.last (shares_of one.rows) le this.within) rest)
    (λ elsewhere. rest)

all_never_fall : (register : List ℕ) (looked : List LookedAt) → AllByRecursion IsInOrder looked → never_overlap (spans_in looked) ≡ true
    → NeverFall (shares_at register looked)
all_never_fall register [] all never = tt
all_never_fall register (one ∷ others) all never =
    let this : IsInOrder one = all.0 in
    let both = and_parts (list_all (follows this.span) (spans_in others)) (never_overlap (spans_in others))
    (sym (ap never_overlap (spans_more one others this.span this.span_is)) ∙ never) in
    let rest : NeverFall (shares_at register others) = all_never_fall register others all.1 both.1 in
    by_register NeverFall register one others
    (λ here.
    let at : this.span.register ≡ register = named_so register one this.span this.register_is here in
    never_append this.span.opened this.last (shares_of one.rows) (shares_at register others) this.never_fall rest this.within
    (all_after register this.last this.span at this.closed others all.1 both.0))
    (λ elsewhere. rest)

-- Lemmas: the rows of the meters of a register are within limits.

all_moments : (register : List ℕ) (looked : List LookedAt) → AllByRecursion IsInOrder looked
    → All (λ row. row.start ≤ moment_limit) (shares_at register looked)
all_moments register [] all = All-nil (λ (row : Share). row.start ≤ moment_limit)
all_moments register (one ∷ others) all =
    let this : IsInOrder one = all.0 in
    let P : Share → Type 0 = λ row. row.start ≤ moment_limit in
    let rest : All P (shares_at register others) = all_moments register others all.1 in
    by_register (All P) register one others
    (λ here.
    All-append P (shares_of one.rows) (shares_at register others)
    (All-weaker (LiesWithin this.span.opened this.last) P (λ row lies. omega (arith, lies.before, this.limit)) (shares_of one.rows) this.within) rest)
    (λ elsewhere. rest)

all_energy : (register : List ℕ) (looked : List LookedAt) → AllByRecursion IsInOrder looked
    → energy_of (shares_at register looked) ≤ length looked * (4 * 10 ^ 18)
all_energy register [] all = omega arith
all_energy register (one ∷ others) all =
    let this : IsInOrder one = all.0 in
    let rest = all_energy register others all.1 in
    by_register (λ shares. energy_of shares ≤ length (one ∷ others) * (4 * 10 ^ 18)) register one others
    (λ here. omega (arith, this.energy, rest, sum_by-append (λ (row : Share). row.mwh) (shares_of one.rows) (shares_at register others)))
    (λ elsewhere. omega (arith, rest))

few_meters : (place : ℕ) (looked : List LookedAt) → AreFineFrom place looked → place ≤ 2 ^ 62 + 1 → place + length looked ≤ 2 ^ 62 + 1
few_meters place [] fine le = omega (arith, le)
few_meters place (one ∷ others) fine le =
    let here : place ≤ 2 ^ 62 = placed_within place one.row one.rows fine.0 in
    omega (arith, few_meters (suc place) others fine.1 (omega (arith, here)))

all_in_order : FromJournals → (content : Content) (place : ℕ) (looked : List LookedAt) → AllByRecursion (IsLookedUp content) looked
    → AreFineFrom place looked → AllByRecursion IsInOrder looked
all_in_order law content place [] theirs fine = tt
all_in_order law content place (one ∷ others) theirs fine =
    (in_order law content place one theirs.0 fine.0, all_in_order law content (suc place) others theirs.1 fine.1)

all_whole : (looked : List LookedAt) → AllByRecursion IsInOrder looked → AllByRecursion (λ one. AreWhole one.rows) looked
all_whole [] all = tt
all_whole (one ∷ others) all = (all.0.whole, all_whole others all.1)

can_be_folded : (register : List ℕ) (looked : List LookedAt) → AllByRecursion IsInOrder looked → never_overlap (spans_in looked) ≡ true
    → length looked ≤ 2 ^ 62 → CanBeFolded (shares_at register looked)
can_be_folded register looked all never few = record {
  never_fall = never_decreasing (shares_at register looked) (all_never_fall register looked all never);
  moments = all_moments register looked all;
  energy = omega (arith, few, all_energy register looked all);
}

-- The rows of a time span can be added up if all rows can be.
folds_within : (span : Span) (rows : List Share) → CanBeFolded rows → CanBeFolded (rows_within span rows)
folds_within AllTimes rows folds = folds
folds_within (Between from till) rows folds =
    let asked : Share → Bool = λ row. is_within (Between from till) row.start in
    let both = sum_by-filter_both asked (λ row. not (asked row)) (λ row. refl) (λ (row : Share). row.mwh) rows in
    record {
      never_fall = IsNonDecreasingBy-filter (λ row. row.start) asked rows folds.never_fall;
      moments = All-filter asked (λ row. row.start ≤ moment_limit) rows folds.moments;
      energy = omega (arith, folds.energy, both);
    }

adds_all_up : (rows : List Share) → CanBeFolded rows → AddsAllUp rows
adds_all_up rows folds = λ fresh after works empty took. (added_up fresh after rows folds works empty took).1

-- If the audit of the polls ends without a finding, then there was none before it.
none_before : (last : Result (Option ℕ) RowFault) (old new : Findings) (content : Content) → ReportsUpTo last old new content → new.first.items ≡ []
    → old.first.items ≡ []
none_before (Ok last) old new content reports none = (reports.reported.0 none).0
none_before (Err fault) old new content reports none = absurd (reports none)

pub fine_registers_are_in_turn : FromJournals → FineRegistersAreInTurn
fine_registers_are_in_turn law content found reports none =
    let polls = reports.polls in
    let named_none : reports.named.first.items ≡ [] = none_before (first_in 1 greatest_place polls.rows) reports.named found content polls.reports none in
    let meters_none : reports.meters.first.items ≡ [] = (reports.names.reported.0 named_none).0 in
    let each = reports.reported.reports in
    let fine = each.reported.0 meters_none in
    let all = all_in_order law content 1 each.looked each.theirs fine.0 in
    let few : length each.looked ≤ 2 ^ 62 = omega (arith, few_meters 1 each.looked fine.0 (omega arith)) in
    let folds : (register : List ℕ) → CanBeFolded (shares_at register each.looked) = λ register. can_be_folded register each.looked all fine.1 few in
    record {
      rows = reports.reported.rows;
      shown = reports.reported.shown;
      looked = each.looked;
      each = each.each;
      theirs = each.theirs;
      whole = all_whole each.looked all;
      folds = folds;
      adds_up = λ register span.
          adds_all_up (rows_within span (shares_at register each.looked)) (folds_within span (shares_at register each.looked) (folds register));
    }
