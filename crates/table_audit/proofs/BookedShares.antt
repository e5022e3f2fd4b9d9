-- Lemmas on the energy by quarter hour that follows from a meter's entries: the quarter hours are
-- in order, and none begins after the last entry.
use Rattle.std.proofs.Common.{◌≡◌, ℕ, zero, suc, ◌+◌, ◌<◌, ◌≤◌, Bool, true, false, cond, List, [], ◌∷◌, ◌++◌, map, reverse, length, Option, refl, sym, ap, subst, ◌∙◌, arith}
use Rattle.std.specs.Prelude.{All, slice_index_or}
use Rattle.std.specs.List.Sorted.{IsNonDecreasingBy}
use Rattle.std.proofs.lemmas.List.Elements.{All-nil, All-cons, All-head, All-tail, All-weaker}
use Rattle.std.proofs.lemmas.List.Sorted.{All-permutation, IsPermutation-reverse}
use Rattle.energy_core.specs.declared.entries.Entry.{Entry}
use Rattle.energy_core.specs.declared.entries.Entry.TheVariants as entry
use Rattle.energy_core.specs.declared.entries.Last.{Last}
use Rattle.energy_core.specs.Account.{after, moment_of}
use Rattle.interval_core.specs.declared.shares.Share.{Share}
use Rattle.interval_core.specs.Account.{starts_of, IsAscending}
use Rattle.meter_journal.specs.declared.lines.Installed.{Installed}
use Rattle.meter_journal.specs.declared.lines.EntryRow.{EntryRow}
use Rattle.meter_journal.specs.Books.{IsWellInstalled, last_after, steps_after, interval_rows, last_in}
use Rattle.meter_journal.specs.Changes.{LiesWithin, RowsLieWithin}
use Rattle.meter_journal.specs.Intervals.{rows_of_steps}
use Rattle.meter_journal.specs.Journal.{Journal, entries_in, standing}
use Rattle.meter_journal.specs.Laws.{IntervalRowsAreAccounts}
use Rattle.meter_journal.specs.Standing.{entering}
use Rattle.meter_journal.specs.declared.audit.progress.Progress.{Progress}
use Rattle.meter_journal.specs.declared.audit.rows.TableRow.{TableRow}
use Rattle.meter_journal.specs.Audit.Fitting.{AllFit, AreReported}
use Rattle.meter_journal.specs.Audit.Going.{HasGone}
use Rattle.meter_journal.specs.Audit.Laws.{StandsAlone, FittingRowsStandAlone}
use Rattle.meter_journal.specs.Audit.Passing.{MayBeChecked}
use Rattle.meter_journal.specs.Audit.Rows.{later_rows, table_row, scale_after, opening_row}
use Rattle.meter_journal.proofs.AuditLemmas.Apart.{same_head}
use Rattle.table_audit.specs.Booked.{IsBooked}
use Rattle.table_audit.specs.Lawful.{IsOpenedBy}
use Rattle.table_audit.proofs.Agreeing.{same_meter}

-- Lemmas that no energy follows from entries that the rules for meter entries refuse.

pub nothing_entered : (range ceiling : ℕ) (entries : List TableRow) (shares : List Share) → entries ≡ []
    → IsBooked range ceiling entries shares → ⊥
nothing_entered range ceiling entries shares none booked =
    let both : [] ≡ booked.opening ∷ booked.later = sym none ∙ booked.first in absurd (cc)

pub never_opened : (range ceiling : ℕ) (entries : List TableRow) (opening : TableRow) (later : List TableRow) (shares : List Share)
    → entries ≡ opening ∷ later
    → ((meter : Installed) → MayBeChecked meter → IsOpenedBy range ceiling opening meter → ⊥)
    → IsBooked range ceiling entries shares → ⊥
never_opened range ceiling entries opening later shares first none booked =
    let both : booked.opening ∷ booked.later ≡ opening ∷ later = sym booked.first ∙ first in
    let head : booked.opening ≡ opening = same_head booked.opening opening booked.later later both in
    none booked.meter booked.may (subst (λ (r : TableRow). IsOpenedBy range ceiling r booked.meter) head booked.opened)

same_tail : (a b : TableRow) (rows others : List TableRow) → a ∷ rows ≡ b ∷ others → rows ≡ others
same_tail a b rows others h = cc

pub never_accepted : (range ceiling : ℕ) (entries : List TableRow) (opening : TableRow) (later : List TableRow) (meter : Installed)
    (shares : List Share) → entries ≡ opening ∷ later → IsOpenedBy range ceiling opening meter
    → (AreReported meter (reverse later) → ⊥) → IsBooked range ceiling entries shares → ⊥
never_accepted range ceiling entries opening later meter shares first opened none booked =
    let both : booked.opening ∷ booked.later ≡ opening ∷ later = sym booked.first ∙ first in
    let head : booked.opening ≡ opening = same_head booked.opening opening booked.later later both in
    let tail : booked.later ≡ later = same_tail booked.opening opening booked.later later both in
    let by : IsOpenedBy range ceiling opening booked.meter = subst (λ (r : TableRow). IsOpenedBy range ceiling r booked.meter) head booked.opened in
    let same : booked.meter ≡ meter = same_meter range ceiling opening booked.meter meter by opened in
    let reported : AreReported booked.meter (reverse booked.later) = record {
      rows = booked.rows;
      fit = booked.fit;
      reported_is = booked.later_are;
    } in
    none (subst (λ (m : Installed). AreReported m (reverse later)) same
    (subst (λ (rows : List TableRow). AreReported booked.meter (reverse rows)) tail reported))

pub accepted : (range ceiling : ℕ) (entries : List TableRow) (opening : TableRow) (later : List TableRow) (meter : Installed)
    (progress : Progress) → entries ≡ opening ∷ later → MayBeChecked meter → IsOpenedBy range ceiling opening meter
    → HasGone meter (reverse later) [] progress → IsBooked range ceiling entries progress.wanted.items
accepted range ceiling entries opening later meter progress first may opened gone = record {
  opening = opening;
  later = later;
  first = first;
  meter = meter;
  may = may;
  opened = opened;
  rows = gone.rows;
  fit = gone.taken.fit;
  later_are = gone.reported_is;
  shares_are = gone.intervals;
}

-- The energy by quarter hour of accepted rows is that of a journal (history) of their valid
-- entries.
as_journal : (meter : Installed) (rows : List EntryRow) (alone : StandsAlone meter rows)
    → interval_rows meter (entering (standing rows)) ≡ rows_of_steps (steps_after meter (entries_in rows))
as_journal meter rows alone = ap (λ (es : List Entry). rows_of_steps (steps_after meter es)) alone.entries

-- Lemmas that quarter hours with ascending starts are in order.

from_at : (n : ℕ) (rows : List Share) (j : ℕ) (d : Share) → All (λ later. n < later) (starts_of rows) → j < length rows
    → n < (slice_index_or rows j d).start
from_at n [] j d h lt = absurd (omega (arith, lt))
from_at n (row ∷ rows) zero d h lt = All-head (λ later. n < later) row.start (starts_of rows) h
from_at n (row ∷ rows) (suc j) d h lt = from_at n rows j d (All-tail (λ later. n < later) row.start (starts_of rows) h) (omega (arith, lt))

ascending_at : (rows : List Share) (i j : ℕ) (d : Share) → IsAscending (starts_of rows) → i ≤ j → j < length rows
    → (slice_index_or rows i d).start ≤ (slice_index_or rows j d).start
ascending_at [] i j d h le lt = absurd (omega (arith, lt))
ascending_at (row ∷ rows) zero zero d h le lt = omega arith
ascending_at (row ∷ rows) zero (suc j) d h le lt = omega (arith, from_at row.start rows j d h.0 (omega (arith, lt)))
ascending_at (row ∷ rows) (suc i) zero d h le lt = absurd (omega (arith, le))
ascending_at (row ∷ rows) (suc i) (suc j) d h le lt = ascending_at rows i j d h.1 (omega (arith, le)) (omega (arith, lt))

pub booked_in_order : IntervalRowsAreAccounts → FittingRowsStandAlone → (range ceiling : ℕ) (entries : List TableRow) (shares : List Share)
    → IsBooked range ceiling entries shares → IsNonDecreasingBy (λ (row : Share). row.start) shares
booked_in_order accounts stand range ceiling entries shares booked =
    let meter = booked.meter in
    let rows = booked.rows in
    let alone : StandsAlone meter rows = stand meter rows booked.fit in
    let lines : Journal = entering (standing rows) in
    let same : interval_rows meter lines ≡ shares = as_journal meter rows alone ∙ sym booked.shares_are in
    let ascending : IsAscending (starts_of shares) =
    subst (λ (s : List Share). IsAscending (starts_of s)) same (accounts meter lines booked.may.installed alone.fit).in_order in
    λ i j d le lt. ascending_at shares i j d ascending le lt

-- Lemmas that no quarter hour begins after the greatest time of the entries.

abbrev pub EndsBy : ℕ → TableRow → Type 0
EndsBy most row = row.moment ≤ most

after_at : (last : Last) (e : Entry) → (after last e).at ≡ moment_of e
after_at last (entry.Step at raw rolls) = refl
after_at last (entry.Change at before after sf) = refl

-- If the latest row is valid, its entry is the last one. Otherwise the last one is an earlier
-- entry.
last_or : (meter : Installed) (most : ℕ) (row : EntryRow) (rows : List EntryRow) (b : Bool) → row.stands ≡ b
    → moment_of row.entry ≤ most → (last_after meter (entries_in rows)).at ≤ most
    → (last_after meter (entries_in (row ∷ rows))).at ≤ most
last_or meter most row rows true is here before = rw is (omega (arith, after_at (last_after meter (entries_in rows)) row.entry, here))
last_or meter most row rows false is here before = rw is before

last_by : (meter : Installed) (most : ℕ) (rows : List EntryRow) → meter.opening.at ≤ most → All (EndsBy most) (later_rows meter rows)
    → (last_after meter (entries_in rows)).at ≤ most
last_by meter most [] opening all = opening
last_by meter most (row ∷ rows) opening all =
    let shown : TableRow = table_row (scale_after meter (row ∷ rows)) row in
    last_or meter most row rows row.stands refl (All-head (EndsBy most) shown (later_rows meter rows) all)
    (last_by meter most rows opening (All-tail (EndsBy most) shown (later_rows meter rows) all))

pub booked_by : RowsLieWithin → FittingRowsStandAlone → (range ceiling most : ℕ) (entries : List TableRow) (shares : List Share)
    → All (EndsBy most) entries → IsBooked range ceiling entries shares → All (λ (row : Share). row.start ≤ most) shares
booked_by within stand range ceiling most entries shares all booked =
    let meter = booked.meter in
    let rows = booked.rows in
    let alone : StandsAlone meter rows = stand meter rows booked.fit in
    let lines : Journal = entering (standing rows) in
    let same : interval_rows meter lines ≡ shares = as_journal meter rows alone ∙ sym booked.shares_are in
    let both : All (EndsBy most) (booked.opening ∷ booked.later) = subst (All (EndsBy most)) booked.first all in
    let first : booked.opening.moment ≤ most = All-head (EndsBy most) booked.opening booked.later both in
    let opening : meter.opening.at ≤ most = omega (arith, first, ap (λ (r : TableRow). r.moment) booked.opened.opening_is) in
    let later : All (EndsBy most) (later_rows meter rows) =
    subst (All (EndsBy most)) booked.later_are
    (All-permutation (EndsBy most) booked.later (reverse booked.later) (IsPermutation-reverse booked.later)
    (All-tail (EndsBy most) booked.opening booked.later both)) in
    let last : (last_in meter lines).at ≤ most =
    subst (λ (es : List Entry). (last_after meter es).at ≤ most) (sym alone.entries) (last_by meter most rows opening later) in
    let lie : All (LiesWithin meter.opening.at (last_in meter lines).at) shares =
    subst (All (LiesWithin meter.opening.at (last_in meter lines).at)) same (within meter lines booked.may.installed alone.fit) in
    All-weaker (LiesWithin meter.opening.at (last_in meter lines).at) (λ (row : Share). row.start ≤ most)
    (λ row h. omega (arith, h.before, last)) shares lie
