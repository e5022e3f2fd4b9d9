-- The theorem that the statement (report) of a meter over two database files equals the statement
-- over one file that has the meter's history of both.
use Rattle.std.proofs.Common.{◌≡◌, ℕ, zero, suc, ◌+◌, ◌-◌, ◌^◌, ◌<◌, ◌≤◌, ◌==◌, Bool, true, false, cond, List, [], ◌∷◌, ◌++◌, map, reverse, Option, Some, None, inl, inr, refl, sym, ap, subst, ◌∙◌, arith}
use Rattle.std.specs.Prelude.{◌≢◌, filter, find, min}
use Rattle.std.specs.List.{count_by}
use Rattle.std.specs.Option.{option_map, option_or}
use Rattle.std.proofs.lemmas.Bool.{cases_Bool, cond-false, cond-true, eq-eqb, eqb-false, eqb-true, ne_eqb}
use Rattle.std.proofs.lemmas.List.{reverse-append}
use Rattle.std.proofs.lemmas.List.Elements.{filter-append}
use Rattle.std.proofs.lemmas.List.Folds.{find-append}
use Rattle.std.proofs.lemmas.List.Sums.{sum_by-append, sum_by-cons}
use Rattle.energy_core.specs.declared.entries.Last.{Last}
use Rattle.energy_report.specs.Held.{held_within}
use Rattle.energy_report.specs.RowLines.{counted}
use Rattle.energy_report.specs.Statements.{energy_within, is_closing, is_corrected, is_manual, is_rescale, is_reset, is_voided, counter_after_entry, opens_within, stands_within, tally_of}
use Rattle.interval_core.specs.Account.{energy_of}
use Rattle.interval_core.specs.Ranges.{has_moment}
use Rattle.interval_core.specs.declared.day_range.DayRange.{DayRange}
use Rattle.interval_core.specs.declared.shares.Share.{Share}
use Rattle.interval_core.specs.declared.zone.Zone.{Zone}
use Rattle.meter_journal.specs.Audit.Carried.{AreCountedOnce, energy_from}
use Rattle.meter_journal.specs.declared.lines.EntryKind.{EntryKind}
use Rattle.office_books.specs.declared.entries.MeterEntry.{MeterEntry}
use Rattle.office_books.specs.declared.entries.MeterEntry.TheVariants as entry
use Rattle.office_events.specs.declared.facts.HeldReading.{HeldReading}
use Rattle.office_books.proofs.Lists.{map_reverse}
use Rattle.carried_books.specs.Joining.Statements.{BothFilesStateTheJoinedMeter, moved_entry, own_entries}
use Rattle.carried_books.proofs.JoiningLemmas.KeptMeters.{reported_alike}

-- Lemmas: the energy of a list of a meter's intervals is the sum of the energies of its quarter
-- hours.

-- The sum of the values of a function for all numbers below a bound.
abbrev up_to : ℕ → (ℕ → ℕ) → ℕ
up_to zero f = 0
up_to (suc n) f = up_to n f + f n

up_to_same : (n : ℕ) (f g : ℕ → ℕ) → ((k : ℕ) → k < n → f k ≡ g k) → up_to n f ≡ up_to n g
up_to_same zero f g same = refl
up_to_same (suc n) f g same =
    let below : up_to n f ≡ up_to n g = up_to_same n f g (λ k less. same k (omega (arith, less))) in
    let here : f n ≡ g n = same n (omega arith) in
    let both : up_to n f + f n ≡ up_to n g + g n = omega (arith, below, here) in
    both

up_to_none : (n : ℕ) (f : ℕ → ℕ) → ((k : ℕ) → f k ≡ 0) → up_to n f ≡ 0
up_to_none zero f none = refl
up_to_none (suc n) f none =
    let below : up_to n f ≡ 0 = up_to_none n f none in
    let here : f n ≡ 0 = none n in
    let both : up_to n f + f n ≡ 0 = omega (arith, below, here) in
    both

-- Suppose that the values of two functions are equal, except at one number below a bound, where the
-- second value is greater by `m`. Then the sums of their values below the bound differ by `m`.
up_to_more : (n : ℕ) (f g : ℕ → ℕ) (k m : ℕ) → k < n → g k ≡ f k + m → ((s : ℕ) → s ≢ k → g s ≡ f s) → up_to n g ≡ up_to n f + m
up_to_more zero f g k m less here rest = absurd (omega (arith, less))
up_to_more (suc n) f g k m less here rest = elim (cases_Bool (n == k)) [
  | inl is ↦
      let same : n ≡ k = eqb-true n k is in
      let below : up_to n g ≡ up_to n f = up_to_same n g f (λ s under. rest s (λ e. omega (arith, under, e, same))) in
      let at : g n ≡ f n + m = subst (λ j. g j ≡ f j + m) (sym same) here in
      let both : up_to n g + g n ≡ up_to n f + f n + m = omega (arith, below, at) in
      both
  | inr isnt ↦
      let other : n ≢ k = eqb-false n k isnt in
      let under : k < n = omega (arith, less, other) in
      let below : up_to n g ≡ up_to n f + m = up_to_more n f g k m under here rest in
      let at : g n ≡ f n = rest n other in
      let both : up_to n g + g n ≡ up_to n f + f n + m = omega (arith, below, at) in
      both
]

chosen : (b : Bool) (row : Share) (rows : List Share) → energy_of (cond b (row ∷ rows) rows) ≡ cond b row.mwh 0 + energy_of rows
chosen true row rows = sum_by-cons (λ (r : Share). r.mwh) row rows
chosen false row rows = omega arith

either : (b : Bool) (e more m : ℕ) → more ≡ e + m → cond b more 0 ≡ cond b e 0 + cond b m 0
either true e more m is = is
either false e more m is = refl

nothing : (b : Bool) (n : ℕ) → n ≡ 0 → cond b n 0 ≡ 0
nothing true n is = is
nothing false n is = refl

at_start : (row : Share) (rows : List Share) → energy_from row.start (row ∷ rows) ≡ energy_from row.start rows + row.mwh
at_start row rows =
    let begun : List Share = filter (λ r. r.start == row.start) rows in
    let one : energy_of (cond (row.start == row.start) (row ∷ begun) begun) ≡ row.mwh + energy_of begun =
    ap energy_of (cond-true _ _ _ (eq-eqb row.start row.start refl)) ∙ sum_by-cons (λ (r : Share). r.mwh) row begun in
    let all : energy_of (cond (row.start == row.start) (row ∷ begun) begun) ≡ energy_of begun + row.mwh = omega (arith, one) in
    all

elsewhere : (row : Share) (rows : List Share) (s : ℕ) → row.start ≢ s → energy_from s (row ∷ rows) ≡ energy_from s rows
elsewhere row rows s other = ap energy_of (cond-false _ _ _ (ne_eqb row.start s other))

module _ (asked : ℕ → Bool) where
  -- The energy in mWh of those intervals in a list that start at `s`, or 0 if the requested range
  -- does not include `s`.
  abbrev of_quarter : List Share → ℕ → ℕ
  of_quarter rows s = cond (asked s) (energy_from s rows) 0

  abbrev those_asked : List Share → List Share
  those_asked rows = filter (λ row. asked row.start) rows

  -- A number greater than the start of each interval in a list. Sums over quarter hours add only
  -- those that start below this number.
  abbrev bound : List Share → ℕ
  bound [] = 0
  bound (row ∷ rows) = row.start + 1 + bound rows

  by_quarters : (n : ℕ) (rows : List Share) → bound rows ≤ n → energy_of (those_asked rows) ≡ up_to n (of_quarter rows)
  by_quarters n [] fits = sym (up_to_none n (of_quarter []) (λ s. nothing (asked s) 0 refl))
  by_quarters n (row ∷ rows) fits =
      let fit : row.start + 1 + bound rows ≤ n = fits in
      let rest : energy_of (those_asked rows) ≡ up_to n (of_quarter rows) = by_quarters n rows (omega (arith, fit)) in
      let first : energy_of (those_asked (row ∷ rows)) ≡ cond (asked row.start) row.mwh 0 + energy_of (those_asked rows) =
      chosen (asked row.start) row (those_asked rows) in
      let more : up_to n (of_quarter (row ∷ rows)) ≡ up_to n (of_quarter rows) + cond (asked row.start) row.mwh 0 =
      up_to_more n (of_quarter rows) (of_quarter (row ∷ rows)) row.start (cond (asked row.start) row.mwh 0) (omega (arith, fit))
      (either (asked row.start) (energy_from row.start rows) (energy_from row.start (row ∷ rows)) row.mwh (at_start row rows))
      (λ s other. ap (λ e. cond (asked s) e 0) (elsewhere row rows s (λ e. other (sym e)))) in
      omega (arith, rest, first, more)

  same_by_quarters : (rows others : List Share) → ((s : ℕ) → energy_from s rows ≡ energy_from s others)
      → energy_of (those_asked rows) ≡ energy_of (those_asked others)
  same_by_quarters rows others same =
      by_quarters (bound rows + bound others) rows (omega arith)
      ∙ up_to_same (bound rows + bound others) (of_quarter rows) (of_quarter others) (λ s less. ap (λ e. cond (asked s) e 0) (same s))
      ∙ sym (by_quarters (bound rows + bound others) others (omega arith))

of_both : (old new : List Share) (s : ℕ) → energy_from s (old ++ new) ≡ energy_from s old + energy_from s new
of_both old new s =
    let begun : Share → Bool = λ row. row.start == s in
    ap energy_of (filter-append begun old new) ∙ sum_by-append (λ (row : Share). row.mwh) (filter begun old) (filter begun new)

same_energy : (zone : Zone) (range : DayRange) (old new both : List Share) → AreCountedOnce old new both
    → energy_within zone range (old ++ new) ≡ energy_within zone range both
same_energy zone range old new both once =
    ap (λ n. min n (2 ^ 128 - 1))
    (same_by_quarters (λ s. has_moment zone range s) (old ++ new) both (λ s. of_both old new s ∙ sym (once.quarters s)))

-- The counter state after a meter entry, which the meter's statement (report) uses, does not depend
-- on the entry's index in its database file.

same_stand : (count : ℕ) (e : MeterEntry) → counter_after_entry (moved_entry count e) ≡ counter_after_entry e
same_stand count (entry.Opening last) = refl
same_stand count (entry.Later row sf) = refl

map_or : {X Y : Type 0} (f : X → Y) (a b : Option X) → option_map f (option_or a b) ≡ option_or (option_map f a) (option_map f b)
map_or f None b = refl
map_or f (Some x) b = refl

module _ (count : ℕ) (p : MeterEntry → Bool) (same : (e : MeterEntry) → p (moved_entry count e) ≡ p e) where
  abbrev found : List MeterEntry → Option Last
  found entries = option_map counter_after_entry (find p entries)

  found_moved : (entries : List MeterEntry) → found (map (moved_entry count) entries) ≡ found entries
  found_moved [] = refl
  found_moved (e ∷ entries) = elim (cases_Bool (p e)) [
    | inl is ↦ ap (option_map counter_after_entry) (cond-true _ _ _ (same e ∙ is)) ∙ ap Some (same_stand count e) ∙ sym (ap (option_map counter_after_entry) (cond-true _ _ _ is))
    | inr isnt ↦ ap (option_map counter_after_entry) (cond-false _ _ _ (same e ∙ isnt)) ∙ found_moved entries ∙ sym (ap (option_map counter_after_entry) (cond-false _ _ _ isnt))
  ]

  found_both : (entries more : List MeterEntry) → found (entries ++ more) ≡ option_or (found entries) (found more)
  found_both entries more = ap (option_map counter_after_entry) (find-append p entries more) ∙ map_or counter_after_entry (find p entries) (find p more)

  first_moved : (old new : List MeterEntry) → found (old ++ map (moved_entry count) new) ≡ found (old ++ new)
  first_moved old new =
      found_both old (map (moved_entry count) new) ∙ ap (option_or (found old)) (found_moved new) ∙ sym (found_both old new)

  last_moved : (old new : List MeterEntry) → found (reverse (old ++ map (moved_entry count) new)) ≡ found (reverse (old ++ new))
  last_moved old new =
      ap found (reverse-append old (map (moved_entry count) new)) ∙ found_both (reverse (map (moved_entry count) new)) (reverse old)
      ∙ ap (λ o. option_or o (found (reverse old))) (ap found (sym (map_reverse (moved_entry count) new)) ∙ found_moved (reverse new))
      ∙ sym (ap found (reverse-append old new) ∙ found_both (reverse new) (reverse old))

  abbrev one : MeterEntry → ℕ
  one e = cond (p e) 1 0

  count_moved : (entries : List MeterEntry) → count_by p (map (moved_entry count) entries) ≡ count_by p entries
  count_moved [] = refl
  count_moved (e ∷ entries) =
      sum_by-cons one (moved_entry count e) (map (moved_entry count) entries)
      ∙ ap (λ b. cond b 1 0 + count_by p (map (moved_entry count) entries)) (same e) ∙ ap (λ n. one e + n) (count_moved entries) ∙ sym (sum_by-cons one e entries)

  counted_moved : (old new : List MeterEntry) → counted (count_by p (old ++ map (moved_entry count) new)) ≡ counted (count_by p (old ++ new))
  counted_moved old new =
      ap counted (sum_by-append one old (map (moved_entry count) new) ∙ ap (λ n. count_by p old + n) (count_moved new) ∙ sym (sum_by-append one old new))

module _ (zone : Zone) (range : DayRange) (count : ℕ) where
  same_stands : (e : MeterEntry) → stands_within zone range (moved_entry count e) ≡ stands_within zone range e
  same_stands (entry.Opening last) = refl
  same_stands (entry.Later row sf) = refl

  same_voided : (e : MeterEntry) → is_voided zone range (moved_entry count e) ≡ is_voided zone range e
  same_voided (entry.Opening last) = refl
  same_voided (entry.Later row sf) = refl

  same_opens : (e : MeterEntry) → opens_within zone range (moved_entry count e) ≡ opens_within zone range e
  same_opens (entry.Opening last) = refl
  same_opens (entry.Later row sf) = refl

  same_corrected : (is : EntryKind → Bool) (e : MeterEntry) → is_corrected zone range is (moved_entry count e) ≡ is_corrected zone range is e
  same_corrected is (entry.Opening last) = refl
  same_corrected is (entry.Later row sf) = refl

  same_tally : (old new : List MeterEntry) → tally_of zone range (old ++ map (moved_entry count) new) ≡ tally_of zone range (old ++ new)
  same_tally old new = λ i. record {
    first = first_moved count (stands_within zone range) same_stands old new i;
    last = last_moved count (stands_within zone range) same_stands old new i;
    by_hand = counted_moved count (is_corrected zone range is_manual) (same_corrected is_manual) old new i;
    resets = counted_moved count (is_corrected zone range is_reset) (same_corrected is_reset) old new i;
    rescales = counted_moved count (is_corrected zone range is_rescale) (same_corrected is_rescale) old new i;
    voids = counted_moved count (is_voided zone range) same_voided old new i;
    openings = counted_moved count (opens_within zone range) same_opens old new i;
    closings = counted_moved count (is_corrected zone range is_closing) (same_corrected is_closing) old new i;
  }

pub joined_meter : BothFilesStateTheJoinedMeter
joined_meter = λ zone range old new both has.
    reported_alike (sym has.name)
    (sym (ap (tally_of zone range) has.entries ∙ same_tally zone range has.count old.entries (own_entries true new.entries)))
    (same_energy zone range old.rows new.rows both.rows has.rows) (ap (λ (holds : List HeldReading). held_within zone range holds) (sym has.holds))
