-- Lemmas: counting rejected readings one by one gives the counts of the complete list. The texts of
-- these counts, appended one by one, give their complete text.
use Rattle.std.proofs.Common.{◌≡◌, ℕ, ◌+◌, ◌<◌, ◌≤◌, ◌==◌, Bool, true, false, cond, not, ◌&&◌, List, [], ◌∷◌, ◌++◌, length, take, get_or, refl, sym, ◌∙◌, ap, append-nil, append_assoc}
use Rattle.std.specs.Prelude.{codes}
use Rattle.std.specs.List.{filter, flat_map}
use Rattle.std.proofs.lemmas.Grind.{flat_map-append}
use Rattle.std.proofs.lemmas.List.{take_all, take_more}
use Rattle.std.proofs.lemmas.List.Elements.{filter-append}
use Rattle.energy_core.specs.declared.verdicts.Cause.TheVariants as cause
use Rattle.interval_core.specs.declared.day_range.DayRange.{DayRange}
use Rattle.interval_core.specs.declared.zone.Zone.{Zone}
use Rattle.interval_core.specs.Ranges.{has_moment}
use Rattle.office_events.specs.declared.facts.HeldReading.{HeldReading}
use Rattle.office_books.specs.Rows.{TakesAll}
use Rattle.energy_report.specs.declared.form.Format.{Format}
use Rattle.energy_report.specs.declared.held_counts.HeldCount.{HeldCount}
use Rattle.energy_report.specs.declared.held_counts.RejectedCounts.{RejectedCounts}
use Rattle.energy_report.specs.declared.held_within.RejectedWithin.{RejectedWithin}
use Rattle.energy_report.specs.Held.{by_cause, held_within, is_held_within, with_one}
use Rattle.energy_report.specs.HeldSinks.{CountsReading, HasCountedNone}
use Rattle.energy_report.specs.StatementTexts.{are_none, count_piece, count_text, counts_or_zero, counts_text, held_mark, held_some}
use Rattle.energy_report.proofs.TallyLemmas.{counts}

-- Lemmas: counting rejected readings one by one, by the eight causes of rejection, gives the counts
-- of the list of all these readings.

abbrev eight : (a b d e f g h i : ℕ) → RejectedCounts
eight a b d e f g h i = record {
  not_accumulated = a;
  scale_changed = b;
  not_later = d;
  span_too_long = e;
  gap_too_long = f;
  too_fast = g;
  total_full = h;
  not_below_range = i;
}

alike : {a a' b b' d d' e e' f f' g g' h h' i i' : ℕ} → a ≡ a' → b ≡ b' → d ≡ d' → e ≡ e' → f ≡ f' → g ≡ g' → h ≡ h' → i ≡ i'
    → eight a b d e f g h i ≡ eight a' b' d' e' f' g' h' i'
alike ea eb ed ee ef eg eh ei = rw (ea, eb, ed, ee, ef, eg, eh, ei) refl

one_held : (zone : Zone) (range : DayRange) (before : List HeldReading) (held : HeldReading)
    → with_one (held_within zone range before) (has_moment zone range held.at) held.cause ≡ held_within zone range (before ++ held ∷ [])
one_held zone range before held = alike
    (counts (is_held_within zone range cause.NotAccumulated) before held)
    (counts (is_held_within zone range cause.ScaleChanged) before held)
    (counts (is_held_within zone range cause.NotLater) before held)
    (counts (is_held_within zone range cause.SpanTooLong) before held)
    (counts (is_held_within zone range cause.GapTooLong) before held)
    (counts (is_held_within zone range cause.TooFast) before held)
    (counts (is_held_within zone range cause.TotalFull) before held)
    (counts (is_held_within zone range cause.NotBelowRange) before held)

counted_on : (zone : Zone) (range : DayRange) (before holds : List HeldReading) (from to : RejectedWithin) → from.zone ≡ zone → from.range ≡ range
    → from.counts ≡ held_within zone range before → TakesAll CountsReading from holds to → to.counts ≡ held_within zone range (before ++ holds)
counted_on zone range before [] from to z r is took =
    ap (λ (s : RejectedWithin). s.counts) took ∙ is ∙ ap (held_within zone range) (sym (append-nil before))
counted_on zone range before (held ∷ holds) from to z r is took =
    let next = took.0 in
    let here : next.counts ≡ held_within zone range (before ++ held ∷ []) =
    took.1.counts
    ∙ ap (λ zone. with_one from.counts (has_moment zone from.range held.at) held.cause) z
    ∙ ap (λ range. with_one from.counts (has_moment zone range held.at) held.cause) r
    ∙ ap (λ counts. with_one counts (has_moment zone range held.at) held.cause) is
    ∙ one_held zone range before held in
    counted_on zone range (before ++ held ∷ []) holds next to (took.1.zone ∙ z) (took.1.range ∙ r) here took.2
    ∙ ap (held_within zone range) (append_assoc before (held ∷ []) holds)

-- After the counter `RejectedWithin` receives a list of rejected readings, its counts are those of
-- the readings whose timestamps are in its range of days (`held_within`).
pub counted_all : (zone : Zone) (range : DayRange) (holds : List HeldReading) (from to : RejectedWithin) → HasCountedNone zone range from
    → TakesAll CountsReading from holds to → to.counts ≡ held_within zone range holds
counted_all zone range holds from to fresh took = counted_on zone range [] holds from to fresh.zone_is fresh.range_is fresh.none took

-- True if the number of readings that were rejected for a cause is not 0.

abbrev is_some : HeldCount → Bool
is_some one = not (one.count == 0)

abbrev next_text : Format → HeldCount → List ℕ
next_text format one = held_mark format ++ count_text format one

joined_more : (format : Format) (xs : List HeldCount) (x : HeldCount)
    → counts_text format (xs ++ x ∷ []) ≡ counts_text format xs ++ (cond (are_none xs) [] (held_mark format) ++ count_text format x)
joined_more format [] x = append-nil (count_text format x)
joined_more format (y ∷ ys) x =
    ap (λ text. count_text format y ++ text) (flat_map-append (next_text format) ys (x ∷ []))
    ∙ sym (append_assoc (count_text format y) (flat_map (next_text format) ys) (next_text format x ++ []))
    ∙ ap (λ text. (count_text format y ++ flat_map (next_text format) ys) ++ text) (append-nil (next_text format x))

text_more : (format : Format) (xs : List HeldCount) (x : HeldCount) (b : Bool)
    → counts_text format (xs ++ cond (not b) (x ∷ []) [])
    ≡ counts_text format xs ++ cond b [] (cond (are_none xs) [] (held_mark format) ++ count_text format x)
text_more format xs x true = ap (counts_text format) (append-nil xs) ∙ sym (append-nil (counts_text format xs))
text_more format xs x false = joined_more format xs x

none_with : (xs : List HeldCount) (x : HeldCount) (b : Bool) → are_none (xs ++ cond (not b) (x ∷ []) []) ≡ (are_none xs && b)
none_with [] x true = refl
none_with [] x false = refl
none_with (y ∷ ys) x b = refl

-- The counts of rejected readings in a list that are not 0.
abbrev pub some_of : List HeldCount → List HeldCount
some_of counts = filter is_some counts

text_with : (format : Format) (before : List HeldCount) (x : HeldCount)
    → counts_text format (some_of (before ++ x ∷ [])) ≡ counts_text format (some_of before) ++ count_piece format (are_none (some_of before)) x
text_with format before x =
    ap (counts_text format) (filter-append is_some before (x ∷ [])) ∙ text_more format (some_of before) x (x.count == 0)

none_more : (before : List HeldCount) (x : HeldCount) → are_none (some_of (before ++ x ∷ [])) ≡ (are_none (some_of before) && (x.count == 0))
none_more before x = ap are_none (filter-append is_some before (x ∷ [])) ∙ none_with (some_of before) x (x.count == 0)

-- Suppose that the text of the first `i` counts of rejected readings is followed by the text of the
-- next count. Then the result is the text of the first `i + 1` counts.
pub piece_more : (format : Format) (xs : List HeldCount) (i : ℕ) (d : HeldCount) (old page new : List ℕ) (none : Bool) → i < length xs
    → page ≡ old ++ counts_text format (some_of (take i xs)) → none ≡ are_none (some_of (take i xs))
    → new ≡ page ++ count_piece format none (get_or xs i d) → new ≡ old ++ counts_text format (some_of (take (i + 1) xs))
piece_more format xs i d old page new none lt begun is put =
    let before = take i xs in
    let x = get_or xs i d in
    put ∙ ap (λ front. front ++ count_piece format none x) begun ∙ append_assoc old (counts_text format (some_of before)) (count_piece format none x)
    ∙ ap (λ text. old ++ text) (
    ap (λ b. counts_text format (some_of before) ++ count_piece format b x) is ∙ sym (text_with format before x)
    ∙ ap (λ those. counts_text format (some_of those)) (sym (take_more xs i d lt))
    )

pub still_none : (xs : List HeldCount) (i : ℕ) (d : HeldCount) (none next : Bool) → i < length xs → none ≡ are_none (some_of (take i xs))
    → next ≡ (none && ((get_or xs i d).count == 0)) → next ≡ are_none (some_of (take (i + 1) xs))
still_none xs i d none next lt is put =
    put ∙ ap (λ b. b && ((get_or xs i d).count == 0)) is ∙ sym (none_more (take i xs) (get_or xs i d))
    ∙ ap (λ those. are_none (some_of those)) (sym (take_more xs i d lt))

-- After the text of the last count is appended, the text of all counts of rejected readings is
-- complete.
pub all_pieces : (format : Format) (held : RejectedCounts) (xs : List HeldCount) (i : ℕ) (old page : List ℕ) (none : Bool) → xs ≡ by_cause held → length xs ≤ i
    → page ≡ old ++ counts_text format (some_of (take i xs)) → none ≡ are_none (some_of (take i xs))
    → (page ≡ old ++ counts_text format (held_some held)) × (none ≡ are_none (held_some held))
unfolding held_some
all_pieces format held xs i old page none are all begun is =
    let whole : take i xs ≡ by_cause held = take_all i xs all ∙ are in
    (begun ∙ ap (λ those. old ++ counts_text format (some_of those)) whole, is ∙ ap (λ those. are_none (some_of those)) whole)

-- If all counts of rejected readings are 0, then the text of the counts is `0`.
pub a_zero : (format : Format) (xs : List HeldCount) → are_none xs ≡ true → counts_text format xs ++ codes "0" ≡ counts_or_zero format xs
a_zero format [] none = refl
a_zero format (x ∷ xs) none = absurd (cc none)

pub no_zero : (format : Format) (xs : List HeldCount) → are_none xs ≡ false → counts_text format xs ≡ counts_or_zero format xs
no_zero format [] some = absurd (cc some)
no_zero format (x ∷ xs) some = refl
