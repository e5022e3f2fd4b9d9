-- Lemmas: a query for the energy of a meter's quarter hours can be split into queries for
-- consecutive time spans.
use Rattle.std.proofs.Common.{◌≡◌, ℕ, ◌+◌, ◌<◌, ◌≤◌, nat_lt, nat_le, Bool, true, false, cond, ◌&&◌, List, [], ◌∷◌, ◌++◌, min, max, refl, sym, ap, ◌∙◌, inl, inr, Option, Some, None, arith}
use Rattle.std.specs.Prelude.{All}
use Rattle.std.specs.Option.{option_map}
use Rattle.std.proofs.lemmas.Bool.{cases_Bool, cases_lt, cond-true, cond-false}
use Rattle.std.proofs.lemmas.Bool.Decides.{nat_tests}
use Rattle.std.proofs.lemmas.List.Elements.{All-head, All-tail}
use Rattle.interval_core.specs.declared.shares.Share.{Share}
use Rattle.interval_core.specs.Account.{SharesAddUp}
use Rattle.meter_journal.specs.Books.{steps_after}
use Rattle.meter_journal.specs.Changes.{LiesWithin}
use Rattle.meter_journal.specs.Journal as journal
use Rattle.meter_journal.proofs.Chains.{rows_lie_within}
use Rattle.meter_journal.proofs.InTime.{in_time}
use Rattle.meter_journal.proofs.Keeping.{journals_are_kept}
use Rattle.meter_journal.proofs.Merging.{Rising, has_rows}
use Rattle.office_events.specs.declared.facts.Opening.{Opening}
use Rattle.office_events.specs.declared.facts.Fact.{Fact}
use Rattle.office_books.specs.Facts.{opening_of}
use Rattle.office_books.specs.Intervals.{rows_of_installed, rows_of_meter, rows_of_opening}
use Rattle.office_books.specs.Lawful.{AreLawful}
use Rattle.office_books.specs.Meters.{installation_of, installed, journal_of, opened}
use Rattle.office_books.proofs.Journals.{installed_fits, well}
use Rattle.office_books.specs.Spans.{rows_within}
use Rattle.office_books.specs.declared.spans.Span.TheVariants.{Between}
use Rattle.office_core.specs.Asking.{rows_in}
use Rattle.run_http.specs.Copies.{VoidsFrom, changes_from, next_place, quarter_of, rows_before}
use Rattle.run_http.specs.Pieces.{rows_between}
use Rattle.run_http.proofs.Copies.StayingShares.{StartFrom, none_start, not_before}
use Rattle.run_http.proofs.Copies.StayingRows.{entries_come_after, own_name, rows_before_stay}

-- Lemmas on those interval rows (each the energy of one quarter hour) of a list that start in a
-- time span.

le_true : (a b : ℕ) → a ≤ b → nat_le a b ≡ true
le_true a b le = grind (arith, nat_tests, le)

le_false : (a b : ℕ) → b < a → nat_le a b ≡ false
le_false a b lt = grind (arith, nat_tests, lt)

lt_true : (a b : ℕ) → a < b → nat_lt a b ≡ true
lt_true a b lt = grind (arith, nat_tests, lt)

is_le : (a b : ℕ) → nat_le a b ≡ true → a ≤ b
is_le a b e = grind (arith, nat_tests, e)

is_above : (a b : ℕ) → nat_le a b ≡ false → b < a
is_above a b e = grind (arith, nat_tests, e)

is_lt : (a b : ℕ) → nat_lt a b ≡ true → a < b
is_lt a b e = grind (arith, nat_tests, e)

is_from : (a b : ℕ) → nat_lt a b ≡ false → b ≤ a
is_from a b e = grind (arith, nat_tests, e)

and_false : (b : Bool) → b && false ≡ false
and_false true = refl
and_false false = refl

-- Two filters return the same rows of a list if two conditions hold: both keep or both drop the
-- first row, and both return the same of the later rows.
kept_same : (a b : Bool) (row : Share) (left right : List Share) → a ≡ b → left ≡ right → cond a (row ∷ left) left ≡ cond b (row ∷ right) right
kept_same a b row left right same rest = ap (λ c. cond c (row ∷ left) left) same ∙ ap (λ rs. cond b (row ∷ rs) rs) rest

-- If a time span is empty, then no interval row (energy of one quarter hour) starts in it.
pub empty_within : (from till : ℕ) (rows : List Share) → till ≤ from → rows_within (Between from till) rows ≡ []
empty_within from till [] le = refl
empty_within from till (row ∷ rows) le =
    elim (cases_Bool (nat_le from row.start)) [
      | inl e ↦
          let ge : till ≤ row.start = omega (arith, is_le from row.start e, le) in
          let off : nat_le from row.start && nat_lt row.start till ≡ false =
          ap (λ b. nat_le from row.start && b) (not_before till row.start ge) ∙ and_false (nat_le from row.start) in
          cond-false _ _ _ off ∙ empty_within from till rows le
      | inr e ↦ cond-false _ _ _ (ap (λ b. b && nat_lt row.start till) e) ∙ empty_within from till rows le
    ]

-- If all interval rows (energies of quarter hours) of a list start at `till` or later, then no row
-- is in a time span that ends at `till`.
none_within : (from till : ℕ) (rows : List Share) → StartFrom till rows → rows_within (Between from till) rows ≡ []
none_within from till [] h = refl
none_within from till (row ∷ rows) h =
    cond-false _ _ _ (ap (λ b. nat_le from row.start && b) (not_before till row.start h.0) ∙ and_false (nat_le from row.start))
    ∙ none_within from till rows h.1

-- Suppose that all interval rows (energies of quarter hours) start at `at` or later. Then a time
-- span that begins earlier has the same rows as the time span from `at` to the same end.
same_from : (from at till : ℕ) (rows : List Share) → from ≤ at → StartFrom at rows → rows_within (Between from till) rows ≡ rows_within (Between at till) rows
same_from from at till [] le h = refl
same_from from at till (row ∷ rows) le h =
    kept_same (nat_le from row.start && nat_lt row.start till) (nat_le at row.start && nat_lt row.start till) row (rows_within (Between from till) rows)
    (rows_within (Between at till) rows)
    (ap (λ b. b && nat_lt row.start till) (le_true from row.start (omega (arith, le, h.0)) ∙ sym (le_true at row.start h.0)))
    (same_from from at till rows le h.1)

of_first : (b : Bool) (row : Share) (all first others : List Share) → all ≡ first ++ others → cond b (row ∷ all) all ≡ cond b (row ∷ first) first ++ others
of_first true row all first others is = ap (λ rs. row ∷ rs) is
of_first false row all first others is = is

-- Suppose that interval rows (energies of quarter hours) are in order of time. Then the rows of a
-- time span are those before a time `at` in the span, followed by those from `at` on.
pub in_parts : (from at till : ℕ) (rows : List Share) → Rising rows → from ≤ at → at ≤ till
    → rows_within (Between from till) rows ≡ rows_within (Between from at) rows ++ rows_within (Between at till) rows
in_parts from at till [] rising low high = refl
in_parts from at till (row ∷ rows) rising low high =
    elim (cases_Bool (nat_lt row.start at)) [
      | inl e ↦
          let lt : row.start < at = is_lt row.start at e in
          let early : nat_lt row.start till ≡ nat_lt row.start at = lt_true row.start till (omega (arith, lt, high)) ∙ sym e in
          let off : nat_le at row.start && nat_lt row.start till ≡ false = ap (λ b. b && nat_lt row.start till) (le_false at row.start lt) in
          ap (λ b. cond (nat_le from row.start && b) (row ∷ rows_within (Between from till) rows) (rows_within (Between from till) rows)) early
          ∙ of_first (nat_le from row.start && nat_lt row.start at) row (rows_within (Between from till) rows) (rows_within (Between from at) rows)
          (rows_within (Between at till) rows) (in_parts from at till rows rising.1 low high)
          ∙ ap (λ rs. rows_within (Between from at) (row ∷ rows) ++ rs) (sym (cond-false _ _ _ off))
      | inr e ↦
          let ge : at ≤ row.start = is_from row.start at e in
          let from_at : StartFrom at (row ∷ rows) = (ge, none_start at row.start rows ge rising.0) in
          same_from from at till (row ∷ rows) low from_at
          ∙ ap (λ rs. rs ++ rows_within (Between at till) (row ∷ rows)) (sym (none_within from at (row ∷ rows) from_at))
    ]

-- If the interval rows (energies of quarter hours) that start at or after the end of a time span
-- are dropped, the rows in the span remain the same.
within_before : (from till : ℕ) (rows : List Share) → rows_within (Between from till) (rows_before till rows) ≡ rows_within (Between from till) rows
within_before from till [] = refl
within_before from till (row ∷ rows) =
    elim (cases_Bool (nat_lt row.start till)) [
      | inl e ↦
          ap (rows_within (Between from till)) (cond-true _ _ _ e)
          ∙ ap (λ rs. cond (nat_le from row.start && nat_lt row.start till) (row ∷ rs) rs) (within_before from till rows)
      | inr e ↦
          ap (rows_within (Between from till)) (cond-false _ _ _ e) ∙ within_before from till rows
          ∙ sym (cond-false _ _ _ (ap (λ b. nat_le from row.start && b) e ∙ and_false (nat_le from row.start)))
    ]

first_tests : (from low first start : ℕ) → first ≡ max from low → low ≤ start → nat_le from start ≡ nat_le first start
first_tests from low first start is le =
    elim (cases_Bool (nat_le from start)) [
      | inl e ↦ let upto : first ≤ start = omega (arith, is, le, is_le from start e) in e ∙ sym (le_true first start upto)
      | inr e ↦ let over : start < first = omega (arith, is, is_above from start e) in e ∙ sym (le_false first start over)
    ]

-- If all interval rows (energies of quarter hours) start at `low` or later, then a time span can
-- begin at `low` instead of an earlier time without losing rows.
from_first : (from low first till : ℕ) (rows : List Share) → first ≡ max from low → StartFrom low rows
    → rows_within (Between from till) rows ≡ rows_within (Between first till) rows
from_first from low first till [] is h = refl
from_first from low first till (row ∷ rows) is h =
    kept_same (nat_le from row.start && nat_lt row.start till) (nat_le first row.start && nat_lt row.start till) row (rows_within (Between from till) rows)
    (rows_within (Between first till) rows)
    (ap (λ b. b && nat_lt row.start till) (first_tests from low first row.start is h.0))
    (from_first from low first till rows is h.1)

-- The interval rows (energies of quarter hours) of a time span consist of the two parts of a
-- streamed response: the rows queried chunk by chunk, and then the last rows, which are queried
-- when the response begins.
parted : (from low first last end till : ℕ) (rows : List Share) → Rising rows → StartFrom low rows → first ≡ max from low → end ≡ max first (min till last)
    → rows_within (Between from till) rows ≡ rows_within (Between first end) rows ++ rows_within (Between end till) rows
parted from low first last end till rows rising start is ends =
    let two : rows_within (Between first till) rows ≡ rows_within (Between first end) rows ++ rows_within (Between end till) rows =
    elim (cases_lt first end) [
      | inl lt ↦ in_parts first end till rows rising (omega (arith, lt)) (omega (arith, ends, lt))
      | inr ge ↦
          let same : end ≡ first = omega (arith, ends, ge) in
          ap (λ n. rows_within (Between n till) rows) (sym same)
          ∙ ap (λ rs. rs ++ rows_within (Between end till) rows) (sym (empty_within first end rows (omega (arith, same))))
    ] in
    from_first from low first till rows is start ∙ two

-- Lemmas that a query for the interval rows (energies of quarter hours) of a meter in a time span
-- returns exactly its rows that start in the span.

asked_of : (facts : List Fact) (from till : ℕ) (opening : Option Opening)
    → rows_in (option_map (rows_within (Between from till)) (option_map (rows_of_opening facts) opening))
    ≡ rows_within (Between from till) (rows_of_installed facts opening)
asked_of facts from till None = refl
asked_of facts from till (Some opening) = refl

-- A query for a meter's interval rows (energies of quarter hours) in a time span returns all
-- interval rows of the meter that start in the time span.
between_rows : (facts : List Fact) (meter : List ℕ) (from till : ℕ)
    → rows_between facts (Some meter) from till ≡ rows_within (Between from till) (rows_of_meter facts meter)
between_rows facts meter from till = asked_of facts from till (opening_of facts meter)

-- If a time span is empty, then a query for the interval rows (energies of quarter hours) in it
-- returns no rows.
pub none_between : (facts : List Fact) (meter : Option (List ℕ)) (from till : ℕ) → till ≤ from → rows_between facts meter from till ≡ []
none_between facts None from till le = refl
none_between facts (Some meter) from till le = between_rows facts meter from till ∙ empty_within from till (rows_of_meter facts meter) le

rises : SharesAddUp → (facts : List Fact) (o : Opening) → AreLawful facts → opening_of facts o.meter ≡ Some o → Rising (rows_of_opening facts o)
rises law facts o h own =
    let lines : journal.Journal = journal_of facts o.meter in
    (has_rows law (steps_after (installed o) (journal.entries_of (opened o) lines))
    (in_time (installed o) (journal.entries_of (opened o) lines)
    (journals_are_kept (installed o) lines (well facts o h own) (installed_fits facts o h own)).account.follow)).rising

all_start : (begun last : ℕ) (rows : List Share) → All (LiesWithin begun last) rows → StartFrom (quarter_of begun) rows
all_start begun last [] h = tt
all_start begun last (row ∷ rows) h =
    let within = All-head (LiesWithin begun last) row rows h in
    (omega (arith, within.quarter, within.following), all_start begun last rows (All-tail (LiesWithin begun last) row rows h))

starts : SharesAddUp → (facts : List Fact) (o : Opening) → AreLawful facts → opening_of facts o.meter ≡ Some o → StartFrom (quarter_of o.at) (rows_of_opening facts o)
starts law facts o h own =
    all_start o.at (installation_of facts o).last.at (rows_of_opening facts o)
    (rows_lie_within law (installed o) (journal_of facts o.meter) (well facts o h own) (installed_fits facts o h own))

opening_named : (facts : List Fact) (o : Opening) (meter : List ℕ) → opening_of facts meter ≡ Some o → opening_of facts o.meter ≡ Some o
opening_named facts o meter there = ap (opening_of facts) (own_name facts meter o there) ∙ there

rows_named : (facts : List Fact) (o : Opening) (meter : List ℕ) → opening_of facts meter ≡ Some o → rows_of_meter facts meter ≡ rows_of_opening facts o
rows_named facts o meter there = ap (rows_of_installed facts) there

-- All requested interval rows (energies of quarter hours) of a meter consist of the two parts of a
-- streamed response: the rows queried chunk by chunk, and then the last rows, which are queried
-- when the response begins.
pub all_parts : SharesAddUp → (facts : List Fact) (meter : List ℕ) (o : Opening) (from first last end till : ℕ) → AreLawful facts
    → opening_of facts meter ≡ Some o → first ≡ max from (quarter_of o.at) → end ≡ max first (min till last)
    → rows_between facts (Some meter) from till ≡ rows_between facts (Some meter) first end ++ rows_between facts (Some meter) end till
all_parts law facts meter o from first last end till h there is ends =
    let own : opening_of facts o.meter ≡ Some o = opening_named facts o meter there in
    let rows : List Share = rows_of_opening facts o in
    let asked : (a b : ℕ) → rows_between facts (Some meter) a b ≡ rows_within (Between a b) rows =
    λ a b. between_rows facts meter a b ∙ ap (rows_within (Between a b)) (rows_named facts o meter there) in
    asked from till
    ∙ parted from (quarter_of o.at) first last end till rows (rises law facts o h own) (starts law facts o h own) is ends
    ∙ ap (λ rs. rs ++ rows_within (Between end till) rows) (sym (asked first end))
    ∙ ap (λ rs. rows_between facts (Some meter) first end ++ rs) (sym (asked end till))

two_parts : SharesAddUp → (facts : List Fact) (meter : List ℕ) (o : Opening) (from at till : ℕ) → AreLawful facts → opening_of facts meter ≡ Some o
    → from ≤ at → at ≤ till
    → rows_between facts (Some meter) from till ≡ rows_between facts (Some meter) from at ++ rows_between facts (Some meter) at till
two_parts law facts meter o from at till h there low high =
    let rows : List Share = rows_of_opening facts o in
    let asked : (a b : ℕ) → rows_between facts (Some meter) a b ≡ rows_within (Between a b) rows =
    λ a b. between_rows facts meter a b ∙ ap (rows_within (Between a b)) (rows_named facts o meter there) in
    asked from till
    ∙ in_parts from at till rows (rises law facts o h (opening_named facts o meter there)) low high
    ∙ ap (λ rs. rs ++ rows_within (Between at till) rows) (sym (asked from at))
    ∙ ap (λ rs. rows_between facts (Some meter) from at ++ rs) (sym (asked at till))

parts_of : SharesAddUp → (facts : List Fact) (meter : List ℕ) (opening : Option Opening) (from at till : ℕ) → AreLawful facts
    → opening_of facts meter ≡ opening → from ≤ at → at ≤ till
    → rows_between facts (Some meter) from till ≡ rows_between facts (Some meter) from at ++ rows_between facts (Some meter) at till
parts_of law facts meter None from at till h there low high =
    let asked : (a b : ℕ) → rows_between facts (Some meter) a b ≡ [] =
    λ a b. between_rows facts meter a b ∙ ap (λ o. rows_within (Between a b) (rows_of_installed facts o)) there in
    asked from till ∙ ap (λ rs. rs ++ []) (sym (asked from at)) ∙ ap (λ rs. rows_between facts (Some meter) from at ++ rs) (sym (asked at till))
parts_of law facts meter (Some o) from at till h there low high = two_parts law facts meter o from at till h there low high

-- The rows that a streamed response still has to query are the rows of the next chunk, followed by
-- the rows of later chunks.
pub a_piece : SharesAddUp → (facts : List Fact) (meter : Option (List ℕ)) (from at till : ℕ) → AreLawful facts
    → (from ≤ till → from ≤ at) → at ≤ till → (till ≤ from → at ≡ till)
    → rows_between facts meter from till ≡ rows_between facts meter from at ++ rows_between facts meter at till
a_piece law facts None from at till h low high none = refl
a_piece law facts (Some meter) from at till h low high none =
    elim (cases_lt from till) [
      | inl lt ↦ parts_of law facts meter (opening_of facts meter) from at till h refl (low (omega (arith, lt))) high
      | inr ge ↦
          let same : at ≡ till = none ge in
          none_between facts (Some meter) from till ge
          ∙ ap (λ rs. rs ++ []) (sym (none_between facts (Some meter) from at (omega (arith, same, ge))))
          ∙ ap (λ rs. rows_between facts (Some meter) from at ++ rs) (sym (none_between facts (Some meter) at till (omega (arith, same))))
    ]

-- Lemmas: records that are added later and void (withdraw) no present entry of a meter leave some
-- interval rows unchanged, namely those before the quarter hour of the meter's last entry.

lawful_before : (further facts : List Fact) → AreLawful (further ++ facts) → AreLawful facts
lawful_before [] facts h = h
lawful_before (f ∷ further) facts h = lawful_before further facts h.1

pub rows_stay : SharesAddUp → (further facts : List Fact) (meter : List ℕ) (o : Opening) (from till : ℕ) → AreLawful (further ++ facts)
    → opening_of facts meter ≡ Some o → (from < till → till ≤ quarter_of (installation_of facts o).last.at)
    → All (VoidsFrom meter (next_place facts o)) further
    → rows_between (further ++ facts) (Some meter) from till ≡ rows_between facts (Some meter) from till
rows_stay law further facts meter o from till h there settled void =
    elim (cases_lt from till) [
      | inl lt ↦
          let le : till ≤ quarter_of (installation_of facts o).last.at = settled lt in
          let moment : changes_from facts meter (next_place facts o) ≡ quarter_of (installation_of facts o).last.at =
          entries_come_after facts meter o (lawful_before further facts h) there in
          let stay = (rows_before_stay law further facts meter o (next_place facts o) h there (omega arith) void).rows till (omega (arith, le, moment)) in
          between_rows (further ++ facts) meter from till
          ∙ sym (within_before from till (rows_of_meter (further ++ facts) meter))
          ∙ ap (rows_within (Between from till)) stay
          ∙ within_before from till (rows_of_meter facts meter)
          ∙ sym (between_rows facts meter from till)
      | inr ge ↦ none_between (further ++ facts) (Some meter) from till ge ∙ sym (none_between facts (Some meter) from till ge)
    ]
