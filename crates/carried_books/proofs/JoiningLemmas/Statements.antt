-- Lemmas: after a database file's meters were added to the meter data collected from the earlier
-- files, the collected data are those of all files. The meters' statements (reports) are made from
-- these data.
use Rattle.std.proofs.Common.{◌≡◌, ℕ, ◌&&◌, Bool, true, false, not, List, [], ◌∷◌, ◌++◌, map, Option, Some, None, Result, Ok, Err, IfOk, inl, inr, refl, sym, ap, subst, ◌∙◌, append-nil, arith}
use Rattle.std.specs.Prelude.{All, Contains, filter, find, is_some}
use Rattle.std.specs.Option.{option_map}
use Rattle.std.proofs.lemmas.Bool.{cases_Bool, cond-false, cond-true}
use Rattle.std.proofs.lemmas.List.{map-append}
use Rattle.std.proofs.lemmas.List.Elements.{All-cons, All-head, All-tail, filter-append}
use Rattle.energy_report.specs.Statements.{was_installed}
use Rattle.energy_report.specs.declared.meter_statement.MeterStatement.{MeterStatement}
use Rattle.interval_core.specs.declared.day_range.DayRange.{DayRange}
use Rattle.interval_core.specs.declared.zone.Zone.{Zone}
use Rattle.office_books.specs.Entries.{installations_of}
use Rattle.office_books.specs.Rows.{TakesAll}
use Rattle.office_books.specs.declared.faults.BooksFault.{BooksFault}
use Rattle.office_books.proofs.Handing.{takes_both}
use Rattle.office_events.specs.declared.facts.Fact.{Fact}
use Rattle.office_events.specs.declared.questions.Installation.{Installation}
use Rattle.carried_books.specs.Joining.Files.{is_recorded, is_recorded_in}
use Rattle.carried_books.specs.Joining.Keeping.{KeepsFile}
use Rattle.carried_books.specs.Joining.Meters.{AddOrAreApart, AddsMeter, AddsNext, AddsOrIsApart, GoesOn, IsNext, as_one, is_before}
use Rattle.carried_books.specs.Joining.Statements.{AddsListed, AddsOver, AreReported, DoesNotGoOn, HasStated, MeterOver, ReportsAll, both_of, kept_of, meter_in, parts_over, rows_of_those, stands_of, statement_over, statements_over, reported_of}
use Rattle.carried_books.specs.declared.joining.files.Unjoined.TheVariants as unjoined
use Rattle.carried_books.specs.declared.joining.kept_meters.KeptMeter.{KeptMeter}
use Rattle.carried_books.specs.declared.joining.meters.Apart.{Apart}
use Rattle.carried_books.specs.declared.joining.statements.JoinedStatement.{JoinedStatement}
use Rattle.carried_books.proofs.JoiningLemmas.Files.{is_in_both, is_kept}
use Rattle.carried_books.proofs.JoiningLemmas.Meters.{all_before, next_or_apart, one_apart}

all_stand : (zone : Zone) (range : DayRange) (meters : List MeterOver) → map stands_of (map (kept_of zone range) meters) ≡ map (λ m. m.stands) meters
all_stand zone range [] = refl
all_stand zone range (m ∷ meters) = ap (λ (those : List Installation). m.stands ∷ those) (all_stand zone range meters)

stand_before : (row : Installation) (meters : List MeterOver) → All (λ stands. is_before stands row ≡ true) (map (λ m. m.stands) meters)
    → All (λ m. is_before m.stands row ≡ true) meters
stand_before row [] all = λ k d less. absurd (omega (arith, less))
stand_before row (m ∷ meters) all =
    All-cons (λ (those : MeterOver). is_before those.stands row ≡ true) m meters
    (All-head (λ stands. is_before stands row ≡ true) m.stands (map (λ m. m.stands) meters) all)
    (stand_before row meters (All-tail (λ stands. is_before stands row ≡ true) m.stands (map (λ m. m.stands) meters) all))

module _ (zone : Zone) (range : DayRange) where
  rows_of_meters : (meters : List MeterOver)
      → rows_of_those zone range (map (kept_of zone range) meters) ≡ statements_over zone range meters
  rows_of_meters [] = refl
  rows_of_meters (m ∷ meters) =
      let rest = rows_of_meters meters in
      elim (cases_Bool (was_installed zone range m.stands)) [
        | inl is ↦ ap (map reported_of) (cond-true _ _ _ is) ∙ ap (λ (rows : List MeterStatement). statement_over zone range m ∷ rows) rest
            ∙ sym (ap (map (statement_over zone range)) (cond-true _ _ _ is))
        | inr isnt ↦ ap (map reported_of) (cond-false _ _ _ isnt) ∙ rest ∙ sym (ap (map (statement_over zone range)) (cond-false _ _ _ isnt))
      ]

  -- If the last element of the collected meter data is `one`, then `one` has the data of the last
  -- meter in `meters`.
  pub reported_last : (kept : List KeptMeter) (one : KeptMeter) (meters : List MeterOver) → AreReported zone range (kept ++ one ∷ []) meters
      → (before : List MeterOver) × (m : MeterOver) × (meters ≡ before ++ m ∷ []) × AreReported zone range kept before × (one ≡ kept_of zone range m)
  reported_last [] one [] reported = absurd (cc reported)
  reported_last [] one (m ∷ []) reported = ([], m, refl, refl, let e : one ≡ kept_of zone range m = cc reported in e)
  reported_last [] one (m ∷ other ∷ meters) reported = absurd (cc reported)
  reported_last (first ∷ kept) one [] reported = absurd (cc reported)
  reported_last (first ∷ kept) one (m ∷ meters) reported =
      let head : first ≡ kept_of zone range m = cc reported in
      let tail : kept ++ one ∷ [] ≡ map (kept_of zone range) meters = cc reported in
      let rest = reported_last kept one meters tail in (
        m ∷ rest.0,
        rest.1,
        ap (λ (those : List MeterOver). m ∷ those) rest.2,
        ap (λ (k : KeptMeter). k ∷ kept) head ∙ ap (λ (those : List KeptMeter). kept_of zone range m ∷ those) rest.3,
        rest.4,
      )

  pub reported_more : (kept : List KeptMeter) (one : KeptMeter) (meters : List MeterOver) (m : MeterOver) → AreReported zone range kept meters → one ≡ kept_of zone range m
      → AreReported zone range (kept ++ one ∷ []) (meters ++ m ∷ [])
  reported_more kept one meters m reported more =
      ap (λ (those : List KeptMeter). those ++ one ∷ []) reported ∙ ap (λ (k : KeptMeter). map (kept_of zone range) meters ++ k ∷ []) more
      ∙ sym (map-append (kept_of zone range) meters (m ∷ []))

  pub before_too : (row : Installation) (kept : List KeptMeter) (meters : List MeterOver) → AreReported zone range kept meters
      → All (λ stands. is_before stands row ≡ true) (map stands_of kept) → All (λ m. is_before m.stands row ≡ true) meters
  before_too row kept meters reported all =
      let same : map stands_of kept ≡ map (λ m. m.stands) meters = ap (map stands_of) reported ∙ all_stand zone range meters in
      stand_before row meters (subst (All (λ stands. is_before stands row ≡ true)) same all)

  pub goes_on_reported : (facts : List Fact) (row : Installation) (kept : List KeptMeter) (last new : KeptMeter) (old after : List KeptMeter)
      → old ≡ kept ++ last ∷ [] → GoesOn last.stands row
      → ((m : MeterOver) → last ≡ kept_of zone range m → new ≡ kept_of zone range (both_of m (meter_in facts row)))
      → after ≡ kept ++ new ∷ [] → ReportsAll zone range facts (row ∷ []) old after None
  goes_on_reported facts row kept last new old after old_is goes reports after_is = λ meters reported.
      let found = reported_last kept last meters (sym old_is ∙ reported) in
      let both = both_of found.1 (meter_in facts row) in
      let now = found.0 ++ both ∷ [] in (
        now,
        (
          now,
          inl (record {
            before = found.0;
            one = found.1;
            known_is = found.2;
            goes = subst (λ (k : KeptMeter). GoesOn k.stands row) found.4 goes;
            after_is = refl;
          }),
          refl,
        ),
        after_is ∙ reported_more kept new found.0 both found.3 (reports found.1 found.4),
      )

  pub comes_after_reported : (facts : List Fact) (row : Installation) (new : KeptMeter) (old after : List KeptMeter)
      → All (λ stands. is_before stands row ≡ true) (map stands_of old) → new ≡ kept_of zone range (meter_in facts row)
      → after ≡ old ++ new ∷ [] → ReportsAll zone range facts (row ∷ []) old after None
  comes_after_reported facts row new old after earlier reports after_is = λ meters reported.
      let m = meter_in facts row in
      let now = meters ++ m ∷ [] in (
        now,
        (now, inr (record { earlier = before_too row old meters reported earlier; after_is = refl }), refl),
        after_is ∙ reported_more old new meters m reported reports,
      )

  pub reported_none : (facts : List Fact) (old : List KeptMeter) → ReportsAll zone range facts [] old old None
  reported_none facts old = λ meters reported. (meters, refl, reported)

  pub reported_all : (facts : List Fact) (before : List Installation) (row : Installation) (old mid now : List KeptMeter) (apart : Option Apart) → is_some apart ≡ false
      → ReportsAll zone range facts before old mid None → ReportsAll zone range facts (row ∷ []) mid now apart
      → ReportsAll zone range facts (before ++ row ∷ []) old now None
  reported_all facts before row old mid now (Some apart) isnt had more = absurd (cc isnt)
  reported_all facts before row old mid now None isnt had more = λ meters reported.
      let first = had meters reported in
      let next = more first.0 first.2 in (
        next.0,
        subst (λ (those : List MeterOver). TakesAll AddsOver meters those next.0) (sym (map-append (meter_in facts) before (row ∷ [])))
            (takes_both AddsOver meters first.0 next.0 (map (meter_in facts) before) (meter_in facts row ∷ []) first.1 next.1),
        next.2,
      )

  pub rows_reported : (kept : List KeptMeter) (meters : List MeterOver) → AreReported zone range kept meters
      → rows_of_those zone range kept ≡ statements_over zone range meters
  rows_reported kept meters reported = ap (rows_of_those zone range) reported ∙ rows_of_meters meters

  -- The statements (reports) of the meters in two concatenated lists are those of the first list,
  -- followed by those of the second list.
  pub rows_both : (kept more : List KeptMeter) → rows_of_those zone range (kept ++ more) ≡ rows_of_those zone range kept ++ rows_of_those zone range more
  rows_both kept more =
      let there : KeptMeter → Bool = λ one. was_installed zone range one.stands in
      ap (map reported_of) (filter-append there kept more) ∙ map-append reported_of (filter there kept) (filter there more)

  pub row_there : (one : KeptMeter) (before after : List MeterStatement) → was_installed zone range one.stands ≡ true → after ≡ before ++ one.reported ∷ []
      → after ≡ before ++ rows_of_those zone range (one ∷ [])
  row_there one before after is put = put ∙ ap (λ (rows : List MeterStatement). before ++ rows) (sym (ap (map reported_of) (cond-true _ _ _ is)))

  pub row_absent : (one : KeptMeter) (before : List MeterStatement) → was_installed zone range one.stands ≡ false
      → before ≡ before ++ rows_of_those zone range (one ∷ [])
  row_absent one before isnt = sym (ap (λ (rows : List MeterStatement). before ++ rows) (ap (map reported_of) (cond-false _ _ _ isnt)) ∙ append-nil before)

find_stands : (row : Installation) (kept : List KeptMeter) → option_map stands_of (find (λ one. not (is_before one.stands row)) kept)
    ≡ find (λ stands. not (is_before stands row)) (map stands_of kept)
find_stands row [] = refl
find_stands row (one ∷ kept) = elim (cases_Bool (not (is_before one.stands row))) [
  | inl is ↦ ap (option_map stands_of) (cond-true _ _ _ is) ∙ sym (cond-true _ _ _ is)
  | inr isnt ↦ ap (option_map stands_of) (cond-false _ _ _ isnt) ∙ find_stands row kept ∙ sym (cond-false _ _ _ isnt)
]

-- Suppose that a list is searched for a meter that was not closed before the meter `row` began, or
-- has the same name (not `is_before`). A meter that the search finds is in the list, and has this
-- property.
pub stands_apart : (row stands : Installation) (kept : List KeptMeter) → option_map stands_of (find (λ one. not (is_before one.stands row)) kept) ≡ Some stands
    → Contains (map stands_of kept) stands × (is_before stands row ≡ false)
stands_apart row stands kept is = one_apart (map stands_of kept) row stands (sym (find_stands row kept) ∙ is)

-- Suppose that a list is searched for a meter that was not closed before the meter `row` began, or
-- has the same name (not `is_before`). If the search finds none, then all meters of the list were
-- closed before `row` began.
pub stand_earlier : (row : Installation) (kept : List KeptMeter) → option_map stands_of (find (λ one. not (is_before one.stands row)) kept) ≡ None
    → All (λ stands. is_before stands row ≡ true) (map stands_of kept)
stand_earlier row kept is = all_before (map stands_of kept) row (sym (find_stands row kept) ∙ is)

stand_more : (kept : List KeptMeter) (one : KeptMeter) (all : List KeptMeter) (stands : Installation) → all ≡ kept ++ one ∷ [] → one.stands ≡ stands
    → map stands_of all ≡ map stands_of kept ++ stands ∷ []
stand_more kept one all stands are is =
    ap (map stands_of) are ∙ map-append stands_of kept (one ∷ []) ∙ ap (λ (those : Installation). map stands_of kept ++ those ∷ []) is

-- Suppose that all meters of a list were closed before the meter `row` began, and have other names
-- (`is_before`). Then appending `row` to the list adds `row` as the next meter (`IsNext`).
pub stands_next : (row : Installation) (new : KeptMeter) (old after : List KeptMeter) → All (λ stands. is_before stands row ≡ true) (map stands_of old)
    → after ≡ old ++ new ∷ [] → new.stands ≡ row → IsNext (map stands_of old) row (map stands_of after)
stands_next row new old after earlier are is = record { earlier = earlier; after_is = stand_more old new after row are is }

-- Suppose that the meter `row` continues the last collected meter, and one meter over all database
-- files replaces both. Then the contract `AddsMeter` is satisfied (`row` was added to the collected
-- meters).
pub stands_on : (row : Installation) (last new : KeptMeter) (kept old after : List KeptMeter) → old ≡ kept ++ last ∷ [] → GoesOn last.stands row
    → after ≡ kept ++ new ∷ [] → new.stands ≡ as_one last.stands row → AddsMeter (map stands_of old) row (map stands_of after)
stands_on row last new kept old after old_is goes after_is is = inl (record {
  before = map stands_of kept;
  stands = last.stands;
  known_is = stand_more kept last old last.stands old_is refl;
  goes = goes;
  after_is = stand_more kept new after (as_one last.stands row) after_is is;
})

-- Suppose that the meter `row` does not continue the last meter. Then `row` is appended because it
-- begins after all meters were closed, or it conflicts with one of them (overlaps it in time, or
-- has its name).
pub stands_otherwise : (row : Installation) (last : KeptMeter) (kept old mid after : List KeptMeter) (apart : Option Apart) → old ≡ kept ++ last ∷ []
    → (GoesOn last.stands row → ⊥) → mid ≡ kept ++ last ∷ [] → AddsNext (map stands_of mid) row (map stands_of after) apart
    → AddsOrIsApart (map stands_of old) row (map stands_of after) apart
stands_otherwise row last kept old mid after apart old_is other mid_is adds =
    next_or_apart (map stands_of old) row (map stands_of after) apart
    (inr (record { before = map stands_of kept; stands = last.stands; known_is = stand_more kept last old last.stands old_is refl; other = other }))
    (subst (λ (those : List KeptMeter). AddsNext (map stands_of those) row (map stands_of after) apart) (mid_is ∙ sym old_is) adds)

-- If the list `mid` is empty, and the list `old` is `mid` with nothing appended, then `old` is
-- empty.
nothing_before : (old mid : List KeptMeter) → old ≡ mid ++ [] → mid ≡ [] → old ≡ []
nothing_before old mid old_is mid_is = old_is ∙ append-nil mid ∙ mid_is

pub stands_first : (row : Installation) (old mid after : List KeptMeter) (apart : Option Apart) → old ≡ mid ++ [] → mid ≡ []
    → AddsNext (map stands_of mid) row (map stands_of after) apart → AddsOrIsApart (map stands_of old) row (map stands_of after) apart
stands_first row old mid after apart old_is mid_is adds =
    next_or_apart (map stands_of old) row (map stands_of after) apart (inl (ap (map stands_of) (nothing_before old mid old_is mid_is)))
    (subst (λ (those : List KeptMeter). AddsNext (map stands_of those) row (map stands_of after) apart) (sym (old_is ∙ append-nil mid)) adds)

-- If two lists of collected meter data are equal, then the contract `ReportsAll` (one more file's
-- meters were added) for one list implies this contract for the other.
pub reported_from : (zone : Zone) (range : DayRange) (facts : List Fact) (listed : List Installation) (old mid new : List KeptMeter) (apart : Option Apart)
    → old ≡ mid → ReportsAll zone range facts listed mid new apart → ReportsAll zone range facts listed old new apart
reported_from zone range facts listed old mid new apart same reports =
    subst (λ (those : List KeptMeter). ReportsAll zone range facts listed those new apart) (sym same) reports

-- Suppose that the meters of an accounting register (a named counter) in one database file are
-- added to the collected data. Then these data have the meters, or two meters conflict (overlap in
-- time or have one name).
pub added_listed : (zone : Zone) (range : DayRange) (facts : List Fact) (listed shown : List Installation) (old new : List KeptMeter)
    (result : Result (Option Apart) BooksFault) → shown ≡ listed → IfOk result (AddOrAreApart (map stands_of old) shown (map stands_of new))
    → IfOk result (ReportsAll zone range facts shown old new) → IfOk result (AddsListed zone range facts listed old new)
added_listed zone range facts listed shown old new (Ok apart) same joins reports = (
  subst (λ (those : List Installation). AddOrAreApart (map stands_of old) those (map stands_of new) apart) same joins,
  subst (λ (those : List Installation). ReportsAll zone range facts those old new apart) same reports,
)
added_listed zone range facts listed shown old new (Err why) same joins reports = tt

-- If adding a file's meters returns two conflicting meters (they overlap in time or have one name),
-- then the contract `ReportsAll` (the file's meters were added) is trivially true. This contract
-- states something only for the result `None` (no conflict).
pub reported_apart : (zone : Zone) (range : DayRange) (facts : List Fact) (listed : List Installation) (old new : List KeptMeter) (apart : Option Apart)
    → is_some apart ≡ true → ReportsAll zone range facts listed old new apart
reported_apart zone range facts listed old new None is = absurd (cc is)
reported_apart zone range facts listed old new (Some apart) is = tt

pub parts_so : (register : List ℕ) (facts : List Fact) (old : JoinedStatement) (new : List KeptMeter) (zone : Zone) (range : DayRange) (apart : Apart)
    → AddsListed zone range facts (installations_of facts register) old.meters.items new (Some apart)
    → DoesNotGoOn register facts old (unjoined.Apart apart)
parts_so register facts old new zone range apart adds = adds.0

pub keeps_more : (zone : Zone) (range : DayRange) (register : List ℕ) (facts : List Fact) (old new : JoinedStatement) (is : Bool)
    → (old.is_recorded && not is) ≡ false → is ≡ is_recorded register facts → new.is_recorded ≡ is → new.zone ≡ old.zone
    → ReportsAll old.zone range facts (installations_of facts register) old.meters.items new.meters.items None
    → KeepsFile (HasStated zone range register) facts old new None
keeps_more zone range register facts old new is test same put zones reports = λ files has.
    let stays = λ (so : is_recorded_in register files ≡ true). is_kept old.is_recorded is (is_recorded register facts) test same (has.recorded ∙ so) in
    let now = subst (λ (those : Zone). ReportsAll those range facts (installations_of facts register) old.meters.items new.meters.items None) has.zone_is reports
    has.meters has.reported in
    record {
      recorded = put ∙ same ∙ is_in_both (is_recorded register facts) (is_recorded_in register files) stays;
      zone_is = zones ∙ has.zone_is;
      meters = now.0;
      are = record {
        recorded = (stays, has.are.recorded);
        joined = takes_both AddsOver [] has.meters now.0 (parts_over register files) (map (meter_in facts) (installations_of facts register)) has.are.joined now.1;
      };
      reported = now.2;
    }
