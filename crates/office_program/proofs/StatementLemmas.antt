-- Properties of the event engine's answers to the queries for a meter's statement. A statement has
-- the numbers against which a bill is checked.
use Rattle.std.proofs.Common.{◌≡◌, inl, inr, ℕ, zero, suc, ◌+◌, ◌-◌, ◌^◌, ◌<◌, Bool, true, false, cond, Option, Some, None, List, [], ◌∷◌, ◌++◌, map, reverse, take, drop, length, get_or, refl, sym, ap, subst, ◌∙◌, append-nil, append_assoc, arith}
use Rattle.std.specs.Prelude.{Result, Ok, Err, ◌&&◌, All, filter, is_ok, is_some, min, nat_le, sum_by}
use Rattle.command_io.specs.declared.status.ExitStatus.{ExitStatus}
use Rattle.command_io.specs.declared.status.ExitStatus.TheVariants.{Failed}
use Rattle.sun_points.specs.Writing.{GotText}
use Rattle.std.specs.List.{find}
use Rattle.std.specs.Option.{option_map, option_and_then}
use Rattle.std.specs.declared.alloc.Global.{Global}
use Rattle.std.specs.declared.vec.Vec.{Vec}
use Rattle.std.proofs.lemmas.Bool.{cases_Bool, cond-false, cond-true}
use Rattle.std.proofs.lemmas.List.{map-append}
use Rattle.std.proofs.lemmas.List.Elements.{All-append, All-cons, All-filter, All-head, All-map, All-tail, filter-append}
use Rattle.interval_core.specs.declared.shares.Share.{Share}
use Rattle.interval_core.specs.declared.limits.TheConstants.{LAST_MOMENT}
use Rattle.interval_core.specs.declared.zone.Zone.{Zone}
use Rattle.interval_core.specs.Ranges.{has_day, has_moment}
use Rattle.interval_core.specs.Zone.{day_at}
use Rattle.office_events.specs.declared.facts.Fact.{Fact}
use Rattle.office_events.specs.declared.facts.HeldReading.{HeldReading}
use Rattle.office_events.specs.declared.facts.Opening.{Opening}
use Rattle.office_events.specs.declared.questions.Installation.{Installation}
use Rattle.office_events.specs.declared.refusals.Refusal.{Refusal}
use Rattle.office_events.specs.declared.refusals.Refusal.TheVariants as refusal
use Rattle.office_books.specs.Facts.{opening_of, openings_in, register_of, same}
use Rattle.office_books.specs.History.{facts_of}
use Rattle.office_books.specs.Intervals.{installations_at, rows_of_opening}
use Rattle.office_books.specs.Meters.{installation_of}
use Rattle.office_books.proofs.Lists.{reverse_cons}
use Rattle.office_books.proofs.Lookups.{same_itself}
use Rattle.office_books.specs.declared.entries.MeterEntry.{MeterEntry}
use Rattle.office_books.specs.declared.failures.Failures.{Failures}
use Rattle.office_books.specs.declared.spans.Span.{Span}
use Rattle.office_books.specs.declared.spans.Span.TheVariants as span
use Rattle.office_books.specs.Holds.{holds_of, holds_within}
use Rattle.office_books.specs.Spans.{is_within, rows_within}
use Rattle.office_books.specs.Entries.{entries_at, first_from, installations_of}
use Rattle.office_books.specs.Ledgers.{Ledger}
use Rattle.office_books.specs.Rows.{TakesAll}
use Rattle.office_core.specs.Asking.{IsFound, OnlyAsks, ReportsRows, intervals_of, is_there, rows_in}
use Rattle.office_core.specs.Failing.{IsOutside}
use Rattle.office_core.specs.Parts.{IsListed, ListsAccepted, entries_within, holds_named, intervals_within, meters_named}
use Rattle.office_core.specs.Standing.{After}
use Rattle.office_core.specs.Taking.{failures_of}
use Rattle.office_core.specs.declared.office.Office.{Office}
use Rattle.energy_report.specs.declared.energy_within.EnergyWithin.{EnergyWithin}
use Rattle.energy_report.specs.declared.held_counts.RejectedCounts.{RejectedCounts}
use Rattle.energy_report.specs.declared.held_within.RejectedWithin.{RejectedWithin}
use Rattle.energy_report.specs.declared.meter_statement.MeterStatement.{MeterStatement}
use Rattle.interval_core.specs.declared.day_range.DayRange.{DayRange}
use Rattle.energy_report.specs.declared.tallies.EntryTally.{EntryTally}
use Rattle.energy_report.specs.Energies.{AddsShare, IsFresh}
use Rattle.energy_report.specs.Held.{held_within}
use Rattle.energy_report.specs.HeldSinks.{CountsReading, HasCountedNone}
use Rattle.energy_report.specs.Statements.{energy_within, tally_of, was_installed}
use Rattle.energy_report.proofs.EnergyLemmas.{added_up}
use Rattle.energy_report.proofs.HeldLemmas.{counted_all}
use Rattle.office_program.specs.Texts.EndTexts.{IsReported}
use Rattle.office_program.specs.Texts.Reports.{Asks}
use Rattle.office_program.specs.Texts.Statements.{AnswersOf, AreRecorded, States, energy_in, held_in, statement_in, statement_of, statements_in, statements_of, tally_in, reported_of}
use Rattle.office_books.proofs.Pieces.{last_piece, one_piece_more, piece_at}
use Rattle.office_core.specs.Several.{Keeps}
use Rattle.office_core.proofs.SeveralAsked.{found_ok, found_so, now_as, refused_as, refused_on}

some_same : {X : Type 0} (x y : X) → Some x ≡ Some y → x ≡ y
some_same x y is = cc is

-- If applying a function to an optional value gives a result, then the value is present, and the
-- function maps it to the result.
mapped : {X Y : Type 0} (f : X → Y) (o : Option X) (y : Y) → option_map f o ≡ Some y → (x : X) × (o ≡ Some x) × (f x ≡ y)
mapped f None y is = absurd (cc is)
mapped f (Some x) y is = (x, refl, some_same (f x) y is)

nothing : {X Y Z : Type 0} (f : X → Y) (g : X → Z) (o : Option X) → is_there (option_map f o) ≡ None → option_map g o ≡ None
nothing f g None is = refl
nothing f g (Some x) is = absurd (cc is)

listed_err : {T : Type 0} (rows : Option (List T)) (before after : Failures) (why : Refusal) → IsListed rows before after (Err why)
    → IsFound ⊥ (is_there rows) before after (Err why)
listed_err None before after why (inl is) = inl (ap (λ w. Err w) is.0, is.1)
listed_err None before after why (inr out) = inr out
listed_err (Some rows) before after why out = inr out

-- Lemmas: filtering a list by two tests, of which the first implies the second, equals filtering
-- the list by the first test.

fails_too : (p q : Bool) → (p ≡ true → q ≡ true) → q ≡ false → p ≡ false
fails_too true q implies isnt = absurd (let e : false ≡ true = sym isnt ∙ implies refl in cc e)
fails_too false q implies isnt = refl

-- If a first test implies a second test, then filtering a list by both tests equals filtering by
-- the first test.
filter_among : {X : Type 0} (p q : X → Bool) → ((x : X) → p x ≡ true → q x ≡ true) → (xs : List X) → filter p (filter q xs) ≡ filter p xs
filter_among p q implies [] = refl
filter_among p q implies (x ∷ xs) =
    let rest = filter_among p q implies xs in
    elim (cases_Bool (q x)) [
      | inl is ↦ ap (filter p) (cond-true _ _ _ is) ∙ ap (λ l. cond (p x) (x ∷ l) l) rest
      | inr isnt ↦ ap (filter p) (cond-false _ _ _ isnt) ∙ rest ∙ sym (cond-false _ _ _ (fails_too (p x) (q x) (implies x) isnt))
    ]

all_pass : {X : Type 0} (xs : List X) → filter (λ x. true) xs ≡ xs
all_pass [] = refl
all_pass (x ∷ xs) = ap (λ l. x ∷ l) (all_pass xs)

by_test : (asked : Span) (rows : List Share) → rows_within asked rows ≡ filter (λ row. is_within asked row.start) rows
by_test span.All rows = sym (all_pass rows)
by_test (span.Between from till) rows = refl

and_second : (a b : Bool) → (a && b) ≡ true → b ≡ true
and_second true b is = is
and_second false b is = absurd (cc is)

module _ {B : Type 0} (ledger : B → Ledger) (zone : Zone) (range : DayRange) where
  -- Lemmas: a meter's entries in a range of days are tallied in chunks (first entry, last entry and
  -- corrections), with the result of one tally of all entries.

  abbrev pub IsTallied : (a b : Office B) → (meter : Option (List ℕ)) → (n : ℕ) → EntryTally → Type 0
  IsTallied a b meter n tally = After ledger a b (λ past. (opening : Opening)
      → option_and_then (opening_of (facts_of past)) meter ≡ Some opening
      → tally ≡ tally_of zone range (take n (entries_at (facts_of past) (Some opening))))

  abbrev Takes : (tally more : EntryTally) → List MeterEntry → Type 0
  Takes tally more piece = (before : List MeterEntry) → tally ≡ tally_of zone range before → more ≡ tally_of zone range (before ++ piece)

  abbrev from_place : List Fact → (n : ℕ) → Opening → List MeterEntry
  from_place facts n opening = first_from (n + 1) 65536 (entries_at facts (Some opening))

  pub tally_more : (a b d : Office B) (meter : Option (List ℕ)) (n : ℕ) (tally more : EntryTally) (v : Vec MeterEntry Global)
      → Keeps ledger a b → IsTallied a b meter n tally → OnlyAsks ledger b d (Ok v)
      → ListsAccepted ledger b d (Ok v) (λ facts. entries_within facts meter (n + 1) 65536)
      → Takes tally more v.items → IsTallied a d meter (n + 65536) more
  tally_more a b d meter n tally more v kept reported asks lists took = λ past stands clean opening is.
      let facts = facts_of past in
      let es = entries_at facts (Some opening) in
      let known = subst (λ o. IsListed (option_map (from_place facts n) o) (failures_of ledger b) (failures_of ledger d) (Ok v)) is
      (lists past (kept.stands past stands) clean) in
      let items : v.items ≡ take 65536 (drop n es) = sym (some_same (from_place facts n opening) v.items known.0) ∙ piece_at facts opening n 65536 in
      took (take n es) (reported past stands (asks.clean clean) opening is)
      ∙ ap (tally_of zone range) (ap (λ (piece : List MeterEntry). take n es ++ piece) items ∙ one_piece_more n 65536 es)

  pub tally_reported : (a b d : Office B) (meter : Option (List ℕ)) (n : ℕ) (tally more : EntryTally) (v : Vec MeterEntry Global)
      → Keeps ledger a b → IsTallied a b meter n tally → OnlyAsks ledger b d (Ok v)
      → ListsAccepted ledger b d (Ok v) (λ facts. entries_within facts meter (n + 1) 65536)
      → Takes tally more v.items → length v.items < 65536 → AnswersOf ledger a d (Ok more) (λ facts. tally_in zone range facts meter)
  tally_reported a b d meter n tally more v kept reported asks lists took few = λ past stands clean.
      let facts = facts_of past in
      let known = lists past (kept.stands past stands) clean in
      let found = mapped (from_place facts n) (option_and_then (opening_of facts) meter) v.items known.0 in
      let opening = found.0 in
      let es = entries_at facts (Some opening) in
      let items : v.items ≡ take 65536 (drop n es) = sym found.2 ∙ piece_at facts opening n 65536 in
      let last : length (take 65536 (drop n es)) < 65536 = subst (λ (piece : List MeterEntry). length piece < 65536) items few in
      let all : more ≡ tally_of zone range es =
      took (take n es) (reported past stands (asks.clean clean) opening found.1)
      ∙ ap (tally_of zone range) (ap (λ (piece : List MeterEntry). take n es ++ piece) items ∙ last_piece n 65536 es last) in
      found_so (Unit {0}) (tally_in zone range facts meter) (failures_of ledger a) (failures_of ledger d) more
      (ap (option_map (λ (o : Opening). tally_of zone range (entries_at facts (Some o)))) found.1 ∙ ap Some (sym all)) (known.1 ∙ kept.failures)

  pub tally_refused : (a b d : Office B) (meter : Option (List ℕ)) (n : ℕ) (why : Refusal) → Keeps ledger a b
      → ListsAccepted {T = MeterEntry} ledger b d (Err why) (λ facts. entries_within facts meter (n + 1) 65536)
      → AnswersOf {T = EntryTally} ledger a d (Err why) (λ facts. tally_in zone range facts meter)
  tally_refused a b d meter n why kept lists = λ past stands clean.
      let facts = facts_of past in
      let o = option_and_then (opening_of facts) meter in
      refused_on ⊥ (Unit {0}) (is_there (option_map (from_place facts n) o)) (tally_in zone range facts meter)
      (failures_of ledger a) (failures_of ledger b) (failures_of ledger d) why (λ none. tt)
      (nothing (from_place facts n) (λ (x : Opening). tally_of zone range (entries_at facts (Some x))) o) kept.failures
      (listed_err (option_map (from_place facts n) o) (failures_of ledger b) (failures_of ledger d) why (lists past (kept.stands past stands) clean))

  -- Lemmas: summing a meter's quarter hours in a wider span gives the meter's energy in a range of
  -- days.

  -- True if the span of quarter hours contains every quarter hour of the range of days.
  abbrev pub IsAround : Span → Type 0
  IsAround span = (zone : Zone) (start : ℕ) → has_day range (day_at zone start) ≡ true → is_within span start ≡ true

  energy_around : (span : Span) → IsAround span → (rows : List Share) → energy_within zone range (rows_within span rows) ≡ energy_within zone range rows
  energy_around span around rows =
      ap (λ (those : List Share). min (sum_by (λ row. row.mwh) those) (2 ^ 128 - 1))
      (ap (filter (λ row. has_moment zone range row.start)) (by_test span rows)
      ∙ filter_among (λ (row : Share). has_moment zone range row.start) (λ row. is_within span row.start)
      (λ row has. around zone row.start (and_second (nat_le row.start LAST_MOMENT) (has_day range (day_at zone row.start)) has)) rows)

  energy_of_rows : (span : Span) → IsAround span → (rows : Option (List Share)) (from to : EnergyWithin) → IsFresh zone range from
      → is_there (option_map (rows_within span) rows) ≡ Some tt → TakesAll AddsShare from (rows_in (option_map (rows_within span) rows)) to
      → option_map (energy_within zone range) rows ≡ Some to.mwh
  energy_of_rows span around None from to fresh is took = absurd (cc is)
  energy_of_rows span around (Some rows) from to fresh is took =
      ap Some (sym (added_up zone range (rows_within span rows) from to fresh took ∙ energy_around span around rows))

  no_rows : (span : Span) (rows : Option (List Share)) → is_there (option_map (rows_within span) rows) ≡ None → option_map (energy_within zone range) rows ≡ None
  no_rows span None is = refl
  no_rows span (Some rows) is = absurd (cc is)

  pub energy_reported : (a d : Office B) (meter : Option (List ℕ)) (span : Span) (from to : EnergyWithin) (mwh : ℕ) → IsAround span → IsFresh zone range from
      → mwh ≡ to.mwh → ReportsRows AddsShare ledger a d from to (Ok tt) (λ facts. intervals_within facts meter span)
      → AnswersOf ledger a d (Ok mwh) (λ facts. energy_in zone range facts meter)
  energy_reported a d meter span from to mwh around fresh is rows = λ past stands clean.
      let facts = facts_of past in
      let hands = rows past stands clean in
      let there = found_ok ⊥ (is_there (intervals_within facts meter span)) (failures_of ledger a) (failures_of ledger d) tt hands.answer in
      found_so (Unit {0}) (energy_in zone range facts meter) (failures_of ledger a) (failures_of ledger d) mwh
      (energy_of_rows span around (intervals_of facts meter) from to fresh there.0 hands.whole ∙ ap Some (sym is)) there.1

  pub energy_refused : (a d : Office B) (meter : Option (List ℕ)) (span : Span) (from to : EnergyWithin) (why : Refusal)
      → ReportsRows AddsShare ledger a d from to (Err why) (λ facts. intervals_within facts meter span)
      → AnswersOf {T = ℕ} ledger a d (Err why) (λ facts. energy_in zone range facts meter)
  energy_refused a d meter span from to why rows = λ past stands clean.
      let facts = facts_of past in
      let hands = rows past stands clean in
      refused_on ⊥ (Unit {0}) (is_there (intervals_within facts meter span)) (energy_in zone range facts meter)
      (failures_of ledger a) (failures_of ledger a) (failures_of ledger d) why (λ none. tt) (no_rows span (intervals_of facts meter)) refl hands.answer

  -- Lemmas: counting a meter's rejected readings one by one gives the counts of the readings in a
  -- range of days.

  abbrev holds_if : List Fact → (name : List ℕ) → Opening → List HeldReading
  holds_if facts name opening = holds_within span.All (holds_of facts name)

  abbrev held_if : List Fact → (name : List ℕ) → Opening → RejectedCounts
  held_if facts name opening = held_within zone range (holds_of facts name)

  held_of_name : (facts : List Fact) (name : List ℕ) (o : Option Opening) (from to : RejectedWithin) → HasCountedNone zone range from
      → is_there (option_map (holds_if facts name) o) ≡ Some tt → TakesAll CountsReading from (rows_in (option_map (holds_if facts name) o)) to
      → option_map (held_if facts name) o ≡ Some to.counts
  held_of_name facts name None from to fresh is took = absurd (cc is)
  held_of_name facts name (Some x) from to fresh is took =
      ap Some (sym (counted_all zone range (holds_if facts name x) from to fresh took ∙ ap (held_within zone range) (all_pass (holds_of facts name))))

  held_of_holds : (facts : List Fact) (meter : Option (List ℕ)) (from to : RejectedWithin) → HasCountedNone zone range from
      → is_there (holds_named facts meter span.All) ≡ Some tt → TakesAll CountsReading from (rows_in (holds_named facts meter span.All)) to
      → held_in zone range facts meter ≡ Some to.counts
  held_of_holds facts None from to fresh is took = absurd (cc is)
  held_of_holds facts (Some name) from to fresh is took = held_of_name facts name (opening_of facts name) from to fresh is took

  no_holds : (facts : List Fact) (meter : Option (List ℕ)) → is_there (holds_named facts meter span.All) ≡ None → held_in zone range facts meter ≡ None
  no_holds facts None is = refl
  no_holds facts (Some name) is = nothing (holds_if facts name) (held_if facts name) (opening_of facts name) is

  pub held_reported : (a d : Office B) (meter : Option (List ℕ)) (from to : RejectedWithin) (held : RejectedCounts) → HasCountedNone zone range from
      → held ≡ to.counts → ReportsRows CountsReading ledger a d from to (Ok tt) (λ facts. holds_named facts meter span.All)
      → AnswersOf ledger a d (Ok held) (λ facts. held_in zone range facts meter)
  held_reported a d meter from to held fresh is rows = λ past stands clean.
      let facts = facts_of past in
      let hands = rows past stands clean in
      let there = found_ok ⊥ (is_there (holds_named facts meter span.All)) (failures_of ledger a) (failures_of ledger d) tt hands.answer in
      found_so (Unit {0}) (held_in zone range facts meter) (failures_of ledger a) (failures_of ledger d) held
      (held_of_holds facts meter from to fresh there.0 hands.whole ∙ ap Some (sym is)) there.1

  pub holds_refused : (a d : Office B) (meter : Option (List ℕ)) (from to : RejectedWithin) (why : Refusal)
      → ReportsRows CountsReading ledger a d from to (Err why) (λ facts. holds_named facts meter span.All)
      → AnswersOf {T = RejectedCounts} ledger a d (Err why) (λ facts. held_in zone range facts meter)
  holds_refused a d meter from to why rows = λ past stands clean.
      let facts = facts_of past in
      let hands = rows past stands clean in
      refused_on ⊥ (Unit {0}) (is_there (holds_named facts meter span.All)) (held_in zone range facts meter)
      (failures_of ledger a) (failures_of ledger a) (failures_of ledger d) why (λ none. tt) (no_holds facts meter) refl hands.answer

  -- Lemmas: the queries for a meter's tally, energy and rejected readings give the meter's
  -- statement, the numbers against which its bill is checked.

  abbrev by_opening : List Fact → (meter : List ℕ) → Opening → MeterStatement
  by_opening facts meter opening = reported_of zone range facts meter (Some opening)

  all_reported : (facts : List Fact) (meter : List ℕ) (o : Option Opening) (tally : EntryTally) (mwh : ℕ) (held : RejectedCounts)
      → option_map (λ x. tally_of zone range (entries_at facts (Some x))) o ≡ Some tally
      → option_map (energy_within zone range) (option_map (rows_of_opening facts) o) ≡ Some mwh
      → option_map (held_if facts meter) o ≡ Some held
      → option_map (by_opening facts meter) o ≡ Some (record { meter = meter; entries = tally; mwh = mwh; held = held })
  all_reported facts meter None tally mwh held first second third = absurd (cc first)
  all_reported facts meter (Some x) tally mwh held first second third =
      let t : tally_of zone range (entries_at facts (Some x)) ≡ tally = some_same _ _ first in
      let e : energy_within zone range (rows_of_opening facts x) ≡ mwh = some_same _ _ second in
      let h : held_within zone range (holds_of facts meter) ≡ held = some_same _ _ third in
      let made : EntryTally → ℕ → RejectedCounts → MeterStatement = λ tally mwh held. record { meter = meter; entries = tally; mwh = mwh; held = held } in
      ap (λ y. Some (made y (energy_within zone range (rows_of_opening facts x)) (held_within zone range (holds_of facts meter)))) t
      ∙ ap (λ n. Some (made tally n (held_within zone range (holds_of facts meter)))) e
      ∙ ap (λ y. Some (made tally mwh y)) h

  pub statement_reported : (a b d e : Office B) (meter : List ℕ) (tally : EntryTally) (mwh : ℕ) (held : RejectedCounts)
      → OnlyAsks ledger a b (Ok tally) → OnlyAsks ledger b d (Ok mwh) → OnlyAsks ledger d e (Ok held)
      → AnswersOf ledger a b (Ok tally) (λ facts. tally_in zone range facts (Some meter))
      → AnswersOf ledger b d (Ok mwh) (λ facts. energy_in zone range facts (Some meter))
      → AnswersOf ledger d e (Ok held) (λ facts. held_in zone range facts (Some meter))
      → AnswersOf ledger a e (Ok (record { meter = meter; entries = tally; mwh = mwh; held = held })) (λ facts. statement_in zone range facts meter)
  statement_reported a b d e meter tally mwh held first second third reported energy counts = λ past stands clean.
      let facts = facts_of past in
      let later = first.stands past stands in
      let t = found_ok (Unit {0}) (tally_in zone range facts (Some meter)) (failures_of ledger a) (failures_of ledger b) tally
      (reported past stands (second.clean (third.clean clean))) in
      let n = found_ok (Unit {0}) (energy_in zone range facts (Some meter)) (failures_of ledger b) (failures_of ledger d) mwh
      (energy past later (third.clean clean)) in
      let h = found_ok (Unit {0}) (held_in zone range facts (Some meter)) (failures_of ledger d) (failures_of ledger e) held
      (counts past (second.stands past later) clean) in
      found_so (Unit {0}) (statement_in zone range facts meter) (failures_of ledger a) (failures_of ledger e) _
      (all_reported facts meter (opening_of facts meter) tally mwh held t.0 n.0 h.0) (h.1 ∙ n.1 ∙ t.1)

  gone : {Y Z : Type 0} (f : Opening → Y) (g : Opening → Z) (o : Option Opening) → option_map f o ≡ None → option_map g o ≡ None
  gone f g None is = refl
  gone f g (Some x) is = absurd (cc is)

  gone_rows : {Z : Type 0} (facts : List Fact) (g : Opening → Z) (o : Option Opening)
      → option_map (energy_within zone range) (option_map (rows_of_opening facts) o) ≡ None → option_map g o ≡ None
  gone_rows facts g None is = refl
  gone_rows facts g (Some x) is = absurd (cc is)

  pub entries_refused : (a b : Office B) (meter : List ℕ) (why : Refusal)
      → AnswersOf {T = EntryTally} ledger a b (Err why) (λ facts. tally_in zone range facts (Some meter))
      → AnswersOf {T = MeterStatement} ledger a b (Err why) (λ facts. statement_in zone range facts meter)
  entries_refused a b meter why reported = λ past stands clean.
      let facts = facts_of past in
      refused_on (Unit {0}) (Unit {0}) (tally_in zone range facts (Some meter)) (statement_in zone range facts meter)
      (failures_of ledger a) (failures_of ledger a) (failures_of ledger b) why (λ u. u)
      (gone (λ (x : Opening). tally_of zone range (entries_at facts (Some x))) (by_opening facts meter) (opening_of facts meter)) refl
      (reported past stands clean)

  pub rows_refused : (a b d : Office B) (meter : List ℕ) (why : Refusal) → Keeps ledger a b
      → AnswersOf {T = ℕ} ledger b d (Err why) (λ facts. energy_in zone range facts (Some meter))
      → AnswersOf {T = MeterStatement} ledger a d (Err why) (λ facts. statement_in zone range facts meter)
  rows_refused a b d meter why kept reported = λ past stands clean.
      let facts = facts_of past in
      refused_on (Unit {0}) (Unit {0}) (energy_in zone range facts (Some meter)) (statement_in zone range facts meter)
      (failures_of ledger a) (failures_of ledger b) (failures_of ledger d) why (λ u. u)
      (gone_rows facts (by_opening facts meter) (opening_of facts meter)) kept.failures (reported past (kept.stands past stands) clean)

  pub held_refused : (a b d : Office B) (meter : List ℕ) (why : Refusal) → Keeps ledger a b
      → AnswersOf {T = RejectedCounts} ledger b d (Err why) (λ facts. held_in zone range facts (Some meter))
      → AnswersOf {T = MeterStatement} ledger a d (Err why) (λ facts. statement_in zone range facts meter)
  held_refused a b d meter why kept reported = λ past stands clean.
      let facts = facts_of past in
      refused_on (Unit {0}) (Unit {0}) (held_in zone range facts (Some meter)) (statement_in zone range facts meter)
      (failures_of ledger a) (failures_of ledger b) (failures_of ledger d) why (λ u. u)
      (gone (held_if facts meter) (by_opening facts meter) (opening_of facts meter)) kept.failures
      (reported past (kept.stands past stands) clean)

  -- Lemmas: the statements (reports to check a bill) of an accounting register's meters are
  -- appended to a list one by one, each as the specification gives it.

  pub not_there : (a : Office B) (row : Installation) (before : List MeterStatement) → was_installed zone range row ≡ false
      → States ledger zone range (row ∷ []) a a before before (Ok tt)
  not_there a row before absent = λ past stands clean recorded.
      let facts = facts_of past in (
        sym (ap (λ (rows : List Installation). before ++ map (λ r. statement_of zone range facts r.opening.meter) rows) (cond-false _ _ _ absent) ∙ append-nil before),
        refl,
      )

  by_name : (facts : List Fact) (meter : List ℕ) (o : Option Opening) (s : MeterStatement) → option_map (by_opening facts meter) o ≡ Some s
      → reported_of zone range facts meter o ≡ s
  by_name facts meter None s is = absurd (cc is)
  by_name facts meter (Some x) s is = some_same _ _ is

  pub one_stated : (a b : Office B) (row : Installation) (before after : List MeterStatement) (s : MeterStatement) → was_installed zone range row ≡ true
      → after ≡ before ++ s ∷ [] → AnswersOf ledger a b (Ok s) (λ facts. statement_in zone range facts row.opening.meter)
      → States ledger zone range (row ∷ []) a b before after (Ok tt)
  one_stated a b row before after s there put reported = λ past stands clean recorded.
      let facts = facts_of past in
      let meter = row.opening.meter in
      let found = found_ok (Unit {0}) (statement_in zone range facts meter) (failures_of ledger a) (failures_of ledger b) s (reported past stands clean) in (
        put ∙ ap (λ (x : MeterStatement). before ++ x ∷ []) (sym (by_name facts meter (opening_of facts meter) s found.0))
            ∙ ap (λ (rows : List Installation). before ++ map (λ r. statement_of zone range facts r.opening.meter) rows) (sym (cond-true _ _ _ there)),
        found.1,
      )

  pub no_room : (a b : Office B) (row : Installation) (before after : List MeterStatement) (s : MeterStatement)
      → AnswersOf ledger a b (Ok s) (λ facts. statement_in zone range facts row.opening.meter)
      → States ledger zone range (row ∷ []) a b before after (Err refusal.Memory)
  no_room a b row before after s reported = λ past stands clean recorded.
      let facts = facts_of past in
      let found = found_ok (Unit {0}) (statement_in zone range facts row.opening.meter) (failures_of ledger a) (failures_of ledger b) s
      (reported past stands clean) in
      inr (tt, found.1)

  outside : {T : Type 0} (f : Opening → T) (o : Option Opening) (before after : Failures) (why : Refusal) → is_some o ≡ true
      → IsFound (Unit {0}) (option_map f o) before after (Err why) → IsOutside (Unit {0}) before after why
  outside f None before after why some found = absurd (cc some)
  outside f (Some x) before after why some (inl is) = absurd (let e = is.0 in cc e)
  outside f (Some x) before after why some (inr fails) = fails

  pub one_refused : (a b : Office B) (row : Installation) (before after : List MeterStatement) (why : Refusal)
      → AnswersOf {T = MeterStatement} ledger a b (Err why) (λ facts. statement_in zone range facts row.opening.meter)
      → States ledger zone range (row ∷ []) a b before after (Err why)
  one_refused a b row before after why reported = λ past stands clean recorded.
      let facts = facts_of past in
      outside (by_opening facts row.opening.meter) (opening_of facts row.opening.meter) (failures_of ledger a) (failures_of ledger b) why
      (All-head (λ (r : Installation). is_some (opening_of facts r.opening.meter) ≡ true) row [] recorded) (reported past stands clean)

  stated_both : (facts : List Fact) (xs ys : List Installation)
      → statements_of zone range facts (xs ++ ys) ≡ statements_of zone range facts xs ++ statements_of zone range facts ys
  stated_both facts xs ys =
      ap (map (λ (r : Installation). statement_of zone range facts r.opening.meter)) (filter-append (was_installed zone range) xs ys)
      ∙ map-append (λ (r : Installation). statement_of zone range facts r.opening.meter) (filter (was_installed zone range) xs) (filter (was_installed zone range) ys)

  -- True if the statements (reports to check a bill) of the first `i` meters in `rows` were
  -- appended to the list `before`.
  abbrev pub AreStated : (a b : Office B) → List Installation → (before after : List MeterStatement) → (i : ℕ) → Type 0
  AreStated a b rows before after i = After ledger a b (λ past. AreRecorded (facts_of past) rows
      → after ≡ before ++ statements_of zone range (facts_of past) (take i rows))

  recorded_at : (facts : List Fact) (rows : List Installation) (i : ℕ) (row : Installation) → i < length rows → row ≡ get_or rows i row
      → AreRecorded facts rows → AreRecorded facts (row ∷ [])
  recorded_at facts rows i row lt is all =
      let P : Installation → Type 0 = λ r. is_some (opening_of facts r.opening.meter) ≡ true in
      All-cons P row [] (subst P (sym is) (all i row lt)) (λ k d less. absurd (omega (arith, less)))

  pub more_stated : (a b d : Office B) (rows : List Installation) (i : ℕ) (row : Installation) (before mid after : List MeterStatement)
      → i < length rows → row ≡ get_or rows i row → take (i + 1) rows ≡ take i rows ++ row ∷ []
      → Keeps ledger a b → Keeps ledger b d → AreStated a b rows before mid i → States ledger zone range (row ∷ []) b d mid after (Ok tt)
      → AreStated a d rows before after (i + 1)
  more_stated a b d rows i row before mid after lt is next kept went reported more = λ past stands clean recorded.
      let facts = facts_of past in
      let one = more past (kept.stands past stands) clean (recorded_at facts rows i row lt is recorded) in
      one.0 ∙ ap (λ (front : List MeterStatement). front ++ statements_of zone range facts (row ∷ [])) (reported past stands (went.clean clean) recorded)
      ∙ append_assoc before (statements_of zone range facts (take i rows)) (statements_of zone range facts (row ∷ []))
      ∙ ap (λ (back : List MeterStatement). before ++ back) (sym (ap (statements_of zone range facts) next ∙ stated_both facts (take i rows) (row ∷ [])))

  pub more_refused : (a b d : Office B) (rows : List Installation) (i : ℕ) (row : Installation) (before mid after : List MeterStatement) (why : Refusal)
      → i < length rows → row ≡ get_or rows i row → Keeps ledger a b → States ledger zone range (row ∷ []) b d mid after (Err why)
      → States ledger zone range rows a d before after (Err why)
  more_refused a b d rows i row before mid after why lt is kept more = λ past stands clean recorded.
      subst (λ was. IsOutside (Unit {0}) was (failures_of ledger d) why) kept.failures
      (more past (kept.stands past stands) clean (recorded_at (facts_of past) rows i row lt is recorded))

  pub all_stated : (a b : Office B) (rows : List Installation) (i : ℕ) (before after : List MeterStatement) → take i rows ≡ rows
      → Keeps ledger a b → AreStated a b rows before after i → States ledger zone range rows a b before after (Ok tt)
  all_stated a b rows i before after is kept reported = λ past stands clean recorded.
      (reported past stands clean recorded ∙ ap (λ (those : List Installation). before ++ statements_of zone range (facts_of past) those) is, kept.failures)

  -- Lemmas: the store has a record of each installed meter.

  some_or : {X : Type 0} (b : Bool) (x : X) (o : Option X) → is_some o ≡ true → is_some (cond b (Some x) o) ≡ true
  some_or true x o some = refl
  some_or false x o some = some

  is_found : {X : Type 0} (p : X → Bool) (xs : List X) (k : ℕ) (d : X) → k < length xs → p (get_or xs k d) ≡ true → is_some (find p xs) ≡ true
  is_found p [] k d lt is = absurd (omega (arith, lt))
  is_found p (x ∷ xs) zero d lt is = ap is_some (cond-true (p x) (Some x) (find p xs) is)
  is_found p (x ∷ xs) (suc k) d lt is = some_or (p x) x (find p xs) (is_found p xs k d (omega (arith, lt)) is)

  all_turned : {X : Type 0} (P : X → Type 0) (xs : List X) → All P xs → All P (reverse xs)
  all_turned P [] all = all
  all_turned P (x ∷ xs) all =
      subst (All P) (sym (reverse_cons x xs))
      (All-append P (reverse xs) (x ∷ []) (all_turned P xs (All-tail P x xs all))
      (All-cons P x [] (All-head P x xs all) (λ k d less. absurd (omega (arith, less)))))

  each_recorded : (facts : List Fact) → All (λ opening. is_some (opening_of facts opening.meter) ≡ true) (openings_in facts)
  each_recorded facts = λ k d lt.
      let os = openings_in facts in
      let meter = (get_or os k d).meter in
      is_found (λ (o : Opening). same o.meter meter) os k d lt (same_itself meter)

  are_recorded : (facts : List Fact) (register : List ℕ) → AreRecorded facts (installations_of facts register)
  are_recorded facts register =
      let P : Opening → Type 0 = λ o. is_some (opening_of facts o.meter) ≡ true in
      let at : Opening → Bool = λ o. same o.register register in
      All-map (λ (r : Installation). is_some (opening_of facts r.opening.meter) ≡ true) (installation_of facts) (installations_at facts register)
      (all_turned P (filter at (openings_in facts)) (All-filter at P (openings_in facts) (each_recorded facts)))

  named_recorded : (facts : List Fact) (register : Option (List ℕ)) (rows : List Installation) → meters_named facts register ≡ Some rows
      → AreRecorded facts rows
  named_recorded facts None rows is = absurd (cc is)
  named_recorded facts (Some register) rows is =
      let found = mapped (λ r. installations_of facts register) (register_of facts register) rows is in
      subst (AreRecorded facts) found.2 (are_recorded facts register)

  -- Lemmas: the statements (reports to check a bill) of all meters of an accounting register (a
  -- named energy counter) are the ones that the specification gives.

  pub statements_reported : (a b d : Office B) (register : Option (List ℕ)) (v : Vec Installation Global) (listed : List Installation) (rows : List MeterStatement)
      → listed ≡ v.items → OnlyAsks ledger a b (Ok v) → Keeps ledger b d
      → ListsAccepted ledger a b (Ok v) (λ facts. meters_named facts register)
      → States ledger zone range listed b d [] rows (Ok tt)
      → AnswersOf ledger a d (Ok rows) (λ facts. statements_in zone range facts register)
  statements_reported a b d register v listed rows same asks kept lists states = λ past stands clean.
      let facts = facts_of past in
      let known = lists past stands (kept.clean clean) in
      let is : meters_named facts register ≡ Some listed = known.0 ∙ ap Some (sym same) in
      let stated = states past (asks.stands past stands) clean (named_recorded facts register listed is) in
      found_so (Unit {0}) (statements_in zone range facts register) (failures_of ledger a) (failures_of ledger d) rows
      (ap (option_map (statements_of zone range facts)) is ∙ ap Some (sym stated.0)) (stated.1 ∙ known.1)

  pub statements_failed : (a b d : Office B) (register : Option (List ℕ)) (v : Vec Installation Global) (listed : List Installation)
      (rows : List MeterStatement) (why : Refusal)
      → listed ≡ v.items → OnlyAsks ledger a b (Ok v) → OnlyAsks {T = Unit {0}} ledger b d (Err why)
      → ListsAccepted ledger a b (Ok v) (λ facts. meters_named facts register)
      → States ledger zone range listed b d [] rows (Err why)
      → AnswersOf {T = List MeterStatement} ledger a d (Err why) (λ facts. statements_in zone range facts register)
  statements_failed a b d register v listed rows why same asks more lists states = λ past stands clean.
      let facts = facts_of past in
      let known = lists past stands (more.clean clean) in
      let is : meters_named facts register ≡ Some listed = known.0 ∙ ap Some (sym same) in
      let out = states past (asks.stands past stands) clean (named_recorded facts register listed is) in
      inr (subst (λ was. IsOutside (Unit {0}) was (failures_of ledger d) why) known.1 out)

  gone_meters : (facts : List Fact) (rows : Option (List Installation)) → is_there rows ≡ None → option_map (statements_of zone range facts) rows ≡ None
  gone_meters facts None is = refl
  gone_meters facts (Some rows) is = absurd (cc is)

  pub meters_refused : (a b : Office B) (register : Option (List ℕ)) (why : Refusal)
      → ListsAccepted {T = Installation} ledger a b (Err why) (λ facts. meters_named facts register)
      → AnswersOf {T = List MeterStatement} ledger a b (Err why) (λ facts. statements_in zone range facts register)
  meters_refused a b register why lists = λ past stands clean.
      let facts = facts_of past in
      refused_on ⊥ (Unit {0}) (is_there (meters_named facts register)) (statements_in zone range facts register)
      (failures_of ledger a) (failures_of ledger a) (failures_of ledger b) why (λ none. tt) (gone_meters facts (meters_named facts register)) refl
      (listed_err (meters_named facts register) (failures_of ledger a) (failures_of ledger b) why (lists past stands clean))

-- If the write of a meter's statement (a report to check a bill) succeeded, then the complete
-- statement was printed. If it failed, a part was printed.
pub written_so : {E : Type 0} (written : Result (Unit {0}) E) (text : List ℕ) (meant status : ExitStatus) (old new : Option (List ℕ))
    → status ≡ cond (is_ok written) meant Failed → GotText written text old new → IsReported text meant status old new
written_so (Ok done) text meant status old new ends got = inl (ends, got)
written_so (Err error) text meant status old new ends got = inr (ends, got)

-- If a command only queries the office (the event engine) for a report, then its effect is the one
-- that `Asks` (the contract of queries) requires.
pub only_asked : {B T : Type 0} (ledger : B → Ledger) (a b : Office B) (result : Result T Refusal) → OnlyAsks ledger a b result → Asks ledger a b
only_asked ledger a b (Ok x) asks = record { reply = Ok tt; only = now_as ledger a b x tt asks }
only_asked ledger a b (Err why) asks = record { reply = Err why; only = refused_as ledger a b why asks }
