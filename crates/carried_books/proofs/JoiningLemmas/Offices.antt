-- Lemmas on the daily energies of a register (a named counter) over earlier database files and the
-- running program's file. They are the sums of the intervals in all files, or the request is
-- refused for an allowed reason.
use Rattle.std.proofs.Common.{◌≡◌, ℕ, ◌+◌, ◌<◌, ◌≤◌, true, Bool, inl, inr, List, [], ◌∷◌, ◌++◌, take, get_or, length, map, Option, Some, None, Result, Ok, Err, refl, sym, ap, subst, ◌∙◌, arith, append-nil, reverse}
use Rattle.std.specs.Prelude.{All, filter}
use Rattle.std.specs.List.{flat_map}
use Rattle.std.specs.Option.{option_map}
use Rattle.std.specs.declared.alloc.Global.{Global}
use Rattle.std.specs.declared.vec.Vec.{Vec}
use Rattle.std.proofs.lemmas.Grind.{flat_map-append}
use Rattle.std.proofs.lemmas.List.{get_or-map, length-map, take_all, take_more}
use Rattle.std.proofs.lemmas.List.Elements.{All-filter, All-get_or}
use Rattle.std.proofs.lemmas.List.Sorted.{All-permutation, IsPermutation-reverse}
use Rattle.std.proofs.lemmas.Option.{same_Some}
use Rattle.interval_core.specs.Days.{AreAccounts, DayAccount}
use Rattle.interval_core.specs.Fold.{FoldState, HasTaken}
use Rattle.interval_core.specs.declared.day.DayFault.{DayFault}
use Rattle.interval_core.specs.declared.day.DayFault.TheVariants as fault
use Rattle.interval_core.specs.declared.shares.Share.{Share}
use Rattle.interval_core.specs.declared.totals.DayTotal.{DayTotal}
use Rattle.interval_core.specs.declared.zone.Zone.{Zone}
use Rattle.office_events.specs.declared.facts.Fact.{Fact}
use Rattle.office_events.specs.declared.facts.Opening.{Opening}
use Rattle.office_events.specs.declared.facts.Register.{Register}
use Rattle.office_events.specs.declared.questions.Installation.{Installation}
use Rattle.office_events.specs.declared.refusals.Refusal.{Refusal}
use Rattle.office_events.specs.declared.refusals.Refusal.TheVariants as refusal
use Rattle.office_events.specs.declared.refusals.StoreCause.TheVariants as store
use Rattle.office_books.specs.Facts.{opening_of, openings_in, register_of, same}
use Rattle.office_books.specs.History.{History, facts_of}
use Rattle.office_books.specs.Intervals.{installations_at, rows_of_opening, rows_of_register}
use Rattle.office_books.specs.Lawful.{AreLawful}
use Rattle.office_books.specs.Lawfulness.{FactsAreLawful}
use Rattle.office_books.specs.Meters.{installation_of}
use Rattle.office_books.proofs.Lookups.{each_found}
use Rattle.office_books.proofs.FoundOpenings.{openings_apart}
use Rattle.office_books.specs.Entries.{installations_of}
use Rattle.office_books.specs.Ledgers.{Ledger}
use Rattle.office_books.specs.Rows.{TakesAll}
use Rattle.office_books.specs.Spans.{rows_within}
use Rattle.office_books.specs.declared.failures.Failures.{Failures}
use Rattle.office_books.specs.declared.spans.Span.{Span}
use Rattle.office_books.proofs.Handing.{takes_both}
use Rattle.office_core.specs.Asking.{HandsRows, IsFound, IsRowFound, OnlyAsks, ReportsRows, is_there}
use Rattle.office_core.specs.DaySums.{EndsAs}
use Rattle.office_core.specs.Failing.{IsOutside}
use Rattle.office_core.specs.Parts.{IsListed, ListsAccepted, intervals_within, meters_named}
use Rattle.office_core.specs.Several.{Keeps, KeepsUnlessRefused}
use Rattle.office_core.specs.Standing.{After, books_in, is_stopped}
use Rattle.office_core.specs.Taking.{failures_of}
use Rattle.office_core.specs.declared.office.Office.{Office}
use Rattle.office_core.proofs.SeveralAsked.{answered_as, asked, asked_after, found_ok, found_so, goes_on, kept_on, now_as, refused_on, without_memory}
use Rattle.carried_books.specs.Joining.Days.{AddUp, AreSumOf, GoesOnFrom, HasNumber, TakesShare}
use Rattle.carried_books.specs.Joining.Offices.{AsksMeters, AsksRegister, IsInstalled, LacksMemory, ListsOver, TakesMeters, TakesRegister, ReportsDaysOver, rows_of_both}
use Rattle.carried_books.specs.declared.joining.days.EarlierDays.{EarlierDays}
use Rattle.carried_books.specs.declared.joining.days.JoinedDays.{JoinedDays}
use Rattle.carried_books.proofs.JoiningLemmas.Days.{add_all, first_has}
use Rattle.carried_books.proofs.JoiningLemmas.Reports.{both_within, none_within}

pub all_installed : (facts : List Fact) (register : List ℕ) → AreLawful facts → All (IsInstalled facts) (installations_at facts register)
all_installed facts register lawful =
    let at : Opening → Bool = λ opening. same opening.register register in
    let all : All (IsInstalled facts) (openings_in facts) = each_found (λ (o : Opening). o.meter) (openings_in facts) (openings_apart facts lawful) in
    let here = filter at (openings_in facts) in
    All-permutation (IsInstalled facts) here (reverse here) (IsPermutation-reverse here) (All-filter at (IsInstalled facts) (openings_in facts) all)

next_rows : (asked : Span) (rows_of : Opening → List Share) (openings : List Opening) (i : ℕ) (d : Opening) → i < length openings
    → rows_within asked (flat_map rows_of (take (i + 1) openings))
    ≡ rows_within asked (flat_map rows_of (take i openings)) ++ rows_within asked (rows_of (get_or openings i d))
next_rows asked rows_of openings i d less =
    let o = get_or openings i d in
    ap (λ (os : List Opening). rows_within asked (flat_map rows_of os)) (take_more openings i d less)
    ∙ ap (rows_within asked) (flat_map-append rows_of (take i openings) (o ∷ []) ∙ ap (λ (rows : List Share). flat_map rows_of (take i openings) ++ rows) (append-nil (rows_of o)))
    ∙ both_within asked (flat_map rows_of (take i openings)) (rows_of o)

-- True if the meter at index `i` of the list has the opening (first entry) at index `i` in
-- `openings`, and the records have this opening.
record IsListedAs (facts : List Fact) (openings : List Opening) (i : ℕ) (row : Installation) : Type 0 where
  less : i < length openings
  found : opening_of facts row.opening.meter ≡ Some (get_or openings i row.opening)

listed_as : (facts : List Fact) (openings : List Opening) (listed : List Installation) (i : ℕ) (row : Installation) → i < length listed → row ≡ get_or listed i row
    → listed ≡ map (installation_of facts) openings → All (IsInstalled facts) openings → IsListedAs facts openings i row
listed_as facts openings listed i row less is are installed =
    let mapped = length-map openings (installation_of facts) in
    let same_length : length listed ≡ length (map (installation_of facts) openings) = ap length are in
    let inside : i < length openings = omega (arith, less, mapped, same_length) in
    let o = get_or openings i row.opening in
    let stands : row ≡ installation_of facts o =
    is ∙ ap (λ (l : List Installation). get_or l i row) are ∙ get_or-map (installation_of facts) openings i row.opening row inside in
    let opened : row.opening ≡ o = ap (λ (r : Installation). r.opening) stands in
    let there = All-get_or (IsInstalled facts) openings i row.opening inside installed in
    let P : Opening → Type 0 = λ p. opening_of facts p.meter ≡ Some o in
    record { less = inside; found = subst P (sym opened) there }

rows_reported : (facts : List Fact) (asked : Span) (meter : List ℕ) (o : Opening) → opening_of facts meter ≡ Some o
    → intervals_within facts (Some meter) asked ≡ Some (rows_within asked (rows_of_opening facts o))
rows_reported facts asked meter o there =
    ap (λ (found : Option Opening). option_map (rows_within asked) (option_map (rows_of_opening facts) found)) there

-- If a requested item exists, then only two reasons for a refusal of its query remain: the database
-- or memory failed, or the event handling had stopped after an earlier failure.
there_fails : (m : Type 0) (before after : Failures) (why : Refusal) → IsFound {T = Unit {0}} m (Some tt) before after (Err why) → IsOutside m before after why
there_fails m before after why (inl is) = absurd (cc is.0)
there_fails m before after why (inr fails) = fails

mapped : {X Y : Type 0} (f : X → Y) (o : Option X) (y : Y) → option_map f o ≡ Some y → (x : X) × (o ≡ Some x) × (f x ≡ y)
mapped f None y is = absurd (cc is)
mapped f (Some x) y is = (x, refl, same_Some (f x) y is)

not_listed : {X : Type 0} (f : X → List Installation) (o : Option X) (before after : Failures) (why : Refusal)
    → IsListed (option_map f o) before after (Err why) → IsRowFound (is_there o) before after (Err why)
not_listed f None before after why (inl is) = inl (ap Err is.0, is.1)
not_listed f None before after why (inr fails) = inr fails
not_listed f (Some x) before after why fails = inr fails

-- Adding the intervals `more` to a copy of the sum of the intervals `rows` by civil day gives the
-- sum of `rows` and `more`, or a failure.
days_on : (zone : Zone) (rows more : List Share) (earlier : EarlierDays) (copy after : JoinedDays) → GoesOnFrom zone earlier copy → AreSumOf zone rows earlier
    → HasNumber (rows ++ more) → TakesAll TakesShare copy more after → AddUp after.fault zone (rows ++ more) after.fold
days_on zone rows more earlier copy after is added fits took =
    let P : Option DayFault → Type 0 = λ f. AddUp f zone rows copy.fold in
    let Q : FoldState → Type 0 = λ fold. HasTaken zone rows fold in
    (add_all zone rows more copy after is.zone_is fits (subst P (sym is.works) (subst Q (sym is.fold) (added (first_has rows more fits)))) took).1

pub lists : (failed : Option DayFault) (zone : Zone) (rows : List Share) (fold : FoldState) (there : Option (Unit {0})) (before after : Failures)
    (result : Result (Vec DayTotal Global) Refusal) → there ≡ Some tt → after ≡ before → AddUp failed zone rows fold → EndsAs failed fold.accounts result
    → ListsOver zone rows there before after result
lists None zone rows fold there before after (Ok days) is same added ends = (is, same, subst (AreAccounts zone rows) (sym ends) added.accounts)
lists None zone rows fold there before after (Err why) is same added ends = absurd ends
lists (Some f) zone rows fold there before after (Ok days) is same added ends = absurd ends
lists (Some fault.Zone) zone rows fold there before after (Err why) is same added ends = inr (ends, same, added)
lists (Some fault.Memory) zone rows fold there before after (Err why) is same added ends =
    inl (inr (subst (IsOutside (there ≡ Some tt) before after) (sym ends) (inr (is, same))))

module _ {B : Type 0} (ledger : B → Ledger) where
  -- True if the quarter hours of the first `n` meters in `listed` were added to a sum of energy by
  -- civil day.
  abbrev pub HaveFirst : (a b : Office B) → (listed : List Installation) → (n : ℕ) → Span → (from to : JoinedDays) → Type 0
  HaveFirst a b listed n asked from to = After ledger a b (λ past. (openings : List Opening)
      → listed ≡ map (installation_of (facts_of past)) openings → All (IsInstalled (facts_of past)) openings
      → TakesAll TakesShare from (rows_within asked (flat_map (rows_of_opening (facts_of past)) (take n openings))) to)

  pub have_none : (a : Office B) (listed : List Installation) (asked : Span) (from : JoinedDays) → HaveFirst a a listed 0 asked from from
  have_none a listed asked from = λ past stands clean openings are installed.
      let P : List Share → Type 0 = λ rows. TakesAll TakesShare from rows from in
      subst P (sym (none_within asked)) refl

  reported_of : (b d : Office B) (asked : Span) (mid to : JoinedDays) (result : Result (Unit {0}) Refusal) (meter : List ℕ) (past : History) (o : Opening)
      → opening_of (facts_of past) meter ≡ Some o
      → HandsRows TakesShare (intervals_within (facts_of past) (Some meter) asked) (failures_of ledger b) (failures_of ledger d) mid to result
      → HandsRows TakesShare (Some (rows_within asked (rows_of_opening (facts_of past) o))) (failures_of ledger b) (failures_of ledger d) mid to result
  reported_of b d asked mid to result meter past o there hands =
      let P : Option (List Share) → Type 0 = λ rows. HandsRows TakesShare rows (failures_of ledger b) (failures_of ledger d) mid to result in
      subst P (rows_reported (facts_of past) asked meter o there) hands

  pub have_more : (a b d : Office B) (listed : List Installation) (i : ℕ) (row : Installation) (asked : Span) (from mid to : JoinedDays) (done : Unit {0})
      → i < length listed → row ≡ get_or listed i row → Keeps ledger a b → HaveFirst a b listed i asked from mid → OnlyAsks ledger b d (Ok done)
      → ReportsRows TakesShare ledger b d mid to (Ok done) (λ facts. intervals_within facts (Some row.opening.meter) asked)
      → HaveFirst a d listed (i + 1) asked from to
  have_more a b d listed i row asked from mid to done less is keeps took asks reports = λ past stands clean openings are installed.
      let facts = facts_of past in
      let it = listed_as facts openings listed i row less is are installed in
      let o = get_or openings i row.opening in
      let hands = reported_of b d asked mid to (Ok done) row.opening.meter past o it.found (reports past (keeps.stands past stands) clean) in
      let before = took past stands (asks.clean clean) openings are installed in
      let first = rows_within asked (flat_map (rows_of_opening facts) (take i openings)) in
      let both = takes_both TakesShare from mid to first (rows_within asked (rows_of_opening facts o)) before hands.whole in
      let P : List Share → Type 0 = λ rows. TakesAll TakesShare from rows to in
      subst P (sym (next_rows asked (rows_of_opening facts) openings i row.opening it.less)) both

  pub have_all : (a b : Office B) (listed : List Installation) (n : ℕ) (asked : Span) (from to : JoinedDays) (done : Unit {0}) → length listed ≤ n
      → Keeps ledger a b → HaveFirst a b listed n asked from to → AsksMeters ledger a b listed asked from to (Ok done)
  have_all a b listed n asked from to done past_all keeps took = record {
    left = keeps;
    takes = λ past stands clean openings are installed.
        let facts = facts_of past in
        let mapped_length = length-map openings (installation_of facts) in
        let same_length : length listed ≡ length (map (installation_of facts) openings) = ap length are in
        let all : take n openings ≡ openings = take_all n openings (omega (arith, past_all, mapped_length, same_length)) in
        let P : List Opening → Type 0 = λ os. TakesAll TakesShare from (rows_within asked (flat_map (rows_of_opening facts) os)) to in
        subst P all (took past stands clean openings are installed);
  }

  pub have_failed : (a b d : Office B) (listed : List Installation) (i : ℕ) (row : Installation) (asked : Span) (from mid to : JoinedDays) (why : Refusal)
      → i < length listed → row ≡ get_or listed i row → Keeps ledger a b → OnlyAsks {T = Unit {0}} ledger b d (Err why)
      → ReportsRows TakesShare ledger b d mid to (Err why) (λ facts. intervals_within facts (Some row.opening.meter) asked)
      → AsksMeters ledger a d listed asked from to (Err why)
  have_failed a b d listed i row asked from mid to why less is keeps asks reports = record {
    left = asked_after ledger a b d (Err why) keeps asks;
    takes = λ past stands clean openings are installed.
        let facts = facts_of past in
        let it = listed_as facts openings listed i row less is are installed in
        let hands = reported_of b d asked mid to (Err why) row.opening.meter past (get_or openings i row.opening) it.found
        (reports past (keeps.stands past stands) clean) in
        let fails = there_fails ⊥ (failures_of ledger b) (failures_of ledger d) why hands.answer in
        let P : Failures → Type 0 = λ was. IsOutside ⊥ was (failures_of ledger d) why in
        subst P keeps.failures fails;
  }

  pub asks_both : {T : Type 0} (a b d : Office B) (x : T) (result : Result (Unit {0}) Refusal) → OnlyAsks ledger a b (Ok x) → KeepsUnlessRefused ledger b d result
      → OnlyAsks ledger a d result
  asks_both a b d x (Ok done) asks keeps = answered_as ledger a d done (goes_on ledger a b x asks) (kept_on ledger a b d (asked ledger a b x asks) keeps)
  asks_both a b d x (Err why) asks keeps = asked_after ledger a b d (Err why) (asked ledger a b x asks) keeps

  clean_before : (b d : Office B) (result : Result (Unit {0}) Refusal) → KeepsUnlessRefused ledger b d result → (ledger (books_in d)).is_clean → (ledger (books_in b)).is_clean
  clean_before b d (Ok done) keeps clean = keeps.clean clean
  clean_before b d (Err why) keeps clean = keeps.clean clean

  taken : (facts : List Fact) (register : List ℕ) (asked : Span) (a b d : Office B) (x : Register) (from to : JoinedDays) (result : Result (Unit {0}) Refusal)
      → register_of facts register ≡ Some x → failures_of ledger b ≡ failures_of ledger a → KeepsUnlessRefused ledger b d result
      → TakesMeters facts (installations_at facts register) asked (failures_of ledger b) (failures_of ledger d) from to result
      → TakesRegister facts register asked (failures_of ledger a) (failures_of ledger d) from to result
  taken facts register asked a b d x from to (Ok done) there same keeps took = record {
    answer = found_so ⊥ (is_there (register_of facts register)) (failures_of ledger a) (failures_of ledger d) tt
        (ap (λ (found : Option Register). is_there found) there) (keeps.failures ∙ same);
    whole = took;
  }
  taken facts register asked a b d x from to (Err why) there same keeps fails = record {
    answer = inr (let P : Failures → Type 0 = λ was. IsOutside ⊥ was (failures_of ledger d) why in subst P same fails);
    whole = tt;
  }

  pub register_taken : (a b d : Office B) (register : List ℕ) (asked : Span) (meters : Vec Installation Global) (from to : JoinedDays)
      (result : Result (Unit {0}) Refusal) → FactsAreLawful → OnlyAsks ledger a b (Ok meters)
      → ListsAccepted ledger a b (Ok meters) (λ facts. meters_named facts (Some register)) → AsksMeters ledger b d meters.items asked from to result
      → AsksRegister ledger a d register asked from to result
  register_taken a b d register asked meters from to result lawful asks lists more = λ past stands clean.
      let facts = facts_of past in
      let known = lists past stands (clean_before b d result more.left clean) in
      let found = mapped (λ (row : Register). installations_of facts register) (register_of facts register) meters.items known.0 in
      let are = lawful past stands.books.is_past.accepted stands.books.is_past.planned in
      taken facts register asked a b d found.0 from to result found.1 known.1 more.left
      (more.takes past (asks.stands past stands) clean (installations_at facts register) (sym found.2) (all_installed facts register are))

  pub register_missing : (a b : Office B) (register : List ℕ) (asked : Span) (from : JoinedDays) (why : Refusal)
      → ListsAccepted {T = Installation} ledger a b (Err why) (λ facts. meters_named facts (Some register))
      → AsksRegister ledger a b register asked from from (Err why)
  register_missing a b register asked from why lists = λ past stands clean.
      let facts = facts_of past in
      record {
        answer = not_listed (λ (row : Register). installations_of facts register) (register_of facts register) (failures_of ledger a) (failures_of ledger b) why
            (lists past stands clean);
        whole = tt;
      }

  -- Suppose that all queries of the database succeeded. Then a refusal because an energy interval
  -- is out of order satisfies the contract `OnlyAsks`, which allows a request no change of the
  -- records.
  out_of_turn : {T : Type 0} (a b : Office B) → (is_stopped a ≡ true → ⊥) → Keeps ledger a b → OnlyAsks {T = T} ledger a b (Err (refusal.Store store.NoDay))
  out_of_turn a b goes kept = record {
    stands = kept.stands;
    keeps = kept.keeps;
    notes = kept.notes;
    outgoing = kept.outgoing;
    stopped = (λ is. absurd (cc is), λ is. absurd (goes is));
    stays = kept.stays;
    counts = kept.failures;
    clean = kept.clean;
    zone = kept.zone;
  }

  pub asks_ended : (failed : Option DayFault) (accounts : List DayAccount) (a b : Office B) (done : Unit {0}) (result : Result (Vec DayTotal Global) Refusal)
      → OnlyAsks ledger a b (Ok done) → EndsAs failed accounts result → OnlyAsks ledger a b result
  asks_ended None accounts a b done (Ok days) asks ends = now_as ledger a b done days asks
  asks_ended None accounts a b done (Err why) asks ends = absurd ends
  asks_ended (Some f) accounts a b done (Ok days) asks ends = absurd ends
  asks_ended (Some fault.Zone) accounts a b done (Err why) asks ends =
      let P : Refusal → Type 0 = λ w. OnlyAsks {T = Vec DayTotal Global} ledger a b (Err w) in
      subst P (sym ends) (out_of_turn a b (goes_on ledger a b done asks) (asked ledger a b done asks))
  asks_ended (Some fault.Memory) accounts a b done (Err why) asks ends =
      let P : Refusal → Type 0 = λ w. OnlyAsks {T = Vec DayTotal Global} ledger a b (Err w) in
      subst P (sym ends) (without_memory ledger a b (goes_on ledger a b done asks) (asked ledger a b done asks))

  pub days_reported : (a b : Office B) (zone : Zone) (earlier : EarlierDays) (copy after : JoinedDays) (register : List ℕ) (asked : Span) (done : Unit {0})
      (result : Result (Vec DayTotal Global) Refusal) → GoesOnFrom zone earlier copy → AsksRegister ledger a b register asked copy after (Ok done)
      → EndsAs after.fault after.fold.accounts result → ReportsDaysOver ledger a b zone earlier register asked result
  days_reported a b zone earlier copy after register asked done result is asks ends = λ past stands clean rows added fits.
      let facts = facts_of past in
      let it = asks past stands clean in
      let found = found_ok ⊥ (is_there (register_of facts register)) (failures_of ledger a) (failures_of ledger b) done it.answer in
      lists after.fault zone (rows_of_both asked rows facts register) after.fold (is_there (register_of facts register)) (failures_of ledger a)
      (failures_of ledger b) result found.0 found.1
      (days_on zone rows (rows_within asked (rows_of_register facts register)) earlier copy after is added fits it.whole) ends

  -- If the lookup of a register (a named counter) fails, then the request for its daily energies is
  -- refused with the same refusal.
  refused_so : (a b : Office B) (facts : List Fact) (register : List ℕ) (why : Refusal)
      → IsRowFound {T = Unit {0}} (is_there (register_of facts register)) (failures_of ledger a) (failures_of ledger b) (Err why)
      → IsFound {T = Unit {0}} (is_there (register_of facts register) ≡ Some tt) (is_there (register_of facts register)) (failures_of ledger a)
      (failures_of ledger b) (Err why)
  refused_so a b facts register why found =
      let there = is_there (register_of facts register) in
      refused_on ⊥ (there ≡ Some tt) there there (failures_of ledger a) (failures_of ledger a) (failures_of ledger b) why (λ never. absurd never) (λ none. none) refl
      found

  pub days_missing : (a b : Office B) (zone : Zone) (earlier : EarlierDays) (copy after : JoinedDays) (register : List ℕ) (asked : Span) (why : Refusal)
      → AsksRegister ledger a b register asked copy after (Err why) → ReportsDaysOver ledger a b zone earlier register asked (Err why)
  days_missing a b zone earlier copy after register asked why asks = λ past stands clean rows added fits.
      inl (refused_so a b (facts_of past) register why (asks past stands clean).answer)

  pub lacks_register : (a b : Office B) (register : List ℕ) (why : Refusal)
      → ListsAccepted {T = Installation} ledger a b (Err why) (λ facts. meters_named facts (Some register)) → LacksMemory ledger a b register why
  lacks_register a b register why lists = λ past stands clean.
      let facts = facts_of past in
      refused_so a b facts register why
      (not_listed (λ (row : Register). installations_of facts register) (register_of facts register) (failures_of ledger a) (failures_of ledger b) why
      (lists past stands clean))

  pub lacks_memory : (a b : Office B) (register : List ℕ) (meters : Vec Installation Global)
      → ListsAccepted ledger a b (Ok meters) (λ facts. meters_named facts (Some register)) → LacksMemory ledger a b register refusal.Memory
  lacks_memory a b register meters lists = λ past stands clean.
      let facts = facts_of past in
      let known = lists past stands clean in
      let found = mapped (λ (row : Register). installations_of facts register) (register_of facts register) meters.items known.0 in
      inr (inr (ap (λ (row : Option Register). is_there row) found.1, known.1))

  pub nothing_reported : (a b : Office B) (zone : Zone) (earlier : EarlierDays) (register : List ℕ) (asked : Span) (why : Refusal) → LacksMemory ledger a b register why
      → ReportsDaysOver ledger a b zone earlier register asked (Err why)
  nothing_reported a b zone earlier register asked why lacks = λ past stands clean rows added fits. inl (lacks past stands clean)
