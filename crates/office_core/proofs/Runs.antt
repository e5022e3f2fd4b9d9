-- Lemmas about a run, in which the program processes a list of events. If a guarantee of the run
-- holds after its first events, it also holds after one more event.
use Rattle.std.proofs.Common.{◌≡◌, ◌↔◌, ◌||◌, ℕ, ◌+◌, ◌<◌, Bool, true, false, List, [], ◌∷◌, ◌++◌, take, length, ◌≤◌, get_or, Result, Err, refl, ap, sym, subst, ◌∙◌, arith, take_all}
use Rattle.std.specs.Prelude.{All, IfErr}
use Rattle.std.proofs.lemmas.List.{take_more}
use Rattle.std.proofs.lemmas.List.Elements.{All-append, All-cons, All-nil}
use Rattle.office_events.specs.declared.answers.Answer.{Answer}
use Rattle.office_events.specs.declared.events.Event.{Event}
use Rattle.office_events.specs.declared.facts.Fact.{Fact}
use Rattle.office_events.specs.declared.refusals.Refusal.{Refusal}
use Rattle.office_events.specs.declared.refusals.Refusal.TheVariants as refusal
use Rattle.office_books.specs.History.{History, Opened}
use Rattle.office_books.specs.Refusals.{with_answer}
use Rattle.office_books.specs.declared.failures.Failures.{Failures}
use Rattle.office_books.specs.Ledgers.{Ledger}
use Rattle.office_core.specs.declared.office.Office.{Office}
use Rattle.office_core.specs.Failing.{Counts, IsNotForWantOfDay, is_failure, stops}
use Rattle.office_core.specs.Leaving.{BooksStand, Leaves, LeftByEvent}
use Rattle.office_core.specs.Standing.{After, Stands, books_in, is_stopped}
use Rattle.office_core.specs.Taking.{IsAnswer, IsReported, IsQuiet, LeavesEvent, SettlesNothing, Ends, failures_of}
use Rattle.office_core.specs.EventRun.{Answered, in_turn, history_after, IsAnswered, AreAnswered, ReportsOfLast, StopsInTurn, CountInTurn, LeftInTurn, LeftByRun}

abbrev Events : Type 0
Events = List (ℕ × Event)

abbrev Results : Type 0
Results = List (Result Answer Refusal)

abbrev pub with_result : ℕ × Event → Result Answer Refusal → Answered
with_result fed r = record { at = fed.0; event = fed.1; result = r }

turn_push : (events : Events) (results : Results) (e : ℕ × Event) (r : Result Answer Refusal) → length results ≡ length events
    → in_turn (events ++ e ∷ []) (results ++ r ∷ []) ≡ in_turn events results ++ with_result e r ∷ []
turn_push [] [] e r same = refl
turn_push [] (b ∷ results) e r same = absurd (omega arith)
turn_push (f ∷ events) [] e r same = absurd (omega arith)
turn_push (f ∷ events) (b ∷ results) e r same = ap (λ fed. with_result f b ∷ fed) (turn_push events results e r (omega arith))

one_more : (events : Events) (i : ℕ) (e : ℕ × Event) → i < length events → e ≡ get_or events i e → take (i + 1) events ≡ take i events ++ e ∷ []
one_more events i e inside is = take_more events i e inside ∙ ap (λ (x : ℕ × Event). take i events ++ x ∷ []) (sym is)

pub turn_more : (events : Events) (i : ℕ) (e : ℕ × Event) (results later : Results) (r : Result Answer Refusal)
    → i < length events → e ≡ get_or events i e → later ≡ results ++ r ∷ [] → length results ≡ length (take i events)
    → in_turn (take (i + 1) events) later ≡ in_turn (take i events) results ++ with_result e r ∷ []
turn_more events i e results later r inside at is same = rw (one_more events i e inside at, is) (turn_push (take i events) results e r same)

history_push : (past : History) (fed : List Answered) (one : Answered)
    → history_after past (fed ++ one ∷ []) ≡ with_answer (history_after past fed) one.at one.event one.result
history_push past [] one = refl
history_push past (f ∷ fed) one = history_push (with_answer past f.at f.event f.result) fed one

answers_push : (past : History) (before between after : Failures) (fed : List Answered) (one : Answered)
    → AreAnswered past before between fed → IsAnswered (history_after past fed) between after one
    → AreAnswered past before after (fed ++ one ∷ [])
answers_push past before between after [] one h k = (after, rw (sym h) k, refl)
answers_push past before between after (f ∷ fed) one h k =
    (h.0, h.1, answers_push (with_answer past f.at f.event f.result) h.0 between after fed one h.2 k)

left_push : (past : History) (before between after : List (List Fact)) (fed : List Answered) (one : Answered)
    → LeftInTurn past fed before between → LeftByEvent (history_after past fed) one.at one.event one.result between after
    → LeftInTurn past (fed ++ one ∷ []) before after
left_push past before between after [] one h k = (after, rw (sym h) k, refl)
left_push past before between after (f ∷ fed) one h k =
    (h.0, h.1, left_push (with_answer past f.at f.event f.result) h.0 between after fed one h.2 k)

-- Suppose that, after a run of events, a crash can leave only the lists of records that the answers
-- to these events permit. Then this also holds after one more event of the run.
run_push : (old between new : Ledger) (past : History) (opened : ℕ) (fed : List Answered) (one : Answered)
    → Leaves old between (LeftByRun past opened fed)
    → Leaves between new (LeftByEvent (history_after (Opened opened ∷ past) fed) one.at one.event one.result)
    → Leaves old new (LeftByRun past opened (fed ++ one ∷ []))
run_push old between new past opened fed one so leaves = λ before may.
    let run = so before may in
    let next = leaves run.0 run.2 in
    (next.0, (run.1.0, run.1.1, left_push (Opened opened ∷ past) run.1.0 run.0 next.0 fed one run.1.2 next.1), next.2)

reported_push : {B : Type 0} (past : History) (fed : List Answered) (one : Answered) (office : Office B)
    → IsReported (history_after past fed) one.at one.event one.result office → ReportsOfLast past (fed ++ one ∷ []) office
reported_push past [] one office reported = reported
reported_push past (f ∷ []) one office reported = reported
reported_push past (f ∷ next ∷ fed) one office reported =
    reported_push (with_answer past f.at f.event f.result) (next ∷ fed) one office reported

stops_push : (before between : Bool) (fed : List Answered) (one : Answered)
    → StopsInTurn before between fed → ((one.result ≡ Err refusal.Stopped) ↔ (between ≡ true))
    → StopsInTurn before (between || stops one.event one.result) (fed ++ one ∷ [])
stops_push before between [] one h k = rw (sym h) (k, refl)
stops_push before between (f ∷ fed) one h k = (h.0, stops_push (before || stops f.event f.result) between fed one h.1 k)

counts_push : (before between after : Failures) (fed : List Answered) (one : Answered)
    → CountInTurn before between fed → Counts between after one.result → CountInTurn before after (fed ++ one ∷ [])
counts_push before between after [] one h k = (after, rw (sym h) k, refl)
counts_push before between after (f ∷ fed) one h k = (h.0, h.1, counts_push h.0 between after fed one h.2 k)

-- True if the refusal of the event, if any, has another cause than a quarter hour without a civil
-- day in the store's time zone.
abbrev pub HasItsDay : Answered → Type 0
HasItsDay fed = IfErr fed.result IsNotForWantOfDay

no_day_push : (fed : List Answered) (one : Answered) → All HasItsDay fed → HasItsDay one → All HasItsDay (fed ++ one ∷ [])
no_day_push fed one h k = All-append HasItsDay fed (one ∷ []) h (All-cons HasItsDay one [] k (All-nil HasItsDay))

-- The guarantees of a run of events after its first events, `fed`, were processed: the answers, the
-- program's state, the notifications, the failure counter and the records that a crash may leave
-- follow from these events.
pub record SoFar {B : Type 0} (ledger : B → Ledger) (books : B) (opened : ℕ) (fed : List Answered) (office : Office B) : Type 0 where
  pub stands : (past : History) → BooksStand (ledger books) past → (ledger (books_in office)).is_clean
      → Stands ledger (history_after (Opened opened ∷ past) fed) office
  pub answers : (past : History) → BooksStand (ledger books) past → (ledger (books_in office)).is_clean
      → AreAnswered (Opened opened ∷ past) (ledger books).failures (ledger (books_in office)).failures fed
  pub leaves : (past : History) → BooksStand (ledger books) past → (ledger (books_in office)).is_clean
      → Leaves (ledger books) (ledger (books_in office)) (LeftByRun past opened fed)
  pub reported : (past : History) → BooksStand (ledger books) past → (ledger (books_in office)).is_clean
      → ReportsOfLast (Opened opened ∷ past) fed office
  pub stops : StopsInTurn false (is_stopped office) fed
  pub no_day : All HasItsDay fed
  pub counts : CountInTurn (ledger books).failures (ledger (books_in office)).failures fed
  pub clean : (ledger (books_in office)).is_clean → (ledger books).is_clean
  pub zone : (ledger (books_in office)).zone ≡ (ledger books).zone

-- The guarantees of the function that processes one event of a run of events: the answer, the
-- program's state, the notifications and the records that a crash may leave follow from the event.
pub record Feeds {B : Type 0} (ledger : B → Ledger) (old new : Office B) (one : Answered) : Type 0 where
  pub answers : After ledger old new (λ past. IsAnswer past one.at one.event (failures_of ledger old) (failures_of ledger new) one.result)
  pub stands : After ledger old new (λ past. Stands ledger (with_answer past one.at one.event one.result) new)
  pub leaves : After ledger old new (LeavesEvent ledger one.at one.event old new one.result)
  pub reported : After ledger old new (λ past. IsReported past one.at one.event one.result new)
  pub quiet : (past : History) → Stands ledger past old → is_stopped old ≡ false → SettlesNothing past one.at one.event
      → IsQuiet old new one.result
  pub ends : Ends ledger old new one.event one.result

-- If an event requests no command and ends no poll, then its answer reports no failure. This holds
-- whether the program is running or refuses all events after an earlier failure.
not_failing : {B : Type 0} (ledger : B → Ledger) (past : History) (old new : Office B) (one : Answered) → Feeds ledger old new one
    → Stands ledger past old → SettlesNothing past one.at one.event → (stopped : Bool) → is_stopped old ≡ stopped
    → is_failure one.result ≡ false
not_failing ledger past old new one feeds stands nothing true is = ap is_failure (feeds.ends.stopped.1 is)
not_failing ledger past old new one feeds stands nothing false is = (feeds.quiet past stands is nothing).answer

pub further : {B : Type 0} (ledger : B → Ledger) (books : B) (opened : ℕ) (fed : List Answered) (old new : Office B) (one : Answered)
    → SoFar ledger books opened fed old → Feeds ledger old new one → SoFar ledger books opened (fed ++ one ∷ []) new
further ledger books opened fed old new one so feeds = record {
  stands = λ past stood clean.
      rw (history_push (Opened opened ∷ past) fed one)
      (feeds.stands (history_after (Opened opened ∷ past) fed) (so.stands past stood (feeds.ends.clean clean)) clean);
  answers = λ past stood clean.
      answers_push (Opened opened ∷ past) _ _ _ fed one (so.answers past stood (feeds.ends.clean clean))
      (let before = so.stands past stood (feeds.ends.clean clean) in
      let history = history_after (Opened opened ∷ past) fed in
      record {
        answer = feeds.answers history before clean;
        quiet = λ nothing. not_failing ledger history old new one feeds before nothing (is_stopped old) refl;
      });
  leaves = λ past stood clean.
      let before = so.stands past stood (feeds.ends.clean clean) in
      run_push (ledger books) (ledger (books_in old)) (ledger (books_in new)) past opened fed one
      (so.leaves past stood (feeds.ends.clean clean)) (feeds.leaves (history_after (Opened opened ∷ past) fed) before clean);
  reported = λ past stood clean.
      reported_push (Opened opened ∷ past) fed one new
      (feeds.reported (history_after (Opened opened ∷ past) fed) (so.stands past stood (feeds.ends.clean clean)) clean);
  stops = rw feeds.ends.stops (stops_push false (is_stopped old) fed one so.stops feeds.ends.stopped);
  no_day = no_day_push fed one so.no_day feeds.ends.no_day;
  counts = counts_push _ _ _ fed one so.counts feeds.ends.counts;
  clean = λ clean. so.clean (feeds.ends.clean clean);
  zone = feeds.ends.zone ∙ so.zone;
}

-- Suppose that the guarantees `SoFar` (for example, about the store's records) hold after the event
-- engine got the first `i` events of a list. If the list has at most `i` events, they hold after
-- the whole list.
pub all_fed : {B : Type 0} (ledger : B → Ledger) (books : B) (opened : ℕ) (events : Events) (i : ℕ) (results : Results) (office : Office B)
    → length events ≤ i → SoFar ledger books opened (in_turn (take i events) results) office
    → SoFar ledger books opened (in_turn events results) office
all_fed ledger books opened events i results office over so =
    subst (λ es. SoFar ledger books opened (in_turn es results) office) (take_all i events over) so
