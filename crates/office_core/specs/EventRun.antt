-- A run of the event engine over a list of events: the state after the run, the answer to each
-- event, and the store's records at the end.
use Rattle.std.specs.Prelude.{◌≡◌, ◌⊎◌, ◌↔◌, ◌||◌, ℕ, Bool, true, false}
use Rattle.std.specs.Prelude.{List, [], ◌∷◌, length, Result, Err, IfOk, IfErr, All}
use Rattle.office_events.specs.declared.answers.Answer.{Answer}
use Rattle.office_events.specs.declared.events.Event.{Event}
use Rattle.office_events.specs.declared.refusals.Refusal.{Refusal}
use Rattle.office_events.specs.declared.refusals.Refusal.TheVariants as refusal
use Rattle.office_events.specs.declared.facts.Fact.{Fact}
use Rattle.office_books.specs.History.{History, Opened, facts_of}
use Rattle.office_books.specs.Refusals.{with_answer}
use Rattle.office_books.specs.Lawfulness.{IsPast, AreTrue}
use Rattle.office_books.specs.declared.failures.Failures.{Failures}
use Rattle.office_books.specs.Ledgers.{Ledger}
use Rattle.office_core.specs.declared.office.Office.{Office}
use Rattle.office_core.specs.declared.results.Run.{Run}
use Rattle.office_core.specs.Failing.{Counts, IsNotForWantOfDay, is_failure, stops}
use Rattle.office_core.specs.Headline.{HeadlineHolds}
use Rattle.office_core.specs.Reopening.{HandsBackUnopened}
use Rattle.office_core.specs.Leaving.{BooksStand, Leaves, LeftByEvent, LeftOnceDone}
use Rattle.office_core.specs.Standing.{Stands, books_in, notes_in, outgoing_in, is_stopped}
use Rattle.office_core.specs.Taking.{IsAnswer, IsReported, SettlesNothing}

-- An event of a run, with its timestamp and the answer to the event.
pub record Answered : Type 0 where
  pub at : ℕ
  pub event : Event
  pub result : Result Answer Refusal

-- The events of a list, each paired with the answer to the event, in order.
abbrev pub in_turn : List (ℕ × Event) → List (Result Answer Refusal) → List Answered
in_turn [] results = []
in_turn (fed ∷ events) [] = []
in_turn (fed ∷ events) (result ∷ results) =
    record { at = fed.0; event = fed.1; result = result } ∷ in_turn events results

-- The events of a run, each paired with the answer of the run to the event, in order.
abbrev pub events_of : {B : Type 0} → List (ℕ × Event) → Run B → List Answered
events_of events run = in_turn events run.results.items

-- A history of accepted events, extended by those of the answered events that were accepted.
abbrev pub history_after : History → List Answered → History
history_after past [] = past
history_after past (fed ∷ later) =
    history_after (with_answer past fed.at fed.event fed.result) later

-- The history after a run of events: the given history, the opening of the store (program start),
-- and the run's accepted events.
abbrev pub accepted_by : {B : Type 0} → History → (opened : ℕ) → List (ℕ × Event) → Run B → History
accepted_by past opened events run = history_after (Opened opened ∷ past) (events_of events run)

-- True if the answer to the event is what the accepted events require, or reports that the store or
-- memory failed. A device event that ends no poll never fails.
pub record IsAnswered (past : History) (before after : Failures) (fed : Answered) : Type 0 where
  pub answer : IsAnswer past fed.at fed.event before after fed.result
  pub quiet : SettlesNothing past fed.at fed.event → is_failure fed.result ≡ false

-- True if each event has the answer that the accepted events before it require, or an answer that
-- reports a failure.
abbrev pub AreAnswered : History → (before after : Failures) → List Answered → Type 0
AreAnswered past before after [] = after ≡ before
AreAnswered past before after (fed ∷ later) =
    (between : Failures) × IsAnswered past before between fed
    × AreAnswered (with_answer past fed.at fed.event fed.result) between after later

-- True if the program has the notifications and bytes to send of the last event, or none if no
-- event was processed.
abbrev pub ReportsOfLast : {B : Type 0} → History → List Answered → Office B → Type 0
ReportsOfLast past [] office = (notes_in office ≡ []) × (outgoing_in office ≡ [])
ReportsOfLast past (fed ∷ []) office = IsReported past fed.at fed.event fed.result office
ReportsOfLast past (fed ∷ next ∷ later) office =
    ReportsOfLast (with_answer past fed.at fed.event fed.result) (next ∷ later) office

-- True if exactly the events after the program had stopped were refused with `Stopped`. The program
-- stops (refuses all later events) if an event that may end polls fails.
abbrev pub StopsInTurn : (before after : Bool) → List Answered → Type 0
StopsInTurn before after [] = after ≡ before
StopsInTurn before after (fed ∷ later) =
    ((fed.result ≡ Err refusal.Stopped) ↔ (before ≡ true))
    × StopsInTurn (before || stops fed.event fed.result) after later

-- True if the failure counter changes with each answer of the program as the answer requires: each
-- failure of the store is counted once.
abbrev pub CountInTurn : (before after : Failures) → List Answered → Type 0
CountInTurn before after [] = after ≡ before
CountInTurn before after (fed ∷ later) =
    (between : Failures) × Counts before between fed.result × CountInTurn between after later

-- True if the answered events, one after another, change `before` to `after` as `LeftByEvent`
-- requires for each answer. `before` and `after` are the lists of records that a crash could leave
-- in the store.
abbrev pub LeftInTurn : History → List Answered → (before after : List (List Fact)) → Type 0
LeftInTurn past [] before after = after ≡ before
LeftInTurn past (fed ∷ later) before after =
    (between : List (List Fact)) × LeftByEvent past fed.at fed.event fed.result before between
    × LeftInTurn (with_answer past fed.at fed.event fed.result) later between after

-- States how a run of events changes the lists of records that a crash may leave. The opening of
-- the store changes these lists as an accepted opening does, and each event as its answer requires.
abbrev pub LeftByRun : History → (opened : ℕ) → List Answered → (before after : List (List Fact))
    → Type 0
LeftByRun past opened fed before after =
    (between : List (List Fact)) × LeftOnceDone past (Opened opened) before between
    × LeftInTurn (Opened opened ∷ past) fed between after

-- States that a property holds for a successful run of events and for every history whose records
-- the store had before the run. It states nothing if a wrong result of the store was not detected.
abbrev pub Ran : {B : Type 0} → (B → Ledger) → (books : B)
    → Result (Run B) (B × Refusal) → (History → Run B → Type 0) → Type 0
Ran ledger books result says = (past : History) → BooksStand (ledger books) past
    → IfOk result (λ run. (ledger (books_in run.office)).is_clean → says past run)

-- True if the program's state after a run of events results from all accepted events. The program
-- also reports the notifications and bytes to send of the last event.
pub record StandsAfter {B : Type 0} (ledger : B → Ledger)
    (begun : History) (events : List (ℕ × Event)) (run : Run B) : Type 0 where
  pub office : Stands ledger (history_after begun (events_of events run)) run.office
  pub reported : ReportsOfLast begun (events_of events run) run.office

-- True if a run of events that could not start returns the store with the reason. Either memory for
-- the answers ran out and the store is unchanged, or the opening of the store was refused or
-- failed.
abbrev pub HandsBack : {B : Type 0} → (B → Ledger) → (books : B) → (opened : ℕ) → History
    → B × Refusal → Type 0
HandsBack ledger books opened past back =
    ((back.1 ≡ refusal.Memory) × (back.0 ≡ books))
    ⊎ HandsBackUnopened ledger books opened past back

-- True if the records that may remain after a run and a crash follow from the records before the
-- run and from the answers of the run.
abbrev pub LeavesInTurn : {B : Type 0} → (B → Ledger) → (books : B) → (opened : ℕ)
    → List (ℕ × Event) → History → Run B → Type 0
LeavesInTurn ledger books opened events past run =
    Leaves (ledger books) (ledger (books_in run.office))
    (LeftByRun past opened (events_of events run))

-- True if each event of a run has the answer that the accepted events before it require, and each
-- answer changes the failure counter as the answer requires.
abbrev pub AnswersEach : {B : Type 0} → (B → Ledger) → (books : B)
    → History → List (ℕ × Event) → Run B → Type 0
AnswersEach ledger books begun events run =
    AreAnswered begun (ledger books).failures
    (ledger (books_in run.office)).failures (events_of events run)

-- True if the store has the records of the history, and each meter's recorded energy is its last
-- reading less its first, corrected for rollovers, resets and rescales. Voided (cancelled) entries
-- have no effect. If a meter's readings show its true counts, and its counter can't make a full
-- turn between two readings, its recorded energy in each quarter hour is the true energy.
pub record BooksRecord (books : Ledger) (history : History) : Type 0 where
  pub accepted : IsPast history
  pub holds : books.holds (facts_of history)
  pub headline : HeadlineHolds history
  pub laws : AreTrue history

-- True if after a run of events the store has the records of all accepted events. Each meter's
-- recorded energy is then its last reading less its first, corrected for rollovers, resets and
-- rescales.
abbrev pub RecordsAccepted : {B : Type 0} → (B → Ledger) → (opened : ℕ) → List (ℕ × Event)
    → History → Run B → Type 0
RecordsAccepted ledger opened events past run =
    BooksRecord (ledger (books_in run.office)) (accepted_by past opened events run)

-- States that, after a sequence of events was processed, the store has the records of all accepted
-- events. The statement applies if every wrong result of the store was detected.
abbrev pub RecordsIfClean : {B : Type 0} → (B → Ledger) → (opened : ℕ) → List (ℕ × Event)
    → History → Run B → Type 0
RecordsIfClean ledger opened events past run =
    (ledger (books_in run.office)).is_clean → RecordsAccepted ledger opened events past run

-- True if a store that is clean (every wrong result was detected) after a run of events was also
-- clean before the run.
abbrev pub IsCleanOnlyIfWas : {B : Type 0} → (B → Ledger) → (books : B) → Run B → Type 0
IsCleanOnlyIfWas ledger books run =
    (ledger (books_in run.office)).is_clean → (ledger books).is_clean

-- The guarantees of every run of events, whatever the store returned. Each event has one answer,
-- and no event is refused because a quarter hour has no civil day. The answers determine whether
-- the program refuses all later events, and the failure counter.
--
-- If the store is clean (every wrong result was detected) after the run of events, it was clean
-- before the run. The run does not change the store's time zone.
pub record EndsInTurn {B : Type 0} (ledger : B → Ledger)
    (books : B) (events : List (ℕ × Event)) (run : Run B) : Type 0 where
  pub each : length run.results.items ≡ length events
  pub no_day : All (λ fed. IfErr fed.result IsNotForWantOfDay) (events_of events run)
  pub stops : StopsInTurn false (is_stopped run.office) (events_of events run)
  pub counts : CountInTurn (ledger books).failures
      (ledger (books_in run.office)).failures (events_of events run)
  pub clean : (ledger (books_in run.office)).is_clean → (ledger books).is_clean
  pub zone : (ledger (books_in run.office)).zone ≡ (ledger books).zone
