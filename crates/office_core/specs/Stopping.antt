-- The records that the store has after a list of events and a crash: the records of all
-- acknowledged events, and possibly the complete records of one failed event.
use Rattle.std.specs.Prelude.{◌≡◌, ◌⊎◌, ℕ, true, List, [], ◌∷◌, All, Contains}
use Rattle.office_events.specs.declared.facts.Fact.{Fact}
use Rattle.office_books.specs.History.{History, Opened, Fed, facts_of}
use Rattle.office_books.specs.Refusals.{with_answer}
use Rattle.office_books.specs.Lawfulness.{IsPast}
use Rattle.office_core.specs.Failing.{is_failure}
use Rattle.office_core.specs.EventRun.{Answered, LeftByRun, LeftInTurn, history_after}

-- True if four conditions hold. The event failed (refusal 13, store failed, or 14, out of memory).
-- No rule refuses the event. No later event added a record. The records `facts` are those of the
-- earlier events, and those that this event would have added without the failure.
pub record IsWithFailed (past : History) (fed : Answered) (later : List Answered)
    (facts : List Fact) : Type 0 where
  pub failed : is_failure fed.result ≡ true
  pub is_past : IsPast (Fed fed.at fed.event ∷ past)
  pub none_later : facts_of (history_after past (fed ∷ later)) ≡ facts_of past
  pub are : facts ≡ facts_of (Fed fed.at fed.event ∷ past)

-- True if an event failed after it added records, these records are in the list `facts`, and no
-- later event added a record.
abbrev pub AreWithFailed : History → List Answered → List Fact → Type 0
AreWithFailed past [] facts = ⊥
AreWithFailed past (fed ∷ later) facts =
    IsWithFailed past fed later facts
    ⊎ AreWithFailed (with_answer past fed.at fed.event fed.result) later facts

-- True if the records that a crash leaves are those of all acknowledged events, possibly with those
-- of one failed event.
abbrev pub AreOfEvents : History → List Answered → List Fact → Type 0
AreOfEvents past fed facts =
    (facts ≡ facts_of (history_after past fed)) ⊎ AreWithFailed past fed facts

-- True if the events between two histories added no record, and the store could have the records
-- `facts` after a crash before these events.
abbrev pub AreOfBefore : (past later : History) → (before : List (List Fact)) → List Fact → Type 0
AreOfBefore past later before facts = (facts_of later ≡ facts_of past) × Contains before facts

-- Theorem: a crash after a list of events leaves the records of all acknowledged events, possibly
-- with those of one failed event. If no event added a record, a crash may leave the same records as
-- before the events.
abbrev pub EventsAreLeftWhole : Type 0
EventsAreLeftWhole =
    (past : History) (fed : List Answered) (before after : List (List Fact))
    → LeftInTurn past fed before after
    → All (λ facts. AreOfEvents past fed facts
    ⊎ AreOfBefore past (history_after past fed) before facts) after

-- Theorem: after the store was opened and a sequence of events was processed, a crash leaves the
-- records of all acknowledged events. The records of one failed event may also be left.
abbrev pub RunsAreLeftWhole : Type 0
RunsAreLeftWhole =
    (past : History) (opened : ℕ) (fed : List Answered) (before after : List (List Fact))
    → LeftByRun past opened fed before after
    → let begun = Opened opened ∷ past in
    All (λ facts. AreOfEvents begun fed facts
    ⊎ AreOfBefore past (history_after begun fed) before facts) after
