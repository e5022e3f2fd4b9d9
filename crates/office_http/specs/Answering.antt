-- The answers that the office (the event engine) must give to queries and to the commands of HTTP
-- requests, if its store and memory do not fail.
use Rattle.std.specs.Prelude.{◌≡◌, ℕ, List, map, Option, Some, None, Result, Ok, Err}
use Rattle.std.specs.Option.{option_and_then}
use Rattle.interval_core.specs.Days.{account_of}
use Rattle.interval_core.specs.declared.totals.DayTotal.{DayTotal}
use Rattle.interval_core.specs.declared.zone.Zone.{Zone}
use Rattle.office_events.specs.declared.answers.Answer.{Answer}
use Rattle.office_events.specs.declared.answers.CommandKind.{CommandKind}
use Rattle.office_events.specs.declared.events.Asked.{Asked}
use Rattle.office_events.specs.declared.events.Event.TheVariants as event
use Rattle.office_events.specs.declared.facts.Fact.{Fact}
use Rattle.office_events.specs.declared.refusals.Refusal.{Refusal}
use Rattle.office_events.specs.declared.refusals.Refusal.TheVariants as refusal
use Rattle.office_events.specs.declared.refusals.StoreCause.TheVariants as store
use Rattle.office_books.specs.Facts.{register_of}
use Rattle.office_books.specs.History.{History, facts_of}
use Rattle.office_books.specs.Meters.{meter_of}
use Rattle.office_books.specs.Readings.{poll_row_of}
use Rattle.office_books.specs.Refusals.{decision_of}
use Rattle.office_core.specs.Asking.{AreDaysNamed, intervals_of, or_not_found}
use Rattle.office_http.specs.Messages.Kinds.{kind_answered}
use Rattle.office_http.specs.Messages.Offices.{Office}

-- The kind of an executed command. Without a kind, the result is the refusal `Damaged`
-- (inconsistent data), because only a store that returned wrong data leads to an answer without a
-- kind.
abbrev pub or_damaged : Option CommandKind → Result CommandKind Refusal
or_damaged None = Err (refusal.Store store.Damaged)
or_damaged (Some kind) = Ok kind

-- The kind of an executed command, or the reason for its refusal, from the program's answer.
abbrev pub reported : Result Answer Refusal → Result CommandKind Refusal
reported (Ok answer) = or_damaged (kind_answered answer)
reported (Err why) = Err why

-- True if the store has an accounting register (a named energy counter) with the given name. A
-- missing name matches no register.
abbrev pub IsRegister : List Fact → (name : Option (List ℕ)) → Type 0
IsRegister facts name = option_and_then (register_of facts) name ≡ None → ⊥

-- States the answer to a query for days: the daily energy of an accounting register (a named energy
-- counter), in the configured time zone. If the store has no such register, the query is refused.
pub record AnswersDays (zone : Zone) (facts : List Fact)
    (answer : Option (List ℕ) → Result (List DayTotal) Refusal) : Type 0 where
  pub known : (name : Option (List ℕ)) (days : List DayTotal) → IsRegister facts name
      → AreDaysNamed zone facts name (map account_of days) → answer name ≡ Ok days
  pub unknown : (name : Option (List ℕ)) → option_and_then (register_of facts) name ≡ None
      → answer name ≡ Err refusal.NotFound

-- States the program's answers at the time `at`. Answers to queries follow from the records of the
-- events accepted before (`past`). Answers to commands follow from the specification, which accepts
-- or refuses each command.
pub record AnswersAt (zone : Zone) (past : History) (at : ℕ) (office : Office) : Type 0 where
  pub meter : (name : Option (List ℕ))
      → office.meter name ≡ or_not_found (option_and_then (meter_of (facts_of past)) name)
  pub poll : (number : ℕ) → office.poll number ≡ or_not_found (poll_row_of (facts_of past) number)
  pub intervals : (name : Option (List ℕ))
      → office.intervals name ≡ or_not_found (intervals_of (facts_of past) name)
  pub days : AnswersDays zone (facts_of past) office.days
  pub asked : (asked : Asked) → office.asked asked ≡ reported (decision_of past at (event.Asked asked))
