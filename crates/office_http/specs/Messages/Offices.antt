-- The program's answers to queries and commands, from which responses are built.
use Rattle.std.specs.Prelude.{ℕ, List, Option, Result}
use Rattle.interval_core.specs.declared.shares.Share.{Share}
use Rattle.interval_core.specs.declared.totals.DayTotal.{DayTotal}
use Rattle.office_events.specs.declared.answers.CommandKind.{CommandKind}
use Rattle.office_events.specs.declared.events.Asked.{Asked}
use Rattle.office_events.specs.declared.questions.Installation.{Installation}
use Rattle.office_events.specs.declared.questions.PollRow.{PollRow}
use Rattle.office_events.specs.declared.refusals.Refusal.{Refusal}

-- The program's answers at one time, to each query and to each command. The answer to an accepted
-- command is the command's kind, also for a duplicate request. A query about a meter gets the
-- meter's name, or None if the name in the request is invalid.
pub record Office : Type 0 where
  pub meter : Option (List ℕ) → Result Installation Refusal
  pub poll : (number : ℕ) → Result PollRow Refusal
  pub intervals : Option (List ℕ) → Result (List Share) Refusal
  pub days : Option (List ℕ) → Result (List DayTotal) Refusal
  pub asked : Asked → Result CommandKind Refusal
