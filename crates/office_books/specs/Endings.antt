-- The two possible states of a started poll: the poll ended exactly once, or it is pending (without
-- an outcome).
use Rattle.std.specs.Prelude.{◌≡◌, ◌⊎◌, ℕ, [], ◌∷◌, map, Some, None, All, Contains}
use Rattle.std.specs.List.{flat_map}
use Rattle.poll_core.specs.declared.outcome.Outcome.{Outcome}
use Rattle.office_events.specs.declared.facts.Poll.{Poll}
use Rattle.office_books.specs.Facts.{polls_in, ends_of}
use Rattle.office_books.specs.History.{History, facts_of, slots_of}
use Rattle.office_books.specs.PollEndings.{outcome_in, pending_on}

-- True if exactly one outcome of the poll is recorded, and this outcome follows from the events of
-- the poll's Modbus session.
pub record HasEnded (history : History) (number : ℕ) (outcome : Outcome) : Type 0 where
  pub recorded : map (λ ended. ended.outcome) (ends_of (facts_of history) number) ≡ outcome ∷ []
  pub given : outcome_in (slots_of history) number ≡ Some outcome

-- True if the poll is pending in the present Modbus session of a device. No outcome of the poll is
-- recorded, and no outcome follows from the events of its session.
pub record IsPending (history : History) (number : ℕ) : Type 0 where
  pub recorded : ends_of (facts_of history) number ≡ []
  pub given : outcome_in (slots_of history) number ≡ None
  pub waits : Contains (flat_map pending_on (slots_of history)) number

-- True if a poll ended exactly once, or is pending (without an outcome).
abbrev pub EndsOnce : History → Poll → Type 0
EndsOnce history poll =
    ((outcome : Outcome) × HasEnded history poll.number outcome) ⊎ IsPending history poll.number

-- True if each started poll ended exactly once, or is pending (without an outcome).
abbrev pub EachEndsOnce : History → Type 0
EachEndsOnce history = All (EndsOnce history) (polls_in (facts_of history))
