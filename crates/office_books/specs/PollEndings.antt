-- The endings of polls: by events of a session, which is a connection of a device, or by a restart
-- of the program.
use Rattle.std.specs.Prelude.{◌≡◌, ℕ, ◌+◌, ◌==◌, Bool, true, false, List, [], ◌∷◌, ◌++◌, map, length, Option, Some, None}
use Rattle.std.specs.Option.{option_and_then, option_to_list}
use Rattle.std.specs.List.{find, flat_map}
use Rattle.std.specs.List.Sorted.{IsPermutation}
use Rattle.poll_core.specs.Settling as session
use Rattle.poll_core.specs.declared.outcome.Outcome.{Outcome}
use Rattle.poll_core.specs.declared.outcome.Outcome.TheVariants.{Lost}
use Rattle.poll_core.specs.declared.outcome.LostCause.TheVariants.{Restart}
use Rattle.office_events.specs.declared.facts.Device.{Device}
use Rattle.office_events.specs.declared.facts.Poll.{Poll}
use Rattle.office_books.specs.Facts.{polls_in, ends_of, pending_in}
use Rattle.office_books.specs.Sessions.{Slot, EndedSession}
use Rattle.office_books.specs.History.{History, facts_of, slots_of, outcome_of}

-- The outcome of a poll. If the events of its Modbus session contain its result, the outcome is
-- that result. Otherwise the poll is lost if the program restarted, and pending (`None`) if not.
abbrev pub end_by : (restarted : Bool) → Option session.Settlement → Option Outcome
end_by restarted (Some settlement) = Some (outcome_of settlement)
end_by true None = Some (Lost Restart)
end_by false None = None

-- The polls that were started on a Modbus session, each with its outcome, or with `None` if the
-- poll is pending.
abbrev pub polls_on : Device → (restarted : Bool) → List session.Event → List (ℕ × Option Outcome)
polls_on device restarted events =
    map (λ result. (result.0.number, end_by restarted result.1))
    (session.results device.timeout [] events)

-- The polls of a device's present Modbus session, each with its outcome or `None`. Without a
-- session, the list is empty.
abbrev pub polls_on_present : Device → Option (List session.Event) → List (ℕ × Option Outcome)
polls_on_present device None = []
polls_on_present device (Some events) = polls_on device false events

-- The polls of a device's ended Modbus sessions, each with its outcome. The outcome is `None` only
-- if no event ended the poll and the program did not restart.
abbrev pub polls_on_ended : Device → List EndedSession → List (ℕ × Option Outcome)
polls_on_ended device sessions =
    flat_map (λ ended. polls_on device ended.restarted ended.events) sessions

-- All polls of a device, each with its outcome, or with `None` if the poll is pending.
abbrev pub polls_of_slot : Slot → List (ℕ × Option Outcome)
polls_of_slot slot =
    polls_on_present slot.device slot.present ++ polls_on_ended slot.device slot.ended

-- All polls of all devices, each with its outcome, or with `None` if the poll is pending.
abbrev pub polls_of_slots : List Slot → List (ℕ × Option Outcome)
polls_of_slots slots = flat_map polls_of_slot slots

-- The outcome of the poll with a given number, computed from the events of its Modbus session.
-- `None` if the poll is pending or unknown.
abbrev pub outcome_in : List Slot → ℕ → Option Outcome
outcome_in slots number =
    option_and_then (λ poll. poll.1) (find (λ poll. poll.0 == number) (polls_of_slots slots))

-- The numbers of the pending polls (without an outcome) in a device's present Modbus session.
-- Without a session, the list is empty.
abbrev pub waiting : Device → Option (List session.Event) → List ℕ
waiting device None = []
waiting device (Some events) = map (λ poll. poll.number) (session.pending device.timeout events)

-- The numbers of the polls that are pending (without an outcome) in the present Modbus session of a
-- device.
abbrev pub pending_on : Slot → List ℕ
pending_on slot = waiting slot.device slot.present

-- True if the polls of a list are numbered consecutively from 1. The list begins with the latest
-- poll.
abbrev pub AreNumbered : List Poll → Type 0
AreNumbered [] = Unit {0}
AreNumbered (poll ∷ polls) = (poll.number ≡ length polls + 1) × AreNumbered polls

-- True if each started poll is pending in its device's present Modbus session, or has the outcome
-- that follows from its session's events. The outcome is then recorded exactly once.
pub record PollsEndOnce (history : History) : Type 0 where
  pub numbered : AreNumbered (polls_in (facts_of history))
  pub started : IsPermutation (map (λ poll. poll.number) (polls_in (facts_of history)))
      (map (λ poll. poll.0) (polls_of_slots (slots_of history)))
  pub ended : (number : ℕ) → map (λ end. end.outcome) (ends_of (facts_of history) number)
      ≡ option_to_list (outcome_in (slots_of history) number)
  pub pending : IsPermutation (map (λ poll. poll.number) (pending_in (facts_of history)))
      (flat_map pending_on (slots_of history))
