-- Defines the state of a script's run between two lines, and the failures that are possible with a
-- store in memory.
use Rattle.std.specs.Prelude.{◌≡◌, ℕ, Bool, true, false, ◌||◌, ◌↔◌, ◌⊎◌, [], ◌∷◌, Result, Ok, Err}
use Rattle.interval_core.specs.declared.zone.Zone.{Zone}
use Rattle.office_events.specs.declared.answers.Answer.{Answer}
use Rattle.office_events.specs.declared.events.Event.{Event}
use Rattle.office_events.specs.declared.refusals.Refusal.{Refusal}
use Rattle.office_events.specs.declared.refusals.Refusal.TheVariants as refusal
use Rattle.office_books.specs.History.{History, Opened}
use Rattle.office_books.specs.Refusals.{with_answer}
use Rattle.office_core.specs.Failing.{stops}

-- The state of a script's run: the accepted events, whether a failure has stopped the program, and
-- the time zone for the script's days.
pub record Stage : Type 0 where
  pub past : History
  pub stopped : Bool
  pub zone : Zone

-- The state in which a script (a text of commands, events and queries) begins: no accepted event,
-- at timestamp 0, over an empty store.
abbrev pub beginning : Zone → Stage
beginning zone = record { past = Opened 0 ∷ []; stopped = false; zone = zone }

-- States that a call failed because memory ran out, or because an earlier failure had stopped the
-- program. With a store in memory, no other failure is possible.
abbrev pub Fails : {T : Type 0} → Result T Refusal → Type 0
Fails (Err refusal.Memory) = Unit {0}
Fails (Err refusal.Stopped) = Unit {0}
Fails _ = ⊥

-- States that the program's reply to an event of a script is the refusal `Stopped` if and only if
-- an earlier failure stopped the program.
abbrev pub ReportsStop : {T : Type 0} → Stage → Result T Refusal → Type 0
ReportsStop now reply = (reply ≡ Err refusal.Stopped) ↔ (now.stopped ≡ true)

-- The state of a script's run after the program replied to an event.
abbrev pub after_reply : Stage → (at : ℕ) → Event → Result Answer Refusal → Stage
after_reply now at e reply =
    record {
      past = with_answer now.past at e reply;
      stopped = now.stopped || stops e reply;
      zone = now.zone;
    }
