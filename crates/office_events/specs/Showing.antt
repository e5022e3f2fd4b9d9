-- The report of an event that the program processed: its time, the event, its answer, its
-- notifications and the frames to send. An observer of the program gets the report.
use Rattle.std.specs.Prelude.{ℕ, List, Option, Result}
use Rattle.office_events.specs.declared.answers.Answer.{Answer}
use Rattle.office_events.specs.declared.answers.Note.{Note}
use Rattle.office_events.specs.declared.events.Event.{Event}
use Rattle.office_events.specs.declared.refusals.Refusal.{Refusal}

-- The report of an event: its time, the event, its answer, its notifications and the frames to
-- send. `place` is the index of the device whose polling round (all reads of the device) caused the
-- event, or `None`.
pub record Shown : Type 0 where
  pub place : Option ℕ
  pub at : ℕ
  pub event : Event
  pub answer : Result Answer Refusal
  pub notes : List Note
  pub frames : List ℕ

-- The report of an event, built from the device index, the time, the event, the answer, the
-- notifications and the frames.
abbrev pub shown : Option ℕ → ℕ → Event → Result Answer Refusal → List Note → List ℕ → Shown
shown place at event answer notes frames =
    record {
      place = place;
      at = at;
      event = event;
      answer = answer;
      notes = notes;
      frames = frames;
    }
