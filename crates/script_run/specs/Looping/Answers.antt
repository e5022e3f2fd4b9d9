-- Defines what a script (a text of commands, events and queries) prints when a simulated device
-- responds to its Modbus requests.
use Rattle.std.specs.Prelude.{◌≡◌, ◌⊎◌, ◌≤◌, ◌++◌, ℕ, Bool, true, false, List, [], ◌∷◌, Option, Result, Ok, Err, codes, flat_map, is_ok, length}
use Rattle.office_events.specs.declared.answers.Answer.{Answer}
use Rattle.office_events.specs.declared.events.Event.{Event}
use Rattle.office_events.specs.declared.events.Event.TheVariants as event
use Rattle.office_events.specs.declared.refusals.Refusal.{Refusal}
use Rattle.office_books.specs.History.{History}
use Rattle.office_books.specs.Notes.{notes_after}
use Rattle.script_run.specs.declared.looping.answers.Came.{Came}
use Rattle.script_run.specs.declared.looping.answers.Came.TheVariants as came
use Rattle.script_run.specs.declared.looping.wires.TheConstants.{MOST_TAKES}
use Rattle.script_run.specs.Replaying.Events.{IsReply}
use Rattle.script_run.specs.Replaying.Stages.{Stage, after_reply}
use Rattle.script_text.specs.AnswerText.{note_line, refused_line}

-- The event for one read from a device's connection: the bytes that arrived, or the end of the
-- connection.
abbrev pub fed : (device : Option (List ℕ)) → Came → Event
fed device (came.Piece bytes) = event.Bytes device bytes
fed device (came.Over closing) = event.Gone device closing

-- The text that a script prints after the program has processed an event: the notifications of an
-- accepted event, or the line of a refusal.
abbrev pub fed_text : History → (at : ℕ) → Event → Result Answer Refusal → List ℕ
fed_text past at e (Ok given) = flat_map note_line (notes_after past at e (Ok given))
fed_text past at e (Err why) = refused_line why

-- States that the program accepted an event and the script printed its notifications, or the
-- program refused the event and the script printed the refusal.
pub record FedPrints (now : Stage) (at : ℕ) (e : Event) (accepted : Bool) (printed : List ℕ)
    (next : Stage)
    : Type 0 where
  pub reply : Result Answer Refusal
  pub is : IsReply now at e reply
  pub accepts : accepted ≡ is_ok reply
  pub text : printed ≡ fed_text now.past at e reply
  pub after : next ≡ after_reply now at e reply

-- States that the program accepted everything that arrived on a connection. The list of arrivals
-- has the latest arrival first.
abbrev pub FedAll : (device : Option (List ℕ)) → (at : ℕ) → Stage → List Came → (printed : List ℕ)
    → (next : Stage) → Type 0
FedAll device at now [] printed next = (printed ≡ []) × (next ≡ now)
FedAll device at now (latest ∷ earlier) printed next =
    (before here : List ℕ) × (mid : Stage) × FedAll device at now earlier before mid
    × FedPrints mid at (fed device latest) true here next × (printed ≡ before ++ here)

-- States how the output for a device's responses ends: with `ok`, or with the refusal of the first
-- event that the program refused.
abbrev pub FedEnds : (device : Option (List ℕ)) → (at : ℕ) → Stage → (printed : List ℕ)
    → (next : Stage) → Type 0
FedEnds device at now printed next =
    ((printed ≡ codes "ok\n") × (next ≡ now))
    ⊎ ((last : Came) × FedPrints now at (fed device last) false printed next)

-- The maximum number of reads from a device's connection after a script line that starts Modbus
-- reads.
abbrev pub most_takes : ℕ
most_takes = MOST_TAKES

-- States that everything that arrived on a device's connection was passed to the program, up to the
-- first refusal. The script printed the notifications, and at the end `ok` or the refusal.
pub record AnswersPrint (device : Option (List ℕ)) (at : ℕ) (now : Stage) (printed : List ℕ)
    (next : Stage)
    : Type 0 where
  pub brought : List Came
  pub before : List ℕ
  pub mid : Stage
  pub all : FedAll device at now brought before mid
  pub few : length brought ≤ most_takes
  pub ending : List ℕ
  pub ends : FedEnds device at mid ending next
  pub text : printed ≡ before ++ ending
