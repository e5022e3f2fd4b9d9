-- Defines the output of each event in a script (a text of commands, events and queries).
use Rattle.std.specs.Prelude.{◌≡◌, ◌≢◌, ◌⊎◌, ℕ, false, List, [], ◌++◌, flat_map, Result, Ok, Err}
use Rattle.mb_wire.specs.Spans.{IsSpan, code_of}
use Rattle.mb_wire.specs.declared.span.ReadSpan.{ReadSpan}
use Rattle.read_plan.specs.PlannedLists.{IsPlanned, Planned}
use Rattle.point_list.specs.Lists.{SpellsList, list_faults, rows_read}
use Rattle.point_list.specs.declared.fault.FaultyRow.{FaultyRow}
use Rattle.office_events.specs.declared.answers.Answer.{Answer}
use Rattle.office_events.specs.declared.commands.Command.TheVariants.{StartPoll, PutList}
use Rattle.office_events.specs.declared.events.Event.{Event}
use Rattle.office_events.specs.declared.events.Event.TheVariants.{Command}
use Rattle.office_events.specs.declared.refusals.Refusal.{Refusal}
use Rattle.office_events.specs.declared.refusals.Refusal.TheVariants as refusal
use Rattle.office_books.specs.History.{History}
use Rattle.office_books.specs.Notes.{notes_after, outgoing_after}
use Rattle.office_books.specs.Refusals.{decision_of}
use Rattle.office_core.specs.Failing.{is_failure}
use Rattle.office_core.specs.Taking.{SettlesNothing}
use Rattle.script_text.specs.declared.script.GivenList.{GivenList}
use Rattle.script_text.specs.declared.script.GivenStart.{GivenStart}
use Rattle.script_run.specs.Replaying.Stages.{Stage, Fails, ReportsStop, after_reply}
use Rattle.script_text.specs.AnswerText.{accepted_text, fault_line, refused_line}

-- States the possible replies of the program to an event: the reply that the function `decision_of`
-- computes from the accepted events, or a failure. If no earlier failure has stopped the program
-- and the event ends no poll, then the reply is not a failure.
pub record IsReply (now : Stage) (at : ℕ) (e : Event) (reply : Result Answer Refusal) : Type 0 where
  pub answer : (reply ≡ decision_of now.past at e) ⊎ Fails reply
  pub stops : ReportsStop now reply
  pub quiet : now.stopped ≡ false → SettlesNothing now.past at e → is_failure reply ≡ false

-- The text that a script prints after the program has processed an event: the notifications and the
-- answer of an accepted event, or the line of a refusal.
abbrev pub reply_text : History → (at : ℕ) → Event → Result Answer Refusal → List ℕ
reply_text past at e (Ok given) =
    accepted_text given (notes_after past at e (Ok given)) (outgoing_after past at e (Ok given))
reply_text past at e (Err why) = refused_line why

-- States that a line with an event prints the reply of the program, and that the script continues
-- in the state after the reply.
pub record EventPrints (now : Stage) (at : ℕ) (e : Event) (printed : List ℕ) (next : Stage)
    : Type 0 where
  pub reply : Result Answer Refusal
  pub is : IsReply now at e reply
  pub text : printed ≡ reply_text now.past at e reply
  pub after : next ≡ after_reply now at e reply

-- States that the numbers of a script line (function code, address and count) describe the given
-- range of Modbus registers.
pub record IsSpanOf (start : GivenStart) (span : ReadSpan) : Type 0 where
  pub function : code_of span.function ≡ start.function
  pub address : span.address ≡ start.address
  pub count : span.count ≡ start.count

-- The event that starts the Modbus read of a script line.
abbrev pub start_event : GivenStart → ReadSpan → Event
start_event start span = Command (StartPoll (record { device = start.device; span = span }))

-- States that a script line that starts a Modbus read prints a refusal and changes nothing.
pub record IsRefused (now : Stage) (printed : List ℕ) (next : Stage) : Type 0 where
  pub text : printed ≡ refused_line refusal.Limit
  pub same : next ≡ now

-- States the output of a script line that starts a Modbus read: the reply to the start. If one read
-- request cannot cover the Modbus registers, the output is a refusal.
abbrev pub StartPrints : Stage → (at : ℕ) → GivenStart → (printed : List ℕ) → (next : Stage)
    → Type 0
StartPrints now at start printed next =
    ((span : ReadSpan) × IsSpanOf start span
    × EventPrints now at (start_event start span) printed next)
    ⊎ ((IsSpan start.function start.address start.count → ⊥) × IsRefused now printed next)

-- The faulty rows of a point list's CSV text.
abbrev pub faults_of : List ℕ → List FaultyRow
faults_of text = list_faults (rows_read text)

-- The command that stores the point list of a script line for the line's device.
abbrev pub list_event : GivenList → Planned → Event
list_event list planned = Command (PutList (record { device = list.device; list = planned }))

-- States that a CSV text encodes the given point list, and that the list has a read plan with the
-- fewest reads that cover all points.
pub record IsListOf (text : List ℕ) (list : Planned) : Type 0 where
  pub points : SpellsList text list.points
  pub planned : IsPlanned list

-- States the output of a script line with a faulty point list: each faulty row, and a refusal. The
-- point list is not stored.
pub record FaultsPrint (now : Stage) (text printed : List ℕ) (next : Stage) : Type 0 where
  pub some : faults_of text ≢ []
  pub lines : printed ≡ flat_map fault_line (faults_of text) ++ refused_line refusal.Limit
  pub same : next ≡ now

-- States the output of a script line that stores a point list of a device. A faulty list prints one
-- line for each faulty row.
abbrev pub ListPrints : Stage → (at : ℕ) → GivenList → (printed : List ℕ) → (next : Stage) → Type 0
ListPrints now at list printed next =
    ((planned : Planned) × IsListOf list.text planned
    × EventPrints now at (list_event list planned) printed next)
    ⊎ FaultsPrint now list.text printed next
