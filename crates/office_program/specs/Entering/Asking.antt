-- The effect of one input line on an office (the engine that records meters' energy), the clock and
-- the writer of the output. The names `old`, `before` and `had` denote the state before the line.
use Rattle.std.specs.Prelude.{◌≡◌, ℕ, true, List, [], Option, Result, Ok, Err, IfOk}
use Rattle.std.specs.Io.KnownBytes.{Appends}
use Rattle.std.specs.declared.io.Error.{Error}
use Rattle.std.specs.declared.io.Write as writers
use Rattle.command_io.specs.Lines.{Line}
use Rattle.command_io.specs.declared.status.ExitStatus.{ExitStatus}
use Rattle.command_io.specs.declared.status.ExitStatus.TheVariants.{Refused, Failed}
use Rattle.mb_wire.specs.declared.sockets.clock.Clock as clocks
use Rattle.sun_points.specs.Writing.{GotPart, GotText}
use Rattle.script_text.specs.declared.line_fault.LineFault.{LineFault}
use Rattle.script_text.specs.declared.line_fault.LineFault.TheVariants.{Bad, Memory}
use Rattle.script_text.specs.AnswerText.{accepted_text, bad_line, refused_line}
use Rattle.office_events.specs.declared.answers.Answer.{Answer}
use Rattle.office_events.specs.declared.events.Asked.{Asked as Request}
use Rattle.office_events.specs.declared.events.Event.{Event}
use Rattle.office_events.specs.declared.refusals.Refusal.{Refusal}
use Rattle.office_books.specs.History.{History, facts_of}
use Rattle.office_books.specs.Refusals.{with_answer}
use Rattle.office_books.specs.Ledgers.{Ledger}
use Rattle.office_books.specs.declared.books.Books as stores
use Rattle.office_books.specs.declared.failures.Failures.{Failures}
use Rattle.office_core.specs.EventRun.{Answered}
use Rattle.office_core.specs.Standing.{After, Stands, notes_in, outgoing_in}
use Rattle.office_core.specs.Taking.{IsAnswer, failures_of}
use Rattle.office_core.specs.declared.office.Office.{Office}
use Rattle.office_program.specs.Between.{desk_of}
use Rattle.office_program.specs.Rounds.{RoundState, round_state}
use Rattle.office_program.specs.declared.entering.entries.Entry.{Entry}
use Rattle.office_program.specs.declared.entering.entries.Entry.TheVariants as entry
use Rattle.office_program.specs.declared.entering.progress.Progress.{Progress}
use Rattle.office_program.specs.Entering.Course.{Asked, Came, EntersLine, IsAskedAt, IsCameOf, IsShown, TakesLine, progress_after, reply_text}
use Rattle.office_program.specs.Entering.Lines.{Reporting}

-- The text that reports the event engine's answer to the last event: the notifications and the
-- answer, or the numeric code of the refusal.
abbrev pub reported_text : {B : Type 0} → Office B → Result Answer Refusal → List ℕ
reported_text office (Ok given) = accepted_text given (notes_in office) (outgoing_in office)
reported_text office (Err why) = refused_line why

-- True if the message for a bad input line was printed, or a part of the message if the write
-- failed. Also true if memory ran out and nothing was printed.
abbrev pub ReportsFault : LineFault → (number : ℕ) → ExitStatus → (old new : Option (List ℕ)) → Type 0
ReportsFault Bad number Refused old new = Appends old new (bad_line number)
ReportsFault Bad number Failed old new = GotPart (bad_line number) old new
ReportsFault Memory number Failed old new = Appends old new []
ReportsFault _ number _ old new = ⊥

-- True if the event was fed to the event engine at timestamp `at` and the answer was printed. If
-- the write failed, a part of the answer was printed.
pub record IsAsked {B : Type 0} (ledger : B → Ledger) (past : History) (at : ℕ) (e : Event)
    (progress : Progress) (before after : Failures) (had holds : Option (List ℕ))
    (office : Office B) (result : Result Progress Error) : Type 0 where
  pub one : Answered
  pub at_is : one.at ≡ at
  pub event_is : one.event ≡ e
  pub stands : Stands ledger (with_answer past one.at one.event one.result) office
  pub answer : IsAnswer past one.at one.event before after one.result
  pub text : GotText result (reply_text past one.at one.event one.result) had holds
  pub next : IfOk result (λ next. next ≡ progress_after progress (Asked one))

-- The contract of feeding one event and printing the answer. The definition `IsAsked` states the
-- result, whatever events the event engine accepted before.
abbrev pub AsksAt : {B W : Type 0} → stores.Ghosts B → writers.Ghosts W → (at : ℕ) → Event
    → Progress → (old new : Office B) → (had holds : W) → Result Progress Error → Type 0
AsksAt b w at e progress old new had holds result = After b.ledger old new (λ past.
    IsAsked b.ledger past at e progress (failures_of b.ledger old) (failures_of b.ledger new)
    (w.contents had) (w.contents holds) new result)

-- True if the reason why an input line makes no request was printed, or a part of the reason if the
-- write failed.
pub record ReportsWhyNot (line : List ℕ) (at : ℕ) (had holds : Option (List ℕ))
    (result : Result Progress Error) : Type 0 where
  pub text : GotText result line had holds
  pub next : IfOk result (λ next. next ≡ record { latest = at; refused = true })

-- True if the input line was processed and its outcome was printed, whether or not the line made a
-- request. If the write failed, a part of the outcome was printed.
pub record HasCome {B : Type 0} (ledger : B → Ledger) (reports : Reporting) (entry : Entry)
    (past : History) (progress : Progress) (begun now : RoundState) (office : Office B)
    (result : Result Progress Error) : Type 0 where
  pub came : Came
  pub comes : IsCameOf entry came
  pub shown : IsShown reports (facts_of past) entry came
  pub takes : TakesLine {E = Error} ledger past progress begun now office result came

-- The contract of processing one parsed input line with the timestamp `at`. The definition
-- `HasCome` states the result, whatever events the event engine accepted before and whatever time
-- the clock returns.
abbrev pub EntersAt : {B W : Type 0} → stores.Ghosts B → writers.Ghosts W → Reporting → Entry
    → Progress → (at : ℕ) → (old new : Office B) → (had holds : W) → Result Progress Error → Type 0
EntersAt b w reports entry progress at old new had holds result = (moments later : Option (List ℕ))
    → IsAskedAt progress.latest moments later at → After b.ledger old new (λ past.
    HasCome b.ledger reports entry past progress
    (round_state (w.contents had) moments (failures_of b.ledger old))
    (round_state (w.contents holds) later (failures_of b.ledger new)) new result)

-- True if the request was fed to the event engine and the answer was printed. Also true if the
-- reason why the request was not fed was printed.
pub record HasAsked {B : Type 0} (ledger : B → Ledger) (request : Request) (past : History)
    (progress : Progress) (begun now : RoundState) (office : Office B)
    (result : Result Progress Error) : Type 0 where
  pub came : Came
  pub comes : IsCameOf (entry.Ask request) came
  pub takes : TakesLine {E = Error} ledger past progress begun now office result came

-- The contract of feeding the request of an input line with the timestamp `at`. The definition
-- `HasAsked` states the result, whatever events the event engine accepted before and whatever time
-- the clock returns.
abbrev pub AsksTimed : {B W : Type 0} → stores.Ghosts B → writers.Ghosts W → Request → Progress
    → (at : ℕ) → (old new : Office B) → (had holds : W) → Result Progress Error → Type 0
AsksTimed b w request progress at old new had holds result = (moments later : Option (List ℕ))
    → IsAskedAt progress.latest moments later at → After b.ledger old new (λ past.
    HasAsked b.ledger request past progress
    (round_state (w.contents had) moments (failures_of b.ledger old))
    (round_state (w.contents holds) later (failures_of b.ledger new)) new result)

module _ {B C W : Type 0} (b : stores.Ghosts B) (c : clocks.Ghosts C) (w : writers.Ghosts W) where
  -- True if the input line with the parsed form `entry` was processed and its outcome was printed,
  -- whether or not the line made a request.
  abbrev pub EntersEntry : Reporting → Entry → Progress → (old new : Office B) → (before after : C)
      → (had holds : W) → Result Progress Error → Type 0
  EntersEntry reports entry progress old new before after had holds result = After b.ledger old new
      (λ past. HasCome b.ledger reports entry past progress
      (desk_of b c w old before had) (desk_of b c w new after holds) new result)

  -- True if the next line of the input (a text of request lines) was processed, or the line is bad,
  -- its message was printed, and the command ends.
  abbrev pub EntersNext : Reporting → (caller : Option (List ℕ)) → Line → Progress
      → (old new : Office B) → (before after : C) → (had holds : W) → Result Progress ExitStatus
      → Type 0
  EntersNext reports caller line progress old new before after had holds result =
      After b.ledger old new (λ past. EntersLine b.ledger reports caller line past progress
      (desk_of b c w old before had) (desk_of b c w new after holds) old new result)
