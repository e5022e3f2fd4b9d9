-- The result of entering an input (a text of request lines): its lines are processed in order, up
-- to the first bad line. Each line makes a request to the office (the event engine).
use Rattle.std.specs.Prelude.{◌≡◌, ◌⊎◌, ℕ, List, [], ◌∷◌, ◌++◌, Option, if◌then◌else◌}
use Rattle.std.specs.Io.KnownBytes.{Appends}
use Rattle.std.specs.declared.io.Write as writers
use Rattle.command_io.specs.Lines.{Line, speaking_lines}
use Rattle.command_io.specs.declared.status.ExitStatus.{ExitStatus}
use Rattle.command_io.specs.declared.status.ExitStatus.TheVariants.{Fine, Refused, Failed}
use Rattle.mb_wire.specs.declared.sockets.clock.Clock as clocks
use Rattle.sun_points.specs.Writing.{GotPart}
use Rattle.script_text.specs.AnswerText.{bad_line}
use Rattle.office_events.specs.Names.{named}
use Rattle.office_books.specs.History.{History, latest_of}
use Rattle.office_books.specs.Ledgers.{Ledger}
use Rattle.office_books.specs.declared.books.Books as stores
use Rattle.office_core.specs.Standing.{After}
use Rattle.office_core.specs.Taking.{failures_of}
use Rattle.office_core.specs.declared.office.Office.{Office}
use Rattle.office_program.specs.Between.{desk_of}
use Rattle.office_program.specs.Rounds.{RoundState, round_state}
use Rattle.office_program.specs.Texts.OpenedOffice.{ReportsUnopened}
use Rattle.office_program.specs.Opened.{OverStanding, WithOffice}
use Rattle.office_program.specs.declared.entering.progress.Progress.{Progress}
use Rattle.office_program.specs.Entering.Course.{AreTaken, Taken, lines_with, progress_of, text_after}
use Rattle.office_program.specs.Entering.Lines.{IsBad, Reporting}

-- The exit status if no line of an input (a text of request lines) is bad. If a line was refused or
-- made no request, the status is `Refused`, otherwise `Fine`.
abbrev pub status_of : Progress → ExitStatus
status_of progress = if progress.refused then Refused else Fine

-- True if a bad line followed the processed lines, and the lines after the bad line were not
-- processed.
pub record IsStopped (reports : Reporting) (lines : List Line) (taken : List Taken) : Type 0 where
  pub line : Line
  pub rest : List Line
  pub follow : lines ≡ lines_with taken (line ∷ rest)
  pub bad : IsBad reports line.text

-- The text that is printed if a bad line ends the command that enters an input: the text of the
-- processed lines, followed by the message for the bad line.
abbrev pub stopped_text : {reports : Reporting} {lines : List Line} {taken : List Taken} → History
    → IsStopped reports lines taken → List ℕ
stopped_text {taken = taken} past stopped = text_after past taken ++ bad_line stopped.line.number

-- True if the command that enters an input ended after the last line. The text of all lines was
-- printed, and the exit status follows from their outcomes.
pub record IsWhole (lines : List Line) (past : History) (first : ℕ) (taken : List Taken)
    (status : ExitStatus) (had holds : Option (List ℕ)) : Type 0 where
  pub follow : lines ≡ lines_with taken []
  pub printed : Appends had holds (text_after past taken)
  pub means : status ≡ status_of (progress_of first taken)

-- True if the command that enters the lines of an input text ended at a bad line. The text up to
-- the message for the bad line was printed, and the exit status is `Refused`.
pub record IsStoppedReported (reports : Reporting) (lines : List Line) (past : History) (taken : List Taken)
    (status : ExitStatus) (had holds : Option (List ℕ)) : Type 0 where
  pub stopped : IsStopped reports lines taken
  pub printed : Appends had holds (stopped_text past stopped)
  pub means : status ≡ Refused

-- True if a failed write or lack of memory ended the command that enters an input, with the exit
-- status `Failed`.
--
-- If a failure ended the command that enters an input, a part of the processed lines' text was
-- printed, or all of it and a part of the last message.
pub record IsBrokenOff (reports : Reporting) (lines : List Line) (past : History) (taken : List Taken)
    (status : ExitStatus) (had holds : Option (List ℕ)) : Type 0 where
  pub rest : List Line
  pub follow : lines ≡ lines_with taken rest
  pub printed : GotPart (text_after past taken) had holds
      ⊎ ((stopped : IsStopped reports lines taken) × GotPart (stopped_text past stopped) had holds)
  pub means : status ≡ Failed

-- True if entering an input (a text of request lines) ended in one of three ways: after the last
-- line, at a bad line, or by a failure.
abbrev pub IsEnd : Reporting → List Line → History → (first : ℕ) → List Taken → ExitStatus
    → (had holds : Option (List ℕ)) → Type 0
IsEnd reports lines past first taken status had holds =
    IsWhole lines past first taken status had holds
    ⊎ IsStoppedReported reports lines past taken status had holds
    ⊎ IsBrokenOff reports lines past taken status had holds

-- The state after the input lines were processed by an event engine that had accepted the events
-- `past`. `first` is the earliest possible timestamp of a line.
pub record EntersLines {B : Type 0} (ledger : B → Ledger) (reports : Reporting)
    (caller : Option (List ℕ)) (lines : List Line) (first : ℕ) (begun now : RoundState)
    (office : Office B) (status : ExitStatus) (past : History) : Type 0 where
  pub taken : List Taken
  pub are : AreTaken ledger reports caller past first begun now office taken
  pub ends : IsEnd reports lines past first taken status begun.printed now.printed

-- The contract of entering an input (a text of request lines). The definition `EntersLines` states
-- the result, whatever events the event engine accepted before.
abbrev pub EntersTextOf : {B C W : Type 0} → stores.Ghosts B → clocks.Ghosts C → writers.Ghosts W
    → Reporting → (caller : Option (List ℕ)) → (text : List ℕ) → (first : ℕ) → (old new : Office B)
    → (before after : C) → (had holds : W) → ExitStatus → Type 0
EntersTextOf b c w reports caller text first old new before after had holds status =
    After b.ledger old new (EntersLines b.ledger reports caller (speaking_lines text) first
    (desk_of b c w old before had) (desk_of b c w new after holds) new status)

-- True if the input (a text of request lines) was entered into an event engine that was opened for
-- it. The timestamp of each line is at least the timestamp at which the engine was opened.
abbrev pub Enters : {B : Type 0} → (B → Ledger) → Reporting → (caller : Option (List ℕ))
    → (text : List ℕ) → (later had holds : Option (List ℕ)) → ExitStatus
    → (following : History) → (since : Option (List ℕ)) → (opened left : Office B) → Type 0
Enters ledger reports caller text later had holds status following since opened left =
    EntersLines ledger reports caller (speaking_lines text) (latest_of following)
    (round_state had since (failures_of ledger opened))
    (round_state holds later (failures_of ledger left)) left status following

-- True if the event engine was opened and the input (a text of request lines) was entered. Also
-- true if opening the engine was refused and only the refusal was printed.
abbrev pub ReportsEntering : {B : Type 0} → (B → Ledger) → (past : History) → Reporting
    → (caller text : List ℕ) → (moments later : Option (List ℕ)) → (books back : B)
    → (had holds : Option (List ℕ)) → ExitStatus → Type 0
ReportsEntering ledger past reports caller text moments later books back had holds status =
    ReportsUnopened past moments later (ledger books) (ledger back) status had holds
    ⊎ WithOffice ledger past moments back
    (Enters ledger reports (named caller) text later had holds status)

-- The contract of the command that enters an input (a text of request lines), for any accepted
-- events that the store records. The definition `ReportsEntering` states the result.
abbrev pub EntersOver : {B C W : Type 0} → stores.Ghosts B → clocks.Ghosts C → writers.Ghosts W
    → Reporting → (caller text : List ℕ) → (books back : B) → (before after : C) → (had holds : W)
    → ExitStatus → Type 0
EntersOver b c w reports caller text books back before after had holds status =
    OverStanding b.ledger books back (λ past. ReportsEntering b.ledger past reports caller text
    (c.moments before) (c.moments after) books back (w.contents had) (w.contents holds) status)
