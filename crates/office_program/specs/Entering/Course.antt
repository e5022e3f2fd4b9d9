-- The progress of processing an input (a text of request lines): the outcome and the text of each
-- line, and the state of the office (the event engine) after each line.
--
-- In the definitions below, all lists of processed lines have the latest line first.
use Rattle.std.specs.Prelude.{◌≡◌, ◌⊎◌, ◌||◌, ℕ, max, true, false, List, [], ◌∷◌, ◌++◌, codes, Option, Some, None, Result, Ok, Err, IfOk, is_err}
use Rattle.std.specs.Fmt.{decimal}
use Rattle.std.specs.List.{flat_map}
use Rattle.std.specs.Io.KnownBytes.{Appends}
use Rattle.command_io.specs.Lines.{Line}
use Rattle.command_io.specs.declared.status.ExitStatus.{ExitStatus}
use Rattle.command_io.specs.declared.status.ExitStatus.TheVariants.{Fine, Refused, Failed}
use Rattle.point_list.specs.declared.fault.FaultyRow.{FaultyRow}
use Rattle.mb_wire.specs.Sockets.Clocks.{ReportsMoment}
use Rattle.sun_points.specs.Writing.{GotPart, GotText}
use Rattle.script_text.specs.AnswerText.{accepted_text, bad_line, fault_line, refused_line}
use Rattle.office_events.specs.declared.answers.Answer.{Answer}
use Rattle.office_events.specs.declared.events.Asked.{Asked as Request}
use Rattle.office_events.specs.declared.events.Event.{Event}
use Rattle.office_events.specs.declared.events.Event.TheVariants as event
use Rattle.office_events.specs.declared.facts.Fact.{Fact}
use Rattle.office_events.specs.declared.refusals.Refusal.{Refusal}
use Rattle.office_events.specs.declared.refusals.Refusal.TheVariants.{Limit}
use Rattle.office_books.specs.History.{History, facts_of}
use Rattle.office_books.specs.Notes.{notes_after, outgoing_after}
use Rattle.office_books.specs.Refusals.{with_answer}
use Rattle.office_books.specs.declared.failures.Failures.{Failures}
use Rattle.office_books.specs.Ledgers.{Ledger}
use Rattle.office_core.specs.EventRun.{Answered}
use Rattle.office_core.specs.Failing.{IsOutside}
use Rattle.office_core.specs.Standing.{Stands}
use Rattle.office_core.specs.Taking.{IsAnswer}
use Rattle.office_core.specs.declared.office.Office.{Office}
use Rattle.office_program.specs.Rounds.{RoundState}
use Rattle.office_program.specs.declared.entering.entries.Entry.{Entry}
use Rattle.office_program.specs.declared.entering.entries.Entry.TheVariants as entry
use Rattle.office_program.specs.declared.entering.progress.Progress.{Progress}
use Rattle.office_program.specs.declared.entering.read_line.ReadRequest.{ReadRequest}
use Rattle.office_program.specs.Entering.Doubts.{doubt_in, doubt_of}
use Rattle.office_program.specs.Entering.Lines.{IsBad, IsEntry, MayAsk, Reporting}
use Rattle.office_program.specs.Entering.Reading.{AsksShown, IsShownFor}

-- The next definitions give the outcome of one input line, its printed text and its timestamp.

-- The outcome of an input line that is not bad. `Asked`: its request was fed to the event engine
-- and answered. Otherwise no request was fed:
--
-- - `Faulty`: the line's point list has faulty rows;
-- - `Doubted`: the line's entry by hand would record the energy `mwh`, which is more than the
--   meter's power limit allows;
-- - `Undecided`: the engine could not answer a query that the line needs, because of a failure;
-- - `Unread`: the meter's counter can't be read from the device.
pub data Came : Type 0 where
  Asked : Answered → Came
  Faulty : List FaultyRow → Came
  Doubted : (at : ℕ) → Request → (mwh : ℕ) → Came
  Undecided : (at : ℕ) → Request → Refusal → Came
  Unread : (at : ℕ) → ReadRequest → Came

-- True if the outcome of an input line is possible for a line with the parsed form `e`. Outcomes
-- are, for example, an answered request, or faulty rows of a point list.
abbrev pub IsCameOf : Entry → Came → Type 0
IsCameOf e (Asked one) =
    (request : Request) × MayAsk e request × (one.event ≡ event.Asked request)
IsCameOf e (Doubted at request mwh) = MayAsk e request
IsCameOf e (Undecided at request why) = MayAsk e request
IsCameOf (entry.Faulty rows) (Faulty reported) = reported ≡ rows
IsCameOf (entry.Read read) (Unread at tried) = tried ≡ read
IsCameOf _ _ = ⊥

-- States that if the line installs a meter at its present reading (`@read`), then the request has
-- this reading of the meter's counter. States nothing for other lines.
--
-- The accounting register whose counter is read, and the register's device, are those in the
-- store's records.
abbrev pub IsShown : Reporting → List Fact → Entry → Came → Type 0
IsShown reports facts (entry.Read read) (Asked one) =
    (request : Request) × AsksShown reports facts read request × (one.event ≡ event.Asked request)
IsShown reports facts (entry.Read read) (Doubted at request mwh) =
    AsksShown reports facts read request
IsShown reports facts (entry.Read read) (Unread at tried) = IsShownFor reports facts read None
IsShown reports facts _ _ = Unit {0}

-- True if, after the accepted events `past`, the outcome `came` is possible for a parsed form of
-- the input line. Outcomes are, for example, an answered request, or faulty rows of a point list.
pub record Comes (reports : Reporting) (caller : Option (List ℕ)) (past : History) (text : List ℕ)
    (came : Came) : Type 0 where
  pub entry : Entry
  pub is : IsEntry reports caller text entry
  pub comes : IsCameOf entry came
  pub shown : IsShown reports (facts_of past) entry came

-- The event engine's accepted events after an input line with the given outcome. Only a newly
-- accepted request adds an event.
abbrev pub with_came : History → Came → History
with_came past (Asked one) = with_answer past one.at one.event one.result
with_came past _ = past

-- True if the event engine answered the request, and the request's manual entry, if any, is not
-- doubted: its energy is within what the meter's power limit allows.
pub record IsAskedAndAnswered (past : History) (before after : Failures) (one : Answered) : Type 0
  where
    pub undoubted : doubt_in (facts_of past) one.at one.event ≡ None
    pub answer : IsAnswer past one.at one.event before after one.result

-- True if an input line had the outcome that the specification gives for the store's records before
-- the line.
--
-- A request has the answer that the specification gives, or was refused because of a failure. An
-- entry that is reported as doubted needs a confirmation. An input line is undecided only if a
-- query failed. Each failure of the store is counted.
abbrev pub IsCameAnswered : History → (before after : Failures) → Came → Type 0
IsCameAnswered past before after (Asked one) = IsAskedAndAnswered past before after one
IsCameAnswered past before after (Faulty rows) = after ≡ before
IsCameAnswered past before after (Doubted at request mwh) =
    (doubt_of (facts_of past) at request ≡ Some mwh) × (after ≡ before)
IsCameAnswered past before after (Undecided at request why) = IsOutside ⊥ before after why
IsCameAnswered past before after (Unread at read) = after ≡ before

-- The text that reports the event engine's answer to an event, in the format in which a script (a
-- text of commands) is answered. It has the notifications and `ok`, or `refused N` with the numeric
-- code of the refusal.
abbrev pub reply_text : History → (at : ℕ) → Event → Result Answer Refusal → List ℕ
reply_text past at e (Ok given) =
    accepted_text given (notes_after past at e (Ok given)) (outgoing_after past at e (Ok given))
reply_text past at e (Err why) = refused_line why

-- The text that reports a faulty point list. It has one line for each faulty row, and a refusal.
abbrev pub faults_text : List FaultyRow → List ℕ
faults_text rows = flat_map fault_line rows ++ refused_line Limit

-- The text that reports that a manual entry needs a confirmation, with the energy in mWh that the
-- entry would record.
abbrev pub doubted_line : (mwh : ℕ) → List ℕ
doubted_line mwh = codes "doubted " ++ decimal mwh ++ codes "\n"

-- The text that reports that a meter's counter can't be read from the device.
abbrev pub unread_line : List ℕ
unread_line = codes "unread\n"

-- The text that reports the outcome of an input line.
abbrev pub came_text : History → Came → List ℕ
came_text past (Asked one) = reply_text past one.at one.event one.result
came_text past (Faulty rows) = faults_text rows
came_text past (Doubted at request mwh) = doubted_line mwh
came_text past (Undecided at request why) = refused_line why
came_text past (Unread at read) = unread_line

-- True if the timestamp of an input line is the clock's time, or the timestamp of the previous line
-- if that timestamp is later.
pub record IsAskedAt (latest : ℕ) (begun now : Option (List ℕ)) (at : ℕ) : Type 0 where
  pub reported : ℕ
  pub reports : ReportsMoment begun now reported
  pub is : at ≡ max latest reported

-- True if the outcome of an input line has the timestamp that the line requires. A line with a
-- faulty point list needs no timestamp, so the clock is not read.
abbrev pub IsTimed : (latest : ℕ) → (begun now : Option (List ℕ)) → Came → Type 0
IsTimed latest begun now (Asked one) = IsAskedAt latest begun now one.at
IsTimed latest begun now (Faulty rows) = now ≡ begun
IsTimed latest begun now (Doubted at request mwh) = IsAskedAt latest begun now at
IsTimed latest begun now (Undecided at request why) = IsAskedAt latest begun now at
IsTimed latest begun now (Unread at read) = IsAskedAt latest begun now at

-- The progress after one more input line: the latest timestamp, and whether any line was refused or
-- made no request.
abbrev pub progress_after : Progress → Came → Progress
progress_after progress (Asked one) =
    record { latest = one.at; refused = progress.refused || is_err one.result }
progress_after progress (Faulty rows) = record { latest = progress.latest; refused = true }
progress_after progress (Doubted at request mwh) = record { latest = at; refused = true }
progress_after progress (Undecided at request why) = record { latest = at; refused = true }
progress_after progress (Unread at read) = record { latest = at; refused = true }

-- True if the event engine processed the input line with the outcome `came`. The outcome determines
-- the events that the engine has accepted, the engine's answer, the failure counts and the
-- timestamp.
pub record Takes {B : Type 0} (ledger : B → Ledger) (past : History) (latest : ℕ)
    (begun now : RoundState) (office : Office B) (came : Came) : Type 0 where
  pub stands : Stands ledger (with_came past came) office
  pub answered : IsCameAnswered past begun.failures now.failures came
  pub timed : IsTimed latest begun.moments now.moments came

-- True if the input line was processed and the text that reports its outcome was printed, or a part
-- of this text if the write failed.
pub record TakesLine {B E : Type 0} (ledger : B → Ledger) (past : History) (progress : Progress)
    (begun now : RoundState) (office : Office B) (result : Result Progress E) (came : Came) : Type 0
  where
    pub takes : Takes ledger past progress.latest begun now office came
    pub text : GotText result (came_text past came) begun.printed now.printed
    pub next : IfOk result (λ next. next ≡ progress_after progress came)

-- True if the event engine, the clock and the failure counts are unchanged, because the input line
-- made no request.
pub record IsUntouched {B : Type 0} (begun now : RoundState) (old new : Office B) : Type 0 where
  pub office : new ≡ old
  pub moments : now.moments ≡ begun.moments
  pub failures : now.failures ≡ begun.failures

-- The effect of the next input line. On `Ok` the line was processed. On `Refused` the line is bad,
-- and the message was printed. On `Failed` a write failed, or memory ran out.
abbrev pub EntersLine : {B : Type 0} → (B → Ledger) → Reporting → (caller : Option (List ℕ)) → Line
    → (past : History) → Progress → (begun now : RoundState) → (old new : Office B)
    → Result Progress ExitStatus → Type 0
EntersLine ledger reports caller line past progress begun now old new (Ok next) =
    (came : Came) × Comes reports caller past line.text came
    × TakesLine {E = ExitStatus} ledger past progress begun now new (Ok next) came
EntersLine ledger reports caller line past progress begun now old new (Err Fine) = ⊥
EntersLine ledger reports caller line past progress begun now old new (Err Refused) =
    IsUntouched begun now old new × IsBad reports line.text
    × Appends begun.printed now.printed (bad_line line.number)
EntersLine ledger reports caller line past progress begun now old new (Err Failed) =
    ((came : Came) × Comes reports caller past line.text came
    × TakesLine {E = ExitStatus} ledger past progress begun now new (Err Failed) came)
    ⊎ (IsUntouched begun now old new × IsBad reports line.text
    × GotPart (bad_line line.number) begun.printed now.printed)
    ⊎ (IsUntouched begun now old new × Appends begun.printed now.printed [])

-- The next definitions combine the outcomes of several input lines. In lists of processed lines,
-- the line that was processed last comes first.

-- A processed input line with its outcome: the request that the line fed to the event engine and
-- the answer, or the reason why the line fed no request.
pub record Taken : Type 0 where
  pub line : Line
  pub came : Came

-- The lines of an input (a text of request lines) in their original order. The processed lines are
-- stored with the latest first, and `rest` are the lines after them.
abbrev pub lines_with : List Taken → (rest : List Line) → List Line
lines_with [] rest = rest
lines_with (one ∷ earlier) rest = lines_with earlier (one.line ∷ rest)

-- The events that the event engine has accepted after a list of input lines.
abbrev pub history_with : History → List Taken → History
history_with past [] = past
history_with past (one ∷ earlier) = with_came (history_with past earlier) one.came

-- True if each input line in the list has an outcome that the specification (`Comes`) allows for
-- the line's text after the earlier lines of the list.
abbrev pub AreComing : Reporting → (caller : Option (List ℕ)) → History → List Taken → Type 0
AreComing reports caller past [] = Unit {0}
AreComing reports caller past (one ∷ earlier) =
    Comes reports caller (history_with past earlier) one.line.text one.came
    × AreComing reports caller past earlier

-- True if each input line in the list has the outcome that the specification gives after the
-- earlier lines of the list.
abbrev pub AreAnswered : History → (before after : Failures) → List Taken → Type 0
AreAnswered past before after [] = after ≡ before
AreAnswered past before after (one ∷ earlier) =
    (between : Failures) × AreAnswered past before between earlier
    × IsCameAnswered (history_with past earlier) between after one.came

-- The progress after a list of input lines, if the first timestamp was `first`: the latest
-- timestamp, and whether any line was refused.
abbrev pub progress_of : (first : ℕ) → List Taken → Progress
progress_of first [] = record { latest = first; refused = false }
progress_of first (one ∷ earlier) = progress_after (progress_of first earlier) one.came

-- True if each outcome has the timestamp of its input line, and the clock advanced from `begun` to
-- `now`.
abbrev pub AreTimed : (first : ℕ) → (begun now : Option (List ℕ)) → List Taken → Type 0
AreTimed first begun now [] = now ≡ begun
AreTimed first begun now (one ∷ earlier) =
    (between : Option (List ℕ)) × AreTimed first begun between earlier
    × IsTimed (progress_of first earlier).latest between now one.came

-- The text that reports the outcomes of the processed input lines, in the order of the lines.
abbrev pub text_after : History → List Taken → List ℕ
text_after past [] = []
text_after past (one ∷ earlier) =
    text_after past earlier ++ came_text (history_with past earlier) one.came

-- True if the input lines in `taken` were processed in order.
--
-- Each input line has the outcome that the specification gives after the earlier lines of the list,
-- at the line's timestamp. The event engine is in the state after all lines.
pub record AreTaken {B : Type 0} (ledger : B → Ledger) (reports : Reporting)
    (caller : Option (List ℕ)) (past : History) (first : ℕ) (begun now : RoundState)
    (office : Office B) (taken : List Taken) : Type 0 where
  pub stands : Stands ledger (history_with past taken) office
  pub each : AreComing reports caller past taken
  pub answered : AreAnswered past begun.failures now.failures taken
  pub timed : AreTimed first begun.moments now.moments taken
