-- Properties of the effect of one input line on an office (the event engine). The line's request is
-- fed to the office and the answer is printed, or the reason for making no request is printed.
use Rattle.std.proofs.Common.{ℤ, pos, sym, ◌≡◌, inl, inr, ℕ, ◌||◌, max, Bool, true, List, Option, Some, None, Result, Ok, Err, refl, ap, subst, ◌∙◌}
use Rattle.std.specs.Prelude.{IfOk, is_err}
use Rattle.std.specs.declared.io.Error.{Error}
use Rattle.command_io.specs.Lines.{Line}
use Rattle.command_io.specs.declared.status.ExitStatus.{ExitStatus}
use Rattle.command_io.specs.declared.status.ExitStatus.TheVariants.{Fine, Refused, Failed}
use Rattle.point_list.specs.declared.fault.FaultyRow.{FaultyRow}
use Rattle.mb_wire.specs.Sockets.Clocks.{ReportsMoment}
use Rattle.script_text.specs.declared.line_fault.LineFault.{LineFault}
use Rattle.script_text.specs.declared.line_fault.LineFault.TheVariants.{Bad, Memory}
use Rattle.script_text.specs.AnswerText.{accepted_text, refused_line}
use Rattle.sun_points.specs.Writing.{GotText}
use Rattle.office_events.specs.declared.answers.Answer.{Answer}
use Rattle.office_events.specs.declared.events.Asked.{Asked as Request}
use Rattle.office_events.specs.declared.events.Event.{Event}
use Rattle.office_events.specs.declared.events.Event.TheVariants as event
use Rattle.office_events.specs.declared.facts.Fact.{Fact}
use Rattle.office_events.specs.declared.refusals.Refusal.{Refusal}
use Rattle.office_books.specs.History.{History, facts_of}
use Rattle.office_books.specs.Notes.{notes_after}
use Rattle.office_books.specs.Refusals.{with_answer}
use Rattle.office_books.specs.Ledgers.{Ledger}
use Rattle.office_books.specs.declared.failures.Failures.{Failures}
use Rattle.office_core.specs.EventRun.{Answered}
use Rattle.office_core.specs.Failing.{IsOutside}
use Rattle.office_core.specs.Standing.{Stands, outgoing_in}
use Rattle.office_core.specs.Taking.{IsAnswer, IsReported}
use Rattle.office_core.specs.declared.office.Office.{Office}
use Rattle.office_program.specs.Rounds.{RoundState}
use Rattle.office_program.specs.declared.entering.entries.Entry.{Entry}
use Rattle.office_program.specs.declared.entering.entries.Entry.TheVariants as entry
use Rattle.office_program.specs.declared.entering.progress.Progress.{Progress}
use Rattle.office_program.specs.Entering.Asking.{HasAsked, HasCome, IsAsked, ReportsFault, ReportsWhyNot, reported_text}
use Rattle.office_program.specs.Entering.Course.{Asked, Came, Doubted, EntersLine, Faulty, IsAskedAt, IsCameOf, IsShown, IsUntouched, Undecided, Unread, doubted_line, faults_text, progress_after, reply_text, unread_line}
use Rattle.office_program.specs.Entering.Doubts.{doubt_in, doubt_of}
use Rattle.office_program.specs.Entering.ReadLines.{asked_at}
use Rattle.office_program.specs.Entering.Reading.{AsksShown, IsShownFor}
use Rattle.office_program.specs.declared.entering.files.Shown.{Shown}
use Rattle.office_program.specs.declared.entering.read_line.ReadRequest.{ReadRequest}
use Rattle.office_program.specs.Entering.Lines.{IsEntry, ReadsEntry, Reporting}

-- The text that the program prints for the event engine's answer equals `reported_text`, the text
-- that the specification defines for this answer.
reported_is : {B : Type 0} (office : Office B) (past : History) (at : ℕ) (e : Event) (reply : Result Answer Refusal) → IsReported past at e reply office
    → reported_text office reply ≡ reply_text past at e reply
reported_is office past at e (Ok given) reported =
    ap (λ notes. accepted_text given notes (outgoing_in office)) reported.notes
    ∙ ap (λ frames. accepted_text given (notes_after past at e (Ok given)) frames) reported.outgoing
reported_is office past at e (Err why) reported = refl

abbrev pub one : (at : ℕ) → Event → Result Answer Refusal → Answered
one at e reply = record { at = at; event = e; result = reply }

-- The progress after an input line has the timestamp of the line, and says whether this line or an
-- earlier line was refused.
pub next_is : (progress next : Progress) (at : ℕ) (e : Event) (reply : Result Answer Refusal) (failed : Bool)
    → next ≡ record { latest = at; refused = progress.refused || failed } → failed ≡ is_err reply → next ≡ progress_after progress (Asked (one at e reply))
next_is progress next at e reply failed is same =
    is ∙ ap (λ (b : Bool). let p : Progress = record { latest = at; refused = progress.refused || b } in p) same

-- Suppose that a request was fed to the event engine, and the engine's answer was printed,
-- completely or in part. Then `IsAsked`, the contract for feeding a request, holds.
pub asked : {B : Type 0} (ledger : B → Ledger) (past : History) (progress : Progress) (before after : Failures) (had holds : Option (List ℕ)) (office : Office B)
    (at : ℕ) (e : Event) (reply : Result Answer Refusal) (result : Result Progress Error) (text : List ℕ) → Stands ledger (with_answer past at e reply) office
    → IsAnswer past at e before after reply → IsReported past at e reply office → text ≡ reported_text office reply → GotText result text had holds
    → IfOk result (λ next. next ≡ progress_after progress (Asked (one at e reply)))
    → IsAsked ledger past at e progress before after had holds office result
asked ledger past progress before after had holds office at e reply result text stands answer notes same got next =
    let P : List ℕ → Type 0 = λ t. GotText result t had holds in
    record {
      one = one at e reply;
      at_is = refl;
      event_is = refl;
      stands = stands;
      answer = answer;
      text = subst P (same ∙ reported_is office past at e reply notes) got;
      next = next;
    }

-- If a request needs no confirmation, then it was fed to the event engine, as `HasAsked` (the
-- contract for the request of an input line) requires.
pub undoubted : {B : Type 0} (ledger : B → Ledger) (past : History) (progress : Progress) (begun now : RoundState) (office : Office B) (at : ℕ) (request : Request)
    (between : Failures) (result : Result Progress Error) → IsAskedAt progress.latest begun.moments now.moments at
    → doubt_of (facts_of past) at request ≡ None → between ≡ begun.failures
    → IsAsked ledger past at (event.Asked request) progress between now.failures begun.printed now.printed office result
    → HasAsked ledger request past progress begun now office result
undoubted ledger past progress begun now office at request between result timed none same done =
    let o = done.one in
    let here : doubt_in (facts_of past) o.at o.event ≡ None =
    ap (doubt_in (facts_of past) o.at) done.event_is ∙ ap (λ (t : ℕ). doubt_of (facts_of past) t request) done.at_is ∙ none in
    let P : Failures → Type 0 = λ n. IsAnswer past o.at o.event n now.failures o.result in
    record {
      came = Asked o;
      comes = (request, refl, done.event_is);
      takes = record {
        takes = record {
          stands = done.stands;
          answered = record { undoubted = here; answer = subst P same done.answer };
          timed = subst (IsAskedAt progress.latest begun.moments now.moments) (sym done.at_is) timed;
        };
        text = done.text;
        next = done.next;
      };
    }

-- If a request needs a confirmation, then it was not fed to the event engine, and only the energy
-- of its manual entry was printed. So `HasAsked` holds, the contract for the request of an input
-- line.
pub doubted : {B : Type 0} (ledger : B → Ledger) (past : History) (progress : Progress) (begun now : RoundState) (office : Office B) (at mwh : ℕ) (request : Request)
    (result : Result Progress Error) → IsAskedAt progress.latest begun.moments now.moments at → Stands ledger past office
    → doubt_of (facts_of past) at request ≡ Some mwh → now.failures ≡ begun.failures → ReportsWhyNot (doubted_line mwh) at begun.printed now.printed result
    → HasAsked ledger request past progress begun now office result
doubted ledger past progress begun now office at mwh request result timed stands doubt same why = record {
  came = Doubted at request mwh;
  comes = refl;
  takes = record {
    takes = record { stands = stands; answered = (doubt, same); timed = timed };
    text = why.text;
    next = why.next;
  };
}

-- If the event engine could not answer whether a request needs a confirmation, then the request was
-- not fed, and the refusal was printed. So `HasAsked` holds, the contract for the request of an
-- input line.
pub undecided : {B : Type 0} (ledger : B → Ledger) (past : History) (progress : Progress) (begun now : RoundState) (office : Office B) (at : ℕ) (request : Request)
    (reason : Refusal) (result : Result Progress Error) → IsAskedAt progress.latest begun.moments now.moments at → Stands ledger past office
    → IsOutside ⊥ begun.failures now.failures reason → ReportsWhyNot (refused_line reason) at begun.printed now.printed result
    → HasAsked ledger request past progress begun now office result
undecided ledger past progress begun now office at request reason result timed stands outside why = record {
  came = Undecided at request reason;
  comes = refl;
  takes = record {
    takes = record { stands = stands; answered = outside; timed = timed };
    text = why.text;
    next = why.next;
  };
}

-- Lemmas: for each parsed form of an input line, the effect of the line satisfies `HasCome`, the
-- contract for processing one line.

pub asked_come : {B : Type 0} (ledger : B → Ledger) (reports : Reporting) (request : Request) (past : History) (progress : Progress) (begun now : RoundState)
    (office : Office B) (result : Result Progress Error) → HasAsked ledger request past progress begun now office result
    → HasCome ledger reports (entry.Ask request) past progress begun now office result
asked_come ledger reports request past progress begun now office result done = record { came = done.came; comes = done.comes; shown = tt; takes = done.takes }

-- Suppose that a meter's counter was read for an input line with `@read` (the reading's
-- placeholder). Then the outcome of the line is the outcome of its request.
read_comes : (reports : Reporting) (facts : List Fact) (read : ReadRequest) (raw : ℕ) (sf : ℤ) (came : Came) → IsCameOf (entry.Ask (asked_at read raw sf)) came
    → AsksShown reports facts read (asked_at read raw sf) → IsCameOf (entry.Read read) came × IsShown reports facts (entry.Read read) came
read_comes reports facts read raw sf (Asked one) is shown =
    let here : one.event ≡ event.Asked (asked_at read raw sf) = is.2 ∙ ap event.Asked is.1 in
    ((asked_at read raw sf, (raw, sf, refl), here), (asked_at read raw sf, shown, here))
read_comes reports facts read raw sf (Faulty rows) is shown = absurd is
read_comes reports facts read raw sf (Doubted at request mwh) is shown =
    let P : Request → Type 0 = AsksShown reports facts read in
    ((raw, sf, is), subst P (sym is) shown)
read_comes reports facts read raw sf (Undecided at request why) is shown = ((raw, sf, is), tt)
read_comes reports facts read raw sf (Unread at tried) is shown = absurd is

pub read_come : {B : Type 0} (ledger : B → Ledger) (reports : Reporting) (read : ReadRequest) (shown : Shown) (request : Request) (past : History) (progress : Progress)
    (begun now : RoundState) (office : Office B) (result : Result Progress Error) → IsShownFor reports (facts_of past) read (Some shown)
    → request ≡ asked_at read shown.raw shown.sf → HasAsked ledger request past progress begun now office result
    → HasCome ledger reports (entry.Read read) past progress begun now office result
read_come ledger reports read shown request past progress begun now office result is same done =
    let P : Request → Type 0 = λ r. IsCameOf (entry.Ask r) done.came in
    let both = read_comes reports (facts_of past) read shown.raw shown.sf done.came (subst P same done.comes) (shown, is, refl) in
    record { came = done.came; comes = both.0; shown = both.1; takes = done.takes }

-- If the counter for an input line with `@read` (the reading's placeholder) can't be read from the
-- device, then the line makes no request.
pub unread : {B : Type 0} (ledger : B → Ledger) (reports : Reporting) (read : ReadRequest) (past : History) (progress : Progress) (begun now : RoundState) (office : Office B)
    (at : ℕ) (result : Result Progress Error) → IsAskedAt progress.latest begun.moments now.moments at → Stands ledger past office
    → IsShownFor reports (facts_of past) read None → now.failures ≡ begun.failures → ReportsWhyNot unread_line at begun.printed now.printed result
    → HasCome ledger reports (entry.Read read) past progress begun now office result
unread ledger reports read past progress begun now office at result timed stands none same why = record {
  came = Unread at read;
  comes = refl;
  shown = none;
  takes = record {
    takes = record { stands = stands; answered = same; timed = timed };
    text = why.text;
    next = why.next;
  };
}

-- Suppose that an input line has `@read`, the placeholder that a reading of the counter replaces.
-- If the event engine refused the query for the counter, then the line makes no request.
pub unknown : {B : Type 0} (ledger : B → Ledger) (reports : Reporting) (read : ReadRequest) (past : History) (progress : Progress) (begun now : RoundState) (office : Office B)
    (at : ℕ) (reason : Refusal) (result : Result Progress Error) → IsAskedAt progress.latest begun.moments now.moments at → Stands ledger past office
    → IsOutside ⊥ begun.failures now.failures reason → ReportsWhyNot (refused_line reason) at begun.printed now.printed result
    → HasCome ledger reports (entry.Read read) past progress begun now office result
unknown ledger reports read past progress begun now office at reason result timed stands outside why = record {
  came = Undecided at (asked_at read 0 (pos 0)) reason;
  comes = (0, pos 0, refl);
  shown = tt;
  takes = record {
    takes = record { stands = stands; answered = outside; timed = timed };
    text = why.text;
    next = why.next;
  };
}

-- If the point list of an input line has faulty rows, then the line makes no request, and these
-- rows are printed.
pub faulty : {B : Type 0} (ledger : B → Ledger) (reports : Reporting) (past : History) (progress : Progress) (begun now : RoundState) (office : Office B) (rows reported : List FaultyRow)
    (result : Result Progress Error) → Stands ledger past office → now.moments ≡ begun.moments → now.failures ≡ begun.failures → reported ≡ rows
    → GotText result (faults_text reported) begun.printed now.printed
    → IfOk result (λ next. next ≡ record { latest = progress.latest; refused = true })
    → HasCome ledger reports (entry.Faulty rows) past progress begun now office result
faulty ledger reports past progress begun now office rows reported result stands moments failures same got next =
    let P : List FaultyRow → Type 0 = λ r. GotText result (faults_text r) begun.printed now.printed in
    record {
      came = Faulty rows;
      comes = refl;
      shown = tt;
      takes = record {
        takes = record { stands = stands; answered = failures; timed = moments };
        text = subst P same got;
        next = next;
      };
    }

-- If an input line was processed and its outcome was printed, then the result satisfies
-- `EntersLine`, the contract for one line.
pub line_taken : {B : Type 0} (ledger : B → Ledger) (reports : Reporting) (caller : Option (List ℕ)) (line : Line) (past : History) (progress next : Progress)
    (begun now : RoundState) (old new : Office B) (e : Entry) → IsEntry reports caller line.text e
    → HasCome ledger reports e past progress begun now new (Ok next)
    → EntersLine ledger reports caller line past progress begun now old new (Ok next)
line_taken ledger reports caller line past progress next begun now old new e is done = (
  done.came,
  record { entry = e; is = is; comes = done.comes; shown = done.shown },
  record { takes = done.takes.takes; text = done.takes.text; next = done.takes.next },
)

pub line_cut : {B : Type 0} (ledger : B → Ledger) (reports : Reporting) (caller : Option (List ℕ)) (line : Line) (past : History) (progress : Progress)
    (begun now : RoundState) (old new : Office B) (e : Entry) (error : Error) → IsEntry reports caller line.text e
    → HasCome ledger reports e past progress begun now new (Err error)
    → EntersLine ledger reports caller line past progress begun now old new (Err Failed)
line_cut ledger reports caller line past progress begun now old new e error is done = inl (
  done.came,
  record { entry = e; is = is; comes = done.comes; shown = done.shown },
  record { takes = done.takes.takes; text = done.takes.text; next = tt },
)

-- If an input line is bad or memory ran out, then the line makes no request, as `EntersLine` (the
-- contract for one line) requires.
pub line_faulty : {B : Type 0} (ledger : B → Ledger) (reports : Reporting) (caller : Option (List ℕ)) (line : Line) (past : History) (progress : Progress)
    (begun now : RoundState) (old new : Office B) (fault : LineFault) (status : ExitStatus) → IsUntouched begun now old new
    → ReadsEntry reports caller line.text (Err fault) → ReportsFault fault line.number status begun.printed now.printed
    → EntersLine ledger reports caller line past progress begun now old new (Err status)
line_faulty ledger reports caller line past progress begun now old new Bad Fine stays bad reported = absurd reported
line_faulty ledger reports caller line past progress begun now old new Bad Refused stays bad reported = (stays, bad, reported)
line_faulty ledger reports caller line past progress begun now old new Bad Failed stays bad reported = inr (inl (stays, bad, reported))
line_faulty ledger reports caller line past progress begun now old new Memory Fine stays bad reported = absurd reported
line_faulty ledger reports caller line past progress begun now old new Memory Refused stays bad reported = absurd reported
line_faulty ledger reports caller line past progress begun now old new Memory Failed stays bad reported = inr (inr (stays, reported))
