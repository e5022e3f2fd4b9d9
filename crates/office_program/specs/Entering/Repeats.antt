-- Retries of requests. The office (the event engine) stores the response to each accepted request.
--
-- Because the office stores these responses, it executes a request only once, even if the request
-- is retried. If an input is entered twice, each of its requests is executed once.
use Rattle.std.specs.Prelude.{◌≡◌, ◌⊎◌, ℕ, List, [], ◌∷◌, ◌++◌, Option, Result, Ok, IsOk}
use Rattle.command_io.specs.Lines.{Line}
use Rattle.office_events.specs.declared.answers.Answer.{Answer}
use Rattle.office_events.specs.declared.answers.Answer.TheVariants as answer
use Rattle.office_events.specs.declared.answers.CommandKind.{CommandKind}
use Rattle.office_events.specs.declared.events.Asked.{Asked}
use Rattle.office_events.specs.declared.events.Event.TheVariants as event
use Rattle.office_events.specs.declared.refusals.Refusal.{Refusal}
use Rattle.office_books.specs.History.{Fed, History, kind_of}
use Rattle.office_books.specs.Refusals.{AreAccepted, decision_of}
use Rattle.office_books.specs.declared.failures.Failures.{Failures}
use Rattle.office_core.specs.Failing.{FailsOutside, IsOutside}
use Rattle.office_program.specs.Entering.Course.{AreAnswered, AreComing, Came, Taken, Undecided, history_with, lines_with}
use Rattle.office_program.specs.Entering.Course as course
use Rattle.office_program.specs.Entering.Lines.{Reporting}

-- True if the two requests `asked` and `again` have the same caller, number and bytes.
pub record IsSameRequest (asked again : Asked) : Type 0 where
  pub caller : again.caller ≡ asked.caller
  pub number : again.number ≡ asked.number
  pub request : again.request ≡ asked.request

-- The theorem that if an accepted request is retried, then the retry is answered as executed
-- earlier, and is not executed again. The event engine may have accepted other events between the
-- request and the retry.
abbrev pub RequestsAreRepeated : Type 0
RequestsAreRepeated = (past more : History) (at then : ℕ) (asked again : Asked)
    → AreAccepted (more ++ Fed at (event.Asked asked) ∷ past) → IsSameRequest asked again
    → decision_of (more ++ Fed at (event.Asked asked) ∷ past) then (event.Asked again)
    ≡ Ok (answer.Again (kind_of asked.command))

-- True if each file has the same contents at every read. Theorems on retries need this, because the
-- contents of a named file are a part of the request.
abbrev pub AreSteady : Reporting → Type 0
AreSteady reports =
    (name : List ℕ) (a b : Option (List ℕ)) → reports.files name a → reports.files name b → a ≡ b

-- True if the request of an input line was accepted, either when the line was processed or earlier.
abbrev pub HasActed : Came → Type 0
HasActed (course.Asked one) = IsOk one.result
HasActed _ = ⊥

-- True if the request of each input line was accepted, either when the line was processed or
-- earlier.
abbrev pub HaveActed : List Taken → Type 0
HaveActed [] = Unit {0}
HaveActed (one ∷ earlier) = HasActed one.came × HaveActed earlier

-- True if the result is a possible answer to a retry: the request was executed earlier, the store
-- failed, or the event engine had stopped after a failure. A retry never fails for lack of memory
-- outside the store.
abbrev pub IsRepeated : Result Answer Refusal → Type 0
IsRepeated result =
    ((kind : CommandKind) × (result ≡ Ok (answer.Again kind)))
    ⊎ ((before after : Failures) × FailsOutside ⊥ before after result)

-- True if the input line was answered as a retry, or refused because of a failure.
abbrev pub HasRepeated : Came → Type 0
HasRepeated (course.Asked one) = IsRepeated one.result
HasRepeated (Undecided at request why) =
    (before after : Failures) × IsOutside ⊥ before after why
HasRepeated _ = ⊥

-- True if each input line was answered as a retry, or refused because the store failed, memory ran
-- out, or the program had stopped.
abbrev pub HaveRepeated : List Taken → Type 0
HaveRepeated [] = Unit {0}
HaveRepeated (one ∷ earlier) = HasRepeated one.came × HaveRepeated earlier

-- True if an event engine that had accepted the events `past` processed all lines of the input (a
-- text of request lines), and accepted each request.
pub record HasEntered (reports : Reporting) (caller : Option (List ℕ)) (lines : List Line)
    (past : History) (taken : List Taken) : Type 0 where
  pub whole : lines ≡ lines_with taken []
  pub are : AreComing reports caller past taken
  pub before : Failures
  pub after : Failures
  pub answered : AreAnswered past before after taken
  pub acted : HaveActed taken

-- True if the first lines of the input (a text of request lines) were processed a second time. The
-- event engine may have accepted other events since the input was entered first.
pub record EntersAgain (reports : Reporting) (caller : Option (List ℕ)) (lines : List Line)
    (following later : History) (again : List Taken) : Type 0 where
  pub more : History
  pub later_is : later ≡ more ++ following
  pub accepted : AreAccepted later
  pub rest : List Line
  pub part : lines ≡ lines_with again rest
  pub are : AreComing reports caller later again
  pub before : Failures
  pub after : Failures
  pub answered : AreAnswered later before after again

-- True if input lines that were entered a second time added no event to the history of accepted
-- events.
--
-- While the lines were entered again, the event engine accepted no new event. It answered each line
-- as a retry or refused the line because of a failure.
pub record ActsNoMore (later : History) (again : List Taken) : Type 0 where
  pub same : history_with later again ≡ later
  pub repeated : HaveRepeated again

-- The theorem that if an input (a text of request lines) was entered completely, then entering the
-- input again has no effect. The files that the input names must have the same contents each time.
abbrev pub InputsActOnce : Reporting → Type 0
InputsActOnce reports =
    (caller : Option (List ℕ)) (lines : List Line) (past later : History) (taken again : List Taken)
    → HasEntered reports caller lines past taken
    → EntersAgain reports caller lines (history_with past taken) later again
    → ActsNoMore later again
