-- Lemmas: the output of a script (a text of commands, events and queries) is the output of its
-- lines in order.
use Rattle.std.proofs.Common.{◌≡◌, ◌⊎◌, inl, inr, ℕ, Bool, false, Option, None, Some, List, [], ◌∷◌, ◌++◌, refl, sym, subst, append_assoc, append-nil, ap, ◌∙◌, arith}
use Rattle.std.proofs.lemmas.List.Elements.{All-cons, All-nil}
use Rattle.std.specs.Io.KnownBytes.{Appends}
use Rattle.command_io.specs.Lines.{Line, speaking_lines}
use Rattle.command_io.specs.declared.status.ExitStatus.{ExitStatus}
use Rattle.command_io.specs.declared.status.ExitStatus.TheVariants.{Fine, Refused, Failed}
use Rattle.interval_core.specs.declared.zone.Zone.{Zone}
use Rattle.office_events.specs.declared.refusals.Refusal.{Refusal}
use Rattle.office_events.specs.declared.refusals.Refusal.TheVariants as refusal
use Rattle.memory_books.specs.Listed.{AreListed, ledger_of}
use Rattle.memory_books.specs.declared.list_books.ListBooks.{ListBooks}
use Rattle.office_books.specs.History.{History, Opened, facts_of}
use Rattle.office_books.specs.Refusals.{opening_refusal_of}
use Rattle.office_core.specs.Failing.{IsNotStopped, IsOutside}
use Rattle.office_core.specs.Leaving.{BooksStand, MayBeLeft}
use Rattle.office_core.specs.Reopening.{IsNotOpened}
use Rattle.office_books.specs.Ledgers.{Ledger}
use Rattle.std.specs.Prelude.{Result, Ok, Err, IfSome, length, ◌<◌, ◌≤◌}
use Rattle.std.specs.declared.io.Error.{Error}
use Rattle.std.proofs.KnownBytes.{Appends-nil, Appends-trans}
use Rattle.script_text.specs.Forms.{IsLine}
use Rattle.script_text.specs.declared.script.ScriptLine.{ScriptLine}
use Rattle.command_io.specs.Input.{EndsUnread, ReportsTooLong, most_bytes, too_long}
use Rattle.script_text.specs.AnswerText.{bad_line}
use Rattle.sun_points.specs.Writing.{GotPart}
use Rattle.script_run.proofs.ReplayingLemmas.Replies.{fails_in_memory}
use Rattle.office_core.specs.Standing.{Stands}
use Rattle.office_core.specs.declared.office.Office.{Office}
use Rattle.script_text.specs.LineWords.Words.{words_of}
use Rattle.script_run.specs.Replaying.Lines.{BadPrints, LineBegins, LinePrints, WordsPrint}
use Rattle.script_run.specs.Replaying.TextRun.{InputRuns, LineRan, LineRuns, MayCarryOut, TextRuns, stage_of}
use Rattle.script_run.specs.Replaying.Scripts.{ReplayBegins, ReplayPrints, ScriptBegins, ScriptPrints, TextBegins, TextPrints}
use Rattle.script_run.specs.Replaying.Stages.{Fails, Stage, beginning}

-- Loop invariant: the output of all script lines is the output so far, followed by the output of
-- the remaining lines. This is also true for the output of an interrupted run.
pub record SoFar (zone : Zone) (all : List Line) (now : Stage) (lines : List Line) (printed : List ℕ) : Type 0 where
  pub prints : (rest : List ℕ) (status : ExitStatus) → ScriptPrints now lines rest status
      → ScriptPrints (beginning zone) all (printed ++ rest) status
  pub begins : (rest : List ℕ) → ScriptBegins now lines rest → ScriptBegins (beginning zone) all (printed ++ rest)

pub one_more : (zone : Zone) (all : List Line) (now next : Stage) (lines left : List Line) (first : Line) (printed here : List ℕ)
    → lines ≡ first ∷ left → WordsPrint now (words_of first.text) here next → SoFar zone all now lines printed
    → SoFar zone all next left (printed ++ here)
one_more zone all now next lines left first printed here at prints so_far = record {
  prints = λ rest status more.
      subst (λ (text : List ℕ). ScriptPrints (beginning zone) all text status) (sym (append_assoc printed here rest))
      (so_far.prints (here ++ rest) status
      (subst (λ (ls : List Line). ScriptPrints now ls (here ++ rest) status) (sym at) (inr (here, rest, next, prints, more, refl))));
  begins = λ rest more.
      subst (λ (text : List ℕ). ScriptBegins (beginning zone) all text) (sym (append_assoc printed here rest))
      (so_far.begins (here ++ rest)
      (subst (λ (ls : List Line). ScriptBegins now ls (here ++ rest)) (sym at) (inr (here, rest, next, prints, more, refl))));
}

pub ended : (zone : Zone) (all : List Line) (now : Stage) (lines : List Line) (printed : List ℕ) → lines ≡ []
    → SoFar zone all now lines printed → ScriptPrints (beginning zone) all printed Fine
ended zone all now lines printed at so_far =
    subst (λ (text : List ℕ). ScriptPrints (beginning zone) all text Fine) (append-nil printed)
    (so_far.prints [] Fine (subst (λ (ls : List Line). ScriptPrints now ls [] Fine) (sym at) (refl, refl)))

pub ended_badly : (zone : Zone) (all : List Line) (now : Stage) (lines left : List Line) (bad : Line) (printed here : List ℕ)
    → lines ≡ bad ∷ left → BadPrints bad here → SoFar zone all now lines printed
    → ScriptPrints (beginning zone) all (printed ++ here) Refused
ended_badly zone all now lines left bad printed here at ends so_far =
    so_far.prints here Refused (subst (λ (ls : List Line). ScriptPrints now ls here Refused) (sym at) (inl (ends, refl)))

pub broken_off : (zone : Zone) (all : List Line) (now : Stage) (lines left : List Line) (first : Line) (printed part : List ℕ)
    → lines ≡ first ∷ left → LineBegins now first part → SoFar zone all now lines printed
    → ScriptBegins (beginning zone) all (printed ++ part)
broken_off zone all now lines left first printed part at begins so_far =
    so_far.begins part (subst (λ (ls : List Line). ScriptBegins now ls part) (sym at) (inl begins))

-- States that all lines of a script before `lines` were executed, that their output was written,
-- and what the state is after them.
pub record Ran (zone : Zone) (all lines : List Line) (office : Office ListBooks) (output output' : Option (List ℕ)) : Type 0 where
  pub printed : List ℕ
  pub past : History
  pub appended : Appends output output' printed
  pub stands : Stands ledger_of past office
  pub so_far : SoFar zone all (stage_of past office) lines printed

pub from_start : (zone : Zone) (all lines : List Line) (now : Stage) → lines ≡ all → now ≡ beginning zone
    → SoFar zone all now lines []
from_start zone all lines now same at = record {
  prints = λ rest status more.
      subst (λ (ls : List Line). ScriptPrints (beginning zone) ls rest status) same
      (subst (λ (stage : Stage). ScriptPrints stage lines rest status) at more);
  begins = λ rest more.
      subst (λ (ls : List Line). ScriptBegins (beginning zone) ls rest) same
      (subst (λ (stage : Stage). ScriptBegins stage lines rest) at more);
}

-- An empty store has the records of the history without any accepted event: none.
pub empty_books : (books : ListBooks) → AreListed books [] → BooksStand (ledger_of books) []
empty_books books listed = record {
  is_past = record { accepted = tt; planned = tt };
  holds = listed;
  leaves = record { left = [] ∷ []; may = inl listed; each = All-cons (MayBeLeft []) [] [] (inl refl) (All-nil (MayBeLeft [])) };
}

-- With a store in memory, a failure other than `Stopped` (an earlier failure stopped the program)
-- is `Memory` (out of memory).
memory_alone : (why : Refusal) → IsNotStopped why → Fails {T = Unit {0}} (Err why) → why ≡ refusal.Memory
memory_alone refusal.NotFound goes fails = absurd fails
memory_alone refusal.Exists goes fails = absurd fails
memory_alone refusal.ClockBack goes fails = absurd fails
memory_alone refusal.BadScale goes fails = absurd fails
memory_alone refusal.NegativeStep goes fails = absurd fails
memory_alone refusal.NotLater goes fails = absurd fails
memory_alone refusal.SpanTooLong goes fails = absurd fails
memory_alone refusal.TotalFull goes fails = absurd fails
memory_alone refusal.Ended goes fails = absurd fails
memory_alone refusal.Busy goes fails = absurd fails
memory_alone refusal.Reused goes fails = absurd fails
memory_alone refusal.Limit goes fails = absurd fails
memory_alone (refusal.Store cause) goes fails = absurd fails
memory_alone refusal.Memory goes fails = refl
memory_alone refusal.Stopped goes fails = absurd goes
memory_alone refusal.NotVoidable goes fails = absurd fails
memory_alone (refusal.NotPlausible cause) goes fails = absurd fails

-- If starting the program over an empty store in memory fails, then memory ran out.
pub refused_for_memory : (why : Refusal) (old new : Ledger) → old.failures.count ≡ 0 → new.failures.count ≡ 0 → IsNotStopped why
    → IsNotOpened [] 0 old new why → why ≡ refusal.Memory
refused_for_memory why old new before after goes not_opened = memory_alone why goes (fails_for not_opened.reason)
  where
    fails_for : ((opening_refusal_of (facts_of []) 0 ≡ Some why) × (new.failures ≡ old.failures)) ⊎ IsOutside (opening_refusal_of (facts_of []) 0 ≡ None) old.failures new.failures why
        → Fails {T = Unit {0}} (Err why)
    fails_for (inl refused) = absurd (let e : None ≡ Some why = refused.0 in cc)
    fails_for (inr outside) = fails_in_memory {T = Unit {0}} (opening_refusal_of (facts_of []) 0 ≡ None) old.failures new.failures (Err why) before after outside

-- If the execution of a script line returns an exit status, then the run of the script ends with
-- this status. The run's output is that of the earlier lines, followed by that of this line.
pub stopped_by : (zone : Zone) (text : List ℕ) (past : History) (line : Line) (office office' : Office ListBooks) (status : ExitStatus)
    (lines left : List Line) (printed : List ℕ) (o m o' : Option (List ℕ)) → Appends o m printed → lines ≡ line ∷ left
    → SoFar zone (speaking_lines text) (stage_of past office) lines printed → LineRuns past line office office' (Err status) m o'
    → TextRuns zone text status o o'
stopped_by zone text past line office office' Fine lines left printed o m o' before at so_far runs = absurd runs
stopped_by zone text past line office office' Refused lines left printed o m o' before at so_far runs = (
  printed ++ runs.0,
  Appends-trans o m o' printed runs.0 before runs.1,
  inr (ended_badly zone (speaking_lines text) (stage_of past office) lines left line printed runs.0 at runs.2 so_far),
)
stopped_by zone text past line office office' Failed lines left printed o m o' before at so_far runs = (
  printed ++ runs.0,
  Appends-trans o m o' printed runs.0 before runs.1,
  inr (broken_off zone (speaking_lines text) (stage_of past office) lines left line printed runs.0 at runs.2 so_far),
)

-- If the call for a script line succeeded, then the line was executed with its complete output.
pub line_ran : (past : History) (line : Line) (said : ScriptLine) (office office' : Office ListBooks) (done : Unit {0})
    (o o' : Option (List ℕ)) → IsLine (words_of line.text) said
    → MayCarryOut (λ now printed next. LinePrints now said printed next) past office office' (Ok done) o o'
    → LineRan past line office office' o o'
line_ran past line said office office' ok o o' is (inl done) = record {
  printed = done.printed;
  after = done.after;
  prints = record { said = said; is = is; prints = done.prints };
  appended = done.got;
  stands = done.stands;
}
line_ran past line said office office' ok o o' is (inr none) = absurd (let e = none.0 in cc)

pub line_broken : (past : History) (line : Line) (said : ScriptLine) (office office' : Office ListBooks) (error : Error)
    (o o' : Option (List ℕ)) → IsLine (words_of line.text) said
    → MayCarryOut (λ now printed next. LinePrints now said printed next) past office office' (Err error) o o'
    → (part : List ℕ) × Appends o o' part × LineBegins (stage_of past office) line part
line_broken past line said office office' error o o' is (inl done) = (
  done.got.0,
  done.got.3,
  inr (done.printed, (done.got.1, done.got.2), inr (stage_of done.after office', record { said = said; is = is; prints = done.prints })),
)
line_broken past line said office office' error o o' is (inr none) = ([], none.1, inl refl)

-- If only a part of the text `bad line N` was written for a malformed line, then the writer
-- received a beginning of the line's output.
pub bad_broken : (past : History) (line : Line) (office : Office ListBooks) (o o' : Option (List ℕ))
    → ((said : ScriptLine) → IsLine (words_of line.text) said → ⊥) → GotPart (bad_line line.number) o o'
    → (part : List ℕ) × Appends o o' part × LineBegins (stage_of past office) line part
bad_broken past line office o o' none got =
    (got.0, got.3, inr (bad_line line.number, (got.1, got.2), inl (record { none = none; text = refl })))

-- The complete output of a script counts as a beginning of the script's output.
script_begun : (now : Stage) (lines : List Line) (printed : List ℕ) (status : ExitStatus) → ScriptPrints now lines printed status
    → ScriptBegins now lines printed
script_begun now [] printed status prints = prints.0
script_begun now (first ∷ lines) printed status (inl bad) = inl (inr (printed, ([], sym (append-nil printed)), inl bad.0))
script_begun now (first ∷ lines) printed status (inr (here, rest, next, prints, more, is)) =
    inr (here, rest, next, prints, script_begun next lines rest status more, is)

text_begun : (zone : Zone) (text printed : List ℕ) (status : ExitStatus) → TextPrints zone text printed status → TextBegins zone text printed
text_begun zone text printed status (inl (is, refused)) = inl ([], sym is ∙ sym (append-nil printed))
text_begun zone text printed status (inr prints) = inr (script_begun (beginning zone) (speaking_lines text) printed status prints)

pub input_begun : (zone : Zone) (input printed : List ℕ) (status : ExitStatus) → ReplayPrints zone input printed status
    → ReplayBegins zone input printed
input_begun zone input printed status prints = record {
  long = λ long. ([], sym (prints.long long).1 ∙ sym (append-nil printed));
  text = λ short. text_begun zone input printed status (prints.text short);
}

-- The empty text is a beginning of every script's output.
nothing_begins : (now : Stage) (lines : List Line) → ScriptBegins now lines []
nothing_begins now [] = refl
nothing_begins now (first ∷ lines) = inl (inl refl)

nothing_written : (zone : Zone) (input : List ℕ) (o o' : Option (List ℕ)) → Appends o o' [] → InputRuns zone input Failed o o'
nothing_written zone input o o' none = (
  [],
  none,
  record { long = λ long. (too_long, refl); text = λ short. inr (nothing_begins (beginning zone) (speaking_lines input)) },
)

-- If an input is not longer than the length limit, then the output of its lines is the output for
-- the input.
short_prints : (zone : Zone) (input printed : List ℕ) (status : ExitStatus) → length input ≤ most_bytes → TextPrints zone input printed status
    → ReplayPrints zone input printed status
short_prints zone input printed status short prints =
    record { long = λ long. absurd (omega (arith, short, long)); text = λ fits. prints }

short_begins : (zone : Zone) (input part : List ℕ) → length input ≤ most_bytes → TextBegins zone input part → ReplayBegins zone input part
short_begins zone input part short begins =
    record { long = λ long. absurd (omega (arith, short, long)); text = λ fits. begins }

pub text_ran : (zone : Zone) (text input : List ℕ) (status : ExitStatus) (o o' : Option (List ℕ)) → text ≡ input → length text ≤ most_bytes
    → TextRuns zone text status o o' → InputRuns zone input status o o'
text_ran zone text input status o o' same short runs =
    let P : List ℕ → Type 0 = λ input. InputRuns zone input status o o' in
    subst P same (ran zone text status o o' short runs)
  where
    ran : (zone : Zone) (text : List ℕ) (status : ExitStatus) (o o' : Option (List ℕ)) → length text ≤ most_bytes
        → TextRuns zone text status o o' → InputRuns zone text status o o'
    ran zone text Fine o o' short runs = (runs.0, runs.1, short_prints zone text runs.0 Fine short runs.2)
    ran zone text Refused o o' short runs = (runs.0, runs.1, short_prints zone text runs.0 Refused short runs.2)
    ran zone text Failed o o' short runs = (runs.0, runs.1, short_begins zone text runs.0 short runs.2)

long_reported : (zone : Zone) (input : List ℕ) (status : ExitStatus) (o o' : Option (List ℕ)) → most_bytes < length input → ReportsTooLong status o o'
    → InputRuns zone input status o o'
long_reported zone input Fine o o' long reported = absurd reported
long_reported zone input Refused o o' long reported =
    (too_long, reported, record { long = λ again. (refl, refl); text = λ short. absurd (omega (arith, short, long)) })
long_reported zone input Failed o o' long reported =
    (reported.0, reported.3, record { long = λ again. (reported.1, reported.2); text = λ short. absurd (omega (arith, short, long)) })

-- If the input of a run is too long, the run prints `too long`. If reading the input fails, the run
-- fails. In both cases the specification of a run is satisfied.
pub unread_ran : (zone : Zone) (input : List ℕ) (status : ExitStatus) (o o' : Option (List ℕ)) → EndsUnread input status o o'
    → InputRuns zone input status o o'
unread_ran zone input status o o' (inl long) = long_reported zone input status o o' long.0 long.1
unread_ran zone input status o o' (inr (failed, none)) = unread status failed
  where
    unread : (ended : ExitStatus) → ended ≡ Failed → InputRuns zone input ended o o'
    unread Fine is = absurd (let e : Fine ≡ Failed = is in cc)
    unread Refused is = absurd (let e : Refused ≡ Failed = is in cc)
    unread Failed is = nothing_written zone input o o' none

pub if_some : {X : Type 0} (o : Option X) (P Q : X → Type 0) → IfSome o P → ((x : X) → P x → Q x) → IfSome o Q
if_some None P Q h f = tt
if_some (Some x) P Q h f = f x h
