-- Lemmas: the output of a script with simulated devices is the output of its lines in order.
use Rattle.std.proofs.Common.{◌≡◌, ◌⊎◌, inl, inr, ℕ, Bool, false, Option, ap, ◌∙◌, List, [], ◌∷◌, ◌++◌, refl, sym, subst, append_assoc, append-nil, arith, ◌<◌, ◌≤◌, length}
use Rattle.std.specs.Io.KnownBytes.{Appends}
use Rattle.std.proofs.KnownBytes.{Appends-nil, Appends-trans}
use Rattle.command_io.specs.Input.{EndsUnread, ReportsTooLong, most_bytes, too_long}
use Rattle.command_io.specs.Lines.{Line, speaking_lines}
use Rattle.command_io.specs.declared.status.ExitStatus.{ExitStatus}
use Rattle.command_io.specs.declared.status.ExitStatus.TheVariants.{Fine, Refused, Failed}
use Rattle.interval_core.specs.declared.zone.Zone.{Zone}
use Rattle.office_core.specs.Standing.{Stands}
use Rattle.memory_books.specs.Listed.{ledger_of}
use Rattle.office_books.specs.History.{History}
use Rattle.script_run.specs.Bank.Settings.{AreUnset}
use Rattle.mb_device.specs.Maps.{Maps}
use Rattle.office_core.specs.declared.office.Office.{Office}
use Rattle.office_events.specs.declared.refusals.Refusal.{Refusal}
use Rattle.office_events.specs.declared.refusals.Refusal.TheVariants as refusal
use Rattle.memory_books.specs.declared.list_books.ListBooks.{ListBooks}
use Rattle.script_run.specs.Replaying.TextRun.{stage_of}
use Rattle.script_run.specs.Replaying.Stages.{Stage, beginning}
use Rattle.script_text.specs.AnswerText.{bad_line, refused_line}
use Rattle.script_text.specs.LineWords.Words.{words_of}
use Rattle.script_run.specs.Looping.Lines.{AreWrong, WordsPrint}
use Rattle.script_run.specs.Looping.Loops.{InputBegins, InputPrints, LineBegins, LoopBegins, LoopPrints, TextPrints}
use Rattle.script_run.specs.Looping.TextRun.{InputRuns, LinesRun, ReportsText, TextRuns}
use Rattle.script_run.specs.Looping.Standings.{Begins, CarriedOut, LoopState, LoopStage, loop_state, stage_on}
use Rattle.script_run.specs.Replaying.Lines.{BeginsText}
use Rattle.script_run.specs.Replaying.Scripts.{no_office}
use Rattle.script_run.specs.Replaying.TextRun.{Writes}
use Rattle.sun_points.specs.Writing.{GotPart}

-- Loop invariant: the output of all script lines is the output so far, followed by the output of
-- the remaining lines. This is also true for the output of an interrupted run.
pub record SoFar (begin : LoopStage) (all : List Line) (now : LoopStage) (lines : List Line) (printed : List ℕ) : Type 0 where
  pub prints : (rest : List ℕ) (status : ExitStatus) → LoopPrints now lines rest status → LoopPrints begin all (printed ++ rest) status
  pub begins : (part : List ℕ) → LoopBegins now lines part → LoopBegins begin all (printed ++ part)

-- States that all lines of a script (a text of commands, events and queries) before `lines` were
-- executed and their output was written. `here` is the script's state after them.
pub record Ran (begin : LoopStage) (all lines : List Line) (output : Option (List ℕ)) (here : LoopState) : Type 0 where
  pub printed : List ℕ
  pub past : History
  pub appended : Appends output here.output printed
  pub stands : Stands ledger_of past here.office
  pub so_far : SoFar begin all (stage_on past here) lines printed

pub from_start : (past : History) (all lines : List Line) (here : LoopState) → lines ≡ all → Stands ledger_of past here.office
    → Ran (stage_on past here) all lines here.output here
from_start past all lines here same stands = record {
  printed = [];
  past = past;
  appended = Appends-nil here.output;
  stands = stands;
  so_far = record {
    prints = λ rest status more. subst (λ (ls : List Line). LoopPrints (stage_on past here) ls rest status) same more;
    begins = λ part more. subst (λ (ls : List Line). LoopBegins (stage_on past here) ls part) same more;
  };
}

pub one_more : (begin : LoopStage) (all lines left : List Line) (first : Line) (output : Option (List ℕ)) (here there : LoopState)
    → lines ≡ first ∷ left → (ran : Ran begin all lines output here) → CarriedOut (WordsPrint (words_of first.text)) ran.past here there
    → Ran begin all left output there
one_more begin all lines left first output here there at ran done = record {
  printed = ran.printed ++ done.printed;
  past = done.after;
  appended = Appends-trans output here.output there.output ran.printed done.printed ran.appended done.appended;
  stands = done.stands;
  so_far = record {
    prints = λ rest status more.
        subst (λ (text : List ℕ). LoopPrints begin all text status) (sym (append_assoc ran.printed done.printed rest))
        (ran.so_far.prints (done.printed ++ rest) status
        (subst (λ (ls : List Line). LoopPrints (stage_on ran.past here) ls (done.printed ++ rest) status) (sym at)
        (inr (done.printed, rest, stage_on done.after there, done.prints, more, refl))));
    begins = λ part more.
        subst (λ (text : List ℕ). LoopBegins begin all text) (sym (append_assoc ran.printed done.printed part))
        (ran.so_far.begins (done.printed ++ part)
        (subst (λ (ls : List Line). LoopBegins (stage_on ran.past here) ls (done.printed ++ part)) (sym at)
        (inr (done.printed, part, stage_on done.after there, done.prints, more, refl))));
  };
}

pub ended : (begin : LoopStage) (all lines : List Line) (output : Option (List ℕ)) (here : LoopState) → lines ≡ []
    → (ran : Ran begin all lines output here) → LoopPrints begin all ran.printed Fine
ended begin all lines output here at ran =
    subst (λ (text : List ℕ). LoopPrints begin all text Fine) (append-nil ran.printed)
    (ran.so_far.prints [] Fine (subst (λ (ls : List Line). LoopPrints (stage_on ran.past here) ls [] Fine) (sym at) (refl, refl)))

pub ended_badly : (begin : LoopStage) (all lines left : List Line) (bad : Line) (output : Option (List ℕ)) (here : LoopState)
    → lines ≡ bad ∷ left → AreWrong here.connected (words_of bad.text) → (ran : Ran begin all lines output here)
    → LoopPrints begin all (ran.printed ++ bad_line bad.number) Refused
ended_badly begin all lines left bad output here at wrong ran =
    ran.so_far.prints (bad_line bad.number) Refused
    (subst (λ (ls : List Line). LoopPrints (stage_on ran.past here) ls (bad_line bad.number) Refused) (sym at) (inl (wrong, refl, refl)))

begun_line : (begin : LoopStage) (all lines left : List Line) (first : Line) (output : Option (List ℕ)) (here : LoopState) (part : List ℕ)
    → lines ≡ first ∷ left → (ran : Ran begin all lines output here) → LineBegins (stage_on ran.past here) first part
    → LoopBegins begin all (ran.printed ++ part)
begun_line begin all lines left first output here part at ran begins =
    ran.so_far.begins part (subst (λ (ls : List Line). LoopBegins (stage_on ran.past here) ls part) (sym at) (inl begins))

-- If a line is malformed or not allowed at its position, then the script prints `bad line N` and
-- its run ends.
pub stopped : (status : ExitStatus) (past : History) (all lines left : List Line) (bad : Line) (from here : LoopState) (m o' : Option (List ℕ))
    → lines ≡ bad ∷ left → AreWrong here.connected (words_of bad.text) × Appends here.output m [] → ReportsText (bad_line bad.number) status m o'
    → Ran (stage_on past from) all lines from.output here
    → Writes (LoopPrints (stage_on past from) all) (LoopBegins (stage_on past from) all) status from.output o'
stopped Fine past all lines left bad from here m o' at wrong reported ran = absurd reported
stopped Refused past all lines left bad from here m o' at wrong reported ran = (
  ran.printed ++ bad_line bad.number,
  Appends-trans from.output here.output o' ran.printed (bad_line bad.number) ran.appended
      (Appends-trans here.output m o' [] (bad_line bad.number) wrong.1 reported),
  ended_badly (stage_on past from) all lines left bad from.output here at wrong.0 ran,
)
stopped Failed past all lines left bad from here m o' at wrong (part, unwritten, whole, written) ran = (
  ran.printed ++ part,
  Appends-trans from.output here.output o' ran.printed part ran.appended (Appends-trans here.output m o' [] part wrong.1 written),
  begun_line (stage_on past from) all lines left bad from.output here part at ran
      (inr (bad_line bad.number, (unwritten, whole), inl (wrong.0, refl))),
)

-- If a failed write interrupts the output of a script line, then the run of the script (a text of
-- commands, events and queries) ends. The writer received a beginning of the script's output.
pub broken : (past : History) (all lines left : List Line) (first : Line) (from here : LoopState) (o' : Option (List ℕ))
    → lines ≡ first ∷ left → (ran : Ran (stage_on past from) all lines from.output here)
    → Begins (λ printed. (next : LoopStage) × WordsPrint (words_of first.text) (stage_on ran.past here) printed next) here.output o'
    → Writes (LoopPrints (stage_on past from) all) (LoopBegins (stage_on past from) all) Failed from.output o'
broken past all lines left first from here o' at ran (inl nothing) = (
  ran.printed ++ [],
  Appends-trans from.output here.output o' ran.printed [] ran.appended nothing,
  begun_line (stage_on past from) all lines left first from.output here [] at ran (inl refl),
)
broken past all lines left first from here o' at ran (inr (printed, (next, prints), (part, unwritten, whole, written))) = (
  ran.printed ++ part,
  Appends-trans from.output here.output o' ran.printed part ran.appended written,
  begun_line (stage_on past from) all lines left first from.output here part at ran (inr (printed, (unwritten, whole), inr (next, prints))),
)

-- If all lines of a script are run, starting with an empty store and a simulator without addresses,
-- then the run satisfies its specification.
pub text_from : (status : ExitStatus) (zone : Zone) (past : History) (text : List ℕ) (office : Office ListBooks) (maps : Maps) (o o' : Option (List ℕ))
    → AreUnset maps → stage_of past office ≡ beginning zone → Stands ledger_of past office → LinesRun status text (loop_state office maps false o) o'
    → TextRuns zone text status o o'
text_from Fine zone past text office maps o o' unset same stands runs =
    let ran = runs past stands in
    let P : Stage → Type 0 = λ s. LoopPrints (record { script = s; maps = maps; connected = false }) (speaking_lines text) ran.0 Fine in
    (ran.0, ran.1, inr (maps, unset, subst P same ran.2))
text_from Refused zone past text office maps o o' unset same stands runs =
    let ran = runs past stands in
    let P : Stage → Type 0 = λ s. LoopPrints (record { script = s; maps = maps; connected = false }) (speaking_lines text) ran.0 Refused in
    (ran.0, ran.1, inr (maps, unset, subst P same ran.2))
text_from Failed zone past text office maps o o' unset same stands runs =
    let ran = runs past stands in
    let P : Stage → Type 0 = λ s. LoopBegins (record { script = s; maps = maps; connected = false }) (speaking_lines text) ran.0 in
    (ran.0, ran.1, inr (maps, unset, subst P same ran.2))

pub not_opened : (status : ExitStatus) (why : Refusal) (zone : Zone) (text : List ℕ) (o o' : Option (List ℕ)) → why ≡ refusal.Memory
    → ReportsText (refused_line why) status o o' → TextRuns zone text status o o'
not_opened Fine why zone text o o' is reported = absurd reported
not_opened Refused why zone text o o' is reported = (refused_line why, reported, inl (ap refused_line is, refl))
not_opened Failed why zone text o o' is (part, unwritten, whole, written) =
    (part, written, inl (unwritten, ap refused_line (sym is) ∙ whole))

-- A run that fails before it writes any bytes satisfies the specification of a failed run.
pub nothing_run : (zone : Zone) (text : List ℕ) (o : Option (List ℕ)) → TextRuns zone text Failed o o
nothing_run zone text o = ([], Appends-nil o, inl (no_office, refl))

-- If a script's input has at most `most_bytes` bytes (the greatest length that is executed), the
-- output for the input is the output of its lines.
short_prints : (zone : Zone) (input printed : List ℕ) (status : ExitStatus) → length input ≤ most_bytes → TextPrints zone input printed status
    → InputPrints zone input printed status
short_prints zone input printed status short prints =
    record { long = λ long. absurd (omega (arith, short, long)); text = λ fits. prints }

pub text_ran : (zone : Zone) (text input : List ℕ) (status : ExitStatus) (o o' : Option (List ℕ)) → text ≡ input → length text ≤ most_bytes
    → TextRuns zone text status o o' → InputRuns zone input status o o'
text_ran zone text input status o o' same short runs =
    let P : List ℕ → Type 0 = λ input. InputRuns zone input status o o' in
    subst P same (ran zone text status o o' short runs)
  where
    ran : (zone : Zone) (text : List ℕ) (status : ExitStatus) (o o' : Option (List ℕ)) → length text ≤ most_bytes
        → TextRuns zone text status o o' → InputRuns zone text status o o'
    ran zone text Fine o o' short runs = (runs.0, runs.1, short_prints zone text runs.0 Fine short runs.2)
    ran zone text Refused o o' short runs = (runs.0, runs.1, short_prints zone text runs.0 Refused short runs.2)
    ran zone text Failed o o' short runs =
        (runs.0, runs.1, record { long = λ long. absurd (omega (arith, short, long)); text = λ fits. runs.2 })

none_begun : (zone : Zone) (input : List ℕ) → InputBegins zone input []
none_begun zone input = record { long = λ long. (too_long, refl); text = λ short. inl (no_office, refl) }

-- A script run (an execution of command lines) satisfies its specification `InputRuns` in two
-- cases. Its input is too long, and it prints `too long`. Or reading the input fails, and the run
-- fails.
pub unread_ran : (zone : Zone) (input : List ℕ) (status : ExitStatus) (o o' : Option (List ℕ)) → EndsUnread input status o o'
    → InputRuns zone input status o o'
unread_ran zone input Fine o o' (inl long) = absurd long.1
unread_ran zone input Refused o o' (inl long) =
    (too_long, long.1, record { long = λ again. (refl, refl); text = λ short. absurd (omega (arith, short, long.0)) })
unread_ran zone input Failed o o' (inl (long, (part, unwritten, whole, written))) =
    (part, written, record { long = λ again. (unwritten, whole); text = λ short. absurd (omega (arith, short, long)) })
unread_ran zone input Fine o o' (inr unread) = absurd (let e : Fine ≡ Failed = unread.0 in cc)
unread_ran zone input Refused o o' (inr unread) = absurd (let e : Refused ≡ Failed = unread.0 in cc)
unread_ran zone input Failed o o' (inr unread) = ([], unread.1, none_begun zone input)
