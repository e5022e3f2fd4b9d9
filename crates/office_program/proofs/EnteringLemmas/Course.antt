-- Properties of the state of a command that processes the lines of an input: after one more line,
-- and at the end of the input.
use Rattle.std.proofs.Common.{◌≡◌, inl, inr, ℕ, List, [], ◌∷◌, ◌++◌, Option, Result, Ok, Err, refl, sym, ap, subst, ◌∙◌, append-nil}
use Rattle.std.specs.Io.KnownBytes.{Appends}
use Rattle.std.proofs.KnownBytes.{Appends-nil, Appends-trans}
use Rattle.sun_points.specs.Writing.{GotPart}
use Rattle.script_text.specs.AnswerText.{bad_line}
use Rattle.script_text.proofs.Got.{got_both}
use Rattle.command_io.specs.Lines.{Line}
use Rattle.command_io.specs.declared.status.ExitStatus.{ExitStatus}
use Rattle.command_io.specs.declared.status.ExitStatus.TheVariants.{Fine, Refused, Failed}
use Rattle.office_books.specs.History.{History}
use Rattle.office_books.specs.declared.failures.Failures.{Failures}
use Rattle.office_books.specs.Ledgers.{Ledger}
use Rattle.office_core.specs.Standing.{Stands}
use Rattle.office_core.specs.declared.office.Office.{Office}
use Rattle.office_program.specs.Rounds.{RoundState}
use Rattle.office_program.specs.declared.entering.progress.Progress.{Progress}
use Rattle.office_program.specs.Entering.Course.{AreAnswered, AreTaken, AreTimed, Came, Comes, EntersLine, IsUntouched, Taken, Takes, TakesLine, came_text, history_with, lines_with, progress_of, text_after}
use Rattle.office_program.specs.Entering.Entered.{EntersLines, IsStopped, status_of}
use Rattle.office_program.specs.Entering.Lines.{Reporting}

-- The state of a command that enters an input (a text of request lines), between two of its lines:
-- some lines were processed, and the lines `rest` remain.
pub record Underway {B : Type 0} (ledger : B → Ledger) (reports : Reporting) (caller : Option (List ℕ)) (lines rest : List Line) (past : History) (first : ℕ)
    (begun now : RoundState) (progress : Progress) (office : Office B) : Type 0 where
  pub taken : List Taken
  pub are : AreTaken ledger reports caller past first begun now office taken
  pub follow : lines ≡ lines_with taken rest
  pub printed : Appends begun.printed now.printed (text_after past taken)
  pub come : progress ≡ progress_of first taken

-- Before the first line of an input (a text of request lines), no line was processed and nothing
-- was printed, so the loop invariant `Underway` holds.
pub begins : {B : Type 0} (ledger : B → Ledger) (reports : Reporting) (caller : Option (List ℕ)) (lines rest : List Line) (past : History) (first : ℕ)
    (begun : RoundState) (progress : Progress) (office : Office B) → Stands ledger past office → rest ≡ lines → progress ≡ progress_of first []
    → Underway ledger reports caller lines rest past first begun begun progress office
begins ledger reports caller lines rest past first begun progress office stands is come = record {
  taken = [];
  are = record { stands = stands; each = tt; answered = refl; timed = refl };
  follow = sym is;
  printed = Appends-nil begun.printed;
  come = come;
}

-- If a list of input lines was processed and then one more line, then the contract `AreTaken` (for
-- processed lines) holds for the list with this line.
adds : {B : Type 0} (ledger : B → Ledger) (reports : Reporting) (caller : Option (List ℕ)) (past : History) (first : ℕ) (begun was now : RoundState)
    (old new : Office B) (taken : List Taken) (line : Line) (came : Came) → AreTaken ledger reports caller past first begun was old taken → Comes reports caller (history_with past taken) line.text came
    → Takes ledger (history_with past taken) (progress_of first taken).latest was now new came
    → AreTaken ledger reports caller past first begun now new (record { line = line; came = came } ∷ taken)
adds ledger reports caller past first begun was now old new taken line came are comes takes = record {
  stands = takes.stands;
  each = (comes, are.each);
  answered = (was.failures, are.answered, takes.answered);
  timed = (was.moments, are.timed, takes.timed);
}

pub one_more : {B : Type 0} (ledger : B → Ledger) (reports : Reporting) (caller : Option (List ℕ)) (lines rest left : List Line) (past : History) (first : ℕ)
    (begun was now : RoundState) (progress next : Progress) (old new : Office B) (line : Line)
    → (under : Underway ledger reports caller lines rest past first begun was progress old) → rest ≡ line ∷ left
    → EntersLine ledger reports caller line (history_with past under.taken) progress was now old new (Ok next)
    → Underway ledger reports caller lines left past first begun now next new
one_more {B = B} ledger reports caller lines rest left past first begun was now progress next old new line under is enters =
    let taken = under.taken in
    let history = history_with past taken in
    let P : Progress → Type 0 = λ p. EntersLine ledger reports caller line history p was now old new (Ok next) in
    let done = subst P under.come enters in
    record {
      taken = record { line = line; came = done.0 } ∷ taken;
      are = adds ledger reports caller past first begun was now old new taken line done.0 under.are done.1 done.2.takes;
      follow = under.follow ∙ ap (lines_with taken) is;
      printed = Appends-trans begun.printed was.printed now.printed (text_after past taken) (came_text history done.0) under.printed done.2.text;
      come = done.2.next;
    }

-- If an input line made no request, then the office (the event engine) is still in the state after
-- the lines that were processed before.
untouched : {B : Type 0} (ledger : B → Ledger) (reports : Reporting) (caller : Option (List ℕ)) (past : History) (first : ℕ) (begun was now : RoundState)
    (old new : Office B) (taken : List Taken) → AreTaken ledger reports caller past first begun was old taken → IsUntouched was now old new
    → AreTaken ledger reports caller past first begun now new taken
untouched {B = B} ledger reports caller past first begun was now old new taken are stays =
    let P : Office B → Type 0 = λ o. Stands ledger (history_with past taken) o in
    let Q : Failures → Type 0 = λ n. AreAnswered past begun.failures n taken in
    let R : Option (List ℕ) → Type 0 = λ m. AreTimed first begun.moments m taken in
    record {
      stands = subst P (sym stays.office) are.stands;
      each = are.each;
      answered = subst Q (sym stays.failures) are.answered;
      timed = subst R (sym stays.moments) are.timed;
    }

-- If a first text was printed completely and then a second text in part, then the two texts
-- together were printed in part.
then_part : (a b c : Option (List ℕ)) (x y : List ℕ) → Appends a b x → GotPart y b c → GotPart (x ++ y) a c
then_part a b c x y whole part =
    let r : Result (Unit {0}) (Unit {0}) = Err tt in got_both r a b c x y (x ++ y) whole part refl

then_nothing : (a b c : Option (List ℕ)) (x : List ℕ) → Appends a b x → Appends b c [] → GotPart x a c
then_nothing a b c x whole none =
    (x ++ [], [], sym (append-nil x) ∙ sym (append-nil (x ++ [])), Appends-trans a b c x [] whole none)

-- If an input line is bad or a failure ends the command, the result of entering the input (a text
-- of request lines) satisfies `EntersLines`, its contract.
pub ends_early : {B : Type 0} (ledger : B → Ledger) (reports : Reporting) (caller : Option (List ℕ)) (lines rest left : List Line) (past : History) (first : ℕ)
    (begun was now : RoundState) (progress : Progress) (old new : Office B) (line : Line) (status : ExitStatus)
    → (under : Underway ledger reports caller lines rest past first begun was progress old) → rest ≡ line ∷ left
    → EntersLine ledger reports caller line (history_with past under.taken) progress was now old new (Err status)
    → EntersLines ledger reports caller lines first begun now new status past
ends_early ledger reports caller lines rest left past first begun was now progress old new line Fine under is enters = absurd enters
ends_early ledger reports caller lines rest left past first begun was now progress old new line Refused under is enters =
    let taken = under.taken in
    let stopped : IsStopped reports lines taken =
    record { line = line; rest = left; follow = under.follow ∙ ap (lines_with taken) is; bad = enters.1 } in
    record {
      taken = taken;
      are = untouched ledger reports caller past first begun was now old new taken under.are enters.0;
      ends = inr (inl (record {
        stopped = stopped;
        printed = Appends-trans begun.printed was.printed now.printed (text_after past taken) (bad_line line.number) under.printed enters.2;
        means = refl;
      }));
    }
ends_early ledger reports caller lines rest left past first begun was now progress old new line Failed under is (inl cut) =
    let taken = under.taken in
    let history = history_with past taken in
    let P : Progress → Type 0 = λ p. TakesLine {E = ExitStatus} ledger history p was now new (Err Failed) cut.0 in
    let takes = subst P under.come cut.2 in
    record {
      taken = record { line = line; came = cut.0 } ∷ taken;
      are = adds ledger reports caller past first begun was now old new taken line cut.0 under.are cut.1 takes.takes;
      ends = inr (inr (record {
        rest = left;
        follow = under.follow ∙ ap (lines_with taken) is;
        printed = inl (then_part begun.printed was.printed now.printed (text_after past taken) (came_text history cut.0) under.printed takes.text);
        means = refl;
      }));
    }
ends_early ledger reports caller lines rest left past first begun was now progress old new line Failed under is (inr (inl bad)) =
    let taken = under.taken in
    let follows = under.follow ∙ ap (lines_with taken) is in
    let stopped : IsStopped reports lines taken = record { line = line; rest = left; follow = follows; bad = bad.1 } in
    record {
      taken = taken;
      are = untouched ledger reports caller past first begun was now old new taken under.are bad.0;
      ends = inr (inr (record {
        rest = line ∷ left;
        follow = follows;
        printed = inr (stopped, then_part begun.printed was.printed now.printed (text_after past taken) (bad_line line.number) under.printed bad.2);
        means = refl;
      }));
    }
ends_early ledger reports caller lines rest left past first begun was now progress old new line Failed under is (inr (inr none)) =
    let taken = under.taken in
    record {
      taken = taken;
      are = untouched ledger reports caller past first begun was now old new taken under.are none.0;
      ends = inr (inr (record {
        rest = line ∷ left;
        follow = under.follow ∙ ap (lines_with taken) is;
        printed = inl (then_nothing begun.printed was.printed now.printed (text_after past taken) under.printed none.1);
        means = refl;
      }));
    }

-- If the last input line was processed, then the result of entering the input (a text of request
-- lines) satisfies `EntersLines`, the contract for all lines.
pub ends_whole : {B : Type 0} (ledger : B → Ledger) (reports : Reporting) (caller : Option (List ℕ)) (lines rest : List Line) (past : History) (first : ℕ)
    (begun now : RoundState) (progress : Progress) (office : Office B) (status : ExitStatus)
    → Underway ledger reports caller lines rest past first begun now progress office → rest ≡ [] → status ≡ status_of progress
    → EntersLines ledger reports caller lines first begun now office status past
ends_whole ledger reports caller lines rest past first begun now progress office status under is means = record {
  taken = under.taken;
  are = under.are;
  ends = inl (record {
    follow = under.follow ∙ ap (lines_with under.taken) is;
    printed = under.printed;
    means = means ∙ ap status_of under.come;
  });
}
