-- Lemmas: the lines that set up a simulated device are executed in order, and give the output that
-- their specification defines.
use Rattle.std.proofs.Common.{◌≡◌, inl, inr, ℕ, Option, List, [], ◌∷◌, ◌++◌, refl, sym, subst, append_assoc, append-nil}
use Rattle.std.specs.Prelude.{Result, Ok, Err}
use Rattle.std.specs.Io.KnownBytes.{Appends}
use Rattle.std.proofs.KnownBytes.{Appends-nil, Appends-trans}
use Rattle.command_io.specs.Lines.{Line, speaking_lines}
use Rattle.command_io.specs.declared.status.ExitStatus.{ExitStatus}
use Rattle.command_io.specs.declared.status.ExitStatus.TheVariants.{Fine, Refused, Failed}
use Rattle.script_text.specs.AnswerText.{bad_line}
use Rattle.script_run.specs.Bank.Settings.{Setting, takes}
use Rattle.script_run.specs.Bank.Texts.{SetUpBegins, SetsUp, taken_text}
use Rattle.script_run.specs.Bank.Running.{LineRan, LineRuns, TextRuns}

-- Loop invariant: the output of all setup lines of a simulated device is the output so far,
-- followed by the output of the remaining lines. This is also true for the output of an interrupted
-- run.
pub record SoFar (start : Setting) (all : List Line) (now : Setting) (lines : List Line) (printed : List ℕ) : Type 0 where
  pub prints : (rest : List ℕ) (ended : Result Setting ExitStatus) → SetsUp now lines rest ended → SetsUp start all (printed ++ rest) ended
  pub begins : (part : List ℕ) → SetUpBegins now lines part → SetUpBegins start all (printed ++ part)

pub record Ran (start : Setting) (all : List Line) (now : Setting) (lines : List Line) (o o' : Option (List ℕ)) : Type 0 where
  pub printed : List ℕ
  pub appended : Appends o o' printed
  pub so_far : SoFar start all now lines printed

pub begun : (start : Setting) (all lines : List Line) (o : Option (List ℕ)) → lines ≡ all → Ran start all start lines o o
begun start all lines o same = record {
  printed = [];
  appended = Appends-nil o;
  so_far = record {
    prints = λ rest ended sets. subst (λ (ls : List Line). SetsUp start ls rest ended) same sets;
    begins = λ part begins. subst (λ (ls : List Line). SetUpBegins start ls part) same begins;
  };
}

pub one_more : (start : Setting) (all : List Line) (now next : Setting) (lines left : List Line) (first : Line) (o m o' : Option (List ℕ))
    → lines ≡ first ∷ left → LineRan now first next m o' → Ran start all now lines o m → Ran start all next left o o'
one_more start all now next lines left first o m o' at ran before =
    let here = taken_text (takes now.maps ran.said) in
    record {
      printed = before.printed ++ here;
      appended = Appends-trans o m o' before.printed here before.appended ran.appended;
      so_far = record {
        prints = λ rest ended sets.
            subst (λ (text : List ℕ). SetsUp start all text ended) (sym (append_assoc before.printed here rest))
            (before.so_far.prints (here ++ rest) ended
            (subst (λ (ls : List Line). SetsUp now ls (here ++ rest) ended) (sym at)
            (inr (ran.said, ran.is, (rest, refl, subst (λ (s : Setting). SetsUp s left rest ended) ran.after sets)))));
        begins = λ part begins.
            subst (λ (text : List ℕ). SetUpBegins start all text) (sym (append_assoc before.printed here part))
            (before.so_far.begins (here ++ part)
            (subst (λ (ls : List Line). SetUpBegins now ls (here ++ part)) (sym at)
            (inr (ran.said, ran.is, (part, refl, subst (λ (s : Setting). SetUpBegins s left part) ran.after begins)))));
      };
    }

pub all_ran : (start : Setting) (text : List ℕ) (now : Setting) (lines : List Line) (o o' : Option (List ℕ)) → lines ≡ []
    → Ran start (speaking_lines text) now lines o o' → TextRuns start text (Ok tt) now o o'
all_ran start text now lines o o' at before = record {
  printed = before.printed;
  appended = before.appended;
  prints = subst (λ (printed : List ℕ). SetsUp start (speaking_lines text) printed (Ok now)) (append-nil before.printed)
      (before.so_far.prints [] (Ok now) (subst (λ (ls : List Line). SetsUp now ls [] (Ok now)) (sym at) (refl, refl)));
}

pub stopped_by : (start : Setting) (text : List ℕ) (now next : Setting) (lines left : List Line) (first : Line) (status : ExitStatus)
    (o m o' : Option (List ℕ)) → lines ≡ first ∷ left → LineRuns now first (Err status) next m o'
    → Ran start (speaking_lines text) now lines o m → TextRuns start text (Err status) next o o'
stopped_by start text now next lines left first Fine o m o' at runs before = absurd runs
stopped_by start text now next lines left first Refused o m o' at runs before = record {
  printed = before.printed ++ bad_line first.number;
  appended = Appends-trans o m o' before.printed (bad_line first.number) before.appended runs.1;
  prints = before.so_far.prints (bad_line first.number) (Err Refused)
      (subst (λ (ls : List Line). SetsUp now ls (bad_line first.number) (Err Refused)) (sym at) (inl (runs.0, refl, refl)));
}
stopped_by start text now next lines left first Failed o m o' at runs before = record {
  printed = before.printed ++ runs.printed;
  appended = Appends-trans o m o' before.printed runs.printed before.appended runs.appended;
  prints = before.so_far.begins runs.printed (subst (λ (ls : List Line). SetUpBegins now ls runs.printed) (sym at) (inl runs.prints));
}
