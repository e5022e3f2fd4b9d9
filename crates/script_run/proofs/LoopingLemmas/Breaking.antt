-- Lemmas: if the run of a loop (a script with simulated devices) is interrupted, because a write
-- failed or memory ran out, the writer received a beginning of the run's output.
use Rattle.std.proofs.Common.{inl, inr, ℕ, Bool, List, [], ◌++◌, Option, refl, sym, ◌∙◌, ap, append_assoc}
use Rattle.std.specs.Prelude.{Result, Ok, Err, IsErr, true, false}
use Rattle.std.specs.Io.KnownBytes.{Appends}
use Rattle.std.specs.declared.io.Error.{Error}
use Rattle.std.proofs.KnownBytes.{Appends-nil, Appends-trans}
use Rattle.memory_books.specs.Listed.{ledger_of}
use Rattle.memory_books.specs.declared.list_books.ListBooks.{ListBooks}
use Rattle.office_core.specs.Standing.{Stands}
use Rattle.office_core.specs.declared.office.Office.{Office}
use Rattle.office_books.specs.History.{History}
use Rattle.script_run.specs.Looping.Standings.{Begins, Carries, CarriesOut, LoopStage, LoopState, stage_on}
use Rattle.script_run.specs.Looping.TextRun.{LineRuns}
use Rattle.script_run.specs.Replaying.Stages.{Stage}
use Rattle.script_run.specs.Replaying.TextRun.{stage_of}
use Rattle.sun_points.specs.Writing.{GotPart}

pub begins_as : (P Q : List ℕ → Type 0) (o o' : Option (List ℕ)) → ((printed : List ℕ) → P printed → Q printed) → Begins P o o' → Begins Q o o'
begins_as P Q o o' turn (inl nothing) = inl nothing
begins_as P Q o o' turn (inr (printed, prints, got)) = inr (printed, turn printed prints, got)

-- If a writer received the text `first` and then a beginning of the text `second`, then it received
-- a beginning of `first ++ second`.
pub part_after : (o m o' : Option (List ℕ)) (first second : List ℕ) → Appends o m first → GotPart second m o' → GotPart (first ++ second) o o'
part_after o m o' first second appended (part, unwritten, whole, written) = (
  first ++ part,
  unwritten,
  ap (λ (more : List ℕ). first ++ more) whole ∙ sym (append_assoc first part unwritten),
  Appends-trans o m o' first part appended written,
)

-- If what a writer received is a prefix of a text, it is also a prefix of every longer text that
-- begins with this text.
pub part_of_longer : (o o' : Option (List ℕ)) (text more : List ℕ) → GotPart text o o' → GotPart (text ++ more) o o'
part_of_longer o o' text more (part, unwritten, whole, written) =
    (part, unwritten ++ more, ap (λ (front : List ℕ). front ++ more) whole ∙ append_assoc part unwritten more, written)

-- If a writer received no bytes, then it received a beginning of any text.
pub part_of_none : (o o' : Option (List ℕ)) (text : List ℕ) → Appends o o' [] → GotPart text o o'
part_of_none o o' text nothing = ([], text, refl, nothing)

pub none_yet : (o : Option (List ℕ)) (text : List ℕ) → GotPart text o o
none_yet o text = part_of_none o o text (Appends-nil o)

-- Suppose that a call returns an error after only a beginning of its output was written. If the
-- caller returns this error, the caller satisfies its own contract.
pub breaks : {X E : Type 0} (r : Result X E) (P : X → Stage → List ℕ → Stage → Type 0) (office office' : Office ListBooks)
    (o o' : Option (List ℕ)) → IsErr r
    → ((past : History) → Stands ledger_of past office → Begins (λ printed. (x : X) × (next : Stage) × P x (stage_of past office) printed next) o o')
    → Carries r P office office' o o'
breaks (Ok x) P office office' o o' failed begins = absurd (cc)
breaks (Err error) P office office' o o' failed begins = begins

pub breaks_out : {X E : Type 0} (r : Result X E) (P : X → LoopStage → List ℕ → LoopStage → Type 0) (from to : LoopState) → IsErr r
    → ((past : History) → Stands ledger_of past from.office
    → Begins (λ printed. (x : X) × (next : LoopStage) × P x (stage_on past from) printed next) from.output to.output)
    → CarriesOut r P from to
breaks_out (Ok x) P from to failed begins = absurd (cc)
breaks_out (Err error) P from to failed begins = begins

pub breaks_line : (r : Result Bool Error) (P : LoopStage → List ℕ → LoopStage → Type 0) (Wrong : Type 0) (from to : LoopState) → IsErr r
    → ((past : History) → Stands ledger_of past from.office
    → Begins (λ printed. (next : LoopStage) × P (stage_on past from) printed next) from.output to.output)
    → LineRuns r P Wrong from to
breaks_line (Ok true) P Wrong from to failed begins = absurd (cc)
breaks_line (Ok false) P Wrong from to failed begins = absurd (cc)
breaks_line (Err error) P Wrong from to failed begins = begins
