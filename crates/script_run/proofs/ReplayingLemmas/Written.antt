-- Lemmas that a writer received the text of a query's rows and the last line that a script prints
-- after them. If a write failed, it received a beginning of this text.
use Rattle.std.proofs.Common.{◌≡◌, ◌+◌, ◌≤◌, ℕ, true, false, Option, List, ◌++◌, length, sym, ap, subst, ◌∙◌, arith}
use Rattle.std.specs.List.{flat_map}
use Rattle.std.specs.Io.KnownBytes.{Appends}
use Rattle.std.specs.Prelude.{Result, Ok, Err}
use Rattle.office_books.specs.Rows.{TakesAll}
use Rattle.script_text.proofs.Got.{got_both}
use Rattle.sun_points.specs.Writing.{GotPart, GotText}
use Rattle.energy_report.specs.RowLines.{counted}
use Rattle.energy_report.specs.declared.row_lines.RowLines.{RowLines}
use Rattle.energy_report.proofs.RowLinesLemmas.{Fits, TakesLine, all_written, longer}

-- If writing the rows of a query fails, the writer received a beginning of the text of all rows and
-- the last line.
pub got_part : {W T E : Type 0} (contents : W → Option (List ℕ)) (line : T → List ℕ) (rows : List T) (last : List ℕ)
    (from to : RowLines W) (error : E) (o o' : W) → from.failed ≡ false → from.count ≡ 0 → TakesAll (TakesLine contents line) from rows to
    → to.failed ≡ true → from.output.now ≡ o → o' ≡ to.output.now
    → GotText {X = Unit {0}} (Err error) (flat_map line rows ++ last) (contents o) (contents o')
got_part contents line rows last from to error o o' works none took failed start end =
    let wrote = all_written contents line rows from to works (subst Fits (sym none) (omega arith)) took in
    let part : GotPart (flat_map line rows ++ last) (contents from.output.now) (contents to.output.now) =
    longer (flat_map line rows) last _ _ (wrote.part failed) in
    let begun : GotPart (flat_map line rows ++ last) (contents o) (contents to.output.now) = rw (sym start) part in
    rw end begun

pub got_all : {W T X E : Type 0} (contents : W → Option (List ℕ)) (line : T → List ℕ) (rows : List T) (last : ℕ → List ℕ)
    (from to : RowLines W) (result : Result X E) (o o' : W) → from.failed ≡ false → from.count ≡ 0
    → TakesAll (TakesLine contents line) from rows to → to.failed ≡ false → from.output.now ≡ o
    → GotText result (last to.count) (contents to.output.now) (contents o')
    → GotText result (flat_map line rows ++ last (counted (length rows))) (contents o) (contents o')
got_all contents line rows last from to result o o' works none took still start got =
    let wrote = all_written contents line rows from to works (subst Fits (sym none) (omega arith)) took in
    let whole = wrote.whole still in
    let count : to.count ≡ counted (length rows) =
    whole.1 ∙ ap (λ n. counted (n + length rows)) none ∙ ap counted (let e : 0 + length rows ≡ length rows = omega arith in e) in
    let first : Appends (contents o) (contents to.output.now) (flat_map line rows) = rw (sym start) whole.0 in
    got_both result _ _ _ (flat_map line rows) (last to.count) _ first got (ap (λ n. flat_map line rows ++ last n) count)
