-- Lemmas: all rows of a report and the text after the rows were printed, or only a part of this
-- text if a write failed.
use Rattle.std.proofs.Common.{◌≡◌, ◌+◌, inl, inr, ℕ, true, false, Option, List, ◌++◌, length, refl, sym, ap, subst, ◌∙◌, arith}
use Rattle.std.specs.List.{flat_map}
use Rattle.std.specs.Io.KnownBytes.{Appends}
use Rattle.std.proofs.KnownBytes.{Appends-trans}
use Rattle.office_books.specs.Rows.{TakesAll}
use Rattle.energy_report.specs.RowLines.{counted}
use Rattle.energy_report.specs.declared.row_lines.RowLines.{RowLines}
use Rattle.energy_report.proofs.RowLinesLemmas.{Fits, TakesLine, all_written, following, longer}
use Rattle.command_io.specs.declared.status.ExitStatus.{ExitStatus}
use Rattle.command_io.specs.declared.status.ExitStatus.TheVariants.{Failed}
use Rattle.office_program.specs.Texts.EndTexts.{IsReported}
use Rattle.sun_points.specs.Writing.{GotPart}

-- If a write of the rows of a report failed, then only a part of the report's text was printed.
pub reported_part : {W T : Type 0} (contents : W → Option (List ℕ)) (line : T → List ℕ) (rows : List T) (last : List ℕ)
    (from to : RowLines W) (meant : ExitStatus) (o o' : W) → from.failed ≡ false → from.count ≡ 0 → TakesAll (TakesLine contents line) from rows to
    → to.failed ≡ true → from.output.now ≡ o → o' ≡ to.output.now
    → IsReported (flat_map line rows ++ last) meant Failed (contents o) (contents o')
reported_part contents line rows last from to meant o o' works none took failed start end =
    let wrote = all_written contents line rows from to works (subst Fits (sym none) (omega arith)) took in
    let part : GotPart (flat_map line rows ++ last) (contents from.output.now) (contents to.output.now) =
    longer (flat_map line rows) last _ _ (wrote.part failed) in
    let begun : GotPart (flat_map line rows ++ last) (contents o) (contents to.output.now) = rw (sym start) part in
    inr (refl, rw end begun)

reported_after : (x y : List ℕ) (meant status : ExitStatus) (a b c : Option (List ℕ)) → Appends a b x → IsReported y meant status b c
    → IsReported (x ++ y) meant status a c
reported_after x y meant status a b c first (inl reported) = inl (reported.0, Appends-trans a b c x y first reported.1)
reported_after x y meant status a b c first (inr part) = inr (part.0, following x y a b c first part.1)

-- If no write of the rows of a report failed, then all rows were printed, followed by the text that
-- ends the report.
pub reported_all : {W T : Type 0} (contents : W → Option (List ℕ)) (line : T → List ℕ) (rows : List T) (last : ℕ → List ℕ)
    (from to : RowLines W) (meant status : ExitStatus) (o o' : W) → from.failed ≡ false → from.count ≡ 0
    → TakesAll (TakesLine contents line) from rows to → to.failed ≡ false → from.output.now ≡ o
    → IsReported (last to.count) meant status (contents to.output.now) (contents o')
    → IsReported (flat_map line rows ++ last (counted (length rows))) meant status (contents o) (contents o')
reported_all contents line rows last from to meant status o o' works none took still start reported =
    let wrote = all_written contents line rows from to works (subst Fits (sym none) (omega arith)) took in
    let whole = wrote.whole still in
    let count : to.count ≡ counted (length rows) =
    whole.1 ∙ ap (λ n. counted (n + length rows)) none ∙ ap counted (let e : 0 + length rows ≡ length rows = omega arith in e) in
    let first : Appends (contents o) (contents to.output.now) (flat_map line rows) = rw (sym start) whole.0 in
    let P : ℕ → Type 0 = λ n. IsReported (flat_map line rows ++ last n) meant status (contents o) (contents o') in
    subst P count (reported_after (flat_map line rows) (last to.count) meant status _ _ _ first reported)
