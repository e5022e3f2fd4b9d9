-- Lemmas: the texts of a report's rows, written one by one, and the end of the report make up the
-- report's complete text.
use Rattle.std.proofs.Common.{◌≡◌, ℕ, suc, ◌==◌, Option, List, [], ◌∷◌, ◌++◌, map, length, refl, sym, ◌∙◌, ap, append-nil, append_assoc, arith}
use Rattle.std.specs.List.{flat_map}
use Rattle.std.specs.Io.KnownBytes.{Appends}
use Rattle.std.proofs.KnownBytes.{Appends-trans}
use Rattle.std.proofs.lemmas.Bool.{ne_eqb}
use Rattle.std.proofs.lemmas.Grind.{flat_map-append}
use Rattle.std.proofs.lemmas.List.{length-map}
use Rattle.interval_core.specs.declared.totals.DayTotal.{DayTotal}
use Rattle.sun_points.specs.Writing.{GotPart}
use Rattle.energy_report.specs.declared.form.ReportForm.{ReportForm}
use Rattle.energy_report.specs.declared.row.Row.{Row}
use Rattle.energy_report.specs.Rows.{rows_in, shown}
use Rattle.energy_report.specs.Texts.{ending, last_text, lead, opening, report_text, row_text, rows_text, separator}
use Rattle.energy_report.specs.Writing.{begun_text}

-- The text of a row of a report that follows another row, with the separator before it.
abbrev next_text : ReportForm → Row → List ℕ
next_text form row = separator form ++ row_text form row

map-append : (xs ys : List Row) → map shown (xs ++ ys) ≡ map shown xs ++ map shown ys
map-append [] ys = refl
map-append (x ∷ xs) ys = ap (λ more. shown x ∷ more) (map-append xs ys)

nexts : (form : ReportForm) (xs ys : List Row)
    → flat_map (next_text form) (map shown (xs ++ ys)) ≡ flat_map (next_text form) (map shown xs) ++ flat_map (next_text form) (map shown ys)
nexts form xs ys =
    ap (flat_map (next_text form)) (map-append xs ys) ∙ flat_map-append (next_text form) (map shown xs) (map shown ys)

-- After rows are added at the end of a report, its text begins with the text of the earlier rows.
pub begun-append : (form : ReportForm) (row : Row) (rows more : List Row)
    → begun_text form ((row ∷ rows) ++ more) ≡ begun_text form (row ∷ rows) ++ flat_map (next_text form) (map shown more)
begun-append form row rows more =
    let front = row_text form (shown row) in
    let xs = flat_map (next_text form) (map shown rows) in
    let ys = flat_map (next_text form) (map shown more) in
    ap (λ text. opening form ++ (front ++ text)) (nexts form rows more)
    ∙ ap (λ text. opening form ++ text) (sym (append_assoc front xs ys))
    ∙ sym (append_assoc (opening form) (front ++ xs) ys)

-- After a row is added to a report, the new text is the earlier text, then the report's beginning
-- or a separator, and then the row.
pub begun-push : (form : ReportForm) (done : List Row) (row : Row)
    → begun_text form (done ++ row ∷ []) ≡ begun_text form done ++ (lead (length done == 0) form ++ row_text form (shown row))
begun-push form [] row = ap (λ text. opening form ++ text) (append-nil (row_text form (shown row)))
begun-push form (x ∷ done) row =
    begun-append form x done (row ∷ [])
    ∙ ap (λ text. begun_text form (x ∷ done) ++ text) (append-nil (next_text form (shown row)))
    ∙ ap (λ b. begun_text form (x ∷ done) ++ (lead b form ++ row_text form (shown row))) (sym (ne_eqb (suc (length done)) 0 (λ e. omega (arith, e))))

-- The complete text of a report consists of the text of all rows, followed by the end of the
-- report.
pub whole : (form : ReportForm) (days : List DayTotal) (rows : List Row) → rows_in form days ≡ rows
    → report_text form days ≡ begun_text form rows ++ last_text form (length rows)
whole form days [] is = ap (λ rows. rows_text form (map shown rows)) is ∙ ap (λ text. text ++ ending form 0) (append-nil (opening form))
whole form days (row ∷ rows) is =
    ap (λ those. rows_text form (map shown those)) is
    ∙ ap (λ n. begun_text form (row ∷ rows) ++ ending form n) (length-map (row ∷ rows) shown)

-- If a beginning of a text was written, then a beginning of each longer text that starts with this
-- text was written.
pub longer : (x y : List ℕ) (a b : Option (List ℕ)) → GotPart x a b → GotPart (x ++ y) a b
longer x y a b got =
    (got.0, got.1 ++ y, ap (λ (front : List ℕ). front ++ y) got.2 ∙ append_assoc got.0 got.1 y, got.3)

pub following : (x y : List ℕ) (a b c : Option (List ℕ)) → Appends a b x → GotPart y b c → GotPart (x ++ y) a c
following x y a b c first got = (
  x ++ got.0,
  got.1,
  ap (λ (more : List ℕ). x ++ more) got.2 ∙ sym (append_assoc x got.0 got.1),
  Appends-trans a b c x got.0 first got.3,
)
