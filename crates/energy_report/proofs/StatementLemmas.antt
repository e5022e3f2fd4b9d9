-- Lemmas: the texts of the rows of a statement (billing report), appended one by one, make up the
-- complete text of the rows.
use Rattle.std.proofs.Common.{◌≡◌, ℕ, zero, suc, ◌+◌, ◌<◌, ◌==◌, List, [], ◌∷◌, ◌++◌, length, take, drop, get_or, refl, sym, ◌∙◌, ap, append-nil, append_assoc, arith}
use Rattle.std.specs.List.{flat_map, join_by}
use Rattle.std.proofs.lemmas.Bool.{ne_eqb}
use Rattle.std.proofs.lemmas.Grind.{flat_map-append}
use Rattle.std.proofs.lemmas.List.{take_more}
use Rattle.energy_report.specs.declared.form.StatementForm.{StatementForm}
use Rattle.energy_report.specs.declared.meter_statement.MeterStatement.{MeterStatement}
use Rattle.energy_report.specs.StatementTexts.{begun_text, lead, opening, row_text, separator, statement_text}
use Rattle.energy_report.specs.Texts.{ending_by}

-- The text of a row of a statement (billing report) that follows another row, with the separator
-- before it.
abbrev next_text : StatementForm → MeterStatement → List ℕ
next_text form row = separator form ++ row_text form row

abbrev joined : StatementForm → List MeterStatement → List ℕ
joined form rows = join_by (row_text form) (separator form) rows

-- The text that a row of a statement (billing report) adds after `count` rows. A separator precedes
-- the row, unless the row is the first.
abbrev pub piece : StatementForm → (count : ℕ) → MeterStatement → List ℕ
piece form count row = lead (count == 0) form ++ row_text form row

-- The text of the rows of a statement (billing report) that follow another row.
abbrev pub later : StatementForm → List MeterStatement → List ℕ
later form rows = flat_map (next_text form) rows

split : (form : StatementForm) (done : List MeterStatement) (row : MeterStatement) (more : List MeterStatement)
    → joined form (done ++ row ∷ more) ≡ joined form done ++ (piece form (length done) row ++ later form more)
split form [] row more = refl
split form (x ∷ done) row more =
    ap (λ text. row_text form x ++ text) (flat_map-append (next_text form) done (row ∷ more))
    ∙ sym (append_assoc (row_text form x) (later form done) (next_text form row ++ later form more))
    ∙ ap (λ b. (row_text form x ++ later form done) ++ ((lead b form ++ row_text form row) ++ later form more))
    (sym (ne_eqb (suc (length done)) 0 (λ e. omega (arith, e))))

-- The text of the rows of a statement (billing report) consists of the texts of the first rows, the
-- next row and the later rows.
pub begun : (form : StatementForm) (done : List MeterStatement) (row : MeterStatement) (more : List MeterStatement)
    → begun_text form (done ++ row ∷ more) ≡ begun_text form done ++ (piece form (length done) row ++ later form more)
begun form done row more =
    ap (λ text. opening form ++ text) (split form done row more)
    ∙ sym (append_assoc (opening form) (joined form done) (piece form (length done) row ++ later form more))

pub begun_more : (form : StatementForm) (done : List MeterStatement) (row : MeterStatement)
    → begun_text form (done ++ row ∷ []) ≡ begun_text form done ++ piece form (length done) row
begun_more form done row =
    begun form done row [] ∙ ap (λ text. begun_text form done ++ text) (append-nil (piece form (length done) row))

-- A list consists of the elements before an index, the element at the index, and the elements after
-- it.

around : {X : Type 0} (xs : List X) (i : ℕ) (d : X) → i < length xs → take i xs ++ get_or xs i d ∷ drop (suc i) xs ≡ xs
around [] i d lt = absurd (omega (arith, lt))
around (x ∷ xs) zero d lt = refl
around (x ∷ xs) (suc i) d lt = ap (λ more. x ∷ more) (around xs i d (omega (arith, lt)))

length_before : {X : Type 0} (xs : List X) (i : ℕ) → i < length xs → length (take i xs) ≡ i
length_before [] i lt = absurd (omega (arith, lt))
length_before (x ∷ xs) zero lt = refl
length_before (x ∷ xs) (suc i) lt = ap suc (length_before xs i (omega (arith, lt)))

-- The text of a statement (billing report) that follows the row at the index `i`.
abbrev pub tail : StatementForm → List MeterStatement → (i : ℕ) → List ℕ
tail form rows i = later form (drop (suc i) rows) ++ ending_by form.format (length rows)

abbrev pub rest : StatementForm → List MeterStatement → List ℕ
rest form rows = joined form rows ++ ending_by form.format (length rows)

pub from_opening : (form : StatementForm) (rows : List MeterStatement) → opening form ++ rest form rows ≡ statement_text form rows
from_opening form rows = sym (append_assoc (opening form) (joined form rows) (ending_by form.format (length rows)))

pub from_row : (form : StatementForm) (rows : List MeterStatement) (i : ℕ) (row : MeterStatement) → i < length rows → row ≡ get_or rows i row
    → (begun_text form (take i rows) ++ piece form i row) ++ tail form rows i ≡ statement_text form rows
from_row form rows i row lt is =
    let done = take i rows in
    let more = drop (suc i) rows in
    let end = ending_by form.format (length rows) in
    let whole : begun_text form rows ≡ begun_text form done ++ (piece form i row ++ later form more) =
    ap (begun_text form) (sym (around rows i row lt) ∙ ap (λ (x : MeterStatement). done ++ x ∷ more) (sym is))
    ∙ begun form done row more
    ∙ ap (λ n. begun_text form done ++ (piece form n row ++ later form more)) (length_before rows i lt) in
    append_assoc (begun_text form done) (piece form i row) (later form more ++ end)
    ∙ ap (λ text. begun_text form done ++ text) (sym (append_assoc (piece form i row) (later form more) end))
    ∙ sym (append_assoc (begun_text form done) (piece form i row ++ later form more) end)
    ∙ ap (λ text. text ++ end) (sym whole)

pub next : (form : StatementForm) (rows : List MeterStatement) (i : ℕ) (row : MeterStatement) → i < length rows → row ≡ get_or rows i row
    → begun_text form (take i rows) ++ piece form i row ≡ begun_text form (take (i + 1) rows)
next form rows i row lt is =
    ap (λ n. begun_text form (take i rows) ++ piece form n row) (sym (length_before rows i lt))
    ∙ sym (begun_more form (take i rows) row)
    ∙ ap (begun_text form) (ap (λ (x : MeterStatement). take i rows ++ x ∷ []) is ∙ sym (take_more rows i row lt))

-- Appending two texts one after the other is the same as appending their concatenation.

pub pushed : (p q r x y : List ℕ) → q ≡ p ++ x → r ≡ q ++ y → r ≡ p ++ (x ++ y)
pushed p q r x y first second = second ∙ ap (λ front. front ++ y) first ∙ append_assoc p x y

pub numbered : (p q r x key number : List ℕ) → q ≡ p ++ x → r ≡ (q ++ key) ++ number → r ≡ p ++ ((x ++ key) ++ number)
numbered p q r x key number first second =
    second ∙ ap (λ front. (front ++ key) ++ number) first ∙ ap (λ front. front ++ number) (append_assoc p x key) ∙ append_assoc p (x ++ key) number
