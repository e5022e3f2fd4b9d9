-- Lemmas: reading the CSV text that was written for a list of rows returns these rows.
use Rattle.std.proofs.Common.{◌≡◌, ◌∙◌, ℕ, List, [], ◌∷◌, ◌++◌, None, map, refl, sym, ap, append_assoc}
use Rattle.std.proofs.lemmas.List.{append-nil}
use Rattle.csv.proofs.RoundTrip.{read-write}
use Rattle.csv.specs.Machine.{next_record}
use Rattle.csv.specs.Reading.{Reached, default_config, records, strip_bom}
use Rattle.csv.specs.Writing.{default_writer, fields_text, is_blank, read_back, row_text}
use Rattle.csv.specs.declared.parser.State.TheVariants as st
use Rattle.point_list.specs.Rows.{csv_rows}
use Rattle.point_list.specs.RowTexts.{header_row, rows_text}
use Rattle.point_list.proofs.RowFacts.{rows-begin}

-- If a row is appended to a list of rows, the new list's CSV text is the old list's CSV text
-- followed by the row's text.
pub rows_text-push : (xs : List (List (List ℕ))) (y : List (List ℕ)) → rows_text (xs ++ (y ∷ [])) ≡ rows_text xs ++ row_text default_writer y
unfolding rows_text
rows_text-push [] y = append-nil (row_text default_writer y)
rows_text-push (x ∷ xs) y =
    ap (λ (t : List ℕ). row_text default_writer x ++ t) (rows_text-push xs y)
    ∙ sym (append_assoc (row_text default_writer x) (rows_text xs) (row_text default_writer y))

-- Reading the CSV text of rows returns these rows one by one.
written-reached : (rows : List (List (List ℕ))) → Reached default_config st.StartRecord (rows_text rows) (map read_back rows) st.StartRecord []
unfolding Reached rows_text
written-reached [] = (refl, refl)
written-reached (row ∷ rows) = ((read_back row, st.StartRecord, rows_text rows), read-write row (rows_text rows), refl, written-reached rows)

at-end : next_record default_config st.StartRecord [] [] [] ≡ None
unfolding next_record
at-end = refl

-- The records of a CSV text that was written for some rows are these rows.
pub written-read : (rows : List (List (List ℕ))) → records default_config (rows_text rows) ≡ map read_back rows
written-read rows =
    let b = rows-begin st.StartRecord (rows_text rows) [] (map read_back rows) (written-reached rows) in
    b.1 ∙ ap (λ (l : List (List (List ℕ))). map read_back rows ++ l) (b.2 at-end) ∙ append-nil (map read_back rows)

-- A CSV text that begins with the header of a point list does not begin with a byte order mark.
no-mark : (rows : List (List (List ℕ))) → strip_bom (rows_text (header_row ∷ rows)) ≡ rows_text (header_row ∷ rows)
unfolding strip_bom fields_text is_blank rows_text
no-mark rows = refl

-- Reading a CSV text that was written for a header and some rows returns the header and these rows.
pub written-rows : (rows : List (List (List ℕ))) → csv_rows (rows_text (header_row ∷ rows)) ≡ header_row ∷ map read_back rows
written-rows rows = ap (λ (text : List ℕ). records default_config text) (no-mark rows) ∙ written-read (header_row ∷ rows)
