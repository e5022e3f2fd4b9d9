-- Lemmas: the program reports at most 513 faulty rows of a point list (CSV rows of registers to
-- poll), with row numbers of at most 514.
use Rattle.std.proofs.Common.{◌≡◌, ℕ, zero, suc, ◌+◌, ◌≤◌, Bool, true, false, List, [], ◌∷◌, length, Option, Some, None, refl, sym, subst, arith, length-append}
use Rattle.std.specs.Prelude.{All, if◌then◌else◌}
use Rattle.std.specs.Option.{option_to_list}
use Rattle.std.proofs.lemmas.List.{length-map, length-take}
use Rattle.std.proofs.lemmas.List.Elements.{All-cons, All-nil}
use Rattle.point_list.specs.declared.fault.FaultyRow.{FaultyRow}
use Rattle.point_list.specs.declared.fault.RowFault.{RowFault}
use Rattle.point_list.specs.declared.point.ListedPoint.{ListedPoint}
use Rattle.point_list.specs.Lists.{AreFaults, faults_below, faulty_rows, is_header, list_faults, no_header, or_else, point_of_row, points_of, row_faults, rows_read, scale_fault, scale_faults}
use Rattle.point_list.specs.Rows.{csv_rows}
use Rattle.office_http.specs.Messages.Commands.Few.{AreFew}

few_faulty : (row : ℕ) (faults : List (Option RowFault)) → length (faulty_rows row faults) ≤ length faults
few_faulty row [] = omega arith
few_faulty row (None ∷ faults) = omega (arith, few_faulty (row + 1) faults)
few_faulty row (Some fault ∷ faults) = omega (arith, few_faulty (row + 1) faults)

low_faulty : (row end : ℕ) (faults : List (Option RowFault)) → row + length faults ≤ suc end → All (λ faulty. faulty.row ≤ end) (faulty_rows row faults)
low_faulty row end [] h = All-nil (λ (faulty : FaultyRow). faulty.row ≤ end)
low_faulty row end (None ∷ faults) h = low_faulty (row + 1) end faults (omega arith)
low_faulty row end (Some fault ∷ faults) h =
    let here : row ≤ end = omega arith in
    All-cons (λ (faulty : FaultyRow). faulty.row ≤ end) (record { row = row; fault = fault }) (faulty_rows (row + 1) faults) here (low_faulty (row + 1) end faults (omega arith))

few : (faults : List (Option RowFault)) → length faults ≤ 513 → AreFew (faulty_rows 2 faults)
few faults h = record { few = omega (arith, few_faulty 2 faults); low = low_faulty 2 514 faults (omega arith) }

length-row_faults : (rows : List (List (List ℕ))) (n : ℕ) → length (row_faults rows n) ≡ n
length-row_faults rows zero = refl
length-row_faults rows (suc n) = omega (arith, length-row_faults rows n, length-append {A = Option RowFault})

one_at_most : {X : Type 0} (o : Option X) → length (option_to_list o) ≤ 1
one_at_most None = omega arith
one_at_most (Some x) = omega arith

few_points : (rows : List (List (List ℕ))) → length (points_of rows) ≤ length rows
few_points [] = omega arith
few_points (fields ∷ rows) = omega (arith, few_points rows, one_at_most (point_of_row fields), length-append (option_to_list (point_of_row fields)) (points_of rows))

or_few : (a b : List FaultyRow) → AreFew a → AreFew b → AreFew (or_else a b)
or_few [] b x y = y
or_few (row ∷ rows) b x y = x

few_below : (rows : List (List (List ℕ))) → length rows ≤ 513 → AreFew (faults_below rows)
few_below rows h =
    let points = points_of rows in
    or_few _ _
    (few (row_faults rows (length rows)) (omega (arith, length-row_faults rows (length rows))))
    (few (scale_faults points points) (omega (arith, length-map points (λ (point : ListedPoint). scale_fault points point point.scale), few_points rows)))

few_no_header : AreFew no_header
few_no_header = record { few = omega arith; low = All-cons (λ (faulty : FaultyRow). faulty.row ≤ 514) _ [] (omega arith) (All-nil (λ (faulty : FaultyRow). faulty.row ≤ 514)) }

either_few : (b : Bool) (rows others : List FaultyRow) → AreFew rows → AreFew others → AreFew (if b then rows else others)
either_few true rows others x y = x
either_few false rows others x y = y

few_in : (rows : List (List (List ℕ))) → length rows ≤ 514 → AreFew (list_faults rows)
few_in [] h = few_no_header
few_in (header ∷ rows) h = either_few (is_header header) (faults_below rows) no_header (few_below rows (omega arith)) few_no_header

-- A list of the faulty rows in a point list (CSV) has at most 513 rows, each with a row number of
-- at most 514.
pub reported_few : (text : List ℕ) (reported : List FaultyRow) → AreFaults (list_faults (rows_read text)) reported → AreFew reported
reported_few text reported is = subst AreFew (sym is.0) (few_in (rows_read text) (omega (arith, length-take 514 (csv_rows text))))
