-- Lemma on the JSON of the faulty rows of a point list (a CSV text of registers to poll). The JSON
-- of `i` + 1 rows is that of the first `i` rows, followed by that of the next row.
use Rattle.std.proofs.Common.{◌≡◌, ◌∙◌, ℕ, ◌+◌, ◌<◌, List, [], ◌∷◌, ◌++◌, length, get_or, take, refl, sym, ap, append_assoc}
use Rattle.std.specs.Prelude.{codes, decimal}
use Rattle.std.proofs.lemmas.List.{append-nil, take_more}
use Rattle.point_list.specs.declared.fault.FaultyRow.{FaultyRow}
use Rattle.point_list.specs.Faults.{fault_number}
use Rattle.office_http.specs.Messages.Faults.{more_rows, row_text}

more_rows-append : (xs : List FaultyRow) (y : FaultyRow) → more_rows (xs ++ y ∷ []) ≡ more_rows xs ++ (codes "," ++ row_text y)
more_rows-append [] y = append-nil (codes "," ++ row_text y)
more_rows-append (x ∷ xs) y = ap (λ t. codes "," ++ row_text x ++ t) (more_rows-append xs y) ∙ sym (append_assoc (codes "," ++ row_text x) (more_rows xs) (codes "," ++ row_text y))

row_after : (old a b : List ℕ) → old ++ codes ",[" ++ a ++ codes "," ++ b ++ codes "]" ≡ old ++ (codes "," ++ (codes "[" ++ a ++ codes "," ++ b ++ codes "]"))
row_after old a b = simp append_assoc refl

-- Lemma on the faulty rows of a point list. The JSON of the first `i` + 1 faulty rows is the JSON
-- of the first `i` rows, followed by the JSON of row `i`.
pub one_more : (before now next : List ℕ) (rows : List FaultyRow) (i : ℕ) (d : FaultyRow) → i < length rows → now ≡ before ++ more_rows (take i rows)
    → next ≡ now ++ codes ",[" ++ decimal (get_or rows i d).row ++ codes "," ++ decimal (fault_number (get_or rows i d).fault) ++ codes "]" → next ≡ before ++ more_rows (take (i + 1) rows)
one_more before now next rows i d lt so_far is =
    let here = get_or rows i d in
    is ∙ row_after now (decimal here.row) (decimal (fault_number here.fault))
    ∙ ap (λ t. t ++ (codes "," ++ row_text here)) so_far
    ∙ append_assoc before (more_rows (take i rows)) (codes "," ++ row_text here)
    ∙ ap (λ t. before ++ t) (sym (more_rows-append (take i rows) here) ∙ ap more_rows (sym (take_more rows i d lt)))
