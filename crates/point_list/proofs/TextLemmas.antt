-- Proves that `read_list` reads at most the first 514 rows of a CSV text, and that these rows
-- determine the point list that the text encodes.
use Rattle.std.proofs.Common.{◌≡◌, ◌≤◌, ◌<◌, ◌∙◌, ℕ, suc, true, List, [], ◌∷◌, length, map, min, take, drop, refl, sym, ap, arith, subst}
use Rattle.std.proofs.lemmas.Grind.{common_steps}
use Rattle.std.proofs.lemmas.List.{length-map, take_all}
use Rattle.point_list.specs.declared.fault.FaultyRow.{FaultyRow}
use Rattle.point_list.specs.declared.point.ListedPoint.{ListedPoint}
use Rattle.point_list.specs.Lists.{SpellEach, SpellsList, faults_below, faulty_rows, is_header, list_faults, or_else, points_of, row_faults, rows_read, scale_faults}
use Rattle.point_list.specs.Rows.{csv_rows}
use Rattle.point_list.proofs.FaultlessLists.{faultless-each, faultless-few, as-many, none-reported}

pub length-taken : {X : Type 0} (n : ℕ) (xs : List X) → length (take n xs) ≡ min n (length xs)
length-taken n xs = grind (arith, common_steps)

-- The number of rows that are read below the header of a point list (CSV) is at most 513.
pub few-read : {X Y : Type 0} (f : X → Y) (header : X) (rows items : List X) (all : List Y) → items ≡ header ∷ rows → map f items ≡ take 514 all → length rows ≤ 513
few-read f header rows items all are read =
    let size : length items ≡ min 514 (length all) = sym (length-map items f) ∙ ap length read ∙ length-taken 514 all in
    let more : length items ≡ suc (length rows) = ap length are in
    omega (arith, size, more)

pub first-nil : (a b : List FaultyRow) → or_else a b ≡ [] → a ≡ []
first-nil [] b h = refl
first-nil (x ∷ xs) b h = absurd (cc h)

pub second-nil : (a b : List FaultyRow) → a ≡ [] → or_else a b ≡ [] → b ≡ []
second-nil a b none h = rw none at h

-- If fewer CSV rows than the limit of 514 were read, they are all rows of the text.
all-read : {X : Type 0} (xs ys : List X) → take 514 xs ≡ ys → length ys < 514 → xs ≡ ys
all-read xs ys h few =
    let size : min 514 (length xs) ≡ length ys = sym (length-taken 514 xs) ∙ ap length h in
    sym (take_all 514 xs (omega (arith, size, few))) ∙ h

-- If the rows of a CSV text have no faults, the text encodes the point list of these rows.
pub spells-list : (text : List ℕ) (header : List (List ℕ)) (rows : List (List (List ℕ))) (points : List ListedPoint) → header ∷ rows ≡ rows_read text → is_header header ≡ true
    → faults_below rows ≡ [] → SpellEach rows points → SpellsList text points
spells-list text header rows points read headed none each =
    let nothing : faulty_rows 2 (row_faults rows (length rows)) ≡ [] =
    first-nil (faulty_rows 2 (row_faults rows (length rows))) (faulty_rows 2 (scale_faults (points_of rows) (points_of rows))) none in
    let quiet = none-reported rows (length rows) nothing in
    let few = faultless-few rows quiet in
    let size = as-many rows (points_of rows) (faultless-each rows quiet) in
    let all : csv_rows text ≡ header ∷ rows = all-read (csv_rows text) (header ∷ rows) (sym read) (omega (arith, few, size)) in
    let faultless : list_faults (header ∷ rows) ≡ [] = rw headed none in
    record {
      faultless = subst (λ (some : List (List (List ℕ))). list_faults some ≡ []) read faultless;
      each = subst (λ (some : List (List (List ℕ))). SpellEach (drop 1 some) points) (sym all) each;
    }
