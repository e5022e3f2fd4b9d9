-- Lemmas: parsing the result rows of a query one by one gives the values of all rows in order, or
-- fails if one row cannot be parsed.
use Rattle.std.proofs.Common.{◌≡◌, ℕ, zero, suc, ◌+◌, ◌<◌, ◌≤◌, List, [], ◌∷◌, ◌++◌, length, take, get_or, Result, Ok, Err, refl, sym, ap, ◌∙◌, arith}
use Rattle.std.proofs.lemmas.List.{take_more, take_all}
use Rattle.sqlite.specs.Order.{Row}
use Rattle.store_tables.specs.declared.faults.RowFault.{RowFault}
use Rattle.store_tables.specs.Columns.{and_then}
use Rattle.store_tables.proofs.ReadLemmas.{ok_is, then_read}
use Rattle.table_audit.specs.Reading.{all_in}

module _ {X : Type 0} (read : Row → Result X RowFault) where
  -- Suppose that a list of rows and one more row are parsed without errors. If the row is appended
  -- to the list, then its value is appended to the parsed values.
  read_more : (rows : List Row) (row : Row) (xs : List X) (x : X) → all_in read rows ≡ Ok xs → read row ≡ Ok x
      → all_in read (rows ++ row ∷ []) ≡ Ok (xs ++ x ∷ [])
  read_more [] row xs x h g =
      ap (λ (q : Result X RowFault). and_then q (λ y. and_then (all_in read []) (λ ys. Ok (y ∷ ys)))) g
      ∙ ap (λ (ys : List X). let r : Result (List X) RowFault = Ok (ys ++ x ∷ []) in r) (ok_is h)
  read_more (first ∷ rows) row xs x h g =
      let one = then_read (read first) _ xs h in
      let two = then_read (all_in read rows) _ xs one.2 in
      ap (λ (q : Result X RowFault). and_then q (λ y. and_then (all_in read (rows ++ row ∷ [])) (λ ys. Ok (y ∷ ys)))) one.1
      ∙ ap (λ (q : Result (List X) RowFault). and_then q (λ ys. Ok (one.0 ∷ ys))) (read_more rows row two.0 x two.1 g)
      ∙ ap (λ (ys : List X). let r : Result (List X) RowFault = Ok (ys ++ x ∷ []) in r) (ok_is two.2)

  pub next_read : (rows : List Row) (i : ℕ) (d : Row) (xs : List X) (x : X) → i < length rows → all_in read (take i rows) ≡ Ok xs
      → read (get_or rows i d) ≡ Ok x → all_in read (take (i + 1) rows) ≡ Ok (xs ++ x ∷ [])
  next_read rows i d xs x lt h g = ap (all_in read) (take_more rows i d lt) ∙ read_more (take i rows) (get_or rows i d) xs x h g

  -- If parsing fails for one row, then parsing all rows fails.
  pub unread : (rows : List Row) (i : ℕ) (d : Row) (e : RowFault) → i < length rows → read (get_or rows i d) ≡ Err e
      → (xs : List X) → all_in read rows ≡ Ok xs → ⊥
  unread [] i d e lt g xs h = absurd (omega (arith, lt))
  unread (row ∷ rows) zero d e lt g xs h =
      let one = then_read (read row) _ xs h in
      absurd (let f : Ok one.0 ≡ Err e = sym one.1 ∙ g in cc)
  unread (row ∷ rows) (suc i) d e lt g xs h =
      let one = then_read (read row) _ xs h in
      let two = then_read (all_in read rows) _ xs one.2 in
      unread rows i d e (omega (arith, lt)) g two.0 two.1

  -- If a list has at most `i` rows, then parsing its first `i` rows gives the values of all its
  -- rows.
  pub all_read : (rows : List Row) (i : ℕ) (xs : List X) → length rows ≤ i → all_in read (take i rows) ≡ Ok xs → all_in read rows ≡ Ok xs
  all_read rows i xs le h = ap (all_in read) (sym (take_all i rows le)) ∙ h

  -- If parsing a list of rows gives exactly one value, then the list has exactly one row.
  pub read_one : (rows : List Row) (x : X) → all_in read rows ≡ Ok (x ∷ []) → length rows ≡ 1
  read_one [] x h = let f : [] ≡ x ∷ [] = ok_is h in absurd (cc)
  read_one (row ∷ []) x h = refl
  read_one (row ∷ next ∷ rows) x h =
      let one = then_read (read row) _ (x ∷ []) h in
      let two = then_read (all_in read (next ∷ rows)) _ (x ∷ []) one.2 in
      let three = then_read (read next) _ two.0 two.1 in
      let four = then_read (all_in read rows) _ two.0 three.2 in
      let same : one.0 ∷ two.0 ≡ x ∷ [] = ok_is two.2 in
      let more : three.0 ∷ four.0 ≡ two.0 = ok_is four.2 in
      absurd (let f : one.0 ∷ three.0 ∷ four.0 ≡ x ∷ [] = ap (λ (xs : List X). one.0 ∷ xs) more ∙ same in cc)
