-- Lemmas on the discrepancies that an audit reports for polls. The discrepancies of all rows are
-- those of each row, one after another, and valid polls have none.
use Rattle.std.proofs.Common.{◌≡◌, ◌+◌, ◌-◌, ◌<◌, ◌≤◌, ◌==◌, ℕ, zero, suc, max, Bool, true, false, nat_lt, nat_le, ◌&&◌, ◌||◌, if◌then◌else◌, List, [], ◌∷◌, ◌++◌, drop, length, get_or, Option, Some, Result, Ok, Err, unwrap_or, refl, sym, ap, subst, ◌∙◌, append_assoc, arith, add-one}
use Rattle.std.specs.List.{list_any, list_all}
use Rattle.std.proofs.Math.Seq.{drop-cons}
use Rattle.std.proofs.Math.ListN.{drop_of_length-le}
use Rattle.std.proofs.lemmas.Bool.{and_parts, and_from}
use Rattle.std.proofs.lemmas.Bool.Decides.{nat_tests}
use Rattle.sqlite.specs.Order.{Row}
use Rattle.store_tables.specs.declared.faults.RowFault.{RowFault}
use Rattle.store_tables.specs.Columns.{and_then}
use Rattle.store_tables.proofs.ReadLemmas.{ok_is, then_read}
use Rattle.table_audit.specs.declared.differences.Difference.{Difference}
use Rattle.table_audit.specs.declared.differences.Difference.TheVariants.{Poll, NoPolls}
use Rattle.table_audit.specs.declared.differences.PollFault.{PollFault}
use Rattle.table_audit.specs.declared.differences.PollFault.TheVariants.{OutOfRange, EndOutOfRange, OutOfOrder, EndedBefore, StartedBefore}
use Rattle.table_audit.specs.declared.poll_rows.OutcomeRow.{OutcomeRow}
use Rattle.table_audit.specs.declared.poll_rows.PollRow.{PollRow}
use Rattle.table_audit.specs.declared.poll_rows.RunRows.{RunRows}
use Rattle.table_audit.specs.PollDifferences.{each_of, number_in, unread, unread_poll, unread_outcome, number_by, number_of, gap, rises, reported_at, next_after, reported_by, after_by, order_of, began_by, began, early_by, early, first_number, last_number, values_of, later_start, latest_start, latest_of_runs, fallen_by, fallen_from, turns_of, differences_of_run, differences_of_runs}
use Rattle.table_audit.specs.PollReading.{poll_in, outcome_in}
use Rattle.table_audit.specs.Polls.{are_numbered, starts_rise, is_begun, has_begun, IsFineRun, AreFineRuns}
use Rattle.table_audit.specs.Reading.{all_in}
use Rattle.table_audit.proofs.Named.{append_none, both_none}

-- Lemmas: the discrepancies in several rows of polls or outcomes are those of the earlier rows,
-- followed by those of the later rows.

pub each_more : (differs : Row → List Difference) (rows : List Row) (i : ℕ) (row : Row) (found next all : List Difference) → i < length rows → row ≡ get_or rows i row
    → found ++ each_of differs (drop i rows) ≡ all → next ≡ found ++ differs row → next ++ each_of differs (drop (i + 1) rows) ≡ all
each_more differs rows i row found next all inside is so_far put =
    let one : each_of differs (drop i rows) ≡ differs row ++ each_of differs (drop (i + 1) rows) =
    ap (λ (rs : List Row). each_of differs rs) (drop-cons rows i row inside)
    ∙ ap (λ (r : Row). differs r ++ each_of differs (drop (suc i) rows)) (sym is)
    ∙ ap (λ n. differs row ++ each_of differs (drop n rows)) (sym (add-one i)) in
    ap (λ (l : List Difference). l ++ each_of differs (drop (i + 1) rows)) put
    ∙ append_assoc found (differs row) (each_of differs (drop (i + 1) rows))
    ∙ ap (λ (l : List Difference). found ++ l) (sym one) ∙ so_far

pub each_done : (differs : Row → List Difference) (rows : List Row) (i : ℕ) (found all : List Difference) → length rows ≤ i
    → found ++ each_of differs (drop i rows) ≡ all → found ≡ all
each_done differs rows i found all past so_far =
    sym (append_none found) ∙ sym (ap (λ (rs : List Row). found ++ each_of differs rs) (drop_of_length-le rows past)) ∙ so_far

pub order_more : (rows : List Row) (i : ℕ) (row : Row) (last before next : ℕ) (found new all : List Difference) → i < length rows → row ≡ get_or rows i row
    → found ++ order_of before last (drop i rows) ≡ all → new ≡ found ++ reported_by before last (number_of row) → next ≡ after_by before last (number_of row)
    → new ++ order_of next last (drop (i + 1) rows) ≡ all
order_more rows i row last before next found new all inside is so_far put after =
    let one : order_of before last (drop i rows) ≡ reported_by before last (number_of row) ++ order_of next last (drop (i + 1) rows) =
    ap (λ (rs : List Row). order_of before last rs) (drop-cons rows i row inside)
    ∙ ap (λ (r : Row). reported_by before last (number_of r) ++ order_of (after_by before last (number_of r)) last (drop (suc i) rows)) (sym is)
    ∙ ap (λ n. reported_by before last (number_of row) ++ order_of (after_by before last (number_of row)) last (drop n rows)) (sym (add-one i))
    ∙ ap (λ n. reported_by before last (number_of row) ++ order_of n last (drop (i + 1) rows)) (sym after) in
    ap (λ (l : List Difference). l ++ order_of next last (drop (i + 1) rows)) put
    ∙ append_assoc found (reported_by before last (number_of row)) (order_of next last (drop (i + 1) rows))
    ∙ ap (λ (l : List Difference). found ++ l) (sym one) ∙ so_far

pub order_done : (rows : List Row) (i last next : ℕ) (found new all : List Difference) → length rows ≤ i
    → found ++ order_of next last (drop i rows) ≡ all → new ≡ found ++ gap next (last + 1) → new ≡ all
order_done rows i last next found new all past so_far put =
    put ∙ sym (ap (λ (rs : List Row). found ++ order_of next last rs) (drop_of_length-le rows past)) ∙ so_far

pub any_at : {X : Type 0} (test : X → Bool) (xs : List X) (i : ℕ) (d : X) → i < length xs → test (get_or xs i d) ≡ true → list_any test xs ≡ true
any_at test [] i d inside h = absurd (omega (arith, inside))
any_at test (x ∷ xs) zero d inside h = ap (λ b. b || list_any test xs) h
any_at test (x ∷ xs) (suc i) d inside h = ap (λ b. test x || b) (any_at test xs i d (omega (arith, inside)) h) ∙ or_true (test x)
  where
    or_true : (b : Bool) → b || true ≡ true
    or_true true = refl
    or_true false = refl

if_none : {X : Type 0} (b : Bool) (x : X) (xs : List X) → (if b then x ∷ xs else []) ≡ [] → b ≡ false
if_none true x xs none = absurd (let g : x ∷ xs ≡ [] = none in cc)
if_none false x xs none = refl

else_none : {X : Type 0} (b : Bool) (xs : List X) (y : X) (ys : List X) → (if b then xs else y ∷ ys) ≡ [] → (b ≡ true) × (xs ≡ [])
else_none true xs y ys none = (refl, none)
else_none false xs y ys none = absurd (let g : y ∷ ys ≡ [] = none in cc)

lt_is : (a b : ℕ) → a < b → nat_lt a b ≡ true
lt_is a b h = grind (arith, nat_tests)

lt_of : (a b : ℕ) → nat_lt a b ≡ true → a < b
lt_of a b h = grind (arith, nat_tests)

lt_not : (a b : ℕ) → b ≤ a → nat_lt a b ≡ false
lt_not a b h = grind (arith, nat_tests)

not_lt : (a b : ℕ) → nat_lt a b ≡ false → b ≤ a
not_lt a b h = grind (arith, nat_tests)

le_is : (a b : ℕ) → a ≤ b → nat_le a b ≡ true
le_is a b h = grind (arith, nat_tests)

le_of : (a b : ℕ) → nat_le a b ≡ true → a ≤ b
le_of a b h = grind (arith, nat_tests)

eq_is : (a b : ℕ) → a ≡ b → (a == b) ≡ true
eq_is a b h = grind (arith, nat_tests)

eq_of : (a b : ℕ) → (a == b) ≡ true → a ≡ b
eq_of a b h = grind (arith, nat_tests)

-- Lemmas that an audit reports no value out of range if and only if all rows of polls and outcomes
-- can be parsed.

read_of : {X : Type 0} (fault : PollFault) (row : Row) (r : Result X RowFault) → unread fault row r ≡ [] → (x : X) × (r ≡ Ok x)
read_of fault row (Ok x) none = (x, refl)
read_of fault row (Err e) none = absurd (let g : Poll (unwrap_or (number_in row) 0) fault ∷ [] ≡ [] = none in cc)

module _ {X : Type 0} (fault : PollFault) (read : Row → Result X RowFault) where
  all_read_of : (rows : List Row) → each_of (λ row. unread fault row (read row)) rows ≡ [] → (xs : List X) × (all_in read rows ≡ Ok xs)
  all_read_of [] none = ([], refl)
  all_read_of (row ∷ rows) none =
      let two = both_none (unread fault row (read row)) (each_of (λ r. unread fault r (read r)) rows) none in
      let one = read_of fault row (read row) two.0 in
      let rest = all_read_of rows two.1 in (
        one.0 ∷ rest.0,
        ap (λ (q : Result X RowFault). and_then q (λ x. and_then (all_in read rows) (λ xs. Ok (x ∷ xs)))) one.1
            ∙ ap (λ (q : Result (List X) RowFault). and_then q (λ xs. Ok (one.0 ∷ xs))) rest.1,
      )

  none_unread : (rows : List Row) (xs : List X) → all_in read rows ≡ Ok xs → each_of (λ row. unread fault row (read row)) rows ≡ []
  none_unread [] xs h = refl
  none_unread (row ∷ rows) xs h =
      let one = then_read (read row) _ xs h in
      let two = then_read (all_in read rows) _ xs one.2 in
      ap (λ (q : Result X RowFault). unread fault row q ++ each_of (λ r. unread fault r (read r)) rows) one.1 ∙ none_unread rows two.0 two.1

-- Lemmas that an audit reports no missing or disordered poll number if and only if the poll numbers
-- are consecutive.

gap_closed : (next below : ℕ) → gap next below ≡ [] → below ≤ next
gap_closed next below none = not_lt next below (if_none (nat_lt next below) (NoPolls next (below - 1)) [] none)

closed_gap : (next below : ℕ) → below ≤ next → gap next below ≡ []
closed_gap next below h = ap (λ (b : Bool). let ds : List Difference = if b then NoPolls next (below - 1) ∷ [] else [] in ds) (lt_not next below h)

-- True if the poll number `n` is the expected number `next` and at most `last`, so that the audit
-- reports no discrepancy for it.
record IsNext (next last n : ℕ) : Type 0 where
  is : n ≡ next
  inside : n ≤ last

is_next : (next last n : ℕ) → reported_at next last n ≡ [] → IsNext next last n
is_next next last n none =
    let two = else_none (rises next last n) (gap next n) (Poll n OutOfOrder) [] none in
    let tests = and_parts (nat_le next n) (nat_le n last) two.0 in
    let low = le_of next n tests.0 in
    let closed = gap_closed next n two.1 in
    record { is = omega (arith, low, closed); inside = le_of n last tests.1 }

rises_so : (next last n : ℕ) → IsNext next last n → rises next last n ≡ true
rises_so next last n one =
    let is = one.is in and_from (nat_le next n) (nat_le n last) (le_is next n (omega (arith, is))) (le_is n last one.inside)

next_none : (next last n : ℕ) → IsNext next last n → reported_at next last n ≡ []
next_none next last n one =
    let is = one.is in
    ap (λ (b : Bool). let ds : List Difference = if b then gap next n else Poll n OutOfOrder ∷ [] in ds) (rises_so next last n one)
    ∙ closed_gap next n (omega (arith, is))

then_next : (next last n : ℕ) → IsNext next last n → next_after next last n ≡ next + 1
then_next next last n one =
    ap (λ (b : Bool). let m : ℕ = if b then n + 1 else next in m) (rises_so next last n one) ∙ ap (λ m. m + 1) one.is

order_at : (next last : ℕ) (row : Row) (rows : List Row) (poll : PollRow) → poll_in row ≡ Ok poll
    → order_of next last (row ∷ rows) ≡ reported_at next last poll.number ++ order_of (next_after next last poll.number) last rows
order_at next last row rows poll read =
    ap (λ (q : Result PollRow RowFault). reported_by next last (number_by row q) ++ order_of (after_by next last (number_by row q)) last rows) read

order_none : (next last : ℕ) (rows : List Row) (polls : List PollRow) → all_in poll_in rows ≡ Ok polls → order_of next last rows ≡ [] → are_numbered next last polls ≡ true
order_none next last [] polls h none =
    let closed = gap_closed next (last + 1) none in
    sym (ap (are_numbered next last) (ok_is h)) ∙ lt_is last next (omega (arith, closed))
order_none next last (row ∷ rows) polls h none =
    let one = then_read (poll_in row) _ polls h in
    let two = then_read (all_in poll_in rows) _ polls one.2 in
    let n = one.0.number in
    let none_at = both_none (reported_at next last n) (order_of (next_after next last n) last rows) (sym (order_at next last row rows one.0 one.1) ∙ none) in
    let it = is_next next last n none_at.0 in
    let is = it.is in
    let inside = it.inside in
    let later : order_of (next + 1) last rows ≡ [] = subst (λ (m : ℕ). order_of m last rows ≡ []) (then_next next last n it) none_at.1 in
    sym (ap (are_numbered next last) (ok_is two.2))
    ∙ and_from ((n == next) && nat_le next last) (are_numbered (next + 1) last two.0)
    (and_from (n == next) (nat_le next last) (eq_is n next is) (le_is next last (omega (arith, is, inside))))
    (order_none (next + 1) last rows two.0 two.1 later)

none_order : (next last : ℕ) (rows : List Row) (polls : List PollRow) → all_in poll_in rows ≡ Ok polls → are_numbered next last polls ≡ true → order_of next last rows ≡ []
none_order next last [] polls h all =
    let past = lt_of last next (ap (are_numbered next last) (ok_is h) ∙ all) in closed_gap next (last + 1) (omega (arith, past))
none_order next last (row ∷ rows) polls h all =
    let one = then_read (poll_in row) _ polls h in
    let two = then_read (all_in poll_in rows) _ polls one.2 in
    let n = one.0.number in
    let second = and_parts ((n == next) && nat_le next last) (are_numbered (next + 1) last two.0) (ap (are_numbered next last) (ok_is two.2) ∙ all) in
    let first = and_parts (n == next) (nat_le next last) second.0 in
    let is = eq_of n next first.0 in
    let low = le_of next last first.1 in
    let it : IsNext next last n = record { is = is; inside = omega (arith, is, low) } in
    order_at next last row rows one.0 one.1
    ∙ ap (λ (ds : List Difference). ds ++ order_of (next_after next last n) last rows) (next_none next last n it)
    ∙ ap (λ m. order_of m last rows) (then_next next last n it)
    ∙ none_order (next + 1) last rows two.0 two.1 second.1

-- Lemmas on polls that started before an earlier poll.

pub fallen_more : (rows : List Row) (i : ℕ) (row : Row) (since next : ℕ) (found new all : List Difference) → i < length rows → row ≡ get_or rows i row
    → found ++ fallen_from since (drop i rows) ≡ all → new ≡ found ++ fallen_by since (poll_in row) → next ≡ later_start since (poll_in row)
    → new ++ fallen_from next (drop (i + 1) rows) ≡ all
fallen_more rows i row since next found new all inside is so_far put after =
    let one : fallen_from since (drop i rows) ≡ fallen_by since (poll_in row) ++ fallen_from next (drop (i + 1) rows) =
    ap (λ (rs : List Row). fallen_from since rs) (drop-cons rows i row inside)
    ∙ ap (λ (r : Row). fallen_by since (poll_in r) ++ fallen_from (later_start since (poll_in r)) (drop (suc i) rows)) (sym is)
    ∙ ap (λ n. fallen_by since (poll_in row) ++ fallen_from (later_start since (poll_in row)) (drop n rows)) (sym (add-one i))
    ∙ ap (λ n. fallen_by since (poll_in row) ++ fallen_from n (drop (i + 1) rows)) (sym after) in
    ap (λ (l : List Difference). l ++ fallen_from next (drop (i + 1) rows)) put
    ∙ append_assoc found (fallen_by since (poll_in row)) (fallen_from next (drop (i + 1) rows))
    ∙ ap (λ (l : List Difference). found ++ l) (sym one) ∙ so_far

pub fallen_done : (rows : List Row) (i since : ℕ) (found all : List Difference) → length rows ≤ i
    → found ++ fallen_from since (drop i rows) ≡ all → found ≡ all
fallen_done rows i since found all past so_far =
    sym (append_none found) ∙ sym (ap (λ (rs : List Row). found ++ fallen_from since rs) (drop_of_length-le rows past)) ∙ so_far

pub latest_rows_more : (rows : List Row) (i : ℕ) (row : Row) (latest next all : ℕ) → i < length rows → row ≡ get_or rows i row
    → latest_start latest (drop i rows) ≡ all → next ≡ later_start latest (poll_in row) → latest_start next (drop (i + 1) rows) ≡ all
latest_rows_more rows i row latest next all inside is so_far after =
    ap (λ n. latest_start n (drop (i + 1) rows)) after
    ∙ ap (λ n. latest_start (later_start latest (poll_in row)) (drop n rows)) (add-one i)
    ∙ ap (λ (r : Row). latest_start (later_start latest (poll_in r)) (drop (suc i) rows)) is
    ∙ sym (ap (λ (rs : List Row). latest_start latest rs) (drop-cons rows i row inside)) ∙ so_far

pub latest_rows_done : (rows : List Row) (i latest all : ℕ) → length rows ≤ i → latest_start latest (drop i rows) ≡ all → latest ≡ all
latest_rows_done rows i latest all past so_far = sym (ap (λ (rs : List Row). latest_start latest rs) (drop_of_length-le rows past)) ∙ so_far

max_is : (since started : ℕ) → since ≤ started → max since started ≡ started
max_is since started le = omega (arith, le)

fallen_none : (since : ℕ) (rows : List Row) (polls : List PollRow) → all_in poll_in rows ≡ Ok polls → fallen_from since rows ≡ [] → starts_rise since polls ≡ true
fallen_none since [] polls h none = sym (ap (starts_rise since) (ok_is h))
fallen_none since (row ∷ rows) polls h none =
    let one = then_read (poll_in row) _ polls h in
    let two = then_read (all_in poll_in rows) _ polls one.2 in
    let poll = one.0 in
    let split : fallen_by since (Ok poll) ++ fallen_from (max since poll.started) rows ≡ [] =
    sym (ap (λ (q : Result PollRow RowFault). fallen_by since q ++ fallen_from (later_start since q) rows) one.1) ∙ none in
    let both = both_none (fallen_by since (Ok poll)) (fallen_from (max since poll.started) rows) split in
    let low = not_lt poll.started since (if_none (nat_lt poll.started since) (Poll poll.number StartedBefore) [] both.0) in
    let later : fallen_from poll.started rows ≡ [] = subst (λ (n : ℕ). fallen_from n rows ≡ []) (max_is since poll.started low) both.1 in
    sym (ap (starts_rise since) (ok_is two.2))
    ∙ and_from (nat_le since poll.started) (starts_rise poll.started two.0) (le_is since poll.started low) (fallen_none poll.started rows two.0 two.1 later)

none_fallen : (since : ℕ) (rows : List Row) (polls : List PollRow) → all_in poll_in rows ≡ Ok polls → starts_rise since polls ≡ true → fallen_from since rows ≡ []
none_fallen since [] polls h all = refl
none_fallen since (row ∷ rows) polls h all =
    let one = then_read (poll_in row) _ polls h in
    let two = then_read (all_in poll_in rows) _ polls one.2 in
    let poll = one.0 in
    let tests = and_parts (nat_le since poll.started) (starts_rise poll.started two.0) (ap (starts_rise since) (ok_is two.2) ∙ all) in
    let low = le_of since poll.started tests.0 in
    ap (λ (q : Result PollRow RowFault). fallen_by since q ++ fallen_from (later_start since q) rows) one.1
    ∙ ap (λ (b : Bool). (let ds : List Difference = if b then Poll poll.number StartedBefore ∷ [] else [] in ds) ++ fallen_from (max since poll.started) rows) (lt_not poll.started since low)
    ∙ ap (λ n. fallen_from n rows) (max_is since poll.started low)
    ∙ none_fallen poll.started rows two.0 two.1 tests.1

-- Lemmas on outcomes that are earlier than the start of their polls.

same_begun : (outcome : OutcomeRow) (rows : List Row) (polls : List PollRow) → all_in poll_in rows ≡ Ok polls → list_any (began outcome) rows ≡ has_begun polls outcome
same_begun outcome [] polls h = ap (λ ps. has_begun ps outcome) (ok_is h)
same_begun outcome (row ∷ rows) polls h =
    let one = then_read (poll_in row) _ polls h in
    let two = then_read (all_in poll_in rows) _ polls one.2 in
    ap (λ (q : Result PollRow RowFault). began_by outcome row q || list_any (began outcome) rows) one.1
    ∙ ap (λ b. is_begun outcome one.0 || b) (same_begun outcome rows two.0 two.1)
    ∙ ap (λ ps. has_begun ps outcome) (ok_is two.2)

module _ (poll_rows : List Row) (polls : List PollRow) (polls_read : all_in poll_in poll_rows ≡ Ok polls) where
  early_none : (rows : List Row) (outcomes : List OutcomeRow) → all_in outcome_in rows ≡ Ok outcomes → each_of (early poll_rows) rows ≡ []
      → list_all (has_begun polls) outcomes ≡ true
  early_none [] outcomes h none = sym (ap (list_all (has_begun polls)) (ok_is h))
  early_none (row ∷ rows) outcomes h none =
      let one = then_read (outcome_in row) _ outcomes h in
      let two = then_read (all_in outcome_in rows) _ outcomes one.2 in
      let none_at = both_none (early_by poll_rows (outcome_in row)) (each_of (early poll_rows) rows) none in
      let here : early_by poll_rows (Ok one.0) ≡ [] = subst (λ (q : Result OutcomeRow RowFault). early_by poll_rows q ≡ []) one.1 none_at.0 in
      let any = else_none (list_any (began one.0) poll_rows) [] (Poll one.0.poll EndedBefore) [] here in
      sym (ap (list_all (has_begun polls)) (ok_is two.2))
      ∙ and_from (has_begun polls one.0) (list_all (has_begun polls) two.0) (sym (same_begun one.0 poll_rows polls polls_read) ∙ any.0)
      (early_none rows two.0 two.1 none_at.1)

  none_early : (rows : List Row) (outcomes : List OutcomeRow) → all_in outcome_in rows ≡ Ok outcomes → list_all (has_begun polls) outcomes ≡ true
      → each_of (early poll_rows) rows ≡ []
  none_early [] outcomes h all = refl
  none_early (row ∷ rows) outcomes h all =
      let one = then_read (outcome_in row) _ outcomes h in
      let two = then_read (all_in outcome_in rows) _ outcomes one.2 in
      let both = and_parts (has_begun polls one.0) (list_all (has_begun polls) two.0) (ap (list_all (has_begun polls)) (ok_is two.2) ∙ all) in
      ap (λ (q : Result OutcomeRow RowFault). early_by poll_rows q ++ each_of (early poll_rows) rows) one.1
      ∙ ap (λ (b : Bool). (let ds : List Difference = if b then [] else Poll one.0.poll EndedBefore ∷ [] in ds) ++ each_of (early poll_rows) rows)
      (same_begun one.0 poll_rows polls polls_read ∙ both.0)
      ∙ none_early rows two.0 two.1 both.1

-- Lemmas on runs of polls (consecutive poll numbers). An audit reports no discrepancy for runs if
-- and only if three conditions are true. All values are in range, and no number is missing or out
-- of order. Each outcome belongs to a poll that did not start after it.

none_is_fine : (run last since : ℕ) (rows : RunRows) → differences_of_run run last since rows ≡ [] → IsFineRun run last since rows
none_is_fine run last since rows none =
    let order = order_of (first_number run) (last_number run last) rows.polls.items in
    let fallen = fallen_from since rows.polls.items in
    let late = each_of (early rows.polls.items) rows.outcomes.items in
    let both = both_none (values_of rows) (turns_of run last since rows) none in
    let values = both_none (each_of unread_poll rows.polls.items) (each_of unread_outcome rows.outcomes.items) both.0 in
    let turns = both_none (order ++ fallen) late both.1 in
    let starts = both_none order fallen turns.0 in
    let polls = all_read_of OutOfRange poll_in rows.polls.items values.0 in
    let outcomes = all_read_of EndOutOfRange outcome_in rows.outcomes.items values.1 in
    record {
      polls = polls.0;
      outcomes = outcomes.0;
      polls_read = polls.1;
      outcomes_read = outcomes.1;
      numbered = order_none (first_number run) (last_number run last) rows.polls.items polls.0 polls.1 starts.0;
      rising = fallen_none since rows.polls.items polls.0 polls.1 starts.1;
      begun = early_none rows.polls.items polls.0 polls.1 rows.outcomes.items outcomes.0 outcomes.1 turns.1;
    }

both_empty : {X : Type 0} (xs ys : List X) → xs ≡ [] → ys ≡ [] → xs ++ ys ≡ []
both_empty xs ys h g = ap (λ l. l ++ ys) h ∙ g

fine_is_none : (run last since : ℕ) (rows : RunRows) → IsFineRun run last since rows → differences_of_run run last since rows ≡ []
fine_is_none run last since rows fine =
    both_empty (values_of rows) (turns_of run last since rows)
    (both_empty (each_of unread_poll rows.polls.items) (each_of unread_outcome rows.outcomes.items)
    (none_unread OutOfRange poll_in rows.polls.items fine.polls fine.polls_read)
    (none_unread EndOutOfRange outcome_in rows.outcomes.items fine.outcomes fine.outcomes_read))
    (both_empty (order_of (first_number run) (last_number run last) rows.polls.items ++ fallen_from since rows.polls.items) (each_of (early rows.polls.items) rows.outcomes.items)
    (both_empty (order_of (first_number run) (last_number run last) rows.polls.items) (fallen_from since rows.polls.items)
    (none_order (first_number run) (last_number run last) rows.polls.items fine.polls fine.polls_read fine.numbered)
    (none_fallen since rows.polls.items fine.polls fine.polls_read fine.rising))
    (none_early rows.polls.items fine.polls fine.polls_read rows.outcomes.items fine.outcomes fine.outcomes_read fine.begun))

pub none_are_fine : (run last since : ℕ) (runs : List RunRows) → differences_of_runs run last since runs ≡ [] → AreFineRuns run last since runs
none_are_fine run last since [] none = tt
none_are_fine run last since (rows ∷ others) none =
    let later = latest_start since rows.polls.items in
    let both = both_none (differences_of_run run last since rows) (differences_of_runs (suc run) last later others) none in
    (none_is_fine run last since rows both.0, none_are_fine (suc run) last later others both.1)

pub fine_are_none : (run last since : ℕ) (runs : List RunRows) → AreFineRuns run last since runs → differences_of_runs run last since runs ≡ []
fine_are_none run last since [] fine = refl
fine_are_none run last since (rows ∷ others) fine =
    let later = latest_start since rows.polls.items in
    both_empty (differences_of_run run last since rows) (differences_of_runs (suc run) last later others) (fine_is_none run last since rows fine.0)
    (fine_are_none (suc run) last later others fine.1)

pub differences_more : (run last since : ℕ) (xs : List RunRows) (x : RunRows)
    → differences_of_runs run last since (xs ++ x ∷ []) ≡ differences_of_runs run last since xs ++ differences_of_run (run + length xs) last (latest_of_runs since xs) x
differences_more run last since [] x =
    let there : run ≡ run + length (let none : List RunRows = [] in none) = omega arith in
    append_none (differences_of_run run last since x) ∙ ap (λ (n : ℕ). differences_of_run n last since x) there
differences_more run last since (y ∷ ys) x =
    let later = latest_start since y.polls.items in
    let latest = latest_of_runs later ys in
    let there : suc run + length ys ≡ run + length (y ∷ ys) = omega arith in
    ap (λ (ds : List Difference). differences_of_run run last since y ++ ds) (differences_more (suc run) last later ys x)
    ∙ sym (append_assoc (differences_of_run run last since y) (differences_of_runs (suc run) last later ys) (differences_of_run (suc run + length ys) last latest x))
    ∙ ap (λ (n : ℕ). differences_of_runs run last since (y ∷ ys) ++ differences_of_run n last latest x) there

pub latest_more : (since : ℕ) (xs : List RunRows) (x : RunRows) → latest_of_runs since (xs ++ x ∷ []) ≡ latest_start (latest_of_runs since xs) x.polls.items
latest_more since [] x = refl
latest_more since (y ∷ ys) x = latest_more (latest_start since y.polls.items) ys x
