-- Lemmas: the functions that compute a meter's state from its entry rows, the oldest first, agree
-- with the definitions, which take the latest row first.
use Rattle.std.proofs.Common.{◌≡◌, ℕ, zero, suc, ◌+◌, ◌<◌, ◌≤◌, ◌==◌, Bool, true, false, cond, List, [], ◌∷◌, ◌++◌, map, reverse, take, drop, length, get_or, set, refl, sym, ap, subst, ◌∙◌, inl, inr, ◌⊎◌, Option, Some, None, arith, append_assoc, eq-eqb}
use Rattle.std.specs.List.{find}
use Rattle.std.specs.Option.{option_map, option_or}
use Rattle.std.proofs.lemmas.Bool.{cases_Bool, cond-true, cond-false}
use Rattle.std.proofs.lemmas.Bool.Decides.{nat_tests}
use Rattle.std.proofs.lemmas.List.{append-nil, reverse-append, length-reverse, take-append-drop, take_more, take_more_set, drop_more, drop-set-lt, drop_all, take_all}
use Rattle.energy_core.specs.declared.entries.Last.{Last}
use Rattle.energy_core.specs.Account.{last_of}
use Rattle.meter_journal.specs.declared.lines.EntryRow.{EntryRow}
use Rattle.meter_journal.specs.Journal.{Around, standing, entries_in, rolled, struck, with_void, if_standing, passed, row_at}
use Rattle.meter_journal.specs.Lists.{latest_first, AreNumbered, following, rolled_on}

pub reverse_cons : {X : Type 0} (x : X) (xs : List X) → reverse (x ∷ xs) ≡ reverse xs ++ x ∷ []
reverse_cons x xs = reverse-append (x ∷ []) xs

pub reverse_onto : {X : Type 0} (x : X) (xs ys : List X) → reverse (x ∷ xs) ++ ys ≡ reverse xs ++ x ∷ ys
reverse_onto x xs ys = ap (λ zs. zs ++ ys) (reverse_cons x xs) ∙ append_assoc (reverse xs) (x ∷ []) ys

-- The counter's state after one more row of a meter's entries depends only on this row and on the
-- state before it.
pub last_on : (opening : Last) (row : EntryRow) (rows : List EntryRow) → last_of opening (entries_in (row ∷ rows)) ≡ following (last_of opening (entries_in rows)) row
last_on opening row rows =
    elim (cases_Bool row.stands) [
      | inl on ↦
          ap (λ b. last_of opening (map (λ (r : EntryRow). r.entry) (cond b (row ∷ standing rows) (standing rows)))) on ∙ sym (cond-true _ _ _ on)
      | inr off ↦
          ap (λ b. last_of opening (map (λ (r : EntryRow). r.entry) (cond b (row ∷ standing rows) (standing rows)))) off ∙ sym (cond-false _ _ _ off)
    ]

pub turned : (rows : List EntryRow) (i : ℕ) (d : EntryRow) → i < length rows → latest_first (take (i + 1) rows) ≡ get_or rows i d ∷ latest_first (take i rows)
turned rows i d lt = ap (λ (rs : List EntryRow). reverse rs) (take_more rows i d lt) ∙ reverse-append (take i rows) (get_or rows i d ∷ [])

pub last_more : (opening : Last) (rows : List EntryRow) (i : ℕ) (d : EntryRow) (last next : Last) → i < length rows
    → last ≡ last_of opening (entries_in (latest_first (take i rows))) → next ≡ following last (get_or rows i d)
    → next ≡ last_of opening (entries_in (latest_first (take (i + 1) rows)))
last_more opening rows i d last next lt last_is next_is =
    next_is ∙ ap (λ (l : Last). following l (get_or rows i d)) last_is
    ∙ sym (last_on opening (get_or rows i d) (latest_first (take i rows)))
    ∙ ap (λ (rs : List EntryRow). last_of opening (entries_in rs)) (sym (turned rows i d lt))

pub last_all : (opening : Last) (rows : List EntryRow) (i : ℕ) (last : Last) → length rows ≤ i
    → last ≡ last_of opening (entries_in (latest_first (take i rows))) → last ≡ last_of opening (entries_in (latest_first rows))
last_all opening rows i last le is = is ∙ ap (λ (rs : List EntryRow). last_of opening (entries_in (latest_first rs))) (take_all i rows le)

-- If all rows of a list have consecutive sequence numbers, then its older rows alone have
-- consecutive sequence numbers too.

pub numbered_below : (newer older : List EntryRow) → AreNumbered (newer ++ older) → AreNumbered older
numbered_below [] older h = h
numbered_below (row ∷ newer) older h = numbered_below newer older h.1

-- States that the rows of a list, the oldest first, have consecutive sequence numbers that begin
-- with a given number.
abbrev pub NumberedFrom : ℕ → List EntryRow → Type 0
NumberedFrom n [] = Unit {0}
NumberedFrom n (row ∷ rows) = (row.place ≡ n) × NumberedFrom (suc n) rows

numbered_onto : (rows done : List EntryRow) → AreNumbered (reverse rows ++ done) → NumberedFrom (length done + 2) rows
numbered_onto [] done h = tt
numbered_onto (row ∷ rows) done h =
    let turned : AreNumbered (reverse rows ++ row ∷ done) = subst AreNumbered (reverse_onto row rows done) h in (
      (numbered_below (reverse rows) (row ∷ done) turned).0,
      subst (λ n. NumberedFrom n rows) (let e : length (row ∷ done) + 2 ≡ suc (length done + 2) = omega arith in e) (numbered_onto rows (row ∷ done) turned),
    )

pub numbered_from : (rows : List EntryRow) → AreNumbered (latest_first rows) → NumberedFrom 2 rows
numbered_from rows h = numbered_onto rows [] (subst AreNumbered (sym (append-nil (reverse rows))) h)

-- If a list of rows has consecutive sequence numbers, each of its tails has consecutive sequence
-- numbers too.
pub numbered_drop : (n m i : ℕ) (rows : List EntryRow) → m ≡ i + n → NumberedFrom n rows → NumberedFrom m (drop i rows)
numbered_drop n m zero rows is h = let e : n ≡ m = omega (arith, is) in subst (λ k. NumberedFrom k rows) e h
numbered_drop n m (suc i) [] is h = tt
numbered_drop n m (suc i) (row ∷ rows) is h = numbered_drop (suc n) m i rows (omega (arith, is)) h.1

-- If an entry is voided (cancelled), then the rows after it change only because the rollovers of
-- valid readings are recomputed.
void_onto : (opening : Last) (place n : ℕ) (newer before done : List EntryRow) → place < n → NumberedFrom n newer
    → with_void opening place before ≡ done
    → with_void opening place (reverse newer ++ before) ≡ reverse (rolled_on (last_of opening (entries_in done)) newer) ++ done
void_onto opening place n [] before done lt h is = is
void_onto opening place n (row ∷ newer) before done lt h is =
    let off : row.place == place ≡ false = let e : row.place ≡ n = h.0 in grind (arith, nat_tests, e, lt) in
    let next : EntryRow = rolled (last_of opening (entries_in done)) row in
    let step : with_void opening place (row ∷ before) ≡ next ∷ done =
    cond-false _ _ _ off ∙ ap (λ (rs : List EntryRow). rolled (last_of opening (entries_in rs)) row ∷ rs) is in
    ap (with_void opening place) (reverse_onto row newer before)
    ∙ void_onto opening place (suc n) newer (row ∷ before) (next ∷ done) (omega (arith, lt)) h.1 step
    ∙ ap (λ (l : Last). reverse (rolled_on l newer) ++ next ∷ done) (last_on opening next done)
    ∙ sym (reverse_onto next (rolled_on (following (last_of opening (entries_in done)) next) newer) done)

-- If the rollovers of one more row are recomputed, then the invariant of the loop that recomputes
-- the rollovers of all rows still holds.
pub roll_step : (rows : List EntryRow) (i : ℕ) (last stand : Last) (d next : EntryRow) → i < length rows → next ≡ rolled last (get_or rows i d)
    → stand ≡ following last next
    → take (i + 1) (set rows i next) ++ rolled_on stand (drop (i + 1) (set rows i next)) ≡ take i rows ++ rolled_on last (drop i rows)
roll_step rows i last stand d next lt next_is stand_is =
    let row : EntryRow = get_or rows i d in
    let rest : List EntryRow = drop (i + 1) rows in
    ap (λ rs. rs ++ rolled_on stand (drop (i + 1) (set rows i next))) (take_more_set rows i next lt)
    ∙ ap (λ rs. (take i rows ++ next ∷ []) ++ rolled_on stand rs) (drop-set-lt (i + 1) rows i next (omega arith))
    ∙ append_assoc (take i rows) (next ∷ []) (rolled_on stand rest)
    ∙ ap (λ (l : Last). take i rows ++ next ∷ rolled_on l rest) (stand_is ∙ ap (following last) next_is)
    ∙ ap (λ (r : EntryRow). take i rows ++ r ∷ rolled_on (following last (rolled last row)) rest) next_is
    ∙ ap (λ rs. take i rows ++ rolled_on last rs) (sym (drop_more rows i d lt))

pub roll_end : (rows : List EntryRow) (i : ℕ) (last : Last) → length rows ≤ i → take i rows ++ rolled_on last (drop i rows) ≡ rows
roll_end rows i last le = ap (λ rs. take i rows ++ rolled_on last rs) (drop_all i rows le) ∙ append-nil (take i rows) ∙ take_all i rows le

-- Voiding (cancelling) an entry leaves the older rows unchanged, marks the entry's row, and
-- recomputes the rollovers of the newer rows.
pub void_at : (opening : Last) (place n : ℕ) (older : List EntryRow) (row : EntryRow) (newer : List EntryRow) → place < n → NumberedFrom n newer
    → row.place == place ≡ true
    → with_void opening place (latest_first (older ++ row ∷ newer))
    ≡ latest_first ((older ++ struck row ∷ []) ++ rolled_on (last_of opening (entries_in (latest_first older))) newer)
void_at opening place n older row newer lt h at =
    let done : List EntryRow = struck row ∷ reverse older in
    let turn : (x : EntryRow) (xs : List EntryRow) → reverse (older ++ x ∷ xs) ≡ reverse xs ++ x ∷ reverse older =
    λ x xs. reverse-append older (x ∷ xs) ∙ reverse_onto x xs (reverse older) in
    let begun : with_void opening place (row ∷ reverse older) ≡ done = cond-true _ _ _ at in
    ap (with_void opening place) (turn row newer)
    ∙ void_onto opening place n newer (row ∷ reverse older) done lt h begun
    ∙ sym (turn (struck row) (rolled_on (last_of opening (entries_in (latest_first older))) newer))
    ∙ ap reverse (sym (append_assoc older (struck row ∷ []) (rolled_on (last_of opening (entries_in (latest_first older))) newer)))

-- Taking the first existing value of three options is associative.

or_assoc : {X : Type 0} (a b c : Option X) → option_or (option_or a b) c ≡ option_or a (option_or b c)
or_assoc None b c = refl
or_assoc (Some x) b c = refl

or_none : {X : Type 0} (a : Option X) → option_or a None ≡ a
or_none None = refl
or_none (Some x) = refl

first_or : (row : EntryRow) (b : Bool) (o : Option EntryRow) → cond b (Some row) o ≡ option_or (cond b (Some row) None) o
first_or row true o = refl
first_or row false o = refl

found_onto : (place n : ℕ) (newer before : List EntryRow) (a : Around) → place < n → NumberedFrom n newer → row_at place before ≡ Some a
    → row_at place (reverse newer ++ before)
    ≡ Some (record { before = a.before; row = a.row; next = option_or a.next (find (λ row. row.stands) newer) })
found_onto place n [] before a lt h is =
    is ∙ ap (λ o. let x : Around = record { before = a.before; row = a.row; next = o } in Some x) (sym (or_none a.next))
found_onto place n (row ∷ newer) before a lt h is =
    let off : row.place == place ≡ false = let e : row.place ≡ n = h.0 in grind (arith, nat_tests, e, lt) in
    let step : row_at place (row ∷ before) ≡ Some (passed row a) = cond-false _ _ _ off ∙ ap (option_map (passed row)) is in
    ap (row_at place) (reverse_onto row newer before)
    ∙ found_onto place (suc n) newer (row ∷ before) (passed row a) (omega (arith, lt)) h.1 step
    ∙ ap (λ o. let x : Around = record { before = a.before; row = a.row; next = o } in Some x)
    (or_assoc a.next (if_standing row) (find (λ r. r.stands) newer) ∙ ap (option_or a.next) (sym (first_or row row.stands (find (λ r. r.stands) newer))))

pub found_at : (place n : ℕ) (older : List EntryRow) (row : EntryRow) (newer : List EntryRow) → place < n → NumberedFrom n newer
    → row.place == place ≡ true
    → row_at place (latest_first (older ++ row ∷ newer))
    ≡ Some (record { before = latest_first older; row = row; next = find (λ r. r.stands) newer })
found_at place n older row newer lt h at =
    ap (row_at place) (reverse-append older (row ∷ newer) ∙ reverse_onto row newer (reverse older))
    ∙ found_onto place n newer (row ∷ reverse older) (record { before = reverse older; row = row; next = None }) lt h (cond-true _ _ _ at)

none_at : (place : ℕ) (rows : List EntryRow) → AreNumbered rows → (place < 2) ⊎ (length rows + 2 ≤ place) → row_at place rows ≡ None
none_at place [] h out = refl
none_at place (row ∷ rows) h out =
    let off : row.place == place ≡ false =
    elim out [
      | inl low ↦ let e : row.place ≡ length rows + 2 = h.0 in grind (arith, nat_tests, e, low)
      | inr high ↦ let e : row.place ≡ length rows + 2 = h.0 in let le : length rows + 2 < place = omega (arith, high) in grind (arith, nat_tests, e, le)
    ] in
    let rest : row_at place rows ≡ None = none_at place rows h.1 (elim out [ inl low ↦ inl low | inr high ↦ inr (omega (arith, high)) ]) in
    cond-false _ _ _ off ∙ ap (option_map (passed row)) rest

pub none_there : (place : ℕ) (rows : List EntryRow) → AreNumbered (latest_first rows) → (place < 2) ⊎ (length rows + 2 ≤ place)
    → row_at place (latest_first rows) ≡ None
none_there place rows h out =
    none_at place (latest_first rows) h (elim out [ inl low ↦ inl low | inr high ↦ inr (omega (arith, high, length-reverse rows)) ])

-- A list consists of the rows before an index, the row at the index, and the rows after it.

split_at : (rows : List EntryRow) (i : ℕ) (d : EntryRow) → i < length rows → rows ≡ take i rows ++ get_or rows i d ∷ drop (i + 1) rows
split_at rows i d lt = sym (take-append-drop i rows) ∙ ap (λ rs. take i rows ++ rs) (drop_more rows i d lt)

numbered_at : (rows : List EntryRow) (place i : ℕ) (d : EntryRow) → AreNumbered (latest_first rows) → place ≡ i + 2 → i < length rows
    → NumberedFrom place (get_or rows i d ∷ drop (i + 1) rows)
numbered_at rows place i d h is lt = subst (NumberedFrom place) (drop_more rows i d lt) (numbered_drop 2 place i rows is (numbered_from rows h))

pub found_in : (rows : List EntryRow) (place i : ℕ) (d : EntryRow) (next : Option EntryRow) → AreNumbered (latest_first rows) → place ≡ i + 2
    → i < length rows → next ≡ find (λ r. r.stands) (drop (i + 1) rows)
    → row_at place (latest_first rows) ≡ Some (record { before = latest_first (take i rows); row = get_or rows i d; next = next })
found_in rows place i d next h is lt next_is =
    let row : EntryRow = get_or rows i d in
    let numbers = numbered_at rows place i d h is lt in
    ap (λ rs. row_at place (latest_first rs)) (split_at rows i d lt)
    ∙ found_at place (suc place) (take i rows) row (drop (i + 1) rows) (omega arith) numbers.1 (eq-eqb row.place place numbers.0)
    ∙ ap (λ o. let x : Around = record { before = latest_first (take i rows); row = row; next = o } in Some x) (sym next_is)

pub struck_in : (opening last : Last) (rows : List EntryRow) (place i : ℕ) (d : EntryRow) → AreNumbered (latest_first rows) → place ≡ i + 2
    → i < length rows → last ≡ last_of opening (entries_in (latest_first (take i rows)))
    → let struck_rows = set rows i (struck (get_or rows i d)) in
    with_void opening place (latest_first rows) ≡ latest_first (take (i + 1) struck_rows ++ rolled_on last (drop (i + 1) struck_rows))
struck_in opening last rows place i d h is lt last_is =
    let row : EntryRow = get_or rows i d in
    let numbers = numbered_at rows place i d h is lt in
    ap (λ rs. with_void opening place (latest_first rs)) (split_at rows i d lt)
    ∙ void_at opening place (suc place) (take i rows) row (drop (i + 1) rows) (omega arith) numbers.1 (eq-eqb row.place place numbers.0)
    ∙ ap (λ (l : Last). latest_first ((take i rows ++ struck row ∷ []) ++ rolled_on l (drop (i + 1) rows))) (sym last_is)
    ∙ ap (λ rs. latest_first (rs ++ rolled_on last (drop (i + 1) rows))) (sym (take_more_set rows i (struck row) lt))
    ∙ ap (λ rs. latest_first (take (i + 1) (set rows i (struck row)) ++ rolled_on last rs)) (sym (drop-set-lt (i + 1) rows i (struck row) (omega arith)))
