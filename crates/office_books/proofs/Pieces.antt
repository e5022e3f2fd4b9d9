-- Properties of the lists of a meter's entries that are read in chunks by sequence number: the
-- chunks together are all entries.
use Rattle.std.proofs.Common.{◌≡◌, ℕ, Some, zero, suc, ◌+◌, ◌<◌, ◌≤◌, ◌==◌, ◌&&◌, nat_le, List, [], ◌∷◌, ◌++◌, reverse, take, drop, length, inl, inr, refl, sym, ap, subst, ◌∙◌, arith}
use Rattle.std.specs.List.{filter}
use Rattle.std.proofs.lemmas.Bool.{cases_Bool, cond-true, cond-false, le-leb, lt-leb}
use Rattle.std.proofs.lemmas.List.{drop-take, length-reverse, take-append-drop, take-take}
use Rattle.energy_core.specs.declared.entries.Last.{Last}
use Rattle.energy_core.specs.Account.{last_of}
use Rattle.meter_journal.specs.declared.lines.EntryRow.{EntryRow}
use Rattle.meter_journal.specs.Journal as journal
use Rattle.meter_journal.specs.Lists.{AreNumbered}
use Rattle.office_events.specs.declared.facts.Fact.{Fact}
use Rattle.office_events.specs.declared.facts.Opening.{Opening}
use Rattle.office_books.specs.Meters.{journal_of, opened, rows_of}
use Rattle.office_books.proofs.Lists.{reverse_cons}
use Rattle.office_books.specs.declared.entries.MeterEntry.{MeterEntry}
use Rattle.office_books.specs.declared.entries.MeterEntry.TheVariants as entry
use Rattle.office_books.specs.Entries.{entries_at, first_from, listed_rows, place_of, scale_after}

-- A void (cancellation of an entry) changes no row's sequence number.

rolled_place : (last : Last) (row : EntryRow) → (journal.rolled last row).place ≡ row.place
rolled_place last row =
    elim (cases_Bool (row.stands && journal.is_reading row.kind)) [
      | inl e ↦ ap (λ (r : EntryRow). r.place) (cond-true _ _ _ e)
      | inr e ↦ ap (λ (r : EntryRow). r.place) (cond-false _ _ _ e)
    ]

void_length : (o : Last) (place : ℕ) (rows : List EntryRow) → length (journal.with_void o place rows) ≡ length rows
void_length o place [] = refl
void_length o place (row ∷ rows) =
    elim (cases_Bool (row.place == place)) [
      | inl e ↦ ap length (cond-true _ _ _ e)
      | inr e ↦ ap length (cond-false _ _ _ e) ∙ ap suc (void_length o place rows)
    ]

void_numbered : (o : Last) (place : ℕ) (rows : List EntryRow) → AreNumbered rows → AreNumbered (journal.with_void o place rows)
void_numbered o place [] h = tt
void_numbered o place (row ∷ rows) h =
    elim (cases_Bool (row.place == place)) [
      | inl e ↦ subst AreNumbered (sym (cond-true _ _ _ e)) (h.0, h.1)
      | inr e ↦
          let rest = journal.with_void o place rows in
          subst AreNumbered (sym (cond-false _ _ _ e))
          (rolled_place (last_of o (journal.entries_in rest)) row ∙ h.0 ∙ ap (λ n. n + 2) (sym (void_length o place rows)), void_numbered o place rows h.1)
    ]

rows_numbered : (o : Last) (lines : journal.Journal) → AreNumbered (journal.rows_of o lines)
rows_numbered o [] = tt
rows_numbered o (journal.Entered k e ∷ lines) = (refl, rows_numbered o lines)
rows_numbered o (journal.Held reading cause ∷ lines) = rows_numbered o lines
rows_numbered o (journal.Voided place ∷ lines) = void_numbered o place (journal.rows_of o lines) (rows_numbered o lines)

-- Lemmas that the entries of a meter have the consecutive sequence numbers 1, 2 and so on.

abbrev Ascends : ℕ → List MeterEntry → Type 0
Ascends k [] = Unit {0}
Ascends k (e ∷ es) = (place_of e ≡ k) × Ascends (k + 1) es

one_following : (k : ℕ) (es : List MeterEntry) (e : MeterEntry) → Ascends k es → place_of e ≡ k + length es → Ascends k (es ++ e ∷ [])
one_following k [] e h is = (is ∙ (let z : k + 0 ≡ k = omega arith in z), tt)
one_following k (x ∷ es) e h is =
    (h.0, one_following (k + 1) es e h.1 (is ∙ (let z : k + suc (length es) ≡ k + 1 + length es = omega arith in z)))

how_many : (opening : Opening) (rows : List EntryRow) → length (listed_rows opening rows) ≡ length rows + 1
how_many opening [] = refl
how_many opening (row ∷ rows) =
    let before : length (listed_rows opening rows) ≡ length rows + 1 = how_many opening rows in omega (arith, before)

turned : (opening : Opening) (rows : List EntryRow) → AreNumbered rows → Ascends 1 (reverse (listed_rows opening rows))
turned opening [] h = (refl, tt)
turned opening (row ∷ rows) h =
    let rest = listed_rows opening rows in
    let e = entry.Later row (scale_after opening (row ∷ rows)) in
    let size : length (reverse rest) ≡ length rows + 1 = length-reverse rest ∙ how_many opening rows in
    subst (Ascends 1) (sym (reverse_cons e rest))
    (one_following 1 (reverse rest) e (turned opening rows h.1)
    (h.0 ∙ (let z : length rows + 2 ≡ 1 + length (reverse rest) = omega (arith, size) in z)))

all_later : (m k : ℕ) (es : List MeterEntry) → m ≤ k → Ascends k es → filter (λ e. nat_le m (place_of e)) es ≡ es
all_later m k [] le h = refl
all_later m k (e ∷ es) le h =
    cond-true _ _ _ (le-leb m (place_of e) (omega (arith, le, h.0)))
    ∙ ap (λ (those : List MeterEntry). e ∷ those) (all_later m (k + 1) es (omega (arith, le)) h.1)

from_place : (k n m : ℕ) (es : List MeterEntry) → m ≡ k + n → Ascends k es → filter (λ e. nat_le m (place_of e)) es ≡ drop n es
from_place k zero m es is h = all_later m k es (omega (arith, is)) h
from_place k (suc n) m [] is h = refl
from_place k (suc n) m (e ∷ es) is h =
    cond-false _ _ _ (lt-leb m (place_of e) (omega (arith, is, h.0)))
    ∙ from_place (k + 1) n m es (omega (arith, is)) h.1

-- The chunk of a meter's entries from sequence number `n + 1` on consists of the entries after the
-- first `n`, at most `most` of them.

pub piece_at : (facts : List Fact) (opening : Opening) (n most : ℕ)
    → first_from (n + 1) most (entries_at facts (Some opening)) ≡ take most (drop n (entries_at facts (Some opening)))
piece_at facts opening n most =
    let es = entries_at facts (Some opening) in
    let ascends : Ascends 1 es = turned opening (rows_of facts opening) (rows_numbered (opened opening) (journal_of facts opening.meter)) in
    ap (take most) (from_place 1 n (n + 1) es (omega arith) ascends)

pub one_piece_more : {X : Type 0} (n m : ℕ) (xs : List X) → take n xs ++ take m (drop n xs) ≡ take (n + m) xs
one_piece_more n m xs =
    ap (λ front. front ++ take m (drop n xs)) (sym (take-take n (n + m) xs (omega arith)))
    ∙ ap (λ rest. take n (take (n + m) xs) ++ rest) (sym (drop-take n m xs))
    ∙ take-append-drop n (take (n + m) xs)

not_full : {X : Type 0} (m : ℕ) (xs : List X) → length (take m xs) < m → take m xs ≡ xs
not_full zero xs lt = absurd (omega (arith, lt))
not_full (suc m) [] lt = refl
not_full (suc m) (x ∷ xs) lt = ap (λ more. x ∷ more) (not_full m xs (omega (arith, lt)))

-- A chunk of a meter's entries that has fewer entries than the `m` entries that were requested is
-- the last chunk.
pub last_piece : {X : Type 0} (n m : ℕ) (xs : List X) → length (take m (drop n xs)) < m → take n xs ++ take m (drop n xs) ≡ xs
last_piece n m xs lt =
    ap (λ rest. take n xs ++ rest) (not_full m (drop n xs) lt) ∙ take-append-drop n xs
