-- Lemmas on entry rows whose sequence numbers follow from their indices: the row at the index `i`
-- has the number `i + 2`.
use Rattle.std.proofs.Common.{◌≡◌, ℕ, zero, suc, ◌+◌, ◌<◌, List, [], ◌∷◌, ◌++◌, reverse, take, drop, length, get_or, refl, sym, ap, subst, ◌∙◌, arith}
use Rattle.std.proofs.lemmas.List.{reverse-append, length-reverse, length-take-le, take-append-drop, take_more}
use Rattle.meter_journal.specs.declared.lines.EntryRow.{EntryRow}
use Rattle.meter_journal.specs.Lists.{AreNumbered, latest_first}

-- If the first `i` + 1 rows of a list are reversed, the result begins with the row at the index
-- `i`.
reverse_more : (rows : List EntryRow) (i : ℕ) (row : EntryRow) → i < length rows → row ≡ get_or rows i row → reverse (take (i + 1) rows) ≡ row ∷ reverse (take i rows)
reverse_more rows i row less is =
    ap reverse (take_more rows i row less ∙ ap (λ r. take i rows ++ r ∷ []) (sym is)) ∙ reverse-append (take i rows) (row ∷ [])

long_so : (rows : List EntryRow) (i : ℕ) → i < length rows → length (reverse (take i rows)) ≡ i
long_so rows i less = length-reverse (take i rows) ∙ length-take-le i rows (omega (arith, less))

pub numbered_more : (rows : List EntryRow) (i : ℕ) (row : EntryRow) → i < length rows → row ≡ get_or rows i row → row.place ≡ i + 2
    → AreNumbered (latest_first (take i rows)) → AreNumbered (latest_first (take (i + 1) rows))
numbered_more rows i row less is place h =
    subst AreNumbered (sym (reverse_more rows i row less is)) (omega (arith, place, long_so rows i less), h)

before_numbered : (later rows : List EntryRow) → AreNumbered (later ++ rows) → AreNumbered rows
before_numbered [] rows h = h
before_numbered (row ∷ later) rows h = before_numbered later rows h.1

pub numbered_at : (rows : List EntryRow) (i : ℕ) (row : EntryRow) → i < length rows → row ≡ get_or rows i row → AreNumbered (latest_first rows) → row.place ≡ i + 2
numbered_at rows i row less is h =
    let parts : reverse rows ≡ reverse (drop (i + 1) rows) ++ reverse (take (i + 1) rows) =
    ap reverse (sym (take-append-drop (i + 1) rows)) ∙ reverse-append (take (i + 1) rows) (drop (i + 1) rows) in
    let first : AreNumbered (reverse (take (i + 1) rows)) =
    before_numbered (reverse (drop (i + 1) rows)) (reverse (take (i + 1) rows)) (subst AreNumbered parts h) in
    let own : AreNumbered (row ∷ reverse (take i rows)) = subst AreNumbered (reverse_more rows i row less is) first in
    omega (arith, own.0, long_so rows i less)

own_default : (rows : List EntryRow) (i : ℕ) (d e : EntryRow) → i < length rows → get_or rows i d ≡ get_or rows i e
own_default [] i d e less = absurd (omega (arith, less))
own_default (row ∷ rows) zero d e less = refl
own_default (row ∷ rows) (suc i) d e less = own_default rows i d e (omega (arith, less))

pub not_numbered : (rows : List EntryRow) (i : ℕ) (d : EntryRow) → i < length rows → ((get_or rows i d).place ≡ i + 2 → ⊥) → AreNumbered (latest_first rows) → ⊥
not_numbered rows i d less other h =
    other (numbered_at rows i (get_or rows i d) less (own_default rows i d (get_or rows i d) less) h)
