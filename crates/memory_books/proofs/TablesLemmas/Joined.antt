-- Lemmas: the interval rows of an accounting register (a named energy counter) are the interval
-- rows of its meters, one meter after another.
use Rattle.std.proofs.Common.{◌≡◌, ◌⊎◌, ◌+◌, ◌<◌, ℕ, zero, suc, List, [], ◌∷◌, ◌++◌, reverse, take, length, get_or, inl, inr, Option, Some, None, refl, sym, ap, subst, ◌∙◌, arith}
use Rattle.std.specs.List.{Contains, filter_map, flat_map, cons_option}
use Rattle.std.proofs.lemmas.Grind.{flat_map-append}
use Rattle.std.proofs.lemmas.List.{append-nil, take_more}
use Rattle.std.proofs.lemmas.List.Elements.{Contains-push_cases, filter_map-append}
use Rattle.office_events.specs.declared.facts.Opening.{Opening}
use Rattle.office_events.specs.declared.facts.Fact.{Fact}
use Rattle.office_books.specs.Facts.{as_opening, openings_in}
use Rattle.office_books.specs.Intervals.{rows_of_opening, rows_of_installed, rows_of_meter}
use Rattle.office_books.specs.Lawful.{AreLawful}
use Rattle.office_books.proofs.Journals.{found}
use Rattle.office_books.proofs.Lists.{reverse_cons}
use Rattle.interval_core.specs.declared.shares.Share.{Share}
use Rattle.memory_books.specs.Tables.IntervalRows.{rows_at}
use Rattle.memory_books.specs.Tables.Lookups.{opening_at}
use Rattle.memory_books.proofs.TablesLemmas.Turned.{filter_map_reverse}

-- A list contains its first element.
is_head : {X : Type 0} (y : X) (ys : List X) (x : X) → y ≡ x → Contains (y ∷ ys) x
is_head y ys x is = (0, omega arith, is)

in_tail : {X : Type 0} (y : X) (ys : List X) (x : X) → Contains ys x → Contains (y ∷ ys) x
in_tail y ys x h = (suc h.0, omega (arith, h.1), h.2)

turned_over : {X : Type 0} (y x : X) (ys zs : List X) → (Contains zs x → Contains ys x) → Contains zs x ⊎ (y ≡ x) → Contains (y ∷ ys) x
turned_over y x ys zs back (inl h) = in_tail y ys x (back h)
turned_over y x ys zs back (inr is) = is_head y ys x is

of_turned : {X : Type 0} (xs : List X) (x : X) → Contains (reverse xs) x → Contains xs x
of_turned [] x h = h
of_turned (y ∷ ys) x h =
    turned_over y x ys (reverse ys) (of_turned ys x)
    (Contains-push_cases (reverse ys) y x (subst (λ zs. Contains zs x) (reverse_cons y ys) h))

-- If a list contains an element, then the list still contains the element after an optional further
-- element is added in front.
after_option : {X : Type 0} (o : Option X) (ys : List X) (x : X) → Contains ys x → Contains (cons_option o ys) x
after_option None ys x h = h
after_option (Some y) ys x h = in_tail y ys x h

opening_there : (facts : List Fact) (i : ℕ) (o : Opening) → opening_at facts i ≡ Some o → Contains (openings_in facts) o
opening_there [] i o is = absurd (cc)
opening_there (f ∷ facts) zero o is =
    subst (λ (found : Option Opening). Contains (cons_option found (openings_in facts)) o) (sym is) (is_head o (openings_in facts) o refl)
opening_there (f ∷ facts) (suc i) o is = after_option (as_opening f) (openings_in facts) o (opening_there facts i o is)

pub recorded_at : (known facts : List Fact) (place : ℕ) (o : Opening) → facts ≡ reverse known → opening_at facts place ≡ Some o → Contains (openings_in known) o
recorded_at known facts place o is found =
    of_turned (openings_in known) o
    (subst (λ (os : List Opening). Contains os o) (filter_map_reverse as_opening known)
    (opening_there (reverse known) place o (ap (λ (fs : List Fact). opening_at fs place) (sym is) ∙ found)))

-- The interval rows (energy by quarter hour) of an accounting register's first `i + 1` meters are
-- those of its first `i` meters, followed by those of the next meter.
pub next_place : (known facts : List Fact) (places : List ℕ) (i d : ℕ) → i < length places
    → rows_at known facts (take (i + 1) places) ≡ rows_at known facts (take i places) ++ rows_at known facts (get_or places i d ∷ [])
next_place known facts places i d less =
    let rows : List Opening → List Share = flat_map (rows_of_opening known) in
    let opened : List ℕ → List Opening = filter_map (opening_at facts) in
    ap (λ (ps : List ℕ). rows (opened ps)) (take_more places i d less)
    ∙ ap rows (filter_map-append (opening_at facts) (take i places) (get_or places i d ∷ []))
    ∙ flat_map-append (rows_of_opening known) (opened (take i places)) (opened (get_or places i d ∷ []))

-- A meter has the same interval rows (energies by quarter hour), whether it is looked up by its
-- name or by the index of its installation record.
pub rows_there : (known facts : List Fact) (place : ℕ) (o : Opening) → AreLawful known → facts ≡ reverse known → opening_at facts place ≡ Some o
    → rows_of_meter known o.meter ≡ rows_at known facts (place ∷ [])
rows_there known facts place o lawful is there =
    ap (rows_of_installed known) (found known o lawful (recorded_at known facts place o is there))
    ∙ sym (append-nil (rows_of_opening known o))
    ∙ ap (λ (found : Option Opening). flat_map (rows_of_opening known) (cons_option found [])) (sym there)
