-- Lemmas: selecting or filtering elements of a reversed list of records yields the selected
-- elements in reverse order.
use Rattle.std.proofs.Common.{◌≡◌, Bool, List, [], ◌∷◌, ◌++◌, reverse, refl, sym, ap, ◌∙◌, Option, Some, None}
use Rattle.std.specs.List.{filter, filter_map, cons_option}
use Rattle.std.proofs.lemmas.List.{append-nil, reverse-reverse}
use Rattle.std.proofs.lemmas.List.Elements.{filter_map-append}
use Rattle.office_books.proofs.Lists.{reverse_cons, filter_reverse}

one_last : {X Y : Type 0} (h : X → Option Y) (x : X) (o : Option Y) (ys : List Y) → h x ≡ o
    → reverse ys ++ cons_option o [] ≡ reverse (cons_option o ys)
one_last h x None ys is = append-nil (reverse ys)
one_last h x (Some y) ys is = sym (reverse_cons y ys)

pub filter_map_reverse : {X Y : Type 0} (h : X → Option Y) (xs : List X) → filter_map h (reverse xs) ≡ reverse (filter_map h xs)
filter_map_reverse h [] = refl
filter_map_reverse h (x ∷ xs) =
    ap (filter_map h) (reverse_cons x xs) ∙ filter_map-append h (reverse xs) (x ∷ [])
    ∙ ap (λ ys. ys ++ cons_option (h x) []) (filter_map_reverse h xs) ∙ one_last h x (h x) (filter_map h xs) refl

-- Selecting records of one kind from a reversed list yields the selected records in reverse order.
pub turned : {X Y : Type 0} (h : X → Option Y) (xs : List X) → filter_map h xs ≡ reverse (filter_map h (reverse xs))
turned h xs = sym (ap reverse (filter_map_reverse h xs) ∙ reverse-reverse (filter_map h xs))

-- Selecting records that satisfy a predicate from a reversed list yields the selected records in
-- reverse order.
pub turned_among : {X Y : Type 0} (h : X → Option Y) (p : Y → Bool) (xs : List X)
    → filter p (filter_map h xs) ≡ reverse (filter p (filter_map h (reverse xs)))
turned_among h p xs = ap (filter p) (turned h xs) ∙ filter_reverse p (filter_map h (reverse xs))
