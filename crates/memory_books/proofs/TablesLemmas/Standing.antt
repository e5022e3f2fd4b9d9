-- Lemmas: the indices that a predicate selects in the list of all records lead to the records that
-- satisfy the predicate. New records do not change earlier indices.
use Rattle.std.proofs.Common.{◌≡◌, ℕ, ◌<◌, ◌≤◌, ◌-◌, Bool, true, false, cond, List, [], ◌∷◌, reverse, length, Option, Some, None, refl, sym, ap, ◌∙◌, inl, inr, suc, arith}
use Rattle.std.specs.List.{find, filter, filter_map, cons_option, slice_get}
use Rattle.std.specs.Option.{option_and_then}
use Rattle.std.proofs.lemmas.Bool.{cases_Bool, cond-true, cond-false}
use Rattle.std.proofs.lemmas.List.{length-reverse}
use Rattle.office_events.specs.declared.facts.Fact.{Fact}
use Rattle.office_books.proofs.Lists.{reverse_cons, get_last, get_others}
use Rattle.memory_books.specs.Tables.Places.{places_of}
use Rattle.memory_books.proofs.TablesLemmas.Turned.{filter_map_reverse}

-- True if all indices in a list are below the given number.
abbrev Below : ℕ → List ℕ → Type 0
Below n [] = Unit {0}
Below n (x ∷ xs) = (x < n) × Below n xs

places_below : (p : Fact → Bool) (known : List Fact) (n : ℕ) → length known ≤ n → Below n (places_of p known)
places_below p [] n h = tt
places_below p (f ∷ known) n h =
    let rest : Below n (places_of p known) = places_below p known n (omega (arith, h)) in
    elim (p f) as (λ b. Below n (cond b (length known ∷ places_of p known) (places_of p known))) [ true ↦ (omega (arith, h), rest) | false ↦ rest ]

agree : {X : Type 0} (g k : ℕ → Option X) (n : ℕ) (xs : List ℕ) → ((i : ℕ) → i < n → k i ≡ g i) → Below n xs → filter_map k xs ≡ filter_map g xs
agree g k n [] same h = refl
agree g k n (x ∷ xs) same h =
    ap (λ o. cons_option o (filter_map k xs)) (same x h.0) ∙ ap (cons_option (g x)) (agree g k n xs same h.1)

agree_first : {X : Type 0} (g k : ℕ → Option X) (n : ℕ) (xs : List ℕ) → ((i : ℕ) → i < n → k i ≡ g i) → Below n xs
    → option_and_then k (slice_get xs 0) ≡ option_and_then g (slice_get xs 0)
agree_first g k n [] same h = refl
agree_first g k n (x ∷ xs) same h = same x h.0

-- After a record is appended to a list, the earlier records keep their indices in the list.
earlier_stand : (f : Fact) (known : List Fact) (i : ℕ) → i < length known → slice_get (reverse (f ∷ known)) i ≡ slice_get (reverse known) i
earlier_stand f known i h =
    ap (λ (fs : List Fact). slice_get fs i) (reverse_cons f known)
    ∙ get_others (reverse known) f i (λ e. omega (arith, h, e, length-reverse known))

last_stands : (f : Fact) (known : List Fact) → slice_get (reverse (f ∷ known)) (length known) ≡ Some f
last_stands f known =
    ap (λ (fs : List Fact). slice_get fs (length known)) (reverse_cons f known) ∙ get_last (reverse known) f (length known) (sym (length-reverse known))

-- If a predicate selects the indices of some records, then the records at these indices are exactly
-- the records that satisfy the predicate.
facts_at : (p : Fact → Bool) (known : List Fact) → filter_map (slice_get (reverse known)) (places_of p known) ≡ filter p known
facts_at p [] = refl
facts_at p (f ∷ known) =
    let now : ℕ → Option Fact = slice_get (reverse (f ∷ known)) in
    let rest : filter_map now (places_of p known) ≡ filter p known =
    agree (slice_get (reverse known)) now (length known) (places_of p known) (earlier_stand f known) (places_below p known (length known) (omega arith))
    ∙ facts_at p known in
    elim (cases_Bool (p f)) [
      | inl e ↦
          ap (filter_map now) (cond-true _ _ _ e) ∙ ap (λ o. cons_option o (filter_map now (places_of p known))) (last_stands f known)
          ∙ ap (λ (fs : List Fact). f ∷ fs) rest ∙ sym (cond-true _ _ _ e)
      | inr e ↦ ap (filter_map now) (cond-false _ _ _ e) ∙ rest ∙ sym (cond-false _ _ _ e)
    ]

first_at : (p : Fact → Bool) (known : List Fact) → option_and_then (slice_get (reverse known)) (slice_get (places_of p known) 0) ≡ find p known
first_at p [] = refl
first_at p (f ∷ known) =
    let now : ℕ → Option Fact = slice_get (reverse (f ∷ known)) in
    elim (cases_Bool (p f)) [
      | inl e ↦ ap (λ ns. option_and_then now (slice_get ns 0)) (cond-true _ _ _ e) ∙ last_stands f known ∙ sym (cond-true _ _ _ e)
      | inr e ↦
          ap (λ ns. option_and_then now (slice_get ns 0)) (cond-false _ _ _ e)
          ∙ agree_first (slice_get (reverse known)) now (length known) (places_of p known) (earlier_stand f known) (places_below p known (length known) (omega arith))
          ∙ first_at p known ∙ sym (cond-false _ _ _ e)
    ]

-- True if an optional value, taken from a record, is present and satisfies the given predicate.
abbrev pub passes : {Y : Type 0} → (Y → Bool) → Option Y → Bool
passes q None = false
passes q (Some y) = q y

among_step : {Y : Type 0} (q : Y → Bool) (o : Option Y) (b : Bool) (ys zs : List Y) → b ≡ passes q o → ys ≡ filter q zs
    → cond b (cons_option o ys) ys ≡ filter q (cons_option o zs)
among_step q None b ys zs is so = both b ∙ so
  where
    both : (c : Bool) → cond c ys ys ≡ ys
    both true = refl
    both false = refl
among_step q (Some y) b ys zs is so =
    ap (λ (c : Bool). cond c (y ∷ ys) ys) is ∙ ap (λ xs. cond (q y) (y ∷ xs) xs) so

filter_map-cond : {X Y : Type 0} (h : X → Option Y) (b : Bool) (x : X) (xs : List X)
    → filter_map h (cond b (x ∷ xs) xs) ≡ cond b (cons_option (h x) (filter_map h xs)) (filter_map h xs)
filter_map-cond h true x xs = refl
filter_map-cond h false x xs = refl

-- Filtering records by a predicate and then selecting one kind has the same result as selecting the
-- kind and then filtering by an equivalent predicate.
of_kind : {X Y : Type 0} (h : X → Option Y) (p : X → Bool) (q : Y → Bool) → ((x : X) → p x ≡ passes q (h x)) → (xs : List X)
    → filter_map h (filter p xs) ≡ filter q (filter_map h xs)
of_kind h p q is [] = refl
of_kind h p q is (x ∷ xs) =
    filter_map-cond h (p x) x (filter p xs)
    ∙ among_step q (h x) (p x) (filter_map h (filter p xs)) (filter_map h xs) (is x) (of_kind h p q is xs)

first_step : {Y : Type 0} (q : Y → Bool) (o : Option Y) (b : Bool) (found : Option Y) (zs : List Y) → b ≡ passes q o → found ≡ find q zs
    → cond b o found ≡ find q (cons_option o zs)
first_step q None b found zs is so = ap (λ (c : Bool). cond c None found) is ∙ so
first_step q (Some y) b found zs is so = ap (λ (c : Bool). cond c (Some y) found) is ∙ ap (λ o. cond (q y) (Some y) o) so

and_then-cond : {X Y : Type 0} (h : X → Option Y) (b : Bool) (x : X) (o : Option X) → option_and_then h (cond b (Some x) o) ≡ cond b (h x) (option_and_then h o)
and_then-cond h true x o = refl
and_then-cond h false x o = refl

first_of_kind : {X Y : Type 0} (h : X → Option Y) (p : X → Bool) (q : Y → Bool) → ((x : X) → p x ≡ passes q (h x)) → (xs : List X)
    → option_and_then h (find p xs) ≡ find q (filter_map h xs)
first_of_kind h p q is [] = refl
first_of_kind h p q is (x ∷ xs) =
    and_then-cond h (p x) x (find p xs)
    ∙ first_step q (h x) (p x) (option_and_then h (find p xs)) (filter_map h xs) (is x) (first_of_kind h p q is xs)

and_then_twice : {X Y Z : Type 0} (g : X → Option Y) (h : Y → Option Z) (o : Option X)
    → option_and_then (λ x. option_and_then h (g x)) o ≡ option_and_then h (option_and_then g o)
and_then_twice g h None = refl
and_then_twice g h (Some x) = refl

cons_twice : {Y Z : Type 0} (h : Y → Option Z) (o : Option Y) (zs : List Z) (ys : List Y) → zs ≡ filter_map h ys
    → cons_option (option_and_then h o) zs ≡ filter_map h (cons_option o ys)
cons_twice h None zs ys is = is
cons_twice h (Some y) zs ys is = ap (cons_option (h y)) is

pub filter_map_twice : {X Y Z : Type 0} (g : X → Option Y) (h : Y → Option Z) (xs : List X)
    → filter_map (λ x. option_and_then h (g x)) xs ≡ filter_map h (filter_map g xs)
filter_map_twice g h [] = refl
filter_map_twice g h (x ∷ xs) = cons_twice h (g x) (filter_map (λ y. option_and_then h (g y)) xs) (filter_map g xs) (filter_map_twice g h xs)

-- Suppose that a predicate selects the indices of records of one kind. The records at these indices
-- are the records of this kind that satisfy the predicate, in the order in which they were added.
pub all_at : {Y : Type 0} (h : Fact → Option Y) (p : Fact → Bool) (q : Y → Bool) → ((f : Fact) → p f ≡ passes q (h f)) → (known : List Fact)
    → filter_map (λ i. option_and_then h (slice_get (reverse known) i)) (reverse (places_of p known)) ≡ reverse (filter q (filter_map h known))
all_at h p q is known =
    filter_map_twice (slice_get (reverse known)) h (reverse (places_of p known))
    ∙ ap (filter_map h) (filter_map_reverse (slice_get (reverse known)) (places_of p known) ∙ ap reverse (facts_at p known))
    ∙ filter_map_reverse h (filter p known) ∙ ap reverse (of_kind h p q is known)

-- Suppose that a predicate selects the indices of records of one kind. The record at the latest of
-- these indices is the latest record of this kind that satisfies the predicate.
pub latest_at : {Y : Type 0} (h : Fact → Option Y) (p : Fact → Bool) (q : Y → Bool) → ((f : Fact) → p f ≡ passes q (h f)) → (known : List Fact)
    → option_and_then (λ i. option_and_then h (slice_get (reverse known) i)) (slice_get (places_of p known) 0) ≡ find q (filter_map h known)
latest_at h p q is known =
    and_then_twice (slice_get (reverse known)) h (slice_get (places_of p known) 0)
    ∙ ap (option_and_then h) (first_at p known) ∙ first_of_kind h p q is known

count_step : {Y : Type 0} (q : Y → Bool) (o : Option Y) (b : Bool) (n : ℕ) (ns : List ℕ) (ys : List Y) → b ≡ passes q o → length ns ≡ length (filter q ys)
    → length (cond b (n ∷ ns) ns) ≡ length (filter q (cons_option o ys))
count_step q None b n ns ys is so = ap (λ (c : Bool). length (cond c (n ∷ ns) ns)) is ∙ so
count_step q (Some y) b n ns ys is so = ap (λ (c : Bool). length (cond c (n ∷ ns) ns)) is ∙ both (q y)
  where
    both : (c : Bool) → length (cond c (n ∷ ns) ns) ≡ length (cond c (y ∷ filter q ys) (filter q ys))
    both true = ap suc so
    both false = so

count_at : {Y : Type 0} (h : Fact → Option Y) (p : Fact → Bool) (q : Y → Bool) → ((f : Fact) → p f ≡ passes q (h f)) → (known : List Fact)
    → length (places_of p known) ≡ length (filter q (filter_map h known))
count_at h p q is [] = refl
count_at h p q is (f ∷ known) = count_step q (h f) (p f) (length known) (places_of p known) (filter_map h known) (is f) (count_at h p q is known)

-- Suppose that a predicate selects the indices of records of one kind. There are as many selected
-- indices as records of this kind that satisfy the predicate.
pub counted_at : {Y : Type 0} (h : Fact → Option Y) (p : Fact → Bool) (q : Y → Bool) → ((f : Fact) → p f ≡ passes q (h f)) → (known : List Fact)
    → length (reverse (places_of p known)) ≡ length (reverse (filter q (filter_map h known)))
counted_at h p q is known =
    length-reverse (places_of p known) ∙ count_at h p q is known ∙ sym (length-reverse (filter q (filter_map h known)))

-- The last element of a reversed list is the first element of the list.
pub last_in_turn : {X : Type 0} (xs ys : List X) → ys ≡ reverse xs → slice_get ys (length ys - 1) ≡ slice_get xs 0
last_in_turn [] ys is = ap (λ zs. slice_get zs (length zs - 1)) is
last_in_turn (x ∷ xs) ys is =
    let long : length ys ≡ length (x ∷ xs) = ap length is ∙ length-reverse (x ∷ xs) in
    ap (λ zs. slice_get zs (length ys - 1)) (is ∙ reverse_cons x xs)
    ∙ get_last (reverse xs) x (length ys - 1) (omega (arith, long, length-reverse xs))
